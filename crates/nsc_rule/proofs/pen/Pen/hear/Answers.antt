use Rattle.std.proofs.Common.{rules}
use Rattle.nsc_rule.specs.Seats.{plan_by}
use Rattle.nsc_rule.proofs.Moves.{tells, learns_as, told_writer}
use Rattle.nsc_rule.proofs.pen.Pen.hear.Goals as goal

pub join_seat-requires : goal.join_seat-requires
join_seat-requires c = (search rules, search rules, search rules, search rules, tells _ _ _ _ _)

pub load-requires : goal.load-requires
load-requires c = (search rules, search rules, learns_as _ _ _ _ _ (plan_by c.self.inside.seat.me.0) c.args.pass.now.seen c.args.pass.now.retired (told_writer c.self.inside.seat.me c.into_seat-copy.result.me c.join_seat.new.seat.me c.args.pass.now.seen c.args.pass.now.retired c.self.invariant.0 c.join_seat.ensures.2 (search rules) (search rules)))
