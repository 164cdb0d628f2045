use Rattle.std.proofs.Common.{rules}
use Rattle.nsc_rule.specs.Seats.{retired_by, seen_by, searching_by}
use Rattle.nsc_rule.proofs.Moves.{absorbed_reader, absorbs, meets_as, with_searches}
use Rattle.nsc_rule.proofs.pass.Pass.meet.Goals as goal

pub join_seat-requires : goal.join_seat-requires
join_seat-requires c = (search rules, search rules, search rules, search rules, absorbs _ _ _ _ _)

pub load-requires : goal.load-requires
load-requires c =
    let me = c.self.inside.seat.me.0 in
    let other = c.args.other in (
      search rules,
      search rules,
      meets_as _ _ _ _ _ (seen_by me) other.seen other.retired (retired_by me) (with_searches other.searching.searches (searching_by me)) (absorbed_reader c.self.inside.seat.me c.into_seat-other.result.me c.join_seat.new.seat.me other.seen other.retired other.searching.searches c.self.invariant.0 c.join_seat.ensures.2 (search rules) (search rules) (search rules)),
    )
