use Rattle.std.proofs.Common.{arith}
use Rattle.nsc_arena.proofs.Passed.{mark_at_start}
use Rattle.nsc_shelf.proofs.Numbers.{marked_above}
use Rattle.nsc_shelf.proofs.finding.Mark.start_for.Goals as goal

pub returns-then-self-number : goal.returns-then-self-number
returns-then-self-number c = λ nodes mark. marked_above c.args.map nodes c.args.self.place c.args.self.number c.args.number (omega arith) mark

pub returns-else-self-number : goal.returns-else-self-number
returns-else-self-number c = λ nodes mark. mark_at_start c.args.map nodes c.arena_start.result c.args.number c.arena_start.ensures
