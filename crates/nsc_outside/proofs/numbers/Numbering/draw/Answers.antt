use Rattle.std.proofs.Common.{rules}
use Rattle.nsc_outside.proofs.Draws.{draw_allowed}
use Rattle.nsc_outside.proofs.numbers.Numbering.draw.Goals as goal

pub fetch_add-made-requires : goal.fetch_add-made-requires
fetch_add-made-requires c = (search rules, search rules, draw_allowed _ _ _ _)
