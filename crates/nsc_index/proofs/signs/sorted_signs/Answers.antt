use Rattle.nsc_index.proofs.SignRows.{sign_index}
use Rattle.nsc_index.proofs.signs.sorted_signs.Goals as goal

pub returns : goal.returns
returns c = sign_index c.args.text.now c.args.signs.items c.in_ok-index.index.items c.in_ok-index.ensures.same c.in_ok-index.ensures.index.ordered c.requires
