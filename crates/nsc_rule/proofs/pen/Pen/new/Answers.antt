use Rattle.std.proofs.Common.{◌∙◌, List, ℕ, ap, slice_index, get_or-take}
use Rattle.nsc_rule.proofs.pen.Pen.new.Goals as goal

pub invariant_of-result : goal.invariant_of-result
invariant_of-result c = (c.requires.seat, c.requires.sound, c.requires.table, λ i low. ap (λ (ws : List ℕ). slice_index ws i) c.heads_of.ensures ∙ get_or-take 16 c.args.words.now i 0 low ∙ ap (λ (ws : List ℕ). slice_index ws i) c.requires.words)
