use Rattle.std.proofs.Common.{◌≡◌}
use Rattle.nsc_shelf.proofs.hints.find_hinted.Given as goal

-- a look changes no word
abbrev pub invariant-loop-index : goal.invariant-loop-index
invariant-loop-index g l = (g.W.Words.words l.words ≡ g.W.Words.words l.fn.words) × (g.W.Words.rest l.words ≡ g.W.Words.rest l.fn.words)
