-- Each entry takes words of its own.
use Rattle.std.proofs.Common.{◌≡◌, ℕ, ◌+◌, ◌≤◌, Bool, true, false, cond, List, [], ◌∷◌, ◌++◌, length, refl, ap, ◌∙◌, arith}
use Rattle.std.proofs.lemmas.List.{length-append}
use Rattle.nsc_words.specs.declared.node.Placed.{Placed}
use Rattle.nsc_words.specs.Laid.{InRow, end_of}
use Rattle.nsc_rule.specs.Entries.{entries_in, kept_in}

-- there are at most as many entries as words up to the end of their nodes
pub entries_few : (start : ℕ) (nodes : List Placed) → InRow start nodes → length (entries_in nodes) + start ≤ end_of start nodes
entries_few start [] row = omega arith
entries_few start (p ∷ older) row = by p.usable (entries_few start older row.1) where
  by : (b : Bool) → length (entries_in older) + start ≤ end_of start older → length (cond b (entries_in older ++ kept_in p ∷ []) (entries_in older)) + start ≤ end_of start (p ∷ older)
  by true rest = let more = length-append (entries_in older) (kept_in p ∷ []) in let place = row.0 in omega arith
  by false rest = let place = row.0 in omega arith
