use Rattle.std.proofs.Common.{◌≡◌, ◌≤◌, ◌-◌}
use Rattle.std.specs.List.{list_any}
use Rattle.nsc_base.specs.Found.{same_by}
use Rattle.nsc_base.specs.Text.{part, words_of}
use Rattle.nsc_base.proofs.Wanted.{wanted_from}
use Rattle.nsc_base.proofs.words.has_word.Given as goal

abbrev pub invariant-loop-word : goal.invariant-loop-word
invariant-loop-word l = record {
  before : l.from ≤ l.within.to;
  left : wanted_from l.case l.wanted l.text l.from l.within.to ≡ list_any (λ n. same_by l.case n l.wanted) (words_of (part l.text l.within));
}

abbrev pub decreases-loop-word : goal.decreases-loop-word
decreases-loop-word l = l.within.to - l.from
