use Rattle.std.proofs.Common.{◌≡◌, ◌-◌, ◌≤◌, ◌++◌, slice_range}
use Rattle.nsc_base.specs.Text.{part, words_of}
use Rattle.nsc_nets.proofs.rows.words.Given as goal

-- those that were gathered, and those from this place on
abbrev pub invariant-loop-word : goal.invariant-loop-word
invariant-loop-word l = record {
  all : l.words ++ words_of (slice_range l.text l.from l.within.to) ≡ words_of (part l.text l.within);
  inside : l.from ≤ l.within.to;
}

abbrev pub decreases-loop-word : goal.decreases-loop-word
decreases-loop-word l = l.within.to - l.from
