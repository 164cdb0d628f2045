use Rattle.std.proofs.Common.{◌≡◌, ◌-◌, ◌≤◌, ◌++◌}
use Rattle.nsc_index.specs.Names.{words_at}
use Rattle.nsc_index.proofs.words.add_words.Given as goal

-- the names so far, and the words from this place on
abbrev pub invariant-loop-word : goal.invariant-loop-word
invariant-loop-word l = record {
  all : l.names.items ++ words_at l.text l.line (record { from = l.from; to = l.within.to }) ≡ l.initial.names.items ++ words_at l.text l.line l.within;
  inside : l.from ≤ l.within.to;
}

abbrev pub decreases-loop-word : goal.decreases-loop-word
decreases-loop-word l = l.within.to - l.from
