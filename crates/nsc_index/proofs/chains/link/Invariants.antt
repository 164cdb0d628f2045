use Rattle.std.proofs.Common.{◌≤◌, length}
use Rattle.nsc_index.specs.Chains.{AreHeads, AreNexts}
use Rattle.nsc_index.proofs.chains.link.Given as goal

-- the rows from a place on are linked
abbrev pub invariant-loop-at : goal.invariant-loop-at
invariant-loop-at l = record {
  inside : l.at ≤ length l.rows;
  heads : AreHeads (length l.heads) l.rows l.heads l.at;
  nexts : AreNexts (length l.heads) l.rows l.nexts l.at;
}

abbrev pub decreases-loop-at : goal.decreases-loop-at
decreases-loop-at l = l.at
