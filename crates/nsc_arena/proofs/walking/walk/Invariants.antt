use Rattle.std.proofs.Common.{◌≡◌, ◌≤◌, List}
use Rattle.nsc_words.specs.declared.node.Placed.{Placed}
use Rattle.nsc_words.specs.Laid.{Laid}
use Rattle.nsc_words.specs.Layout.{table_words}
use Rattle.nsc_arena.proofs.Walks.{Walking}
use Rattle.nsc_arena.proofs.walking.walk.Given as goal

abbrev pub invariant-chain : goal.invariant-chain
invariant-chain g l = (g.W.Words.words l.table ≡ g.W.Words.words l.fn.table) × (g.W.Words.rest l.table ≡ g.W.Words.rest l.fn.table) × (8 ≤ l.below) × (l.below ≤ table_words l.map) × ((nodes : List Placed) → Laid (g.W.Words.words l.fn.table) l.map nodes → Walking l.map l.kind l.key nodes l.at l.below)

abbrev pub decreases-chain : goal.decreases-chain
decreases-chain g l = l.below
