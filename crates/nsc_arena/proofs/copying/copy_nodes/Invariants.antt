use Rattle.std.proofs.Common.{◌≡◌, ◌-◌, List}
use Rattle.nsc_words.specs.declared.node.Placed.{Placed}
use Rattle.nsc_words.specs.Laid.{Laid}
use Rattle.nsc_arena.specs.Written.{UsableNodesFit, IsSameHead}
use Rattle.nsc_arena.proofs.Copies.{Copying}
use Rattle.nsc_arena.proofs.copying.copy_nodes.Given as goal

abbrev pub invariant-nodes : goal.invariant-nodes
invariant-nodes g l = IsSameHead (g.W.Words.words l.fn.table) (g.W.Words.words l.table) × (g.W.Words.rest l.table ≡ g.W.Words.rest l.fn.table) × (g.V.Words.words l.from ≡ g.V.Words.words l.fn.from) × (g.V.Words.rest l.from ≡ g.V.Words.rest l.fn.from)
    × ((nodes : List Placed) → Laid (g.V.Words.words l.fn.from) l.fn.from_map nodes → UsableNodesFit l.map nodes → Copying (g.W.Words.words l.table) l.fn.from_map l.map nodes l.at)

abbrev pub decreases-nodes : goal.decreases-nodes
decreases-nodes g l = l.end - l.at
