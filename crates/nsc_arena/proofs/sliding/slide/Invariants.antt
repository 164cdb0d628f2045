use Rattle.std.proofs.Common.{◌≡◌, ◌-◌, List}
use Rattle.nsc_words.specs.declared.node.Placed.{Placed}
use Rattle.nsc_words.specs.Laid.{Laid}
use Rattle.nsc_arena.specs.Written.{IsSameHead}
use Rattle.nsc_arena.proofs.Slides.{Sliding}
use Rattle.nsc_arena.proofs.sliding.slide.Given as goal

abbrev pub invariant-nodes : goal.invariant-nodes
invariant-nodes g l = IsSameHead (g.W.Words.words l.fn.table) (g.W.Words.words l.table) × (g.W.Words.rest l.table ≡ g.W.Words.rest l.fn.table) × ((nodes : List Placed) → Laid (g.W.Words.words l.fn.table) l.map nodes → Sliding (g.W.Words.words l.fn.table) (g.W.Words.words l.table) l.map nodes l.from)

abbrev pub decreases-nodes : goal.decreases-nodes
decreases-nodes g l = l.end - l.from
