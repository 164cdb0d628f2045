use Rattle.std.proofs.Common.{◌≡◌, ◌-◌, ◌<◌, true, List}
use Rattle.nsc_words.specs.declared.node.Placed.{Placed}
use Rattle.nsc_words.specs.Laid.{Among, Laid}
use Rattle.nsc_arena.specs.Changes.{IsMark}
use Rattle.nsc_arena.proofs.Passed.{Passed}
use Rattle.nsc_arena.proofs.numbers.first_from.Given as goal

abbrev pub invariant-nodes : goal.invariant-nodes
invariant-nodes g l = (g.W.Words.words l.table ≡ g.W.Words.words l.fn.table) × (g.W.Words.rest l.table ≡ g.W.Words.rest l.fn.table) × ((nodes : List Placed) → Laid (g.W.Words.words l.fn.table) l.fn.map nodes → IsMark l.fn.map nodes l.from l.number → (done : List Placed) × Passed l.fn.map nodes done l.at × ((p : Placed) → Among p done → p.usable ≡ true → p.node.number < l.number))

abbrev pub decreases-nodes : goal.decreases-nodes
decreases-nodes g l = l.end - l.at
