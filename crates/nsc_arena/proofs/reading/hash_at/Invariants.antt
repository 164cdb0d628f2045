use Rattle.std.proofs.Common.{◌≡◌, ◌*◌, ◌∷◌, take}
use Rattle.nsc_words.specs.declared.node.Placed.{Placed}
use Rattle.nsc_words.specs.Hash.{hash_from}
use Rattle.nsc_arena.specs.Changes.{IsNodeAt}
use Rattle.nsc_arena.proofs.reading.hash_at.Given as goal

abbrev pub invariant-loop-index : goal.invariant-loop-index
invariant-loop-index g l = (g.W.Words.words l.table ≡ g.W.Words.words l.fn.table) × (g.W.Words.rest l.table ≡ g.W.Words.rest l.fn.table) × ((p : Placed) → IsNodeAt (g.W.Words.words l.fn.table) l.at p → l.hash ≡ hash_from 5381 (p.node.kind ∷ take (8 * l.index) p.node.key))
