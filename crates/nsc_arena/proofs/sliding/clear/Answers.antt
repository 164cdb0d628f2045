use Rattle.std.proofs.Common.{◌≡◌, ℕ, ◌+◌, ◌<◌, ◌≤◌, List, slice_index, ◌∙◌, arith}
use Rattle.nsc_arena.proofs.Cleared.{cleared}
use Rattle.nsc_arena.proofs.sliding.clear.Goals as goal

pub returns-clause-laid : goal.returns-clause-laid
returns-clause-laid g c =
    let before = c.loop-bucket.invariant in
    let words : List ℕ = g.W.Words.words c.loop-bucket.table in
    let all : (i : ℕ) → 16 ≤ i → i < 16 + c.args.map.buckets → slice_index words i ≡ 0 = λ i low high. before.3 i low (omega arith) in
    cleared words (g.W.Words.words c.set-2.new.self) c.args.map c.arena_start.result (before.0 ∙ c.requires.table) c.set-2.ensures.set c.arena_start.ensures all
