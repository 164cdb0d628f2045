use Rattle.std.proofs.Common.{◌≡◌, ℕ, ◌<◌, ◌≤◌, length, slice_index}
use Rattle.nsc_words.specs.Layout.{arena_start}
use Rattle.nsc_arena.specs.Written.{IsSameHead}
use Rattle.nsc_arena.proofs.sliding.clear.Given as goal

abbrev pub invariant-loop-bucket : goal.invariant-loop-bucket
invariant-loop-bucket g l = (length (g.W.Words.words l.table) ≡ length (g.W.Words.words l.initial.table)) × (g.W.Words.rest l.table ≡ g.W.Words.rest l.initial.table) × IsSameHead (g.W.Words.words l.initial.table) (g.W.Words.words l.table) × ((i : ℕ) → 16 ≤ i → i < l.bucket → slice_index (g.W.Words.words l.table) i ≡ 0) × ((i : ℕ) → arena_start l.map ≤ i → slice_index (g.W.Words.words l.table) i ≡ slice_index (g.W.Words.words l.initial.table) i)
