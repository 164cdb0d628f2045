-- Words that a call writes, and words that it leaves as they were.
use Rattle.std.specs.Prelude.{◌≡◌, ◌≢◌, ℕ, ◌+◌, ◌<◌, ◌≤◌, Bool, true, List, length, slice_index}
use Rattle.nsc_words.specs.declared.layout.Layout.{Layout}
use Rattle.nsc_words.specs.declared.node.Placed.{Placed}
use Rattle.nsc_words.specs.Laid.{end_of, slid}
use Rattle.nsc_words.specs.Layout.{arena_start, table_words}

-- these many words from a place on are those that their numbers from 0 on give, and the others are as before
pub record IsWritten (old new : List ℕ) (from count : ℕ) (word : ℕ → ℕ) : Type 0 where
  pub size : length new ≡ length old
  pub inside : (i : ℕ) → i < count → slice_index new (from + i) ≡ word i
  pub below : (i : ℕ) → i < from → slice_index new i ≡ slice_index old i
  pub above : (i : ℕ) → from + count ≤ i → slice_index new i ≡ slice_index old i

-- the words below a place are as before
pub record IsSameBelow (old new : List ℕ) (from : ℕ) : Type 0 where
  pub size : length new ≡ length old
  pub below : (i : ℕ) → i < from → slice_index new i ≡ slice_index old i

-- these many words from a place on may be set
abbrev pub MaySet : (ℕ → Bool) → ℕ → ℕ → Type 0
MaySet can_set from count = (i : ℕ) → from ≤ i → i < from + count → can_set i ≡ true

-- the words behind the nodes, from FIRST_FREE on, may be set
abbrev pub MaySetFree : Layout → List ℕ → (ℕ → Bool) → Type 0
MaySetFree map words can_set = (i : ℕ) → slice_index words 3 ≤ i → i < table_words map → can_set i ≡ true

-- the words that the calls on nodes set may be set: FIRST_FREE, the buckets, and those of the arena
pub record MaySetNodes (map : Layout) (can_set : ℕ → Bool) : Type 0 where
  pub first_free : can_set 3 ≡ true
  pub others : (i : ℕ) → 16 ≤ i → i < table_words map → can_set i ≡ true

-- the head words but for FIRST_FREE are as before
abbrev pub IsSameHead : List ℕ → List ℕ → Type 0
IsSameHead old new = (i : ℕ) → i < 16 → i ≢ 3 → slice_index new i ≡ slice_index old i

-- the usable nodes of these fit into a table
abbrev pub UsableNodesFit : Layout → List Placed → Type 0
UsableNodesFit layout nodes = end_of (arena_start layout) (slid (arena_start layout) nodes) ≤ table_words layout
