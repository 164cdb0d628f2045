-- Places of nodes that are kept beside the words of a table.
use Rattle.std.specs.Prelude.{◌≡◌, ℕ, ◌+◌, ◌%◌, ◌≢◌, ◌≤◌, true, List, length, slice_index}
use Rattle.nsc_words.specs.declared.layout.Layout.{Layout}
use Rattle.nsc_words.specs.declared.node.Placed.{Placed}
use Rattle.nsc_words.specs.Laid.{Among, answers}
use Rattle.nsc_words.specs.Layout.{arena_start}

-- a node stands at this place, usable or not
abbrev pub HasPlace : List Placed → ℕ → Type 0
HasPlace nodes place = (p : Placed) × Among p nodes × (p.place ≡ place)

-- the place that a hint tells: its lower twenty-three bits count from the arena's first word on
abbrev pub told_place : Layout → ℕ → ℕ
told_place layout hint = arena_start layout + hint % 8388608

-- there are four hints at least, and each is 0, or tells the place of a node
pub record AreHints (hints : List ℕ) (layout : Layout) (nodes : List Placed) : Type 0 where
  pub some : 4 ≤ length hints
  pub places : (i : ℕ) → slice_index hints i ≢ 0 → HasPlace nodes (told_place layout (slice_index hints i))

-- all usable nodes that answer a request are one
abbrev pub IsAlone : ℕ → List ℕ → List Placed → Type 0
IsAlone kind key nodes = (p q : Placed) → Among p nodes → Among q nodes → answers kind key p ≡ true → answers kind key q ≡ true → p ≡ q
