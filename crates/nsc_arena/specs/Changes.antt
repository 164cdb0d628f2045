-- What the calls on nodes come to.
use Rattle.std.specs.Prelude.{◌≡◌, ℕ, ◌+◌, ◌<◌, ◌≤◌, ◌^◌, ◌==◌, true, false, if◌then◌else◌, List, ◌++◌, length, map, slice_index, Option, Some, None}
use Rattle.nsc_words.specs.declared.layout.Layout.{Layout}
use Rattle.nsc_words.specs.declared.node.Node.{Node}
use Rattle.nsc_words.specs.declared.node.Placed.{Placed}
use Rattle.nsc_words.specs.Laid.{Among, Laid, Stands, end_of, words_in}
use Rattle.nsc_words.specs.Layout.{arena_start, table_words}
use Rattle.nsc_arena.specs.Written.{IsSameBelow}
use Rattle.nsc_arena.specs.declared.placing.Fixed.{Fixed}
use Rattle.nsc_arena.specs.declared.reading.Head.{Head}

-- a node that is to be linked stands behind those of the list: it is usable, and its number is above theirs
pub record IsNext (words : List ℕ) (layout : Layout) (nodes : List Placed) (p : Placed) : Type 0 where
  pub laid : Laid words layout nodes
  pub place : p.place ≡ end_of (arena_start layout) nodes
  pub room : p.place + words_in p.node ≤ table_words layout
  pub usable : p.usable ≡ true
  pub stands : Stands words p
  pub newest : (q : Placed) → Among q nodes → q.node.number < p.node.number

-- a node of these parts
abbrev pub node_of : Fixed → List ℕ → List ℕ → Node
node_of f key reply = record { number = f.number; kind = f.kind; key = key; reply = reply; version = f.version; timeout = f.timeout; reloads = f.reloads; not_found = f.not_found }

abbrev pub usable_at : ℕ → Node → Placed
usable_at place n = record { place = place; node = n; usable = true }

-- the node was written behind the others, where it fits
abbrev pub IsPlaced : Layout → Node → List ℕ → List ℕ → Option ℕ → Type 0
IsPlaced layout n old new None = (table_words layout < slice_index old 3 + words_in n) × (new ≡ old)
IsPlaced layout n old new (Some at) = (at ≡ slice_index old 3) × (at + words_in n ≤ table_words layout) × Stands new (usable_at at n) × IsSameBelow old new at

-- the node at a place is another one
abbrev pub changed_at : ℕ → (Placed → Placed) → List Placed → List Placed
changed_at place change nodes = map (λ p. if p.place == place then change p else p) nodes

abbrev pub ended : Placed → Placed
ended p = record p { usable = false }

abbrev pub with_reloads : ℕ → Placed → Placed
with_reloads count p = record p { node = record p.node { reloads = count } }

-- what is read of a node but for its key and its reply
abbrev pub head_of : Placed → Head
head_of p = record { number = p.node.number; kind = p.node.kind; key_len = length p.node.key; reply_len = length p.node.reply; not_found = p.node.not_found; version = p.node.version; timeout = p.node.timeout; reloads = p.node.reloads }

-- a node stands at a place, within the words
pub record IsNodeAt (words : List ℕ) (at : ℕ) (p : Placed) : Type 0 where
  pub place : p.place ≡ at
  pub stands : Stands words p
  pub inside : at + words_in p.node ≤ length words
  pub size : length words < 2 ^ 63

-- a place before which there are no nodes but some of a number below this one
pub record IsMark (layout : Layout) (nodes : List Placed) (from number : ℕ) : Type 0 where
  pub newer : List Placed
  pub older : List Placed
  pub split : nodes ≡ newer ++ older
  pub place : from ≡ end_of (arena_start layout) older
  pub below : (p : Placed) → Among p older → p.node.number < number

-- the oldest usable node of at least this number stands at this place, or there is none
abbrev pub IsFirst : ℕ → List Placed → Option ℕ → Type 0
IsFirst number nodes None = (p : Placed) → Among p nodes → p.usable ≡ true → p.node.number < number
IsFirst number nodes (Some at) =
    (p : Placed) × Among p nodes × (p.place ≡ at) × (p.usable ≡ true) × (number ≤ p.node.number)
    × ((q : Placed) → Among q nodes → q.usable ≡ true → number ≤ q.node.number → p.node.number ≤ q.node.number)
