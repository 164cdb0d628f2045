-- What the pen knows of a table, and what holds of it between any two steps.
use Rattle.std.specs.Prelude.{◌≡◌, ℕ, ◌+◌, ◌-◌, ◌%◌, ◌^◌, ◌<◌, ◌≤◌, true, false, Some, None, ◌⊎◌, All, List, [], ◌∷◌, ◌++◌, length, replicate, slice_index, slice_set}
use Rattle.atomic_table.specs.Seated.{TableId}
use Rattle.nsc_words.specs.declared.layout.Layout.{Layout}
use Rattle.nsc_words.specs.declared.node.Placed.{Placed}
use Rattle.nsc_words.specs.Laid.{Among, Laid, end_of}
use Rattle.nsc_words.specs.Layout.{IsLayout, arena_start, table_words}
use Rattle.nsc_model.specs.Content.{Content}
use Rattle.nsc_model.specs.Entry.{Entry}
use Rattle.nsc_model.specs.History.{changes, invalidations, loads, IsFit, IsLive, IsPrefix, Legal}
use Rattle.nsc_model.specs.Kinds.{type_number}
use Rattle.nsc_model.specs.Machine.{last_count}
use Rattle.nsc_model.specs.declared.record.Record.{Record}
use Rattle.nsc_model.specs.declared.record.Record.TheVariants as record_of
use Rattle.nsc_rule.specs.declared.view.Plan.{Plan}
use Rattle.nsc_rule.specs.Entries.{entry_of, kind_of}

-- how often a compaction began or ended: odd while one is under way
abbrev pub cycle_of : Plan → ℕ
cycle_of p = slice_index p.words 0

-- no compaction is under way
abbrev pub IsEven : Plan → Type 0
IsEven p = cycle_of p % 2 ≡ 0

abbrev pub IsOdd : Plan → Type 0
IsOdd p = cycle_of p % 2 ≡ 1

-- the place behind the newest node
abbrev pub end_in : Plan → ℕ
end_in p = end_of (arena_start p.layout) p.nodes

-- the words with FIRST_FREE put right: an insertion sets it after it has linked its node
abbrev pub filled : Layout → List ℕ → List Placed → List ℕ
filled layout words nodes = slice_set words 3 (end_of (arena_start layout) nodes)

-- the usable nodes are the live entries, and each node has a number that was given and a kind of lookup
pub record Sits (history : List Record) (nodes : List Placed) : Type 0 where
  pub live : (q : Placed) → Among q nodes → q.usable ≡ true → IsLive history (entry_of q)
  pub found : (e : Entry) → IsLive history e → (q : Placed) × Among q nodes × (q.usable ≡ true) × (entry_of q ≡ e)
  pub numbers : (q : Placed) → Among q nodes → q.node.number < loads history
  pub kinds : (q : Placed) → Among q nodes → type_number (kind_of q.node.kind) ≡ q.node.kind

-- the words show the history's live entries, by these nodes
pub record Shows (layout : Layout) (words : List ℕ) (history : List Record) (nodes : List Placed) : Type 0 where
  pub laid : Laid (filled layout words nodes) layout nodes
  pub sits : Sits history nodes

-- what holds of a plan between any two steps. Nothing is said of its nodes while a compaction is under way, and nothing of FIRST_FREE
-- and LOADS while an insertion is. The head words behind the counts are 0. Once another table goes on, CYCLE is odd
pub record Sound (p : Plan) : Type 0 where
  pub sizes : IsLayout p.layout
  pub legal : Legal p.seen
  pub fit : All IsFit p.seen
  pub wide : length p.words ≡ table_words p.layout
  pub cycle : cycle_of p ≤ 2 ^ 62
  pub epoch : slice_index p.words 1 ≡ invalidations p.seen
  pub source : slice_index p.words 2 + 1 ≡ changes p.seen
  pub last_epoch : slice_index p.words 1 ≤ last_count
  pub last_version : slice_index p.words 2 ≤ last_count
  pub zeros : (i : ℕ) → 10 ≤ i → i < 16 → slice_index p.words i ≡ 0
  pub next_number : p.counted ≡ true → slice_index p.words 4 ≡ loads p.seen
  pub first_free : p.counted ≡ true → IsEven p → slice_index p.words 3 ≡ end_in p
  pub shows : IsEven p → Shows p.layout p.words p.seen p.nodes
  pub left : (newer : TableId) → p.retired ≡ Some newer → IsOdd p

-- ---- a plan goes on

-- a node stays where it is with its entry, and an ended one stays ended; a usable one was so before, or has at least this number
pub record Grows (number : ℕ) (old new : List Placed) : Type 0 where
  pub stays : (q : Placed) → Among q old → (r : Placed) × Among r new × (r.place ≡ q.place) × (entry_of r ≡ entry_of q) × (q.usable ≡ false → r.usable ≡ false)
  pub fresh : (r : Placed) → Among r new → r.usable ≡ true → (number ≤ r.node.number) ⊎ ((q : Placed) × Among q old × (q.usable ≡ true) × (q.place ≡ r.place) × (entry_of q ≡ entry_of r))

-- the history grows, and CYCLE does not fall; where it stays and is even, the nodes grow
pub record Later (old new : Plan) : Type 0 where
  pub active : old.retired ≡ None
  pub layout : new.layout ≡ old.layout
  pub grown : IsPrefix old.seen new.seen
  pub forward : cycle_of old ≤ cycle_of new
  pub same : cycle_of old ≡ cycle_of new → IsEven old → Grows (loads old.seen) old.nodes new.nodes

-- ---- the first plan

-- words with no node
abbrev pub no_nodes : Layout → List ℕ
no_nodes layout = slice_set (replicate (table_words layout) 0) 3 (arena_start layout)

-- the history is this content as version 0
abbrev pub first_plan : Layout → Content → Plan
first_plan layout content = record { layout = layout; seen = record_of.Change 0 content ∷ []; words = no_nodes layout; nodes = []; counted = true; retired = None }

-- ---- the plan of a table that goes on in place of another one

-- CYCLE goes on by one, and so is odd, and all that is counted goes on. There is no node, so FIRST_FREE is 0
abbrev pub heads_after : List ℕ → List ℕ
heads_after words =
    (slice_index words 0 + 1)
    ∷ slice_index words 1
    ∷ slice_index words 2
    ∷ 0
    ∷ slice_index words 4
    ∷ slice_index words 5
    ∷ slice_index words 6
    ∷ slice_index words 7
    ∷ slice_index words 8
    ∷ slice_index words 9
    ∷ []

-- all other words are 0
abbrev pub words_after : Layout → List ℕ → List ℕ
words_after layout words = heads_after words ++ replicate (table_words layout - 10) 0

-- the history goes on
abbrev pub succeeding : Layout → Plan → Plan
succeeding layout p = record { layout = layout; seen = p.seen; words = words_after layout p.words; nodes = []; counted = p.counted; retired = None }
