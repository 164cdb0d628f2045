-- What the steps of a search tell. Each speaks of the moment of its own load, and holds where CYCLE was then still what the search
-- began with, and even: the last load tells that of all steps at once.
use Rattle.std.specs.Prelude.{◌≡◌, ◌≢◌, ℕ, ◌+◌, ◌%◌, ◌<◌, ◌≤◌, ◌==◌, not, true, false, ◌⊎◌, if◌then◌else◌, All, List, length, Option, Some, None}
use Rattle.atomic_table.specs.Seated.{TableId}
use Rattle.nsc_base.specs.Nodes.{node_words, words_for}
use Rattle.nsc_words.specs.declared.layout.Layout.{Layout}
use Rattle.nsc_words.specs.Layout.{arena_start, table_words}
use Rattle.nsc_words.specs.Packing.{shape_word, size_word}
use Rattle.nsc_words.specs.Words.{word_of}
use Rattle.nsc_model.specs.Entry.{Entry, key_limit, kept_limit}
use Rattle.nsc_model.specs.History.{loads, IsFit, IsLive, IsPrefix, Legal}
use Rattle.nsc_model.specs.Kinds.{type_number}
use Rattle.nsc_model.specs.Machine.{last_count}
use Rattle.nsc_model.specs.declared.answer.Request.{Request}
use Rattle.nsc_model.specs.declared.record.Record.{Record}
use Rattle.nsc_rule.specs.declared.view.Search.{Search}
use Rattle.nsc_arena.specs.ReadBack.{placed_in}
use Rattle.nsc_rule.specs.declared.view.View.{View}
use Rattle.nsc_rule.specs.Entries.{entry_of}
use Rattle.nsc_rule.specs.Seats.{retired_by, reading, seen_by, searching_by}

-- CYCLE was at the latest step of the search what it was when it began, and even
abbrev pub IsSteady : Search → Type 0
IsSteady w = (w.known ≡ w.first) × (w.first % 2 ≡ 0)

-- a search begins, behind all words
abbrev pub begun_search : Layout → Request → List Record → ℕ → Search → Search
begun_search layout request seen cycle w = record { steps = w.steps + 1; searches = w.searches + 1; first = cycle; last = cycle; began = seen; request = request; known = cycle; place = table_words layout; on = None; gone = false }

-- the fixed words of the node of an entry: all but its RELOADS, STATE and NEXT, by their numbers in the node
pub record IsFixed (e : Entry) (index word : ℕ) : Type 0 where
  pub number : index ≡ 0 → word ≡ e.number
  pub shape : index ≡ 1 → word ≡ shape_word (type_number e.request.kind) (length e.request.key)
  pub size : index ≡ 2 → word ≡ size_word (length e.answer.bytes) e.answer.not_found
  pub version : index ≡ 3 → word ≡ e.version
  pub timeout : index ≡ 4 → word ≡ e.timeout
  pub key : (i : ℕ) → i < words_for (length e.request.key) → index ≡ 8 + i → word ≡ word_of e.request.key i
  pub reply : (i : ℕ) → i < words_for (length e.answer.bytes) → index ≡ 8 + words_for (length e.request.key) + i → word ≡ word_of e.answer.bytes i

-- the node of an entry stands at a place, within the arena, and its key and its reply are bytes
pub record IsWithin (layout : Layout) (place : ℕ) (e : Entry) : Type 0 where
  pub low : arena_start layout ≤ place
  pub high : place + node_words (length e.request.key) (length e.answer.bytes) ≤ table_words layout
  pub key : length e.request.key ≤ key_limit
  pub reply : length e.answer.bytes ≤ kept_limit
  pub key_bytes : All (λ b. b < 256) e.request.key
  pub reply_bytes : All (λ b. b < 256) e.answer.bytes

-- a search goes to the place that a word of a chain had
pub record Lands (layout : Layout) (old new : Search) (found : ℕ) : Type 0 where
  pub searching : new ≡ record old { steps = old.steps + 1; known = new.known; place = found; on = new.on; gone = false }
  pub known : old.known ≤ new.known
  pub on : found ≢ 0 → (e : Entry) × (new.on ≡ Some e)
  pub within : IsSteady new → (e : Entry) → new.on ≡ Some e → found ≢ 0 → IsWithin layout found e

-- the entry on which a search stands is of another request, or was found ended
abbrev pub MayPass : Search → Type 0
MayPass w = (e : Entry) × (w.on ≡ Some e) × (IsSteady w → (e.request ≢ w.request) ⊎ (w.gone ≡ true))

-- what a place leads to: the entry of the node there, or none at 0
abbrev pub entry_at : List ℕ → ℕ → Option Entry
entry_at words place = if place == 0 then None else Some (entry_of (placed_in words place))

-- each live entry of the request was inserted since the search began
abbrev pub NoneOlder : List Record → Search → Type 0
NoneOlder seen w = (e : Entry) → IsLive seen e → e.request ≡ w.request → loads w.began ≤ e.number

-- ---- what the loads tell: of the view before, the word, and the view after

-- CYCLE, where a search begins: odd for good at a table in whose place another one is known to go on
pub record BeginTells (layout : Layout) (request : Request) (v : View) (found : ℕ) (w : View) : Type 0 where
  pub view : w ≡ reading (seen_by w) (retired_by v) (begun_search layout request (seen_by w) found (searching_by v))
  pub legal : Legal (seen_by w)
  pub fit : All IsFit (seen_by w)
  pub before : IsPrefix (seen_by v) (seen_by w)
  pub known : (searching_by v).known ≤ found
  pub most : found ≤ last_count
  pub left : (newer : TableId) → retired_by v ≡ Some newer → found % 2 ≡ 1

-- a bucket's word
pub record BucketTells (layout : Layout) (v : View) (found : ℕ) (w : View) : Type 0 where
  pub view : w ≡ reading (seen_by v) (retired_by v) (searching_by w)
  pub lands : Lands layout (searching_by v) (searching_by w) found

-- a node's NEXT
pub record NextTells (layout : Layout) (v : View) (found : ℕ) (w : View) : Type 0 where
  pub view : w ≡ reading (seen_by v) (retired_by v) (searching_by w)
  pub lands : Lands layout (searching_by v) (searching_by w) found
  pub lower : IsSteady (searching_by w) → found < (searching_by v).place

-- any word
pub record FixedTells (at : ℕ) (v : View) (found : ℕ) (w : View) : Type 0 where
  pub view : w ≡ reading (seen_by v) (retired_by v) (record (searching_by v) { steps = (searching_by v).steps + 1; known = (searching_by w).known })
  pub known : (searching_by v).known ≤ (searching_by w).known
  pub fixed : IsSteady (searching_by w) → (e : Entry) (index : ℕ) → (searching_by v).on ≡ Some e → at ≡ (searching_by v).place + index → IsFixed e index found

-- a node's STATE
pub record StateTells (v : View) (found : ℕ) (w : View) : Type 0 where
  pub view : w ≡ reading (seen_by w) (retired_by v) (record (searching_by v) { steps = (searching_by v).steps + 1; known = (searching_by w).known; gone = not (found == 1) })
  pub legal : Legal (seen_by w)
  pub fit : All IsFit (seen_by w)
  pub before : IsPrefix (seen_by v) (seen_by w)
  pub known : (searching_by v).known ≤ (searching_by w).known
  pub live : IsSteady (searching_by w) → (e : Entry) → (searching_by v).on ≡ Some e → found ≡ 1 → IsLive (seen_by w) e

-- CYCLE, where a search ends
pub record LastTells (v : View) (found : ℕ) (w : View) : Type 0 where
  pub view : w ≡ reading (seen_by w) (retired_by v) (record (searching_by v) { steps = (searching_by v).steps + 1; known = found; last = found })
  pub legal : Legal (seen_by w)
  pub fit : All IsFit (seen_by w)
  pub before : IsPrefix (seen_by v) (seen_by w)
  pub first : (searching_by v).first ≤ (searching_by v).known
  pub known : (searching_by v).known ≤ found
  pub most : found ≤ last_count
  pub none_older : IsSteady (searching_by w) → (searching_by v).place ≡ 0 → NoneOlder (seen_by w) (searching_by v)
