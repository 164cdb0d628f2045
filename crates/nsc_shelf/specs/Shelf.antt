-- The live entries of a database with their counts, the words in which they stand, and their slide.
use Rattle.std.specs.Prelude.{◌≡◌, ℕ, ◌-◌, ◌<◌, ◌≤◌, ◌+◌, ◌%◌, ◌==◌, nat_le, not, Bool, true, if◌then◌else◌, List, [], filter, find, length, Option, Some, None, slice_index}
use Rattle.std.specs.List.{list_any}
use Rattle.nsc_words.specs.declared.layout.Layout.{Layout}
use Rattle.nsc_words.specs.declared.node.Placed.{Placed}
use Rattle.nsc_words.specs.Laid.{Among, Laid, end_of}
use Rattle.nsc_words.specs.Layout.{IsLayout, arena_start}
use Rattle.nsc_arena.specs.Changes.{IsMark}
use Rattle.nsc_arena.specs.declared.reading.Head.{Head}
use Rattle.nsc_arena.specs.ReadBack.{nodes_in}
use Rattle.nsc_model.specs.Kinds.{is_request, type_number}
use Rattle.nsc_model.specs.Machine.{Kept, last_count}
use Rattle.nsc_rule.specs.declared.view.Plan.{Plan}
use Rattle.nsc_rule.specs.Entries.{entries_in, kind_of, request_in}
use Rattle.nsc_rule.specs.Plans.{IsEven}
use Rattle.nsc_shelf.specs.declared.entry.EntryAt.{EntryAt}
use Rattle.nsc_shelf.specs.declared.entry.Hit.{Hit}
use Rattle.nsc_shelf.specs.declared.finding.Mark.{Mark}
use Rattle.nsc_shelf.specs.Hints.{AreHints}
use Rattle.nsc_shelf.specs.Uses.{Uses, uses_at}

-- the entries, the words that they take, the counts of entries, of the beginnings and the ends of slides, and of insertions that found no
-- room, and those of the lookups of a kept reply, and of those that made one
pub record Shelf : Type 0 where
  pub entries : List Kept
  pub used : ℕ
  pub inserted : ℕ
  pub cycle : ℕ
  pub add_failed : ℕ
  pub hits : Uses
  pub misses : Uses

-- by the nodes, and by the words with the counts
abbrev pub shelf_in : List Placed → List ℕ → Layout → Shelf
shelf_in nodes words layout = record {
  entries = entries_in nodes;
  used = end_of (arena_start layout) nodes - arena_start layout;
  inserted = slice_index words 4;
  cycle = slice_index words 0;
  add_failed = slice_index words 9;
  hits = uses_at words 5;
  misses = uses_at words 7;
}

abbrev pub shelf_of : List ℕ → Layout → Shelf
shelf_of words layout = shelf_in (nodes_in words layout) words layout

-- each node is of a kind, its number was given before, and no two usable ones answer one request
pub record AreEntries (nodes : List Placed) (inserted : ℕ) : Type 0 where
  pub kinds : (p : Placed) → Among p nodes → type_number (kind_of p.node.kind) ≡ p.node.kind
  pub numbers : (p : Placed) → Among p nodes → p.node.number < inserted
  pub apart : (p q : Placed) → Among p nodes → Among q nodes → p.usable ≡ true → q.usable ≡ true → is_request (request_in p) (request_in q) ≡ true → p.node.number ≡ q.node.number

-- what the words of a shelf are, the count of its entries, and the mark from which a search by number goes on
pub record IsShelf (words : List ℕ) (map : Layout) (count : ℕ) (mark : Mark) : Type 0 where
  pub sizes : IsLayout map
  pub laid : Laid words map (nodes_in words map)
  pub entries : AreEntries (nodes_in words map) (slice_index words 4)
  pub counted : slice_index words 4 ≤ last_count
  pub live : count ≡ length (entries_in (nodes_in words map))
  pub marked : IsMark map (nodes_in words map) mark.place mark.number

-- what is known of a plan apart from its history: no insertion is under way, its words hold its nodes while no slide is either, and
-- these are entries, with their count, the mark from which a search by number goes on, and hints that are places of nodes
pub record IsHeld (plan : Plan) (layout : Layout) (count : ℕ) (mark : Mark) (hints : List ℕ) : Type 0 where
  pub laid_out : plan.layout ≡ layout
  pub settled : plan.counted ≡ true
  pub sizes : IsLayout layout
  pub laid : IsEven plan → Laid plan.words layout plan.nodes
  pub entries : AreEntries plan.nodes (slice_index plan.words 4)
  pub counted : slice_index plan.words 4 ≤ last_count
  pub live : count ≡ length (entries_in plan.nodes)
  pub marked : IsMark layout plan.nodes mark.place mark.number
  pub hinted : AreHints hints layout plan.nodes

-- ---- slides

-- the words of a slide that is under way
abbrev pub slide_of : List ℕ → Option (List ℕ)
slide_of words = if slice_index words 0 % 2 == 0 then None else Some words

-- the words of a slide; none, where none is under way
abbrev pub slide_words : Option (List ℕ) → List ℕ
slide_words None = []
slide_words (Some words) = words

-- the words hold nodes of these entries, each of a kind
pub record HoldEntries (words : List ℕ) (map : Layout) (entries : List Kept) (nodes : List Placed) : Type 0 where
  pub laid : Laid words map nodes
  pub kinds : (p : Placed) → Among p nodes → type_number (kind_of p.node.kind) ≡ p.node.kind
  pub live : entries_in nodes ≡ entries

-- ---- entries by number

-- an entry has this number; the entries that have another one
abbrev pub is_numbered : ℕ → Kept → Bool
is_numbered number k = k.entry.number == number

abbrev pub has_number : ℕ → List Kept → Bool
has_number number entries = list_any (is_numbered number) entries

abbrev pub others_than : ℕ → List Kept → List Kept
others_than number entries = filter (λ k. not (is_numbered number k)) entries

-- what a lookup is told of a live entry, if there is one, and the reply that it is given
abbrev pub GivesHit : Option Kept → Option Hit → List ℕ → Type 0
GivesHit None hit reply = hit ≡ None
GivesHit (Some k) hit reply = (hit ≡ Some (record { number = k.entry.number; version = k.entry.version; not_found = k.entry.answer.not_found })) × (reply ≡ k.entry.answer.bytes)

abbrev pub number_of : Option Kept → Option ℕ
number_of None = None
number_of (Some k) = Some k.entry.number

-- the oldest entry of at least this number
abbrev pub entry_from : ℕ → List Kept → Option Kept
entry_from number entries = find (λ k. nat_le number k.entry.number) entries

-- the entry of a node, by what was read of it
abbrev pub entry_at : Head → EntryAt
entry_at head = record {
  number = head.number;
  kind = kind_of head.kind;
  version = head.version;
  timeout = head.timeout;
  reloads = head.reloads;
  not_found = head.not_found;
  next = head.number + 1;
}

-- what is told of an entry, if there is one; the next one has a number behind its own
abbrev pub IsTold : Option Kept → Option EntryAt → Type 0
IsTold None said = said ≡ None
IsTold (Some k) said = said ≡ Some (record { number = k.entry.number; kind = k.entry.request.kind; version = k.entry.version; timeout = k.entry.timeout; reloads = k.reloads; not_found = k.entry.answer.not_found; next = k.entry.number + 1 })
