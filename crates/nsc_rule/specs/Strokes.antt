-- What each step of the pen makes of its plan, and what it asks.
use Rattle.std.specs.Prelude.{◌≡◌, ℕ, ◌+◌, ◌<◌, ◌≤◌, Bool, true, false, ◌⊎◌, List, ◌∷◌, Option, Some, slice_index, slice_set}
use Rattle.atomic_table.specs.Seated.{TableId}
use Rattle.nsc_words.specs.declared.node.Placed.{Placed}
use Rattle.nsc_words.specs.Laid.{Among, Stands, bucket_in, end_of, words_in}
use Rattle.nsc_words.specs.Layout.{arena_start, table_words}
use Rattle.nsc_arena.specs.Changes.{changed_at, ended, with_reloads}
use Rattle.nsc_arena.specs.ReadBack.{nodes_in, placed_in}
use Rattle.nsc_model.specs.Content.{Content}
use Rattle.nsc_model.specs.History.{Allows, Legal}
use Rattle.nsc_model.specs.Kinds.{type_number}
use Rattle.nsc_model.specs.declared.record.Ending.{Ending}
use Rattle.nsc_model.specs.declared.record.Record.{Record}
use Rattle.nsc_model.specs.declared.record.Record.TheVariants as record_of
use Rattle.nsc_rule.specs.declared.view.Plan.{Plan}
use Rattle.nsc_rule.specs.declared.view.Stroke.{Stroke}
use Rattle.nsc_rule.specs.declared.view.Stroke.TheVariants as stroke
use Rattle.nsc_rule.specs.Entries.{entry_of, kind_of}
use Rattle.nsc_rule.specs.Plans.{IsEven, Shows, end_in}

-- ---- any step: the word at a place becomes this one, and the plan changes by the stroke

abbrev pub seen_after : Stroke → ℕ → Plan → List Record
seen_after stroke.Plain word p = p.seen
seen_after (stroke.Reloads place) word p = p.seen
seen_after stroke.Publish word p = record_of.Load (entry_of (placed_in p.words word)) ∷ p.seen
seen_after stroke.Counted word p = p.seen
seen_after (stroke.End place cause) word p = record_of.End (slice_index p.words place) cause ∷ p.seen
seen_after stroke.Even word p = p.seen
seen_after stroke.Invalid word p = record_of.Invalid word ∷ p.seen
seen_after stroke.Poll word p = record_of.Poll word ∷ p.seen
seen_after (stroke.Change content) word p = record_of.Change word content.value ∷ p.seen
seen_after (stroke.Retire newer) word p = p.seen

abbrev pub nodes_after : Stroke → ℕ → Plan → List Placed
nodes_after stroke.Plain word p = p.nodes
nodes_after (stroke.Reloads place) word p = changed_at place (with_reloads word) p.nodes
nodes_after stroke.Publish word p = placed_in p.words word ∷ p.nodes
nodes_after stroke.Counted word p = p.nodes
nodes_after (stroke.End place cause) word p = changed_at place ended p.nodes
nodes_after stroke.Even word p = nodes_in p.words p.layout
nodes_after stroke.Invalid word p = p.nodes
nodes_after stroke.Poll word p = p.nodes
nodes_after (stroke.Change content) word p = p.nodes
nodes_after (stroke.Retire newer) word p = p.nodes

-- an insertion is under way from the link of its node on until the node is counted
abbrev pub counted_after : Stroke → Bool → Bool
counted_after stroke.Plain counted = counted
counted_after (stroke.Reloads place) counted = counted
counted_after stroke.Publish counted = false
counted_after stroke.Counted counted = true
counted_after (stroke.End place cause) counted = counted
counted_after stroke.Even counted = counted
counted_after stroke.Invalid counted = counted
counted_after stroke.Poll counted = counted
counted_after (stroke.Change content) counted = counted
counted_after (stroke.Retire newer) counted = counted

-- which table goes on in place of this one, from then on
abbrev pub retired_after : Stroke → Option TableId → Option TableId
retired_after stroke.Plain retired = retired
retired_after (stroke.Reloads place) retired = retired
retired_after stroke.Publish retired = retired
retired_after stroke.Counted retired = retired
retired_after (stroke.End place cause) retired = retired
retired_after stroke.Even retired = retired
retired_after stroke.Invalid retired = retired
retired_after stroke.Poll retired = retired
retired_after (stroke.Change content) retired = retired
retired_after (stroke.Retire newer) retired = Some newer.value.table

abbrev pub after : Stroke → ℕ → ℕ → Plan → Plan
after s at word p = record { layout = p.layout; seen = seen_after s word p; words = slice_set p.words at word; nodes = nodes_after s word p; counted = counted_after s p.counted; retired = retired_after s p.retired }

-- ---- each step by its name

-- a word that counts for no entry
abbrev pub stored : ℕ → ℕ → Plan → Plan
stored at word p = after stroke.Plain at word p

-- the node at a place has this count of reloads
abbrev pub reloads_stored : ℕ → ℕ → Plan → Plan
reloads_stored place count p = after (stroke.Reloads place) (place + 5) count p

-- the node that was written at a place is the newest one, linked in its bucket
abbrev pub published : ℕ → ℕ → Plan → Plan
published bucket at p = after stroke.Publish bucket at p

-- LOADS counts the newest node
abbrev pub node_counted : ℕ → Plan → Plan
node_counted count p = after stroke.Counted 4 count p

-- the node at a place ended
abbrev pub cleared : ℕ → Ending → Plan → Plan
cleared place cause p = after (stroke.End place cause) (place + 6) 0 p

-- CYCLE goes on by one: a compaction is under way
abbrev pub begun : Plan → Plan
begun p = after stroke.Plain 0 (slice_index p.words 0 + 1) p

-- CYCLE goes on by one: a compaction is over, and the nodes are those that the words have now
abbrev pub finished : Plan → Plan
finished p = after stroke.Even 0 (slice_index p.words 0 + 1) p

-- CYCLE goes on by one for good: another table goes on in place of this one
abbrev pub left : TableId → Plan → Plan
left newer p = record p { words = slice_set p.words 0 (slice_index p.words 0 + 1); retired = Some newer }

-- the database was invalidated once more
abbrev pub invalidation_added : Plan → Plan
invalidation_added p = after stroke.Invalid 1 (slice_index p.words 1 + 1) p

-- the newest version was confirmed
abbrev pub poll_added : Plan → Plan
poll_added p = record p { seen = record_of.Poll (slice_index p.words 2) ∷ p.seen }

-- the files have this content now
abbrev pub changed : Content → Plan → Plan
changed content p = record p { seen = record_of.Change (slice_index p.words 2 + 1) content ∷ p.seen; words = slice_set p.words 2 (slice_index p.words 2 + 1) }

-- ---- what the steps ask

-- a place behind the nodes, where a word may be stored
pub record IsFree (p : Plan) (at : ℕ) : Type 0 where
  pub even : IsEven p
  pub behind : end_in p ≤ at
  pub inside : at < table_words p.layout

-- a node of the plan stands at a place
abbrev pub HasNode : Plan → ℕ → Type 0
HasNode p place = (q : Placed) × Among q p.nodes × (q.place ≡ place)

-- a usable node stands at a place, and the cause lets its entry end
abbrev pub MayEnd : Plan → ℕ → Ending → Type 0
MayEnd p place cause = (q : Placed) × Among q p.nodes × (q.place ≡ place) × (q.usable ≡ true) × Allows cause (entry_of q)

-- no insertion is under way, the words behind the nodes hold a usable node that may be inserted, and its NEXT leads where its bucket does
pub record IsReady (p : Plan) (link at : ℕ) : Type 0 where
  pub even : IsEven p
  pub counted : p.counted ≡ true
  pub place : at ≡ end_in p
  pub room : at + words_in (placed_in p.words at).node ≤ table_words p.layout
  pub stands : Stands p.words (placed_in p.words at)
  pub usable : (placed_in p.words at).usable ≡ true
  pub kind : type_number (kind_of (placed_in p.words at).node.kind) ≡ (placed_in p.words at).node.kind
  pub bucket : link ≡ bucket_in p.layout (placed_in p.words at)
  pub next : slice_index p.words (at + 7) ≡ slice_index p.words link
  pub legal : Legal (record_of.Load (entry_of (placed_in p.words at)) ∷ p.seen)

-- a word of a chain: a bucket's, or a node's NEXT
abbrev pub IsLink : Plan → ℕ → Type 0
IsLink p from = ((16 ≤ from) × (from < arena_start p.layout)) ⊎ ((q : Placed) × Among q p.nodes × (from ≡ q.place + 7))

-- a word of a chain leads to an ended node, and this is where that one leads
pub record MayUnlink (p : Plan) (from to : ℕ) : Type 0 where
  pub even : IsEven p
  pub link : IsLink p from
  pub gone : Placed
  pub among : Among gone p.nodes
  pub ended : gone.usable ≡ false
  pub leads : slice_index p.words from ≡ gone.place
  pub past : to ≡ slice_index p.words (gone.place + 7)

-- the words show the live entries again, by the nodes that they hold
pub record ShowsAgain (p : Plan) : Type 0 where
  pub shows : Shows p.layout p.words p.seen (nodes_in p.words p.layout)
  pub first_free : slice_index p.words 3 ≡ end_of (arena_start p.layout) (nodes_in p.words p.layout)
