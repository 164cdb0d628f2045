-- Nodes in the words of a table. A list of nodes begins with the newest one.
use Rattle.std.specs.Prelude.{◌≡◌, ℕ, ◌+◌, ◌<◌, ◌≤◌, Bool, true, ◌==◌, ◌&&◌, ◌⊎◌, if◌then◌else◌, All, List, [], ◌∷◌, length, find, Option, Some, None, slice_index}
use Rattle.std.specs.Str.{bytes_eq}
use Rattle.nsc_base.specs.Nodes.{node_words, words_for}
use Rattle.nsc_words.specs.declared.layout.Layout.{Layout}
use Rattle.nsc_words.specs.declared.node.Node.{Node}
use Rattle.nsc_words.specs.declared.node.Placed.{Placed}
use Rattle.nsc_words.specs.Layout.{arena_start, table_words, bucket_of}
use Rattle.nsc_words.specs.Packing.{shape_word, size_word}
use Rattle.nsc_words.specs.Words.{HoldsBytes}

-- a node is one of these
abbrev pub Among : Placed → List Placed → Type 0
Among p [] = ⊥
Among p (q ∷ nodes) = (p ≡ q) ⊎ Among p nodes

-- ---- one node

-- how many words it takes
abbrev pub words_in : Node → ℕ
words_in n = node_words (length n.key) (length n.reply)

-- its kind is a byte, and its key and its reply are bytes, at most 1,024 and 65,536 of them
pub record IsNode (n : Node) : Type 0 where
  pub kind : n.kind < 256
  pub key : length n.key ≤ 1024
  pub reply : length n.reply ≤ 65536
  pub key_bytes : All (λ b. b < 256) n.key
  pub reply_bytes : All (λ b. b < 256) n.reply

-- the words from a place on hold it: NUMBER, SHAPE, SIZE, VERSION, TIMEOUT, RELOADS, STATE, and after NEXT, of which nothing is
-- said here, its key and its reply
pub record Holds (words : List ℕ) (place : ℕ) (n : Node) (usable : Bool) : Type 0 where
  pub number : slice_index words (place + 0) ≡ n.number
  pub shape : slice_index words (place + 1) ≡ shape_word n.kind (length n.key)
  pub size : slice_index words (place + 2) ≡ size_word (length n.reply) n.not_found
  pub version : slice_index words (place + 3) ≡ n.version
  pub timeout : slice_index words (place + 4) ≡ n.timeout
  pub reloads : slice_index words (place + 5) ≡ n.reloads
  pub state : slice_index words (place + 6) ≡ (if usable then 1 else 0)
  pub key : HoldsBytes words (place + 8) n.key
  pub reply : HoldsBytes words (place + 8 + words_for (length n.key)) n.reply

pub record Stands (words : List ℕ) (p : Placed) : Type 0 where
  pub node : IsNode p.node
  pub holds : Holds words p.place p.node p.usable

-- ---- all nodes

-- the place after the newest one, where the first place is this
abbrev pub end_of : ℕ → List Placed → ℕ
end_of start [] = start
end_of start (p ∷ older) = p.place + words_in p.node

-- they stand one after the other
abbrev pub InRow : ℕ → List Placed → Type 0
InRow start [] = Unit {0}
InRow start (p ∷ older) = (p.place ≡ end_of start older) × InRow start older

-- a newer one has a higher number
abbrev pub Rising : List Placed → Type 0
Rising [] = Unit {0}
Rising (p ∷ older) = ((q : Placed) → Among q older → q.node.number < p.node.number) × Rising older

abbrev pub bucket_in : Layout → Placed → ℕ
bucket_in layout p = bucket_of layout p.node.kind p.node.key

-- what a bucket's word, or a node's NEXT, leads to, of the nodes of the bucket below a place: 0, or the place of one of them; and
-- every usable one of them is at that place or below
pub record Leads (layout : Layout) (nodes : List Placed) (bucket below to : ℕ) : Type 0 where
  pub known : (to ≡ 0) ⊎ ((p : Placed) × Among p nodes × (p.place ≡ to) × (to < below) × (bucket_in layout p ≡ bucket))
  pub none_between : (p : Placed) → Among p nodes → p.usable ≡ true → bucket_in layout p ≡ bucket → p.place < below → p.place ≤ to

-- the words hold these nodes, and nothing else that counts: FIRST_FREE is the place after the newest one, every node stands in its
-- words, and by the buckets and by NEXT each usable node is found
pub record Laid (words : List ℕ) (layout : Layout) (nodes : List Placed) : Type 0 where
  pub table : length words ≡ table_words layout
  pub first_free : slice_index words 3 ≡ end_of (arena_start layout) nodes
  pub room : end_of (arena_start layout) nodes ≤ table_words layout
  pub row : InRow (arena_start layout) nodes
  pub rising : Rising nodes
  pub stands : (p : Placed) → Among p nodes → Stands words p
  pub buckets : (i : ℕ) → i < layout.buckets → Leads layout nodes (16 + i) (end_of (arena_start layout) nodes) (slice_index words (16 + i))
  pub nexts : (p : Placed) → Among p nodes → Leads layout nodes (bucket_in layout p) p.place (slice_index words (p.place + 7))

-- ---- what is made of the nodes

-- a usable node answers a request of this kind and key
abbrev pub answers : ℕ → List ℕ → Placed → Bool
answers kind key p = p.usable && (p.node.kind == kind && bytes_eq p.node.key key)

-- the newest one that does
abbrev pub newest_for : ℕ → List ℕ → List Placed → Option Placed
newest_for kind key nodes = find (answers kind key) nodes

abbrev pub place_of : Option Placed → Option ℕ
place_of None = None
place_of (Some p) = Some p.place

-- the usable nodes alone, each moved down to the end of those before it
abbrev pub slid : ℕ → List Placed → List Placed
slid start [] = []
slid start (p ∷ older) = if p.usable then record p { place = end_of start (slid start older) } ∷ slid start older else slid start older
