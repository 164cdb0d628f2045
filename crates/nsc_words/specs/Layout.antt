-- Where the parts of a table stand, each place a word's number in the whole table.
use Rattle.std.specs.Prelude.{ℕ, ◌+◌, ◌%◌, ◌≤◌, ◌^◌, List}
use Rattle.nsc_base.specs.Nodes.{most_words}
use Rattle.nsc_words.specs.declared.layout.Layout.{Layout}
use Rattle.nsc_words.specs.Hash.{hash_of}

-- the sizes that a table may have
pub record IsLayout (layout : Layout) : Type 0 where
  pub some_bucket : 1 ≤ layout.buckets
  pub buckets : layout.buckets ≤ 2 ^ 29
  pub some_room : 128 ≤ layout.arena
  pub room : layout.arena ≤ most_words

-- sixteen head words, then the buckets, and then the words that entries take
abbrev pub arena_start : Layout → ℕ
arena_start layout = 16 + layout.buckets

abbrev pub table_words : Layout → ℕ
table_words layout = 16 + layout.buckets + layout.arena

-- the bucket of a hash
abbrev pub bucket_at : Layout → ℕ → ℕ
bucket_at layout hash = 16 + hash % layout.buckets

-- the bucket of a request
abbrev pub bucket_of : Layout → ℕ → List ℕ → ℕ
bucket_of layout kind key = bucket_at layout (hash_of kind key)
