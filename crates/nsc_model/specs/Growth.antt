-- How large the tables of a database may become: the buckets and the words of the first one, doubled once or more, up to max-db-size
-- (nscd.conf(5)).
use Rattle.std.specs.Prelude.{◌≡◌, ℕ, ◌+◌, ◌*◌, ◌^◌, ◌≤◌, ◌⊎◌}
use Rattle.nsc_base.specs.Nodes.{most_words}
use Rattle.nsc_model.specs.declared.conf.DbConf.{DbConf}
use Rattle.nsc_model.specs.Machine.{room_of}

-- the words that entries may take once the first table's were doubled so often
abbrev pub arena_after : DbConf → ℕ → ℕ
arena_after settings doublings = room_of settings * 2 ^ doublings

-- the words of the whole table then: the sixteen at its head, its buckets, and those that entries may take
abbrev pub words_after : DbConf → ℕ → ℕ
words_after settings doublings = 16 + settings.size * 2 ^ doublings + arena_after settings doublings

-- it may become so large: the whole table takes at most max-db-size bytes, and entries at most 64 MiB
pub record MayGrow (settings : DbConf) (doublings : ℕ) : Type 0 where
  pub bytes : 8 * words_after settings doublings ≤ settings.max_size
  pub words : arena_after settings doublings ≤ most_words

-- a table of `words` words is the first one, or one that it may become, and entries may take `arena` of them
pub record IsArena (settings : DbConf) (words arena : ℕ) : Type 0 where
  pub doublings : ℕ
  pub grown : (doublings ≡ 0) ⊎ MayGrow settings doublings
  pub all : words ≡ words_after settings doublings
  pub is : arena ≡ arena_after settings doublings
