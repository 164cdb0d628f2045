-- How much of a cache's room an entry takes, in words of eight bytes.
use Rattle.std.specs.Prelude.{ℕ, ◌+◌, ◌/◌}

-- how many words hold `bytes` bytes
abbrev pub words_for : ℕ → ℕ
words_for bytes = (bytes + 7) / 8

-- an entry takes eight words, and those of its key, of `key` bytes, and of its reply, of `reply` bytes
abbrev pub node_words : ℕ → ℕ → ℕ
node_words key reply = 8 + words_for key + words_for reply

-- the most words that entries may take: 64 MiB of them
abbrev pub most_words : ℕ
most_words = 8388608
