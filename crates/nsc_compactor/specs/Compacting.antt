-- What a compaction does.
use Rattle.std.specs.Prelude.{◌≡◌, ℕ, ◌+◌, ◌<◌}
use Rattle.nsc_model.specs.Machine.{all_words, last_count}
use Rattle.nsc_writer.specs.Writer.{Writer}

-- this number of words is free again: the live entries alone use words, and CYCLE, which can count that, goes on by two
abbrev pub Compacts : ℕ → Writer → Writer → Type 0
Compacts freed before after =
    (before.cache.cycle < last_count) × (freed + all_words before.cache.entries ≡ before.cache.used)
    × (after ≡ record before { cache = record before.cache { cycle = before.cache.cycle + 2; used = all_words before.cache.entries } })
