-- How many lookups live entries answered, with more of them.
use Rattle.std.specs.Prelude.{ℕ, ◌+◌, min}
use Rattle.nsc_model.specs.Machine.{last_count}
use Rattle.nsc_shelf.specs.Uses.{Uses}

-- `found` more of found replies, and `not_found` more of not-found replies; a count stays at its end
abbrev pub raised : ℕ → ℕ → Uses → Uses
raised found not_found uses = record { found = min (uses.found + found) last_count; not_found = min (uses.not_found + not_found) last_count }
