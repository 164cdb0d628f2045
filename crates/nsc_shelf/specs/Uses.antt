-- How many lookups there were.
use Rattle.std.specs.Prelude.{ℕ, ◌+◌, min, Bool, if◌then◌else◌, List, slice_index}
use Rattle.nsc_model.specs.Machine.{last_count}

-- of found and of not-found replies
pub record Uses : Type 0 where
  pub found : ℕ
  pub not_found : ℕ

-- those that the words at a place and behind it count
abbrev pub uses_at : List ℕ → ℕ → Uses
uses_at words at = record { found = slice_index words at; not_found = slice_index words (at + 1) }

-- one more, of a not-found or a found reply; a count stays at its end
abbrev pub counted : Bool → Uses → Uses
counted not_found uses = if not_found then record uses { not_found = min (uses.not_found + 1) last_count } else record uses { found = min (uses.found + 1) last_count }
