-- Why bytes are no image of a database: the first check that fails.
use Rattle.std.specs.Prelude.{◌≡◌, ◌≢◌, ◌⊎◌, ℕ, ◌+◌, ◌-◌, ◌<◌, ◌≤◌, ◌^◌, Bool, true, false, ◌==◌, nat_lt, nat_le, if◌then◌else◌, List, [], ◌∷◌, length, take, drop, Option, Some, None}
use Rattle.std.specs.List.{flat_map}
use Rattle.sha2.specs.Sha256.{sha256}
use Rattle.nsc_model.specs.declared.kind.Db.{Db}
use Rattle.nsc_model.specs.declared.kind.Kind.{Kind}
use Rattle.nsc_model.specs.Entry.{key_limit, kept_limit}
use Rattle.nsc_model.specs.Kinds.{database_of, kind_numbered}
use Rattle.nsc_model.specs.Wire.{field_in}
use Rattle.nsc_image.specs.declared.fault.ImageFault.{ImageFault}
use Rattle.nsc_image.specs.declared.fault.ImageFault.TheVariants as fault
use Rattle.nsc_model.specs.Image.{Saved, db_number, is_above, is_image_version, last_number, magic, saved_bytes}
use Rattle.nsc_image.specs.Layout.{Stand}
use Rattle.nsc_image.specs.Reading.{wide_field_in}
use Rattle.nsc_image.specs.Versions.{fixed_size, timeout_at}

-- ---- the layout

-- the kind is one of the database
abbrev pub is_kind_of : Db → Option Kind → Bool
is_kind_of db None = false
is_kind_of db (Some kind) = db_number (database_of kind) == db_number db

-- the checks of an entry at the front of the bytes, in their order, in an image of a version: the place that each tells, from the
-- entry's first byte on, and whether it passes. The entry before it, if there is one, has the number `last`. An entry that is not
-- whole is told at its first byte.
unfoldable pub entry_checks : Db → ℕ → Option ℕ → List ℕ → List (ℕ × Bool)
entry_checks db version last bytes =
    (0, nat_le (fixed_size version) (length bytes)) ∷
    (0, is_above last (wide_field_in bytes 0)) ∷
    (8, is_kind_of db (kind_numbered (field_in bytes 8))) ∷
    (12, nat_le (field_in bytes 12) key_limit) ∷
    (16, nat_le (field_in bytes 16) kept_limit) ∷
    (20, nat_le (field_in bytes 20) 1) ∷
    (timeout_at version, nat_lt (wide_field_in bytes (timeout_at version)) (2 ^ 63)) ∷
    (0, nat_le (fixed_size version + field_in bytes 12 + field_in bytes 16) (length bytes)) ∷ []

-- the place that the first failing check tells
abbrev pub first_failing : List (ℕ × Bool) → Option ℕ
first_failing [] = None
first_failing (check ∷ checks) = if check.1 then first_failing checks else Some check.0

-- behind these entries, this place is told: a fault of the next of `count` entries, or the first byte behind the last one
abbrev pub BreaksBehind : Db → ℕ → ℕ → List Saved → List ℕ → ℕ → Type 0
BreaksBehind db version count entries rest at =
    ((length entries < count) × (first_failing (entry_checks db version (last_number None entries) rest) ≡ Some at))
    ⊎ ((length entries ≡ count) × (0 < length rest) × (at ≡ 0))

-- entries stand at the front of the bytes, and this place behind them is told
abbrev pub EntriesBreak : Db → ℕ → ℕ → List ℕ → ℕ → Type 0
EntriesBreak db version count bytes at =
    (entries : List Saved) × (rest : List ℕ) × (behind : ℕ) × Stand db version bytes entries rest
    × BreaksBehind db version count entries rest behind × (at ≡ length (flat_map (saved_bytes version) entries) + behind)

-- ---- images

-- the last 32 bytes are the digest, and those before them what it is over
abbrev pub front_of : List ℕ → List ℕ
front_of bytes = take (length bytes - 32) bytes

abbrev pub kept_digest : List ℕ → List ℕ
kept_digest bytes = drop (length bytes - 32) bytes

-- a check passes, and so does each one before it: size and magic, version, digest, database
abbrev pub IsMarked : List ℕ → Type 0
IsMarked bytes = (52 ≤ length bytes) × (take 8 bytes ≡ magic)

abbrev pub HasVersion : List ℕ → Type 0
HasVersion bytes = IsMarked bytes × (is_image_version (field_in bytes 8) ≡ true)

abbrev pub HasDigest : List ℕ → Type 0
HasDigest bytes = HasVersion bytes × (kept_digest bytes ≡ sha256 (front_of bytes))

abbrev pub HasDatabase : Db → List ℕ → Type 0
HasDatabase db bytes = HasDigest bytes × (field_in bytes 12 ≡ db_number db)

-- each check up to those of the entries passes; there are to be `count` entries of this version, in these bytes
pub record IsOpened (db : Db) (bytes : List ℕ) (version count : ℕ) (entries : List ℕ) : Type 0 where
  pub passes : HasDatabase db bytes
  pub version_is : version ≡ field_in bytes 8
  pub count_is : count ≡ field_in bytes 16
  pub entries_are : entries ≡ drop 20 (front_of bytes)

-- the bytes have this fault: its check fails, and each one before it passes
abbrev pub IsFault : Db → List ℕ → ImageFault → Type 0
IsFault db bytes fault.NotImage = (length bytes < 52) ⊎ (take 8 bytes ≢ magic)
IsFault db bytes (fault.ImageVersion version) = IsMarked bytes × (version ≡ field_in bytes 8) × (is_image_version version ≡ false)
IsFault db bytes (fault.Digest kept found) = HasVersion bytes × (kept ≡ kept_digest bytes) × (found ≡ sha256 (front_of bytes)) × (kept ≢ found)
IsFault db bytes (fault.Layout at) =
    (HasDigest bytes × (field_in bytes 12 ≢ db_number db) × (at ≡ 12))
    ⊎ (HasDatabase db bytes × (place : ℕ) × EntriesBreak db (field_in bytes 8) (field_in bytes 16) (drop 20 (front_of bytes)) place
    × (at ≡ 20 + place))
