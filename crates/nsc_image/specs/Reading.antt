-- Entries read back from bytes that spell them, in an image of a version.
use Rattle.std.specs.Prelude.{ℕ, zero, suc, ◌+◌, ◌≤◌, Bool, nat_lt, List, [], ◌∷◌, length, take, drop, Option, Some, None}
use Rattle.byteorder.specs.Endian.{little_number}
use Rattle.nsc_model.specs.declared.kind.Kind.{Kind}
use Rattle.nsc_model.specs.declared.kind.Kind.TheVariants.{PwName}
use Rattle.nsc_model.specs.Entry.{key_limit, kept_limit}
use Rattle.nsc_model.specs.Kinds.{kind_numbered}
use Rattle.nsc_model.specs.Wire.{field_in}
use Rattle.nsc_model.specs.Image.{Saved}
use Rattle.nsc_image.specs.Versions.{fixed_size, reloads_in, timeout_at}

abbrev pub wide_field_in : List ℕ → ℕ → ℕ
wide_field_in bytes at = little_number 8 (drop at bytes)

-- the kind, if there is one, else any
abbrev pub kind_or_any : Option Kind → Kind
kind_or_any None = PwName
kind_or_any (Some kind) = kind

-- the entry of these parts
abbrev pub saved_with : ℕ → Kind → List ℕ → List ℕ → Bool → ℕ → ℕ → Saved
saved_with number kind key reply not_found reloads timeout = record {
  number = number;
  request = record { kind = kind; key = key };
  answer = record { bytes = reply; not_found = not_found };
  reloads = reloads;
  timeout = timeout;
}

-- how many bytes the entry at the front takes
unfoldable pub saved_size : ℕ → List ℕ → ℕ
saved_size version bytes = fixed_size version + field_in bytes 12 + field_in bytes 16

-- the key and the reply of the entry at the front
abbrev pub key_in : ℕ → List ℕ → List ℕ
key_in version bytes = take (field_in bytes 12) (drop (fixed_size version) bytes)

abbrev pub reply_in : ℕ → List ℕ → List ℕ
reply_in version bytes = take (field_in bytes 16) (drop (fixed_size version + field_in bytes 12) bytes)

-- the entry at the front
unfoldable pub saved_at : ℕ → List ℕ → Saved
saved_at version bytes =
    saved_with (wide_field_in bytes 0) (kind_or_any (kind_numbered (field_in bytes 8))) (key_in version bytes) (reply_in version bytes)
    (nat_lt 0 (field_in bytes 20)) (reloads_in version bytes) (wide_field_in bytes (timeout_at version))

-- a number of entries, one after the other
unfoldable pub saved_in : ℕ → ℕ → List ℕ → List Saved
saved_in version zero bytes = []
saved_in version (suc count) bytes = saved_at version bytes ∷ saved_in version count (drop (saved_size version bytes) bytes)

-- the entry at the front is whole, and its key and its reply are within their limits
pub record IsReadable (version : ℕ) (bytes : List ℕ) : Type 0 where
  pub long : fixed_size version ≤ length bytes
  pub key_fits : field_in bytes 12 ≤ key_limit
  pub reply_fits : field_in bytes 16 ≤ kept_limit
  pub whole : saved_size version bytes ≤ length bytes

-- a number of entries are readable, one after the other
unfoldable pub AreReadable : ℕ → ℕ → List ℕ → Type 0
AreReadable version zero bytes = Unit {0}
AreReadable version (suc count) bytes = IsReadable version bytes × AreReadable version count (drop (saved_size version bytes) bytes)
