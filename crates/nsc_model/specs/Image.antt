-- The image of a database, version 2 or 3: its entries as bytes, in the order of their numbers, between a head and a digest. Numbers
-- are little-endian; a field has four bytes, a wide field eight.
use Rattle.std.specs.Prelude.{◌≡◌, ℕ, ◌<◌, ◌≤◌, ◌^◌, ◌==◌, ◌||◌, min, Bool, true, IsTrue, nat_lt, if◌then◌else◌, List, [], ◌∷◌, ◌++◌, length, All, Option, Some, None, codes}
use Rattle.std.specs.List.{flat_map}
use Rattle.byteorder.specs.Endian.{little_bytes}
use Rattle.sha2.specs.Sha256.{sha256}
use Rattle.nsc_model.specs.declared.kind.Db.{Db}
use Rattle.nsc_model.specs.declared.kind.Db.TheVariants as db
use Rattle.nsc_model.specs.declared.answer.Request.{Request}
use Rattle.nsc_model.specs.Answer.{Answer}
use Rattle.nsc_model.specs.Entry.{key_limit, kept_limit}
use Rattle.nsc_model.specs.Kinds.{database_of, type_number}
use Rattle.nsc_model.specs.Wire.{field}
use Rattle.nsc_model.specs.Machine.{Kept}

-- what an image keeps of an entry
pub record Saved : Type 0 where
  pub number : ℕ
  pub request : Request
  pub answer : Answer
  pub reloads : ℕ
  pub timeout : ℕ

-- a saved count of reloads has four bytes: 4,294,967,295 means any greater one too
abbrev pub saved_count : ℕ → ℕ
saved_count reloads = min reloads 4294967295

abbrev pub saved_of : Kept → Saved
saved_of k = record { number = k.entry.number; request = k.entry.request; answer = k.entry.answer; reloads = saved_count k.reloads; timeout = k.entry.timeout }

-- ---- the bytes

abbrev pub wide_field : ℕ → List ℕ
wide_field n = little_bytes 8 n

abbrev pub magic : List ℕ
magic = codes "NSCIMAGE"

-- the version that is written
abbrev pub image_version : ℕ
image_version = 3

-- the versions that are read
abbrev pub is_image_version : ℕ → Bool
is_image_version version = version == 2 || version == 3

-- the field of a count of reloads, which version 2 does not have
abbrev pub count_field : ℕ → ℕ → List ℕ
count_field version reloads = if version == 3 then field reloads else []

-- the counts of reloads that a version can spell
abbrev pub is_count_of : ℕ → ℕ → Bool
is_count_of version reloads = if version == 3 then nat_lt reloads 4294967296 else reloads == 0

abbrev pub db_number : Db → ℕ
db_number db.Passwd = 0
db_number db.Group = 1
db_number db.Hosts = 2
db_number db.Services = 3

-- 1 for a not-found reply
abbrev pub mark_of : Bool → ℕ
mark_of not_found = if not_found then 1 else 0

-- number, kind, key length, reply length, mark, in version 3 the count of reloads, and timeout; then the key and the reply. Before the key
-- stand 32 bytes in version 2, and 36 in version 3.
abbrev pub saved_bytes : ℕ → Saved → List ℕ
saved_bytes version s =
    wide_field s.number ++ field (type_number s.request.kind) ++ field (length s.request.key) ++ field (length s.answer.bytes)
    ++ field (mark_of s.answer.not_found) ++ count_field version s.reloads ++ wide_field s.timeout ++ s.request.key ++ s.answer.bytes

-- magic, version, database and count, 20 bytes
abbrev pub image_head : Db → ℕ → ℕ → List ℕ
image_head db version count = magic ++ field version ++ field (db_number db) ++ field count

-- all that the digest is over
abbrev pub digested : Db → ℕ → List Saved → List ℕ
digested db version entries = image_head db version (length entries) ++ flat_map (saved_bytes version) entries

-- ---- images

-- an entry that an image of the database may have in this version
pub record IsSaved (db : Db) (version : ℕ) (s : Saved) : Type 0 where
  pub number_fits : s.number < 2 ^ 64
  pub of_database : database_of s.request.kind ≡ db
  pub key_fits : length s.request.key ≤ key_limit
  pub reply_fits : length s.answer.bytes ≤ kept_limit
  pub reloads_fit : IsTrue (is_count_of version s.reloads)
  pub timeout_fits : s.timeout < 2 ^ 63

-- the number is above the last one, if there is one
abbrev pub is_above : Option ℕ → ℕ → Bool
is_above None number = true
is_above (Some last) number = nat_lt last number

-- the numbers of the entries rise, from above this one on
abbrev pub Rise : Option ℕ → List Saved → Type 0
Rise last [] = Unit {0}
Rise last (s ∷ entries) = IsTrue (is_above last s.number) × Rise (Some s.number) entries

-- the number of the last entry
abbrev pub last_number : Option ℕ → List Saved → Option ℕ
last_number last [] = last
last_number last (s ∷ entries) = last_number (Some s.number) entries

-- the bytes are the image of these entries in this version: the last 32 are SHA-256 of all before them
pub record ImageBytes (db : Db) (version : ℕ) (entries : List Saved) (bytes : List ℕ) : Type 0 where
  pub known : is_image_version version ≡ true
  pub each : All (IsSaved db version) entries
  pub rising : Rise None entries
  pub count_fits : length entries < 2 ^ 32
  pub spelling : bytes ≡ digested db version entries ++ sha256 (digested db version entries)
