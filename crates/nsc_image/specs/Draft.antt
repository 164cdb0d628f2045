-- An image in the making, of the version that is written.
use Rattle.std.specs.Prelude.{◌≡◌, ℕ, ◌<◌, ◌^◌, List, ◌++◌, take, drop}
use Rattle.nsc_model.specs.declared.kind.Db.{Db}
use Rattle.nsc_model.specs.Wire.{field}
use Rattle.nsc_model.specs.Image.{Saved, image_head, image_version}
use Rattle.nsc_image.specs.Layout.{Fill}
use Rattle.nsc_image.specs.Reading.{saved_in}

-- the database, and the entries that were added so far
pub record Draft : Type 0 where
  pub db : Db
  pub entries : List Saved

-- the bytes are a head without its count, and `count` entries
abbrev pub draft_of : Db → ℕ → List ℕ → Draft
draft_of db count bytes = record { db = db; entries = saved_in image_version count (drop 20 bytes) }

pub record IsDraft (db : Db) (count : ℕ) (bytes : List ℕ) : Type 0 where
  pub head : take 20 bytes ≡ image_head db image_version 0
  pub count_fits : count < 2 ^ 32
  pub entries : Fill db image_version count (drop 20 bytes)

-- the bytes with this count in their head
abbrev pub counted : ℕ → List ℕ → List ℕ
counted count bytes = take 16 bytes ++ field count ++ drop 20 bytes
