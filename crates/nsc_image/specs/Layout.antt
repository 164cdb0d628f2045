-- Entries one after the other in bytes, in an image of a version.
use Rattle.std.specs.Prelude.{◌≡◌, ℕ, List, [], ◌++◌, length, All, None}
use Rattle.std.specs.List.{flat_map}
use Rattle.nsc_model.specs.declared.kind.Db.{Db}
use Rattle.nsc_model.specs.Image.{IsSaved, Rise, Saved, saved_bytes}

-- these entries stand at the front of the bytes, one after the other, and the rest behind them
pub record Stand (db : Db) (version : ℕ) (bytes : List ℕ) (entries : List Saved) (rest : List ℕ) : Type 0 where
  pub each : All (IsSaved db version) entries
  pub rising : Rise None entries
  pub parts : bytes ≡ flat_map (saved_bytes version) entries ++ rest

-- `count` entries fill the bytes
abbrev pub Fill : Db → ℕ → ℕ → List ℕ → Type 0
Fill db version count bytes = (entries : List Saved) × Stand db version bytes entries [] × (length entries ≡ count)
