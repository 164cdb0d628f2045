-- What holds of a database whose file sets all tell one content, whatever was read of them.
use Rattle.std.specs.Prelude.{◌≡◌, List, Option, Some}
use Rattle.nsc_model.specs.declared.kind.Db.{Db}
use Rattle.nsc_model.specs.declared.record.Record.{Record}
use Rattle.nsc_model.specs.Content.{Content}
use Rattle.nsc_model.specs.Files.{part_of}
use Rattle.nsc_model.specs.Machine.{Cache}
use Rattle.nsc_model.specs.History.{Legal}
use Rattle.nsc_model.specs.Steady.{IsSteady}
use Rattle.nsc_writer.specs.Former.{Former}

-- the newest version of a cache is its first one, and is the database's part of these files
pub record IsStill (files : Content) (which : Db) (cache : Cache) : Type 0 where
  pub first : cache.newest_version ≡ 0
  pub part : cache.sources ≡ part_of which files

abbrev pub StaysStill : Option Content → Db → Cache → Type 0
StaysStill held which cache = (files : Content) → held ≡ Some files → IsStill files which cache

-- what was steady stays so: it has one version
abbrev pub StaysSteady : Option Content → Db → List Record → List Record → Type 0
StaysSteady held which seen after = IsSteady held which seen → IsSteady held which after

-- what was seen of a database by the time that a table was left is legal, and steady
abbrev pub WasSteady : Option Content → Db → Former → Type 0
WasSteady held which former = Legal former.stock.seen × IsSteady held which former.stock.seen

-- no version was added, and none replaced
pub record KeepsVersion (before after : Cache) : Type 0 where
  pub version : after.newest_version ≡ before.newest_version
  pub sources : after.sources ≡ before.sources
