-- What holds of the history of a database whose file sets all tell one content, whatever was read of them.
use Rattle.std.specs.Prelude.{◌≡◌, List, Option, Some}
use Rattle.nsc_model.specs.declared.kind.Db.{Db}
use Rattle.nsc_model.specs.declared.record.Record.{Record}
use Rattle.nsc_model.specs.Content.{Content}
use Rattle.nsc_model.specs.Files.{part_of}
use Rattle.nsc_model.specs.History.{changes, version_in}

-- it has one version, which is the database's part of these files
pub record HasOne (files : Content) (which : Db) (history : List Record) : Type 0 where
  pub one : changes history ≡ 1
  pub part : version_in history 0 ≡ Some (part_of which files)

abbrev pub IsSteady : Option Content → Db → List Record → Type 0
IsSteady held which history = (files : Content) → held ≡ Some files → HasOne files which history
