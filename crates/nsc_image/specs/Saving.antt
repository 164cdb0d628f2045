-- What an image keeps of the live entries of a database.
use Rattle.std.specs.Prelude.{◌≡◌, ◌<◌, ◌^◌, List, map}
use Rattle.nsc_model.specs.declared.kind.Db.{Db}
use Rattle.nsc_model.specs.Entry.{Entry}
use Rattle.nsc_model.specs.Kinds.{database_of}
use Rattle.nsc_model.specs.Machine.{Kept}
use Rattle.nsc_model.specs.Image.{Saved, saved_of}

abbrev pub saved_entries : List Kept → List Saved
saved_entries entries = map saved_of entries

-- an entry of the database, with a timeout that an image can have
pub record IsEntryOf (db : Db) (e : Entry) : Type 0 where
  pub of_database : database_of e.request.kind ≡ db
  pub timeout_fits : e.timeout < 2 ^ 63
