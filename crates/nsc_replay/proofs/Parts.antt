-- The part of the files that a database reads.
use Rattle.std.proofs.Common.{◌≡◌, ℕ, true, List, Option, refl}
use Rattle.nsc_model.specs.declared.kind.Db.{Db}
use Rattle.nsc_model.specs.declared.kind.Db.TheVariants as db
use Rattle.nsc_model.specs.declared.kind.FileId.{FileId}
use Rattle.nsc_model.specs.declared.kind.FileId.TheVariants as file
use Rattle.nsc_model.specs.Content.{Content}
use Rattle.nsc_model.specs.Files.{is_read, no_files, part_of, with_file}
use Rattle.nsc_model.specs.Kinds.{all_files}
use Rattle.nsc_replay.specs.Parts.{all_lent, lent}

-- every file that is read, one after the other
pub part_lent : (which : Db) (files : Content) → all_lent which files all_files no_files ≡ part_of which files
unfolding lent
part_lent db.Passwd files = refl
part_lent db.Group files = refl
part_lent db.Hosts files = refl
part_lent db.Services files = refl

-- a file that is read becomes what it is in the part, too
pub part_follows : (which : Db) (files : Content) (id : FileId) (held : Option (List ℕ)) → is_read which id ≡ true → with_file (part_of which files) id held ≡ part_of which (with_file files id held)
part_follows db.Passwd files file.Switch held on = cc
part_follows db.Passwd files _ held on = cc
part_follows db.Group files file.Switch held on = cc
part_follows db.Group files _ held on = cc
part_follows db.Hosts files file.Switch held on = cc
part_follows db.Hosts files _ held on = cc
part_follows db.Services files file.Switch held on = cc
part_follows db.Services files _ held on = cc
