-- The files that a database reads, one after the other.
use Rattle.std.specs.Prelude.{if◌then◌else◌, List, [], ◌∷◌}
use Rattle.nsc_model.specs.declared.kind.Db.{Db}
use Rattle.nsc_model.specs.declared.kind.FileId.{FileId}
use Rattle.nsc_model.specs.Content.{Content}
use Rattle.nsc_model.specs.Files.{file_of, is_read, with_file}

-- files with one of these, where the database reads it
unfoldable pub lent : Db → Content → FileId → Content → Content
lent which files file part = if is_read which file then with_file part file (file_of files file) else part

-- and with these, one after the other
abbrev pub all_lent : Db → Content → List FileId → Content → Content
all_lent which files [] part = part
all_lent which files (file ∷ others) part = all_lent which files others (lent which files file part)
