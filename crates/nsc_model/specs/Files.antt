-- The files of a content, one by one and as those of a database.
use Rattle.std.specs.Prelude.{ℕ, ◌≤◌, Bool, true, false, ◌&&◌, if◌then◌else◌, List, Option, Some, None, length, IfSome}
use Rattle.std.specs.List.{slice_index_or}
use Rattle.std.specs.Str.{bytes_eq}
use Rattle.nsc_model.specs.Content.{Content}
use Rattle.nsc_model.specs.declared.kind.Db.{Db}
use Rattle.nsc_model.specs.declared.kind.Db.TheVariants as db
use Rattle.nsc_model.specs.declared.kind.FileId.{FileId}
use Rattle.nsc_model.specs.declared.kind.FileId.TheVariants as file

-- a file has at most `file_limit` bytes
abbrev pub file_limit : ℕ
file_limit = 16777216

abbrev pub FileFits : Option (List ℕ) → Type 0
FileFits f = IfSome f (λ bytes. length bytes ≤ file_limit)

-- no file is longer than a file may be
pub record FilesFit (files : Content) : Type 0 where
  pub switch_fits : FileFits files.switch
  pub passwd_fits : FileFits files.passwd
  pub group_fits : FileFits files.group
  pub hosts_fits : FileFits files.hosts
  pub services_fits : FileFits files.services
  pub extra_passwd_fits : FileFits files.extra_passwd
  pub extra_group_fits : FileFits files.extra_group
  pub netgroup_fits : FileFits files.netgroup

-- the files in the order of their numbers
abbrev pub files_in : List (Option (List ℕ)) → Content
files_in all = record {
  switch = slice_index_or all 0 None;
  passwd = slice_index_or all 1 None;
  group = slice_index_or all 2 None;
  hosts = slice_index_or all 3 None;
  services = slice_index_or all 4 None;
  extra_passwd = slice_index_or all 5 None;
  extra_group = slice_index_or all 6 None;
  netgroup = slice_index_or all 7 None;
}

-- every file is absent
abbrev pub no_files : Content
no_files = record { switch = None; passwd = None; group = None; hosts = None; services = None; extra_passwd = None; extra_group = None; netgroup = None }

abbrev pub file_of : Content → FileId → Option (List ℕ)
file_of files file.Switch = files.switch
file_of files file.Passwd = files.passwd
file_of files file.Group = files.group
file_of files file.Hosts = files.hosts
file_of files file.Services = files.services
file_of files file.ExtraPasswd = files.extra_passwd
file_of files file.ExtraGroup = files.extra_group
file_of files file.Netgroup = files.netgroup

-- one file becomes this, and the others stay
abbrev pub with_file : Content → FileId → Option (List ℕ) → Content
with_file files file.Switch f = record files { switch = f }
with_file files file.Passwd f = record files { passwd = f }
with_file files file.Group f = record files { group = f }
with_file files file.Hosts f = record files { hosts = f }
with_file files file.Services f = record files { services = f }
with_file files file.ExtraPasswd f = record files { extra_passwd = f }
with_file files file.ExtraGroup f = record files { extra_group = f }
with_file files file.Netgroup f = record files { netgroup = f }

-- whether a database reads a file; no answer depends on netgroups yet, so no database reads those
abbrev pub is_read : Db → FileId → Bool
is_read which file.Switch = true
is_read db.Passwd file.Passwd = true
is_read db.Passwd file.ExtraPasswd = true
is_read db.Group file.Group = true
is_read db.Group file.ExtraGroup = true
is_read db.Hosts file.Hosts = true
is_read db.Services file.Services = true
is_read _ _ = false

-- a file of a content, where the database reads it
abbrev read_file : Db → Content → FileId → Option (List ℕ)
read_file which files id = if is_read which id then file_of files id else None

-- what a database reads: the files that it does not read count as absent
abbrev pub part_of : Db → Content → Content
part_of which files = record {
  switch = read_file which files file.Switch;
  passwd = read_file which files file.Passwd;
  group = read_file which files file.Group;
  hosts = read_file which files file.Hosts;
  services = read_file which files file.Services;
  extra_passwd = read_file which files file.ExtraPasswd;
  extra_group = read_file which files file.ExtraGroup;
  netgroup = read_file which files file.Netgroup;
}

-- whether two files are the same, and whether two contents are
abbrev pub same_file : Option (List ℕ) → Option (List ℕ) → Bool
same_file None None = true
same_file None (Some b) = false
same_file (Some a) None = false
same_file (Some a) (Some b) = bytes_eq a b

abbrev pub same_files : Content → Content → Bool
same_files a b =
    same_file a.switch b.switch && same_file a.passwd b.passwd && same_file a.group b.group && same_file a.hosts b.hosts
    && same_file a.services b.services && same_file a.extra_passwd b.extra_passwd && same_file a.extra_group b.extra_group
    && same_file a.netgroup b.netgroup
