-- Sets of files: what a read answers, and what a set counts.
use Rattle.std.specs.Prelude.{◌≡◌, ◌≢◌, ℕ, ◌<◌, List, [], ◌∷◌, ◌++◌, length, slice_index_or, Bool, true, false, Option, Some, None, Result, Ok, Err, IfSome, IsSomeAnd, option_map, codes}
use Rattle.nsc_model.specs.Content.{Content}
use Rattle.nsc_model.specs.Files.{file_of, file_limit}
use Rattle.nsc_model.specs.Kinds.{file_number}
use Rattle.nsc_model.specs.declared.kind.FileId.{FileId}
use Rattle.nsc_model.specs.declared.kind.FileId.TheVariants as file
use Rattle.nsc_model.specs.Reads.{Rose}
use Rattle.nsc_outside.specs.declared.files.ReadCause.{ReadCause}
use Rattle.nsc_outside.specs.declared.files.ReadCause.TheVariants as causes

-- one file of those that a set holds, where it tells them
abbrev pub told_of : Option Content → FileId → Option (Option (List ℕ))
told_of held file = option_map (λ files. file_of files file) held

-- a length is more than a file may have, and is that of the file that is told, where one is told
pub record IsPastLimit (told : Option (Option (List ℕ))) (size : ℕ) : Type 0 where
  pub past : file_limit < size
  pub of_file : IfSome told (λ f. IsSomeAnd f (λ bytes. length bytes ≡ size))

-- why a file gave no answer: only of one that is too long the cause tells something
abbrev pub IsCause : Option (Option (List ℕ)) → ReadCause → Type 0
IsCause told causes.NoMemory = Unit {0}
IsCause told causes.Failed = Unit {0}
IsCause told (causes.TooLong size) = IsPastLimit told size

-- a read gave no answer because it failed
abbrev pub is_failed : {A : Type 0} → Result A ReadCause → Bool
is_failed (Ok got) = false
is_failed (Err causes.NoMemory) = false
is_failed (Err causes.Failed) = true
is_failed (Err (causes.TooLong size)) = false

-- what a read with no answer does to a count of faults: that memory was short is no fault
abbrev pub RoseBy : ReadCause → ℕ → ℕ → Type 0
RoseBy causes.NoMemory before after = after ≡ before
RoseBy causes.Failed before after = Rose before after
RoseBy (causes.TooLong size) before after = Rose before after

-- what is known of each file changed at this one at most
abbrev pub ChangesOnly : {A : Type 0} → FileId → (FileId → A) → (FileId → A) → Type 0
ChangesOnly file before after = (other : FileId) → other ≢ file → after other ≡ before other

-- what the latest read of a file gave, among what those gave by number
abbrev pub latest_of : List (Option (Option (List ℕ))) → FileId → Option (Option (List ℕ))
latest_of latest file = slice_index_or latest (file_number file) None

-- where a system keeps its files
abbrev pub system_path : FileId → List ℕ
system_path file.Switch = codes "/etc/nsswitch.conf"
system_path file.Passwd = codes "/etc/passwd"
system_path file.Group = codes "/etc/group"
system_path file.Hosts = codes "/etc/hosts"
system_path file.Services = codes "/etc/services"
system_path file.ExtraPasswd = codes "/var/lib/extrausers/passwd"
system_path file.ExtraGroup = codes "/var/lib/extrausers/group"
system_path file.Netgroup = codes "/etc/netgroup"

-- where a folder keeps them, after its own path and a slash
abbrev pub folder_path : FileId → List ℕ
folder_path file.Switch = codes "nsswitch.conf"
folder_path file.Passwd = codes "passwd"
folder_path file.Group = codes "group"
folder_path file.Hosts = codes "hosts"
folder_path file.Services = codes "services"
folder_path file.ExtraPasswd = codes "extrausers/passwd"
folder_path file.ExtraGroup = codes "extrausers/group"
folder_path file.Netgroup = codes "netgroup"

-- the path of a file: in this folder, or where the system keeps it
abbrev pub path_of : Option (List ℕ) → FileId → List ℕ
path_of None file = system_path file
path_of (Some folder) file = folder ++ 47 ∷ [] ++ folder_path file

-- bytes are all that a reader had left, where it tells that
abbrev pub IsAllOf : Option (List ℕ) → List ℕ → Type 0
IsAllOf left bytes = IfSome left (λ all. bytes ≡ all)

-- a cause tells no length
abbrev pub TellsNoLength : ReadCause → Type 0
TellsNoLength causes.NoMemory = Unit {0}
TellsNoLength causes.Failed = Unit {0}
TellsNoLength (causes.TooLong size) = ⊥

-- of what was too long, a reader had more left than a file may have, where it tells that
abbrev pub IsLong : Option (List ℕ) → ReadCause → Type 0
IsLong left causes.NoMemory = Unit {0}
IsLong left causes.Failed = Unit {0}
IsLong left (causes.TooLong size) = IfSome left (λ all. file_limit < length all)

-- what was too long has more bytes than a limit, as far as is told, and of them a reader had more left, where it tells that
abbrev pub IsOver : ℕ → Option (List ℕ) → ReadCause → Type 0
IsOver limit left causes.NoMemory = Unit {0}
IsOver limit left causes.Failed = Unit {0}
IsOver limit left (causes.TooLong size) = (limit < size) × IfSome left (λ all. limit < length all)
