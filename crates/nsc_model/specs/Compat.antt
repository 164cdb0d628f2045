-- The service compat of nsswitch.conf(5): lines of passwd and group that exclude names, or ask further services for entries.
use Rattle.std.specs.Prelude.{ℕ, Bool, true, false, not, ◌==◌, ◌&&◌, if◌then◌else◌, List, [], ◌∷◌, ◌++◌, map, filter, flat_map, Option, Some, None}
use Rattle.std.specs.List.{before_first, list_any}
use Rattle.std.specs.Option.{option_map}
use Rattle.std.specs.Str.{bytes_eq}
use Rattle.nsc_base.specs.Text.{fields_of, is_filled, lines_of, trimmed}
use Rattle.nsc_model.specs.declared.kind.Db.{Db}
use Rattle.nsc_model.specs.declared.kind.Db.TheVariants as db
use Rattle.nsc_model.specs.declared.row.Passwd.{Passwd}
use Rattle.nsc_model.specs.declared.row.Group.{Group}
use Rattle.nsc_model.specs.declared.row.Looked.{Looked}
use Rattle.nsc_model.specs.declared.row.Looked.TheVariants.{NotFound, Unavail}
use Rattle.nsc_model.specs.Users.{has_zero}

-- the databases that have it
abbrev pub has_compat : Db → Bool
has_compat db.Passwd = true
has_compat db.Group = true
has_compat db.Hosts = false
has_compat db.Services = false

-- ---- lines

-- what a line may say: its own entry, where it has the form of one; that a name is excluded; that the entry of a name is asked of
-- further services, or that the request itself is; or a netgroup, whose names are not known. The fields are those of the line.
pub data Saying : Type 0 where
  Own : (line : List ℕ) → Saying
  Excludes : (name : List ℕ) → Saying
  Asks : (name : List ℕ) (fields : List (List ℕ)) → Saying
  AsksAll : (fields : List (List ℕ)) → Saying
  Netgroup : Saying

-- after a minus: the name up to the first colon
abbrev pub sayings_minus : List ℕ → List Saying
sayings_minus [] = []
sayings_minus (b ∷ name) = if b == 64 then Netgroup ∷ [] else Excludes (b ∷ name) ∷ []

-- after a plus
abbrev pub sayings_plus : List (List ℕ) → List ℕ → List Saying
sayings_plus fields [] = AsksAll fields ∷ []
sayings_plus fields (b ∷ name) = if b == 64 then Netgroup ∷ [] else Asks (b ∷ name) fields ∷ []

-- what stands before the first colon
abbrev pub first_field : List ℕ → List ℕ
first_field bytes = before_first (λ b. b == 58) bytes

-- of a line, by the first byte after the white space at the front: a plus, a minus, or that of an entry
abbrev pub sayings_by : List ℕ → List ℕ → List Saying
sayings_by line [] = []
sayings_by line (b ∷ bytes) =
    if b == 43 then sayings_plus (fields_of 58 (b ∷ bytes)) (first_field bytes) else (
    if b == 45 then sayings_minus (first_field bytes) else Own line ∷ [])

-- what a line says, in order; one with a zero byte says nothing
abbrev pub sayings : List ℕ → List Saying
sayings line = if has_zero line then [] else sayings_by line (trimmed line)

-- ---- fields of a plus line

abbrev pub own_or : List ℕ → List ℕ → List ℕ
own_or own other = if is_filled own then own else other

-- of a plus line of passwd with seven fields those of password, gecos, directory and shell stand in the place of the entry's
-- where they are not empty; its name and its ids are never replaced, and another number of fields replaces nothing
abbrev pub replaced_user : List (List ℕ) → Passwd → Passwd
replaced_user (name ∷ passwd ∷ uid ∷ gid ∷ gecos ∷ dir ∷ shell ∷ []) p =
    record p { passwd = own_or passwd p.passwd; gecos = own_or gecos p.gecos; dir = own_or dir p.dir; shell = own_or shell p.shell }
replaced_user _ p = p

-- ---- a request for one entry

abbrev pub is_excluded : List (List ℕ) → List ℕ → Bool
is_excluded excluded name = list_any (λ other. bytes_eq other name) excluded

-- what a scan is about: the entry of a line, its name, whether the request names it, what the services of the compat list give
-- for a name and for the request itself, what the fields of a plus line make of an entry, and the outcome of an entry
pub record Scan (A : Type 0) : Type 0 where
  pub entry_of : List ℕ → Option A
  pub name_of : A → List ℕ
  pub names : A → Bool
  pub by_name : List ℕ → Option A
  pub asked : Option A
  pub replaced : List (List ℕ) → A → A
  pub found : A → Looked

-- an entry that may answer, where its name is not excluded
abbrev pub answers_or : {A : Type 0} → Scan A → (A → Bool) → List (List ℕ) → Option A → (A → A) → Looked → Looked
answers_or scan names excluded None replaced next = next
answers_or scan names excluded (Some entry) replaced next =
    if names entry && not (is_excluded excluded (scan.name_of entry)) then scan.found (replaced entry) else next

-- the outcome of a saying, where `next` is the outcome of those after it with these names excluded
abbrev pub scan_saying : {A : Type 0} → Scan A → List (List ℕ) → Saying → (List (List ℕ) → Looked) → Looked
scan_saying scan excluded (Own line) next = answers_or scan scan.names excluded (scan.entry_of line) (λ e. e) (next excluded)
scan_saying scan excluded (Excludes name) next = next (name ∷ excluded)
scan_saying scan excluded (Asks name fields) next = answers_or scan scan.names excluded (scan.by_name name) (scan.replaced fields) (next excluded)
scan_saying scan excluded (AsksAll fields) next = answers_or scan (λ e. true) excluded scan.asked (scan.replaced fields) (next excluded)
scan_saying scan excluded Netgroup next = Unavail

-- sayings from the first on, where these names are excluded so far: the first that answers decides
abbrev pub scanned : {A : Type 0} → Scan A → List Saying → List (List ℕ) → Looked
scanned scan [] excluded = NotFound
scanned scan (saying ∷ later) excluded = scan_saying scan excluded saying (scanned scan later)

-- over a file, line by line; an absent one is unavailable
abbrev pub scanned_file : {A : Type 0} → Scan A → Option (List ℕ) → Looked
scanned_file scan None = Unavail
scanned_file scan (Some file) = scanned scan (flat_map sayings (lines_of file)) []

-- ---- the groups of a user

-- what the scan for a user's groups is about: whether a group has the user as a member, what the services of the compat list
-- give for a group's name, and the names and ids of all groups of the user that they give
pub record IdScan : Type 0 where
  pub group_of : List ℕ → Option Group
  pub has_user : Group → Bool
  pub by_name : List ℕ → Option Group
  pub pairs : List (List ℕ × ℕ)

-- the id of a group that has the user as a member and whose name is not excluded
abbrev pub id_of_group : IdScan → List (List ℕ) → Option Group → List ℕ
id_of_group scan excluded None = []
id_of_group scan excluded (Some g) = if scan.has_user g && not (is_excluded excluded g.name) then g.gid ∷ [] else []

-- the ids of the pairs whose names are not excluded
abbrev pub ids_of_pairs : List (List ℕ) → List (List ℕ × ℕ) → List ℕ
ids_of_pairs excluded pairs = map (λ p. p.1) (filter (λ p. not (is_excluded excluded p.0)) pairs)

abbrev pub before_ids : List ℕ → Option (List ℕ) → Option (List ℕ)
before_ids ids others = option_map (λ more. ids ++ more) others

-- the ids that a saying adds to those of the sayings after it; none where a netgroup is reached
abbrev pub gather_saying : IdScan → List (List ℕ) → Saying → (List (List ℕ) → Option (List ℕ)) → Option (List ℕ)
gather_saying scan excluded (Own line) next = before_ids (id_of_group scan excluded (scan.group_of line)) (next excluded)
gather_saying scan excluded (Excludes name) next = next (name ∷ excluded)
gather_saying scan excluded (Asks name fields) next = before_ids (id_of_group scan excluded (scan.by_name name)) (next excluded)
gather_saying scan excluded (AsksAll fields) next = before_ids (ids_of_pairs excluded scan.pairs) (next excluded)
gather_saying scan excluded Netgroup next = None

abbrev pub gathered : IdScan → List Saying → List (List ℕ) → Option (List ℕ)
gathered scan [] excluded = Some []
gathered scan (saying ∷ later) excluded = gather_saying scan excluded saying (gathered scan later)
