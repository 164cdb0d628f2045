-- The ids that compat gathers for a user can be sent.
use Rattle.std.proofs.Common.{◌≡◌, ℕ, ◌==◌, nat_le, true, false, not, ◌&&◌, if◌then◌else◌, List, [], ◌∷◌, ◌++◌, filter, flat_map, length, Option, Some, None, IfSome, refl, subst}
use Rattle.std.specs.List.{AllByRecursion, filter_map}
use Rattle.std.specs.Str.{bytes_eq}
use Rattle.nsc_base.specs.Text.{lines_of}
use Rattle.nsc_model.specs.declared.kind.Db.TheVariants as db
use Rattle.nsc_model.specs.declared.kind.Kind.TheVariants.{GrName, InitGroups}
use Rattle.nsc_model.specs.declared.row.Group.{Group}
use Rattle.nsc_model.specs.declared.row.Row.TheVariants as row
use Rattle.nsc_model.specs.Answers.{answer_by, each_once, found_or_unavail, gathered_file, group_in, group_named, id_scan, join_limit, named_groups, pairs_of, service_pairs, sub_answer, takers, with_members}
use Rattle.nsc_model.specs.Compat.{IdScan, before_ids, gathered, id_of_group, ids_of_pairs, is_excluded, sayings}
use Rattle.nsc_model.specs.Content.{Content}
use Rattle.nsc_model.specs.Files.{FilesFit}
use Rattle.nsc_model.specs.Groups.{group_of_line, has_member}
use Rattle.nsc_model.specs.declared.switch.SwitchService.{SwitchService}
use Rattle.nsc_model.specs.declared.switch.SwitchService.TheVariants as service
use Rattle.nsc_model.specs.Switches.{compat_list}
use Rattle.nsc_model.specs.Wire.{group_found}
use Rattle.nsc_model.proofs.Sayings.{line_case}
use Rattle.nsc_laws.proofs.SentEntries.{entries_in, file_keeps}
use Rattle.nsc_laws.proofs.SentIds.{IsIdOf, ids_sent, once_are}
use Rattle.nsc_laws.proofs.SentJoined.{IsJoinable, all_ids, both_have, few_ids, found_are}
use Rattle.nsc_laws.proofs.SentLists.{append_keeps, filter_keeps, front_keeps, map_keeps}
use Rattle.nsc_laws.proofs.Sent.{entry_limit, none_sent}
use Rattle.nsc_laws.proofs.SentSwitches.{Joins, switched_keeps}

-- ---- what holds of each id that may be gathered holds of all of them

id_keeps : (P : ℕ → Type 0) (scan : IdScan) (excluded : List (List ℕ)) (o : Option Group) → IfSome o (λ g. P g.gid) → AllByRecursion P (id_of_group scan excluded o)
id_keeps P scan excluded None kept = tt
id_keeps P scan excluded (Some g) kept = elim (scan.has_user g && not (is_excluded excluded g.name)) as (λ v. AllByRecursion P (if v then g.gid ∷ [] else [])) [ true ↦ (kept, tt) | false ↦ tt ]

before_keeps : (P : ℕ → Type 0) (ids : List ℕ) (o : Option (List ℕ)) → AllByRecursion P ids → IfSome o (AllByRecursion P) → IfSome (before_ids ids o) (AllByRecursion P)
before_keeps P ids None first later = tt
before_keeps P ids (Some more) first later = append_keeps P ids more first later

gathered_keeps : (P : ℕ → Type 0) (scan : IdScan) → ((name : List ℕ) → IfSome (scan.by_name name) (λ g. P g.gid)) → AllByRecursion (λ p. P p.1) scan.pairs
    → (lines : List (List ℕ)) → AllByRecursion (λ g. P g.gid) (filter_map scan.group_of lines) → (excluded : List (List ℕ)) → IfSome (gathered scan (flat_map sayings lines) excluded) (AllByRecursion P)
gathered_keeps P scan named pairs [] all excluded = tt
gathered_keeps P scan named pairs (line ∷ lines) all excluded =
    let front = front_keeps (λ g. P g.gid) (scan.group_of line) (filter_map scan.group_of lines) all in
    let later = gathered_keeps P scan named pairs lines front.1 in
    let after = flat_map sayings lines in
    let next = gathered scan after excluded in
    line_case (λ said. IfSome (gathered scan (said ++ after) excluded) (AllByRecursion P)) (later excluded) tt (λ name. later (name ∷ excluded)) line
    (before_keeps P (id_of_group scan excluded (scan.group_of line)) next (id_keeps P scan excluded (scan.group_of line) front.0) (later excluded))
    (λ clean. before_keeps P (ids_of_pairs excluded scan.pairs) next (map_keeps P (λ p. p.1) (filter (λ p. not (is_excluded excluded p.0)) scan.pairs) (filter_keeps (λ p. P p.1) (λ p. not (is_excluded excluded p.0)) scan.pairs pairs)) (later excluded))
    (λ clean name. before_keeps P (id_of_group scan excluded (scan.by_name name)) next (id_keeps P scan excluded (scan.by_name name) (named name)) (later excluded))

-- ---- what the services of the compat list give

name_finds : (P : ℕ → Type 0) (name : List ℕ) (file : Option (List ℕ)) → AllByRecursion (λ g. P g.gid) (entries_in group_of_line file) → IfSome (group_in (answer_by GrName file name)) (λ g. P g.gid)
name_finds P name file all = file_keeps (λ looked. IfSome (group_in looked) (λ g. P g.gid)) row.Group group_of_line (group_named name) tt tt file all

file_pairs : (P : ℕ → Type 0) (user : List ℕ) (file : Option (List ℕ)) → AllByRecursion (λ g. P g.gid) (entries_in group_of_line file) → AllByRecursion (λ p. P p.1) (pairs_of user file)
file_pairs P user None all = tt
file_pairs P user (Some file) all =
    let groups = entries_in group_of_line (Some file) in
    map_keeps (λ p. P p.1) (λ (g : Group). (g.name, g.gid)) (filter (has_member user) groups) (filter_keeps (λ g. P g.gid) (has_member user) groups all)

-- a group that another one is joined to keeps its id
group_joins : (P : ℕ → Type 0) → Joins (λ looked. IfSome (group_in looked) (λ g. P g.gid))
group_joins P (row.Group h) (row.Group g) own other =
    elim (bytes_eq h.name g.name && h.gid == g.gid && nat_le (length (group_found (with_members h g))) join_limit) as (λ v. P (if v then with_members h g else h).gid) [ true ↦ own | false ↦ own ]
group_joins P (row.Groups ids) (row.Groups others) own other = tt
group_joins P h _ own other = own

module _ (P : ℕ → Type 0) (files : Content) (own : AllByRecursion (λ g. P g.gid) (entries_in group_of_line files.group)) (extra : AllByRecursion (λ g. P g.gid) (entries_in group_of_line files.extra_group)) (user : List ℕ) where
  service_finds : (name : List ℕ) (service : SwitchService) → IfSome (group_in (sub_answer files (record { kind = GrName; key = name }) service)) (λ g. P g.gid)
  service_finds name service.Files = name_finds P name files.group own
  service_finds name service.Compat = tt
  service_finds name service.Extrausers = name_finds P name files.extra_group extra
  service_finds name service.Other = tt

  named : (name : List ℕ) → IfSome ((id_scan files user).by_name name) (λ g. P g.gid)
  named name = switched_keeps (λ looked. IfSome (group_in looked) (λ g. P g.gid)) GrName (sub_answer files (record { kind = GrName; key = name })) tt (group_joins P) (service_finds name) (compat_list files db.Group)

  pairs_by : (service : SwitchService) → AllByRecursion (λ p. P p.1) (service_pairs files user service)
  pairs_by service.Files = file_pairs P user files.group own
  pairs_by service.Compat = tt
  pairs_by service.Extrausers = file_pairs P user files.extra_group extra
  pairs_by service.Other = tt

  pairs_of_all : (services : List SwitchService) → AllByRecursion (λ p. P p.1) (flat_map (service_pairs files user) services)
  pairs_of_all [] = tt
  pairs_of_all (service ∷ services) = append_keeps (λ p. P p.1) (service_pairs files user service) (flat_map (service_pairs files user) services) (pairs_by service) (pairs_of_all services)

  pairs : AllByRecursion (λ p. P p.1) (named_groups files user)
  pairs = pairs_of_all (takers InitGroups (sub_answer files (record { kind = InitGroups; key = user })) (compat_list files db.Group))

  file_gathered : (file : List ℕ) → files.group ≡ Some file → IfSome (gathered (id_scan files user) (flat_map sayings (lines_of file)) []) (AllByRecursion P)
  file_gathered file is = gathered_keeps P (id_scan files user) named pairs (lines_of file) (subst (λ (f : Option (List ℕ)). AllByRecursion (λ g. P g.gid) (entries_in group_of_line f)) is own) []

-- ---- what is gathered can be sent, also where it is joined

module _ (files : Content) (user : List ℕ) (fit : FilesFit files) where
  gathered_joinable : (o : Option (List ℕ)) → IfSome o (AllByRecursion (IsIdOf (all_ids files))) → IsJoinable entry_limit (all_ids files) InitGroups (found_or_unavail o)
  gathered_joinable None kept = (none_sent InitGroups, tt)
  gathered_joinable (Some ids) kept = (ids_sent (all_ids files) ids (few_ids files fit) kept, found_are (all_ids files) (each_once ids) (once_are (all_ids files) ids kept))

  file_joinable : (file : Option (List ℕ)) → files.group ≡ file → IsJoinable entry_limit (all_ids files) InitGroups (gathered_file (id_scan files user) file)
  file_joinable None is = (none_sent InitGroups, tt)
  file_joinable (Some file) is =
      let have = both_have files fit in
      gathered_joinable (gathered (id_scan files user) (flat_map sayings (lines_of file)) []) (file_gathered (IsIdOf (all_ids files)) files have.0 have.1 user file is)

  pub ids_gathered : IsJoinable entry_limit (all_ids files) InitGroups (gathered_file (id_scan files user) files.group)
  ids_gathered = file_joinable files.group refl
