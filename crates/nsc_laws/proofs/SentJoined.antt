-- Rows that a switch joins can be sent, where the rows that are joined can be.
use Rattle.std.proofs.Common.{◌≢◌, ℕ, ◌+◌, ◌*◌, ◌≤◌, List, [], ◌∷◌, ◌++◌, filter, length, Option, Some, None, refl, sym, arith, length-append}
use Rattle.std.specs.List.{AllByRecursion}
use Rattle.std.proofs.lemmas.List.{length-map}
use Rattle.nsc_model.specs.declared.kind.Kind.{Kind}
use Rattle.nsc_model.specs.declared.kind.Shape.TheVariants as shape
use Rattle.nsc_model.specs.declared.row.Group.{Group}
use Rattle.nsc_model.specs.declared.row.Row.{Row}
use Rattle.nsc_model.specs.declared.row.Row.TheVariants as row
use Rattle.nsc_model.specs.declared.row.Looked.{Looked}
use Rattle.nsc_model.specs.declared.row.Looked.TheVariants.{Found}
use Rattle.nsc_model.specs.Answers.{file_ids, found_ids, joined_ids, joined_row}
use Rattle.nsc_model.specs.Content.{Content}
use Rattle.nsc_model.specs.Files.{FilesFit, file_limit}
use Rattle.nsc_model.specs.Groups.{group_of_line, has_member}
use Rattle.nsc_model.specs.Wire.{shape_of}
use Rattle.nsc_laws.proofs.SentAccounts.{IsSentGroup, joined_fits}
use Rattle.nsc_laws.proofs.SentAnswers.{groups_keep, own_ids}
use Rattle.nsc_laws.proofs.SentEntries.{entries_few, entries_in}
use Rattle.nsc_laws.proofs.SentIds.{AreIdsOf, IsIdOf, ids_fit, ids_in, joined_are, once_are}
use Rattle.nsc_laws.proofs.SentLists.{append_keeps, filter_keeps, map_keeps, parts_keep}
use Rattle.nsc_laws.proofs.Sent.{IsSent, entry_limit}

-- ---- the ids of both group files

abbrev pub groups_of : Content → List Group
groups_of files = entries_in group_of_line files.group ++ entries_in group_of_line files.extra_group

abbrev pub all_ids : Content → List ℕ
all_ids files = ids_in (groups_of files)

pub few_ids : (files : Content) → FilesFit files → length (all_ids files) ≤ 2 * file_limit + 2
few_ids files fit =
    omega (arith, length-map (groups_of files) (λ (g : Group). g.gid), length-append (entries_in group_of_line files.group) (entries_in group_of_line files.extra_group), entries_few group_of_line files.group fit.group_fits, entries_few group_of_line files.extra_group fit.extra_group_fits)

-- each group of either file has one of them
abbrev pub HaveIdsOf : List ℕ → Option (List ℕ) → Type 0
HaveIdsOf all file = AllByRecursion (λ (g : Group). IsIdOf all g.gid) (entries_in group_of_line file)

pub both_have : (files : Content) → FilesFit files → HaveIdsOf (all_ids files) files.group × HaveIdsOf (all_ids files) files.extra_group
both_have files fit =
    let own = entries_in group_of_line files.group in
    let extra = entries_in group_of_line files.extra_group in
    let each = own_ids (groups_of files) (append_keeps (IsSentGroup entry_limit) own extra (groups_keep files.group fit.group_fits) (groups_keep files.extra_group fit.extra_group_fits)) in
    parts_keep (λ (g : Group). IsIdOf (all_ids files) g.gid) own extra each

-- ---- outcomes that find some of these ids, each once

abbrev pub FindsIdsOf : List ℕ → Looked → Type 0
FindsIdsOf all (Found (row.Groups ids)) = AreIdsOf all ids
FindsIdsOf all _ = Unit {0}

pub found_are : (all ids : List ℕ) → AreIdsOf all ids → FindsIdsOf all (found_ids ids)
found_are all [] are = tt
found_are all (id ∷ ids) are = are

pub file_finds : (all user : List ℕ) (file : Option (List ℕ)) → HaveIdsOf all file → FindsIdsOf all (file_ids user file)
file_finds all user None each = tt
file_finds all user (Some file) each =
    let groups = entries_in group_of_line (Some file) in
    let members = filter (has_member user) groups in
    found_are all _ (once_are all (ids_in members) (map_keeps (IsIdOf all) (λ (g : Group). g.gid) members (filter_keeps (λ (g : Group). IsIdOf all g.gid) (has_member user) groups each)))

-- a reply of another shape has no ids
pub other_finds : (all : List ℕ) (limit : ℕ) (kind : Kind) (looked : Looked) → shape_of kind ≢ shape.Ids → IsSent limit kind looked → FindsIdsOf all looked
other_finds all limit kind (Found (row.Groups ids)) other sent = absurd (other (sym sent.0.0))
other_finds all limit kind _ other sent = tt

-- ---- rows that are joined

-- an outcome that can be sent, also where other such rows are joined to its row
abbrev pub IsJoinable : ℕ → List ℕ → Kind → Looked → Type 0
IsJoinable limit all kind looked = IsSent limit kind looked × FindsIdsOf all looked

pub rows_join : (limit : ℕ) (all : List ℕ) (kind : Kind) → entry_limit ≤ limit → length all ≤ 2 * file_limit + 2
    → (h g : Row) → IsJoinable limit all kind (Found h) → IsJoinable limit all kind (Found g) → IsJoinable limit all kind (Found (joined_row h g))
rows_join limit all kind room few (row.Group h) (row.Group g) own other =
    let sent : IsSentGroup limit _ = joined_fits limit h g (omega (arith, room)) ((refl, own.0.0.1), own.0.1) ((refl, other.0.0.1), other.0.1) in
    (((own.0.0.0, sent.0.1), sent.1), tt)
rows_join limit all kind room few (row.Groups ids) (row.Groups others) own other =
    let are = joined_are all ids others own.1 other.1 in
    let fit = ids_fit all (joined_ids ids others) few are in
    (((own.0.0.0, fit.0), omega (arith, fit.1, room)), are)
rows_join limit all kind room few h _ own other = own
