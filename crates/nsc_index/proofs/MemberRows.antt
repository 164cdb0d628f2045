-- The groups of a user, by the index of members.
use Rattle.std.proofs.Common.{◌≡◌, ℕ, ◌+◌, Bool, true, false, cond, ◌==◌, ◌||◌, if◌then◌else◌, List, [], ◌∷◌, ◌++◌, length, filter, map, refl, sym, ◌∙◌, ap, arith}
use Rattle.std.specs.List.{cons_option, filter_map, list_any}
use Rattle.std.specs.Option.{is_some}
use Rattle.std.specs.Str.{bytes_eq}
use Rattle.std.specs.Cmp.Lexicographic.{texts_ties}
use Rattle.std.proofs.lemmas.Bool.Decides.{Decides-eqb}
use Rattle.std.proofs.lemmas.List.Folds.{list_any-append}
use Rattle.nsc_base.specs.declared.span.Span.{Span}
use Rattle.nsc_base.specs.Found.{AllBetween}
use Rattle.nsc_base.specs.declared.search.Case.TheVariants.{Counts}
use Rattle.nsc_base.specs.Text.{field_spans, is_filled, line_spans, part}
use Rattle.nsc_base.proofs.FieldCounts.{spans_between}
use Rattle.nsc_base.proofs.LineStarts.{lines-between}
use Rattle.nsc_base.proofs.Spans.{field_spans-parts, line_spans-parts}
use Rattle.nsc_model.specs.Answers.{ids_of}
use Rattle.nsc_model.specs.Entries.{if_named}
use Rattle.nsc_model.specs.Groups.{group_of_line, has_member, members_of}
use Rattle.nsc_accounts.specs.Group.{group_at, group_places}
use Rattle.nsc_accounts.specs.Once.{all_ids, with_id}
use Rattle.nsc_accounts.specs.declared.group.GroupAt.{GroupAt}
use Rattle.nsc_accounts.proofs.Collected.{all_once, map_step, member_ids}
use Rattle.nsc_accounts.proofs.Named.{group_given}
use Rattle.nsc_index.specs.declared.groups.GroupIndex.{GroupIndex}
use Rattle.nsc_index.specs.declared.names.NameAt.{NameAt}
use Rattle.nsc_index.specs.Groups.{IsGroupIndex, group_members, member_spans}
use Rattle.nsc_index.specs.Indexes.{on_line}
use Rattle.nsc_index.specs.Names.{has_name, place_of_name}
use Rattle.nsc_index.specs.Signs.{Adds}
use Rattle.nsc_index.proofs.LineRows.{Repeats, RowsOf, all_found, again, named_step, nothing, once, the_rows}
use Rattle.nsc_index.proofs.NameRows.{many_rows}
use Rattle.nsc_index.proofs.SignRows.{added_rows, some_mapped}

-- ---- the members of a line

-- those from a place on
abbrev pub members_from : List ℕ → Span → ℕ → ℕ → List NameAt
members_from text line from to = map (place_of_name line) (filter (λ span. is_filled (part text span)) (spans_between 44 text from to))

-- ---- the groups of a user

pub parts_filtered : (text : List ℕ) (test : List ℕ → Bool) (spans : List Span) → map (part text) (filter (λ span. test (part text span)) spans) ≡ filter test (map (part text) spans)
parts_filtered text test [] = refl
parts_filtered text test (span ∷ spans) =
    elim (test (part text span)) as (λ v. map (part text) (cond v (span ∷ filter (λ s. test (part text s)) spans) (filter (λ s. test (part text s)) spans)) ≡ cond v (part text span ∷ filter test (map (part text) spans)) (filter test (map (part text) spans))) [
      | true ↦ ap (λ (ps : List (List ℕ)). part text span ∷ ps) (parts_filtered text test spans)
      | false ↦ parts_filtered text test spans
    ]

members_are : (text : List ℕ) (within : Span) → map (part text) (member_spans text within) ≡ members_of (part text within)
members_are text within = parts_filtered text is_filled (field_spans 44 text within) ∙ ap (filter is_filled) (field_spans-parts 44 text within)

-- whether the user is a member of the group that stands in these places
abbrev pub is_of : List ℕ → List ℕ → GroupAt → Bool
is_of text user at = has_member user (group_at text at)

pub rows_of_member : (text user : List ℕ) → RowsOf (group_places text) (is_of text user) (group_members text) (has_name Counts text user) (λ row. row.line)
rows_of_member text user =
    many_rows text (has_name Counts text user) (λ name. bytes_eq name user) (λ line span. sym (texts_ties (part text span) user)) (group_places text) (is_of text user) (λ line at. member_spans text at.members)
    (λ line at has. ap (λ (names : List (List ℕ)). list_any (λ name. bytes_eq name user) names) (sym (members_are text at.members)))

-- entries by places, and those that are named
pub named_groups : (text : List ℕ) (names : _) (lines : List Span) → AllBetween 0 (length text + 1) lines → map (group_at text) (filter (λ at. names (group_at text at)) (filter_map (group_places text) lines)) ≡ filter names (filter_map group_of_line (map (part text) lines))
named_groups text names [] between = refl
named_groups text names (line ∷ lines) between =
    let by_places = λ (at : GroupAt). names (group_at text at) in
    let here = group_given text names line (if_named by_places (group_places text line)) between.1 (omega (arith, between.2)) refl in
    let rest = filter by_places (filter_map (group_places text) lines) in
    ap (map (group_at text)) (named_step by_places (group_places text line) (filter_map (group_places text) lines))
    ∙ map_step (group_at text) (if_named by_places (group_places text line)) rest
    ∙ ap (λ o. cons_option o (map (group_at text) rest)) here
    ∙ ap (cons_option (if_named names (group_of_line (part text line)))) (named_groups text names lines between.3)
    ∙ sym (named_step names (group_of_line (part text line)) (filter_map group_of_line (map (part text) lines)))

ids_at : (text : List ℕ) (places : List GroupAt) → map (λ g. g.gid) (map (group_at text) places) ≡ map (λ at. at.gid) places
ids_at text [] = refl
ids_at text (at ∷ places) = ap (λ (ids : List ℕ). at.gid ∷ ids) (ids_at text places)

or_true : (b : Bool) → (b || true) ≡ true
or_true true = refl
or_true false = refl

-- an id that is there is not added again
any_last : (ids : List ℕ) (id : ℕ) → list_any (λ other. id == other) (ids ++ id ∷ []) ≡ true
any_last ids id = list_any-append (λ other. id == other) ids (id ∷ []) ∙ ap (λ v. list_any (λ other. id == other) ids || (v || false)) ((Decides-eqb id id).1 refl) ∙ or_true (list_any (λ other. id == other) ids)

added_once : (ids : List ℕ) (id : ℕ) → with_id (with_id ids id) id ≡ with_id ids id
added_once ids id =
    elim (list_any (λ other. id == other) ids) as (λ v. list_any (λ other. id == other) ids ≡ v → with_id (if v then ids else ids ++ id ∷ []) id ≡ (if v then ids else ids ++ id ∷ [])) [
      | true ↦ λ there. ap (λ v. if v then ids else ids ++ id ∷ []) there
      | false ↦ λ lacks. ap (λ v. if v then ids ++ id ∷ [] else (ids ++ id ∷ []) ++ id ∷ []) (any_last ids id)
    ] refl

ids_repeated : (xs ys : List GroupAt) → Repeats xs ys → (ids : List ℕ) → all_ids ids (map (λ at. at.gid) xs) ≡ all_ids ids (map (λ at. at.gid) ys)
ids_repeated xs ys nothing ids = refl
ids_repeated zs ws (once x xs ys more) ids = ids_repeated xs ys more (with_id ids x.gid)
ids_repeated zs ws (again x xs ys more) ids = ap (λ (those : List ℕ). all_ids those (map (λ at. at.gid) xs)) (added_once ids x.gid) ∙ ids_repeated (x ∷ xs) ys more ids

-- the ids of the lines of rows
abbrev pub row_ids : List ℕ → List NameAt → List ℕ
row_ids text rows = map (λ at. at.gid) (filter_map (λ row. on_line (group_places text) text row.line) rows)

pub ids_start : (text user : List ℕ) (index : GroupIndex) → IsGroupIndex text index → (slice : List NameAt) → slice ≡ filter (has_name Counts text user) index.members.items → all_ids [] (row_ids text slice) ≡ ids_of user text
ids_start text user index is slice slice_is =
    let repeats = all_found (rows_of_member text user) text index.members.items is.members user (λ row. refl) slice slice_is in
    let named = filter (is_of text user) (filter_map (group_places text) (line_spans text 0)) in
    let same : map (λ at. at.gid) named ≡ member_ids user text =
    sym (ids_at text named) ∙ ap (map (λ g. g.gid)) (named_groups text (has_member user) (line_spans text 0) (lines-between text 0 (omega arith)) ∙ ap (λ (lines : List (List ℕ)). filter (has_member user) (filter_map group_of_line lines)) (line_spans-parts text 0)) in
    ids_repeated _ _ repeats [] ∙ ap (all_ids []) same ∙ all_once (member_ids user text)

-- the lines of a user's groups
pub member_lines : (text user : List ℕ) (index : GroupIndex) → IsGroupIndex text index → (old new : List ℕ) (slice : List NameAt) → slice ≡ filter (has_name Counts text user) index.members.items → new ≡ old ++ map (λ (at : NameAt). at.line) slice → Adds text (λ line. is_some (if_named (has_member user) (group_of_line line))) old new
member_lines text user index is old new slice slice_is new_is =
    added_rows (rows_of_member text user) text (λ line. is_some (if_named (has_member user) (group_of_line line)))
    (λ line ordered ends.
    let places = if_named (is_of text user) (group_places text line) in
    sym (some_mapped (group_at text) places) ∙ ap is_some (group_given text (has_member user) line places ordered ends refl)) old new slice new_is
    (slice_is ∙ the_rows (rows_of_member text user) text index.members.items is.members user (λ row. refl))
