-- Rows of which those of one line stand side by side, each line once.
use Rattle.std.proofs.Common.{◌≡◌, ℕ, ◌+◌, ◌≤◌, Bool, true, false, ◌==◌, if◌then◌else◌, List, [], ◌∷◌, ◌++◌, length, drop, filter, map, Option, Some, None, refl, sym, ◌∙◌, ap, arith}
use Rattle.std.specs.List.{AllByRecursion, cons_option, filter_map, flat_map}
use Rattle.std.proofs.lemmas.Bool.Decides.{Decides-eqb, nat_tests}
use Rattle.std.proofs.lemmas.List.Elements.{filter-append}
use Rattle.nsc_base.specs.declared.search.Case.TheVariants.{Counts}
use Rattle.nsc_base.specs.declared.span.Span.{Span}
use Rattle.nsc_base.specs.Text.{line_spans, lines_of, part, spans_of}
use Rattle.nsc_base.proofs.LineStarts.{lines-between}
use Rattle.nsc_base.proofs.Spans.{line_spans-parts}
use Rattle.nsc_model.specs.declared.row.Group.{Group}
use Rattle.nsc_model.specs.Answers.{pairs_of}
use Rattle.nsc_model.specs.Entries.{if_named}
use Rattle.nsc_model.specs.Groups.{group_of_line, has_member}
use Rattle.nsc_accounts.specs.Group.{group_at, group_places}
use Rattle.nsc_accounts.specs.declared.group.GroupAt.{GroupAt}
use Rattle.nsc_index.specs.declared.groups.GroupIndex.{GroupIndex}
use Rattle.nsc_index.specs.declared.names.NameAt.{NameAt}
use Rattle.nsc_index.specs.Groups.{IsGroupIndex}
use Rattle.nsc_index.specs.Indexes.{on_line, rows_from}
use Rattle.nsc_index.specs.Names.{has_name}
use Rattle.nsc_index.proofs.LineRows.{AllBegin, RowsOf, all_begin, named_step, on_first, the_rows}
use Rattle.nsc_index.proofs.MemberRows.{is_of, named_groups, rows_of_member}

-- ---- lines rise

abbrev pub Rising : ℕ → List Span → Type 0
Rising low [] = Unit {0}
Rising low (line ∷ lines) = (low ≤ line.from) × Rising (line.from + 1) lines

rising : (low at : ℕ) (pieces : List (List ℕ)) → low ≤ at → Rising low (spans_of at pieces)
rising low at [] le = tt
rising low at (piece ∷ pieces) le = (le, rising (at + 1) (at + length piece + 1) pieces (omega arith))

pub all_rising : (text : List ℕ) → Rising 0 (line_spans text 0)
all_rising text = rising 0 0 (lines_of (drop 0 text)) (omega arith)

lower : (low high : ℕ) (lines : List Span) → low ≤ high → Rising high lines → Rising low lines
lower low high [] le rises = tt
lower low high (line ∷ lines) le rises = (omega (arith, rises.0), rises.1)

-- ---- rows of a line after the first one

abbrev pub is_last : Option ℕ → ℕ → Bool
is_last None line = false
is_last (Some last) line = last == line

-- rows without those of the same line as the row before
abbrev pub lines_once : Option ℕ → List NameAt → List NameAt
lines_once last [] = []
lines_once last (row ∷ rows) = if is_last last row.line then lines_once (Some row.line) rows else row ∷ lines_once (Some row.line) rows

-- the least place at which a line after it may begin
abbrev after : Option ℕ → ℕ
after None = 0
after (Some last) = last + 1

not_last : (last : Option ℕ) (line : ℕ) → after last ≤ line → is_last last line ≡ false
not_last None line le = refl
not_last (Some last) line le = grind (arith, nat_tests)

same_line : (rows more : List NameAt) (line : ℕ) → AllByRecursion (λ (row : NameAt). row.line ≡ line) rows → lines_once (Some line) (rows ++ more) ≡ lines_once (Some line) more
same_line [] more line all = refl
same_line (row ∷ rows) more line all =
    let here : (line == row.line) ≡ true = (Decides-eqb line row.line).1 (sym all.0) in
    ap (λ v. if v then lines_once (Some row.line) (rows ++ more) else row ∷ lines_once (Some row.line) (rows ++ more)) here
    ∙ ap (λ n. lines_once (Some n) (rows ++ more)) all.0 ∙ same_line rows more line all.1

module _ {A : Type 0} {places : Span → Option A} {names : A → Bool} {rows_of : Span → List NameAt} {passes : NameAt → Bool} (is : RowsOf places names rows_of passes (λ row. row.line)) (text : List ℕ) where
  abbrev entry : NameAt → Option A
  entry row = on_line places text row.line

  once_at : (lines : List Span) (last : Option ℕ) → AllBegin text lines → Rising (after last) lines → filter_map entry (lines_once last (filter passes (flat_map rows_of lines))) ≡ filter names (filter_map places lines)
  once_at [] last begin rises = refl
  once_at (line ∷ lines) last begin rises =
      let rest = flat_map rows_of lines in
      ap (λ rows. filter_map entry (lines_once last rows)) (filter-append passes (rows_of line) rest)
      ∙ (elim (filter passes (rows_of line)) as (λ front. filter passes (rows_of line) ≡ front → AllByRecursion (λ (row : NameAt). row.line ≡ line.from) front → filter_map entry (lines_once last (front ++ filter passes rest)) ≡ cons_option (if_named names (places line)) (filter names (filter_map places lines))) [
        | [] ↦ λ none there. once_at lines last begin.1 (lower (after last) (line.from + 1) lines (omega (arith, rises.0)) rises.1) ∙ ap (λ o. cons_option o (filter names (filter_map places lines))) (sym (is.none line none))
        | row ∷ rows ↦ λ some there.
            let found = is.some line row rows some in
            let named : if_named names (places line) ≡ Some found.0 = ap (if_named names) found.1.0 ∙ ap (λ v. if v then Some found.0 else None) found.1.1 in
            let has : entry row ≡ Some found.0 = ap (on_line places text) there.0 ∙ on_first places text line.from line begin.0.0 begin.0.1 ∙ found.1.0 in
            let fresh : is_last last row.line ≡ false = ap (is_last last) there.0 ∙ not_last last line.from rises.0 in
            let later = lines_once (Some row.line) (rows ++ filter passes rest) in
            let rest_is : later ≡ lines_once (Some line.from) (filter passes rest) = ap (λ n. lines_once (Some n) (rows ++ filter passes rest)) there.0 ∙ same_line rows (filter passes rest) line.from there.1 in
            ap (λ v. filter_map entry (if v then later else row ∷ later)) fresh
            ∙ ap (λ o. cons_option o (filter_map entry later)) has
            ∙ ap (λ l. found.0 ∷ filter_map entry l) rest_is
            ∙ ap (λ l. found.0 ∷ l) (once_at lines (Some line.from) begin.1 rises.1)
            ∙ ap (λ o. cons_option o (filter names (filter_map places lines))) (sym named)
      ] refl (is.there line))
      ∙ sym (named_step names (places line) (filter_map places lines))

  -- the rows that pass, each line once, are those of the lines that are named
  pub once_on : filter_map entry (lines_once None (filter passes (rows_from rows_of text 0))) ≡ filter names (filter_map places (line_spans text 0))
  once_on = once_at (line_spans text 0) None (all_begin text) (all_rising text)

-- ---- the groups of a user with their names

abbrev pub pair_in : List ℕ → GroupAt → List ℕ × ℕ
pair_in text at = (part text at.name, at.gid)

abbrev pub pairs_left : List ℕ → Option ℕ → List NameAt → List (List ℕ × ℕ)
pairs_left text last rows = map (pair_in text) (filter_map (λ (row : NameAt). on_line (group_places text) text row.line) (lines_once last rows))

pairs_at : (text : List ℕ) (places : List GroupAt) → map (λ (g : Group). (g.name, g.gid)) (map (group_at text) places) ≡ map (pair_in text) places
pairs_at text [] = refl
pairs_at text (at ∷ places) = ap (λ (pairs : List (List ℕ × ℕ)). pair_in text at ∷ pairs) (pairs_at text places)

pub pairs_start : (text user : List ℕ) (index : GroupIndex) → IsGroupIndex text index → (slice : List NameAt) → slice ≡ filter (has_name Counts text user) index.members.items → pairs_left text None slice ≡ pairs_of user (Some text)
pairs_start text user index is slice slice_is =
    let named = filter (is_of text user) (filter_map (group_places text) (line_spans text 0)) in
    ap (pairs_left text None) (slice_is ∙ the_rows (rows_of_member text user) text index.members.items is.members user (λ row. refl))
    ∙ ap (map (pair_in text)) (once_on (rows_of_member text user) text)
    ∙ sym (pairs_at text named)
    ∙ ap (map (λ (g : Group). (g.name, g.gid))) (named_groups text (has_member user) (line_spans text 0) (lines-between text 0 (omega arith)) ∙ ap (λ (lines : List (List ℕ)). filter (has_member user) (filter_map group_of_line lines)) (line_spans-parts text 0))
