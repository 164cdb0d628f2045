-- The places of the lines that speak by a sign, and of those that a request names.
use Rattle.std.proofs.Common.{◌≡◌, ℕ, ◌+◌, ◌≤◌, Bool, true, false, not, ◌==◌, ◌&&◌, ◌||◌, cond, List, [], ◌∷◌, ◌++◌, filter, length, map, Option, Some, None, refl, sym, ◌∙◌, ap, subst, arith}
use Rattle.std.specs.List.{AllByRecursion, flat_map, list_any}
use Rattle.std.specs.List.Sorted.{IsPermutation, IsSortedByKey}
use Rattle.std.specs.Option.{is_some, option_map, option_to_list}
use Rattle.std.specs.Ordering.{nat_cmp}
use Rattle.std.specs.Str.{bytes_eq}
use Rattle.std.specs.Cmp.Lexicographic.{slice_cmp, texts_ties}
use Rattle.std.proofs.lemmas.List.{map-append}
use Rattle.std.proofs.lemmas.List.Elements.{filter-append}
use Rattle.std.proofs.lemmas.List.Folds.{list_any-append}
use Rattle.std.proofs.lemmas.List.Sorted.{list_any-IsPermutation}
use Rattle.nsc_base.specs.declared.search.Case.TheVariants.{Counts}
use Rattle.nsc_base.specs.declared.span.Span.{Span}
use Rattle.nsc_base.specs.Found.{AllBetween}
use Rattle.nsc_base.specs.Text.{is_filled, line_spans, part}
use Rattle.nsc_base.proofs.LineStarts.{lines-between}
use Rattle.nsc_model.specs.Compat.{sayings}
use Rattle.nsc_model.specs.Entries.{if_named}
use Rattle.nsc_accounts.specs.Matters.{sign_name, speaks_on}
use Rattle.nsc_index.specs.declared.names.NameAt.{NameAt}
use Rattle.nsc_index.specs.Indexes.{rows_from}
use Rattle.nsc_index.specs.Names.{has_name, name_in, name_key}
use Rattle.nsc_index.specs.Signs.{Adds, IsSignIndex, begins_one, has_place, named_line, signs_of}
use Rattle.nsc_index.proofs.LineRows.{RowsOf}

-- ---- tests

and_false : (a : Bool) → false ≡ (a && false)
and_false true = refl
and_false false = refl

and_true : (a : Bool) → a ≡ (a && true)
and_true true = refl
and_true false = refl

or_false : (a : Bool) → (a || false) ≡ a
or_false true = refl
or_false false = refl

or_assoc : (a b c : Bool) → ((a || b) || c) ≡ (a || (b || c))
or_assoc true b c = refl
or_assoc false b c = refl

or_swapped : (a b c d : Bool) → ((a || b) || (c || d)) ≡ ((a || c) || (b || d))
or_swapped true b c d = refl
or_swapped false true true d = refl
or_swapped false true false d = refl
or_swapped false false c d = refl

and_or : (a b c : Bool) → ((a && b) || (a && c)) ≡ (a && (b || c))
and_or true b c = refl
and_or false b c = refl

-- one test or the other
pub any_either : {X : Type 0} (p q both : X → Bool) → ((x : X) → (p x || q x) ≡ both x) → (xs : List X) → (list_any p xs || list_any q xs) ≡ list_any both xs
any_either p q both is [] = refl
any_either p q both is (x ∷ xs) = or_swapped (p x) (list_any p xs) (q x) (list_any q xs) ∙ ap (λ v. v || (list_any p xs || list_any q xs)) (is x) ∙ ap (λ v. both x || v) (any_either p q both is xs)

-- ---- places that are added one after another

pub added_both : (text : List ℕ) (one two : List ℕ → Bool) (old some new : List ℕ) → Adds text one old some → Adds text two some new → Adds text (λ line. one line || two line) old new
added_both text one two old some new first second place =
    second place ∙ ap (λ v. v || begins_one text two place) (first place) ∙ or_assoc (has_place old place) (begins_one text one place) (begins_one text two place)
    ∙ ap (λ v. has_place old place || v)
    (any_either (λ (line : Span). (line.from == place) && one (part text line)) (λ line. (line.from == place) && two (part text line)) (λ line. (line.from == place) && (one (part text line) || two (part text line)))
    (λ line. and_or (line.from == place) (one (part text line)) (two (part text line))) (line_spans text 0))

pub added_to_none : (text : List ℕ) (one two : List ℕ → Bool) (empty some new : List ℕ) → empty ≡ [] → Adds text one empty some → Adds text two some new → Adds text (λ line. one line || two line) [] new
added_to_none text one two empty some new is first second = subst (λ (old : List ℕ). Adds text (λ line. one line || two line) old new) is (added_both text one two empty some new first second)

-- none is added
pub added_none : (text : List ℕ) (test : List ℕ → Bool) (old : List ℕ) → ((line : List ℕ) → test line ≡ false) → Adds text test old old
added_none text test old none place = sym (ap (λ v. has_place old place || v) (no_line (line_spans text 0)) ∙ or_false (has_place old place)) where
  no_line : (lines : List Span) → list_any (λ line. (line.from == place) && test (part text line)) lines ≡ false
  no_line [] = refl
  no_line (line ∷ lines) = ap (λ v. ((line.from == place) && v) || list_any (λ l. (l.from == place) && test (part text l)) lines) (none (part text line)) ∙ ap (λ v. v || list_any (λ l. (l.from == place) && test (part text l)) lines) (sym (and_false (line.from == place))) ∙ no_line lines

-- ---- the lines whose entries are named

module _ {A X : Type 0} {places : Span → Option A} {names : A → Bool} {rows_of : Span → List X} {passes : X → Bool} {line_of : X → ℕ} (is : RowsOf places names rows_of passes line_of) (text : List ℕ) (test : List ℕ → Bool)
    (agree : (line : Span) → line.from ≤ line.to → line.to ≤ length text → is_some (if_named names (places line)) ≡ test (part text line)) (n : ℕ) where
  all_begin_there : (start : ℕ) (row : X) (rows : List X) → AllByRecursion (λ row. line_of row ≡ start) (row ∷ rows) → has_place (map line_of (row ∷ rows)) n ≡ (start == n)
  all_begin_there start row [] there = or_false (line_of row == n) ∙ ap (λ k. k == n) there.0
  all_begin_there start row (next ∷ rows) there =
      ap (λ k. (k == n) || has_place (map line_of (next ∷ rows)) n) there.0 ∙ ap (λ v. (start == n) || v) (all_begin_there start next rows there.1) ∙ or_same (start == n) where
        or_same : (a : Bool) → (a || a) ≡ a
        or_same true = refl
        or_same false = refl

  on_one : (line : Span) → line.from ≤ line.to → line.to ≤ length text → has_place (map line_of (filter passes (rows_of line))) n ≡ ((line.from == n) && test (part text line))
  on_one line ordered ends =
      elim (filter passes (rows_of line)) as (λ front. filter passes (rows_of line) ≡ front → AllByRecursion (λ row. line_of row ≡ line.from) front → has_place (map line_of front) n ≡ ((line.from == n) && test (part text line))) [
        | [] ↦ λ none there.
            let fails : test (part text line) ≡ false = sym (agree line ordered ends) ∙ ap is_some (is.none line none) in
            and_false (line.from == n) ∙ ap (λ v. (line.from == n) && v) (sym fails)
        | row ∷ rows ↦ λ some there.
            let entry = is.some line row rows some in
            let named : is_some (if_named names (places line)) ≡ true = ap (λ o. is_some (if_named names o)) entry.1.0 ∙ ap (λ v. is_some (cond v (Some entry.0) None)) entry.1.1 in
            let holds : test (part text line) ≡ true = sym (agree line ordered ends) ∙ named in
            all_begin_there line.from row rows there ∙ and_true (line.from == n) ∙ ap (λ v. (line.from == n) && v) (sym holds)
      ] refl (is.there line)

  on_all : (from : ℕ) (lines : List Span) → AllBetween from (length text + 1) lines → has_place (map line_of (filter passes (flat_map rows_of lines))) n ≡ list_any (λ line. (line.from == n) && test (part text line)) lines
  on_all from [] between = refl
  on_all from (line ∷ lines) between =
      let others = flat_map rows_of lines in
      ap (λ rows. has_place (map line_of rows) n) (filter-append passes (rows_of line) others)
      ∙ ap (λ (ps : List ℕ). has_place ps n) (map-append line_of (filter passes (rows_of line)) (filter passes others))
      ∙ list_any-append (λ p. p == n) (map line_of (filter passes (rows_of line))) (map line_of (filter passes others))
      ∙ ap (λ v. v || has_place (map line_of (filter passes others)) n) (on_one line between.1 (omega (arith, between.2)))
      ∙ ap (λ v. ((line.from == n) && test (part text line)) || v) (on_all from lines between.3)

-- the places of the rows that pass are those of these lines
pub added_rows : {A X : Type 0} {places : Span → Option A} {names : A → Bool} {rows_of : Span → List X} {passes : X → Bool} {line_of : X → ℕ} (is : RowsOf places names rows_of passes line_of) (text : List ℕ) (test : List ℕ → Bool)
    → ((line : Span) → line.from ≤ line.to → line.to ≤ length text → is_some (if_named names (places line)) ≡ test (part text line)) → (old new : List ℕ) (rows : List X) → new ≡ old ++ map line_of rows → rows ≡ filter passes (rows_from rows_of text 0) → Adds text test old new
added_rows {passes = passes} {line_of = line_of} is text test agree old new rows new_is rows_is place =
    ap (λ (ps : List ℕ). has_place ps place) new_is ∙ list_any-append (λ p. p == place) old (map line_of rows)
    ∙ ap (λ v. has_place old place || v) (ap (λ rs. has_place (map line_of rs) place) rows_is ∙ on_all is text test agree place 0 (line_spans text 0) (lines-between text 0 (omega arith)))

-- ---- the lines that speak by a sign

pub sign_index : (text : List ℕ) (rows index : List NameAt) → IsPermutation rows index → IsSortedByKey (name_key Counts text) (slice_cmp nat_cmp) index → map (named_line text) rows ≡ rows_from (signs_of text) text 0 → IsSignIndex text index
sign_index text rows index moved ordered are = record {
  ordered = ordered;
  same = λ test. any_mapped test index ∙ sym (list_any-IsPermutation (λ at. test (named_line text at)) rows index moved) ∙ sym (any_mapped test rows) ∙ ap (list_any test) are;
} where
  any_mapped : (test : List ℕ × ℕ → Bool) (xs : List NameAt) → list_any test (map (named_line text) xs) ≡ list_any (λ at. test (named_line text at)) xs
  any_mapped test [] = refl
  any_mapped test (x ∷ xs) = ap (λ v. test (named_line text x) || v) (any_mapped test xs)

module _ (text : List ℕ) (these : List ℕ → Bool) (n : ℕ) where
  -- a name that counts, of the line that begins at the place
  abbrev pub at_place : List ℕ × ℕ → Bool
  at_place row = (row.1 == n) && (not (is_filled row.0) || these row.0)

  sign_lines : (lines : List Span) → list_any at_place (flat_map (signs_of text) lines) ≡ list_any (λ line. (line.from == n) && speaks_on these (sign_name (sayings (part text line)))) lines
  sign_lines [] = refl
  sign_lines (line ∷ lines) =
      list_any-append at_place (signs_of text line) (flat_map (signs_of text) lines)
      ∙ ap (λ v. v || list_any at_place (flat_map (signs_of text) lines)) (one_line (sign_name (sayings (part text line))))
      ∙ ap (λ v. ((line.from == n) && speaks_on these (sign_name (sayings (part text line)))) || v) (sign_lines lines) where
        one_line : (o : Option (List ℕ)) → list_any at_place (option_to_list (option_map (λ name. (name, line.from)) o)) ≡ ((line.from == n) && speaks_on these o)
        one_line None = and_false (line.from == n)
        one_line (Some name) = or_false ((line.from == n) && (not (is_filled name) || these name))

  pub signs_there : (index : List NameAt) → IsSignIndex text index → list_any at_place (map (named_line text) index) ≡ begins_one text (λ line. speaks_on these (sign_name (sayings line))) n
  signs_there index is = is.same at_place ∙ sign_lines (line_spans text 0)

-- all of them
pub all_signs : (text : List ℕ) (index : List NameAt) → IsSignIndex text index → (old new : List ℕ) → new ≡ old ++ map (λ (at : NameAt). at.line) index → Adds text (λ line. speaks_on (λ other. true) (sign_name (sayings line))) old new
all_signs text index is old new new_is place =
    ap (λ (ps : List ℕ). has_place ps place) new_is ∙ list_any-append (λ p. p == place) old (map (λ (at : NameAt). at.line) index)
    ∙ ap (λ v. has_place old place || v) (each index ∙ signs_there text (λ other. true) place index is) where
      always : (name : List ℕ) → (not (is_filled name) || true) ≡ true
      always [] = refl
      always (b ∷ name) = refl

      each : (rows : List NameAt) → has_place (map (λ (at : NameAt). at.line) rows) place ≡ list_any (at_place text (λ other. true) place) (map (named_line text) rows)
      each [] = refl
      each (at ∷ rows) = ap (λ v. v || has_place (map (λ (row : NameAt). row.line) rows) place) (and_true (at.line == place) ∙ ap (λ v. (at.line == place) && v) (sym (always (name_in text at)))) ∙ ap (λ v. ((at.line == place) && (not (is_filled (name_in text at)) || true)) || v) (each rows)

-- those of a name, and those of every name
pub named_signs : (text name : List ℕ) (index : List NameAt) → IsSignIndex text index → (old some new : List ℕ) (own every : List NameAt) → own ≡ filter (has_name Counts text name) index → every ≡ filter (has_name Counts text []) index
    → some ≡ old ++ map (λ (at : NameAt). at.line) own → new ≡ some ++ map (λ (at : NameAt). at.line) every → Adds text (λ line. speaks_on (λ other. bytes_eq other name) (sign_name (sayings line))) old new
named_signs text name index is old some new own every own_is every_is some_is new_is place =
    ap (λ (ps : List ℕ). has_place ps place) new_is ∙ list_any-append (λ p. p == place) some (map (λ (at : NameAt). at.line) every)
    ∙ ap (λ v. v || has_place (map (λ (at : NameAt). at.line) every) place) (ap (λ (ps : List ℕ). has_place ps place) some_is ∙ list_any-append (λ p. p == place) old (map (λ (at : NameAt). at.line) own))
    ∙ or_assoc (has_place old place) (has_place (map (λ (at : NameAt). at.line) own) place) (has_place (map (λ (at : NameAt). at.line) every) place)
    ∙ ap (λ v. has_place old place || v)
    (ap (λ (rows : List NameAt). has_place (map (λ (at : NameAt). at.line) rows) place || has_place (map (λ (at : NameAt). at.line) every) place) own_is
    ∙ ap (λ (rows : List NameAt). has_place (map (λ (at : NameAt). at.line) (filter (has_name Counts text name) index)) place || has_place (map (λ (at : NameAt). at.line) rows) place) every_is
    ∙ each index ∙ signs_there text (λ other. bytes_eq other name) place index is) where
      of_name : (key : List ℕ) (rows : List NameAt) → has_place (map (λ (at : NameAt). at.line) (filter (has_name Counts text key) rows)) place ≡ list_any (λ at. (at.line == place) && bytes_eq (name_in text at) key) rows
      of_name key [] = refl
      of_name key (at ∷ rows) =
          elim (has_name Counts text key at) as (λ v. bytes_eq (name_in text at) key ≡ v → has_place (map (λ (row : NameAt). row.line) (cond v (at ∷ filter (has_name Counts text key) rows) (filter (has_name Counts text key) rows))) place ≡ (((at.line == place) && bytes_eq (name_in text at) key) || list_any (λ row. (row.line == place) && bytes_eq (name_in text row) key) rows)) [
            | true ↦ λ e. ap (λ v. v || has_place (map (λ (row : NameAt). row.line) (filter (has_name Counts text key) rows)) place) (and_true (at.line == place) ∙ ap (λ v. (at.line == place) && v) (sym e)) ∙ ap (λ v. ((at.line == place) && bytes_eq (name_in text at) key) || v) (of_name key rows)
            | false ↦ λ e. of_name key rows ∙ ap (λ v. v || list_any (λ row. (row.line == place) && bytes_eq (name_in text row) key) rows) (and_false (at.line == place) ∙ ap (λ v. (at.line == place) && v) (sym e))
          ] (texts_ties (name_in text at) key)

      empty_is : (key : List ℕ) → bytes_eq key [] ≡ not (is_filled key)
      empty_is [] = refl
      empty_is (b ∷ key) = refl

      or_turned : (a b : Bool) → (a || b) ≡ (b || a)
      or_turned true true = refl
      or_turned true false = refl
      or_turned false true = refl
      or_turned false false = refl

      mapped : (test : List ℕ × ℕ → Bool) (rows : List NameAt) → list_any (λ at. test (named_line text at)) rows ≡ list_any test (map (named_line text) rows)
      mapped test [] = refl
      mapped test (at ∷ rows) = ap (λ v. test (named_line text at) || v) (mapped test rows)

      each : (rows : List NameAt) → (has_place (map (λ (at : NameAt). at.line) (filter (has_name Counts text name) rows)) place || has_place (map (λ (at : NameAt). at.line) (filter (has_name Counts text []) rows)) place) ≡ list_any (at_place text (λ other. bytes_eq other name) place) (map (named_line text) rows)
      each rows =
          ap (λ v. v || has_place (map (λ (at : NameAt). at.line) (filter (has_name Counts text []) rows)) place) (of_name name rows)
          ∙ ap (λ v. list_any (λ at. (at.line == place) && bytes_eq (name_in text at) name) rows || v) (of_name [] rows)
          ∙ any_either (λ (at : NameAt). (at.line == place) && bytes_eq (name_in text at) name) (λ at. (at.line == place) && bytes_eq (name_in text at) []) (λ at. at_place text (λ other. bytes_eq other name) place (named_line text at))
          (λ at.
          and_or (at.line == place) (bytes_eq (name_in text at) name) (bytes_eq (name_in text at) [])
          ∙ ap (λ v. (at.line == place) && v) (or_turned (bytes_eq (name_in text at) name) (bytes_eq (name_in text at) []) ∙ ap (λ v. v || bytes_eq (name_in text at) name) (empty_is (name_in text at)))) rows
          ∙ mapped (at_place text (λ other. bytes_eq other name) place) rows

-- ---- whether an entry is named

pub some_mapped : {A B : Type 0} (f : A → B) (o : Option A) → is_some (option_map f o) ≡ is_some o
some_mapped f None = refl
some_mapped f (Some a) = refl

pub none_named : {A : Type 0} (o : Option A) → is_some (if_named (λ a. false) o) ≡ false
none_named None = refl
none_named (Some a) = refl
