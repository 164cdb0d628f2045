-- Lines whose entries are named, among those that have rows of a number.
use Rattle.std.proofs.Common.{◌≡◌, ℕ, ◌+◌, ◌≤◌, Bool, true, false, ◌==◌, ◌&&◌, ◌||◌, cond, if◌then◌else◌, List, [], ◌∷◌, ◌++◌, length, filter, map, Option, Some, None, option_and_then, suc, refl, sym, ◌∙◌, ap, subst, arith, length-append}
use Rattle.std.specs.List.{flat_map, list_any}
use Rattle.std.specs.Option.{is_some, option_map, option_to_list}
use Rattle.std.specs.Cmp.{unsigned_ties}
use Rattle.std.proofs.lemmas.Bool.Decides.{Decides-eqb}
use Rattle.nsc_base.specs.declared.span.Span.{Span}
use Rattle.nsc_base.specs.Found.{AllBetween, FirstOf, here, later, nowhere}
use Rattle.nsc_base.specs.Text.{line_spans, lines_of, onto_first, part, spans_of}
use Rattle.nsc_base.proofs.LineStarts.{lines-between}
use Rattle.nsc_model.specs.Entries.{first_of, if_named}
use Rattle.nsc_index.specs.declared.numbers.NumberAt.{NumberAt}
use Rattle.nsc_index.specs.Indexes.{lines_named, on_line, rows_from}
use Rattle.nsc_index.specs.Numbers.{has_number, place_of_number}
use Rattle.nsc_index.specs.Signs.{Adds, has_place}
use Rattle.nsc_index.proofs.LineRows.{AllBegin, Gives, all_begin, on_first}

some_given : {A : Type 0} (names : A → Bool) (o : Option A) (a : A) → if_named names o ≡ Some a → o ≡ Some a
some_given names None a is = cc
some_given names (Some x) a is =
    elim (names x) as (λ v. (if v then Some x else None) ≡ Some a → Some x ≡ Some a) [
      | true ↦ λ e. e
      | false ↦ λ e. cc
    ] is

module _ {A : Type 0} (places : Span → Option A) (names : A → Bool) (text : List ℕ) where
  abbrev pub is_named : Span → Bool
  is_named line = is_some (if_named names (places line))

  -- whether the line that begins at a place is named
  abbrev pub named_at : ℕ → Bool
  named_at place = is_some (if_named names (on_line places text place))

  abbrev begins_of : List Span → List ℕ
  begins_of lines = map (λ (line : Span). line.from) (filter is_named lines)

  -- ---- the first of them

  first_there : (lines : List Span) → AllBegin text lines → FirstOf (Gives places names) lines (option_and_then (on_line places text) (first_of (begins_of lines)))
  first_there [] begin = nowhere
  first_there (line ∷ lines) begin =
      elim (if_named names (places line)) as (λ o. if_named names (places line) ≡ o → FirstOf (Gives places names) (line ∷ lines) (option_and_then (on_line places text) (first_of (map (λ (l : Span). l.from) (cond (is_some o) (line ∷ filter is_named lines) (filter is_named lines)))))) [
        | None ↦ λ none. later line lines _ (sym none) (first_there lines begin.1)
        | Some a ↦ λ some.
            let given : on_line places text line.from ≡ Some a = on_first places text line.from line begin.0.0 begin.0.1 ∙ some_given names (places line) a some in
            subst (FirstOf (Gives places names) (line ∷ lines)) (sym given) (here line lines a (sym some))
      ] refl

  pub first_line : (found : Option A) → found ≡ option_and_then (on_line places text) (first_of (lines_named places names text)) → FirstOf (Gives places names) (line_spans text 0) found
  first_line found is = subst (FirstOf (Gives places names) (line_spans text 0)) (sym is) (first_there (line_spans text 0) (all_begin text))

  -- ---- those of the rows of a number

  module _ (mark : Span → Option ℕ) (number : ℕ) (covers : (line : Span) → line.from ≤ line.to → line.to ≤ length text → is_named line ≡ true → mark line ≡ Some number) where
    abbrev rows_of : Span → List NumberAt
    rows_of line = option_to_list (option_map (place_of_number line) (mark line))

    abbrev kept : List NumberAt → List ℕ
    kept rows = filter named_at (map (λ (row : NumberAt). row.line) rows)

    kept_on : (from : ℕ) (lines : List Span) → AllBegin text lines → AllBetween from (length text + 1) lines → kept (filter (has_number number) (flat_map rows_of lines)) ≡ begins_of lines
    kept_on from [] begin between = refl
    kept_on from (line ∷ lines) begin between =
        let rest = filter (has_number number) (flat_map rows_of lines) in
        let others : kept rest ≡ begins_of lines = kept_on _ lines begin.1 between.3 in
        let there : named_at line.from ≡ is_named line = ap (λ o. is_some (if_named names o)) (on_first places text line.from line begin.0.0 begin.0.1) in
        let cover : is_named line ≡ true → mark line ≡ Some number = covers line between.1 (omega (arith, between.2)) in
        elim (mark line) as (λ m. mark line ≡ m → kept (filter (has_number number) (option_to_list (option_map (place_of_number line) m) ++ flat_map rows_of lines)) ≡ begins_of (line ∷ lines)) [
          | None ↦ λ none. elim (is_named line) as (λ v. is_named line ≡ v → kept rest ≡ map (λ (l : Span). l.from) (cond v (line ∷ filter is_named lines) (filter is_named lines))) [
            | true ↦ λ named. let some = cover named in cc
            | false ↦ λ named. others
          ] refl
          | Some n ↦ λ some. elim (has_number number (place_of_number line n)) as (λ v. has_number number (place_of_number line n) ≡ v → kept (cond v (place_of_number line n ∷ rest) rest) ≡ begins_of (line ∷ lines)) [
            | true ↦ λ passes.
                ap (λ v. cond v (line.from ∷ kept rest) (kept rest)) there
                ∙ (elim (is_named line) as (λ v. cond v (line.from ∷ kept rest) (kept rest) ≡ map (λ (l : Span). l.from) (cond v (line ∷ filter is_named lines) (filter is_named lines))) [
                  | true ↦ ap (λ (ps : List ℕ). line.from ∷ ps) others
                  | false ↦ others
                ])
            | false ↦ λ fails. elim (is_named line) as (λ v. is_named line ≡ v → kept rest ≡ map (λ (l : Span). l.from) (cond v (line ∷ filter is_named lines) (filter is_named lines))) [
              | true ↦ λ named.
                  let same : Some n ≡ Some number = sym some ∙ cover named in
                  let value : n ≡ number = cc in
                  let passes : has_number number (place_of_number line n) ≡ true = sym (unsigned_ties n number) ∙ (Decides-eqb n number).1 value in
                  cc
              | false ↦ λ named. others
            ] refl
          ] refl
        ] refl

    -- so the rows of the number give the lines that are named, where those that are not are left out
    pub named_among : (rows : List NumberAt) (lines new : List ℕ) → rows ≡ rows_from rows_of text 0 → lines ≡ map (λ (row : NumberAt). row.line) (filter (has_number number) rows) → new ≡ filter named_at lines → new ≡ lines_named places names text
    named_among rows lines new rows_are lines_are new_is =
        new_is ∙ ap (filter named_at) lines_are ∙ ap (λ (rs : List NumberAt). kept (filter (has_number number) rs)) rows_are
        ∙ kept_on 0 (line_spans text 0) (all_begin text) (lines-between text 0 (omega arith))

  -- ---- their places

  module _ (test : List ℕ → Bool) (agree : (line : Span) → line.from ≤ line.to → line.to ≤ length text → is_named line ≡ test (part text line)) (n : ℕ) where
    place_on : (from : ℕ) (lines : List Span) → AllBetween from (length text + 1) lines → has_place (begins_of lines) n ≡ list_any (λ line. (line.from == n) && test (part text line)) lines
    place_on from [] between = refl
    place_on from (line ∷ lines) between =
        let others = place_on _ lines between.3 in
        let more = list_any (λ line. (line.from == n) && test (part text line)) lines in
        (elim (is_named line) as (λ v. has_place (map (λ (l : Span). l.from) (cond v (line ∷ filter is_named lines) (filter is_named lines))) n ≡ (((line.from == n) && v) || more)) [
          | true ↦ ap (λ v. (line.from == n) || v) others ∙ ap (λ v. v || more) (and_yes (line.from == n))
          | false ↦ others ∙ ap (λ v. v || more) (and_no (line.from == n))
        ])
        ∙ ap (λ v. ((line.from == n) && v) || more) (agree line between.1 (omega (arith, between.2))) where
          and_yes : (a : Bool) → a ≡ (a && true)
          and_yes true = refl
          and_yes false = refl

          and_no : (a : Bool) → false ≡ (a && false)
          and_no true = refl
          and_no false = refl

  -- they are the places at which the lines begin that pass a test
  pub named_added : (test : List ℕ → Bool) → ((line : Span) → line.from ≤ line.to → line.to ≤ length text → is_named line ≡ test (part text line)) → (new : List ℕ) → new ≡ lines_named places names text → Adds text test [] new
  named_added test agree new is place = ap (λ (ps : List ℕ). has_place ps place) is ∙ place_on test agree place 0 (line_spans text 0) (lines-between text 0 (omega arith))

-- where no entry is named, there are none
pub none_named_there : {A : Type 0} (places : Span → Option A) (names : A → Bool) (text : List ℕ) → ((a : A) → names a ≡ false) → lines_named places names text ≡ []
none_named_there {A} places names text none = on (line_spans text 0) where
  unnamed : (o : Option A) → is_some (if_named names o) ≡ false
  unnamed None = refl
  unnamed (Some a) = ap (λ v. is_some (if v then Some a else None)) (none a)

  on : (lines : List Span) → map (λ (line : Span). line.from) (filter (λ line. is_some (if_named names (places line))) lines) ≡ []
  on [] = refl
  on (line ∷ lines) = let others = filter (λ (l : Span). is_some (if_named names (places l))) lines in ap (λ v. map (λ (l : Span). l.from) (cond v (line ∷ others) others)) (unnamed (places line)) ∙ on lines

-- ---- how many rows there are

module _ {X : Type 0} (rows_of : Span → List X) (few : (line : Span) → length (rows_of line) ≤ 1) where
  few_on : (lines : List Span) → length (flat_map rows_of lines) ≤ length lines
  few_on [] = omega arith
  few_on (line ∷ lines) = omega (arith, length-append (rows_of line) (flat_map rows_of lines), few line, few_on lines)

  -- no more rows than bytes
  pub few_rows : (text : List ℕ) (rows : List X) → rows ≡ rows_from rows_of text 0 → length rows ≤ length text
  few_rows text rows is = omega (arith, ap length is, few_on (line_spans text 0), spans_many 0 (lines_of text), lines_few text) where
    spans_many : (at : ℕ) (pieces : List (List ℕ)) → length (spans_of at pieces) ≡ length pieces
    spans_many at [] = refl
    spans_many at (piece ∷ pieces) = ap suc (spans_many (at + length piece + 1) pieces)

    onto_few : (b : ℕ) (pieces : List (List ℕ)) → length (onto_first b pieces) ≤ length pieces + 1
    onto_few b [] = omega arith
    onto_few b (piece ∷ pieces) = omega arith

    lines_few : (bytes : List ℕ) → length (lines_of bytes) ≤ length bytes
    lines_few [] = omega arith
    lines_few (b ∷ bytes) =
        elim (b == 10) as (λ v. length (if v then [] ∷ lines_of bytes else onto_first b (lines_of bytes)) ≤ length (b ∷ bytes)) [
          | true ↦ omega (arith, lines_few bytes)
          | false ↦ omega (arith, onto_few b (lines_of bytes), lines_few bytes)
        ]

pub one_at_most : {X : Type 0} (o : Option X) → length (option_to_list o) ≤ 1
one_at_most None = omega arith
one_at_most (Some x) = omega arith
