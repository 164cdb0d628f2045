-- Rows of the lines of a text, and the first line that a request names.
use Rattle.std.proofs.Common.{◌≡◌, ℕ, ◌+◌, Bool, true, false, cond, if◌then◌else◌, List, [], ◌∷◌, ◌++◌, length, drop, drop-cons, filter, get_or, map, suc, ◌<◌, ◌&&◌, Option, Some, None, option_and_then, refl, sym, ◌∙◌, ap, subst, append_assoc, add-one, arith, ◌==◌}
use Rattle.std.specs.List.{AllByRecursion, cons_option, filter_map, flat_map, slice_get}
use Rattle.std.specs.declared.cmp.Ordering.{Ordering}
use Rattle.std.specs.Ordering.{is_eq}
use Rattle.std.specs.Option.{option_map, option_or, option_to_list}
use Rattle.std.proofs.lemmas.List.{append-nil, drop-drop}
use Rattle.std.proofs.lemmas.List.Elements.{filter-append, filter_agree}
use Rattle.nsc_base.specs.declared.span.Line.{Line}
use Rattle.nsc_base.specs.declared.span.Span.{Span}
use Rattle.nsc_base.specs.Found.{FirstOf, here, later, nowhere}
use Rattle.nsc_base.specs.Text.{IsLine, line_spans, lines_of, onto_first, part, spans_of}
use Rattle.nsc_base.proofs.LineStarts.{no_lines}
use Rattle.nsc_base.proofs.Spans.{line_spans-parts}
use Rattle.nsc_model.proofs.Firsts.{first_step}
use Rattle.nsc_model.specs.Entries.{first_named, first_of, if_named}
use Rattle.nsc_index.specs.Indexes.{Indexes, line_entry, on_line, rows_from}

-- ---- row by row

-- one more before others, where it is named
pub named_step : {A : Type 0} (names : A → Bool) (o : Option A) (others : List A) → filter names (cons_option o others) ≡ cons_option (if_named names o) (filter names others)
named_step names None others = refl
named_step names (Some x) others =
    elim (names x) as (λ v. cond v (x ∷ filter names others) (filter names others) ≡ cons_option (cond v (Some x) None) (filter names others)) [
      | true ↦ refl
      | false ↦ refl
    ]

module _ {X : Type 0} (rows_of : Span → List X) (text : List ℕ) where
  -- the rows of a line come before those of the lines after it
  pub rows_more : (from : ℕ) (line : Line) (rows new all : List X) → IsLine text from line → new ≡ rows_of line.span → rows ++ rows_from rows_of text from ≡ all → (rows ++ new) ++ rows_from rows_of text line.next ≡ all
  rows_more from line rows new all is given left =
      append_assoc rows new (rows_from rows_of text line.next)
      ∙ ap (λ some. rows ++ (some ++ rows_from rows_of text line.next)) given
      ∙ ap (λ spans. rows ++ flat_map rows_of spans) (sym is.stands)
      ∙ left

  -- and at the end of the text there are none
  pub rows_end : (from : ℕ) (rows all : List X) → from ≡ length text → rows ++ rows_from rows_of text from ≡ all → rows ≡ all
  rows_end from rows all last left = sym (append-nil rows) ∙ ap (λ spans. rows ++ flat_map rows_of spans) (sym (no_lines text from last)) ∙ left

-- ---- the line that begins at a place

drop-next : (n b : ℕ) (bytes : List ℕ) → drop (n + 1) (b ∷ bytes) ≡ drop n bytes
drop-next n b bytes = ap (λ m. drop m (b ∷ bytes)) (add-one n)

onto-filled : (b : ℕ) (pieces : List (List ℕ)) → onto_first b pieces ≡ [] → ⊥
onto-filled b [] is = cc
onto-filled b (piece ∷ pieces) is = cc

no_bytes : (bytes : List ℕ) → lines_of bytes ≡ [] → bytes ≡ []
no_bytes [] is = refl
no_bytes (b ∷ bytes) is =
    elim (b == 10) as (λ v. (if v then [] ∷ lines_of bytes else onto_first b (lines_of bytes)) ≡ [] → b ∷ bytes ≡ []) [
      | true ↦ λ e. cc
      | false ↦ λ e. absurd (onto-filled b (lines_of bytes) e)
    ] is

-- the lines after the first one
lines_next : (bytes piece : List ℕ) (others : List (List ℕ)) → lines_of bytes ≡ piece ∷ others → lines_of (drop (length piece + 1) bytes) ≡ others
lines_next [] piece others is = cc
lines_next (b ∷ bytes) piece others is =
    elim (b == 10) as (λ v. (if v then [] ∷ lines_of bytes else onto_first b (lines_of bytes)) ≡ piece ∷ others → lines_of (drop (length piece + 1) (b ∷ bytes)) ≡ others) [
      | true ↦ λ e.
          let empty : [] ≡ piece = cc in
          let rest : lines_of bytes ≡ others = cc in
          ap (λ (p : List ℕ). lines_of (drop (length p + 1) (b ∷ bytes))) (sym empty) ∙ rest
      | false ↦ λ e. elim (lines_of bytes) as (λ ls. lines_of bytes ≡ ls → onto_first b ls ≡ piece ∷ others → lines_of (drop (length piece + 1) (b ∷ bytes)) ≡ others) [
        | [] ↦ λ none is_one.
            let one : b ∷ [] ≡ piece = cc in
            let rest : [] ≡ others = cc in
            ap (λ (p : List ℕ). lines_of (drop (length p + 1) (b ∷ bytes))) (sym one) ∙ ap (λ (ys : List ℕ). lines_of (drop 1 ys)) (no_bytes bytes none) ∙ rest
        | first ∷ more ↦ λ some is_more.
            let front : b ∷ first ≡ piece = cc in
            let rest : more ≡ others = cc in
            let size : length (b ∷ first) ≡ length first + 1 = omega arith in
            ap (λ (p : List ℕ). lines_of (drop (length p + 1) (b ∷ bytes))) (sym front) ∙ ap lines_of (drop-next (length (b ∷ first)) b bytes) ∙ ap (λ m. lines_of (drop m bytes)) size ∙ lines_next bytes first more some ∙ rest
      ] refl e
    ] is

-- each of these lines is the first one of those from its own place on
abbrev pub AllBegin : List ℕ → List Span → Type 0
AllBegin text [] = Unit {0}
AllBegin text (line ∷ others) = ((after : List Span) × (line_spans text line.from ≡ line ∷ after)) × AllBegin text others

begins : (text : List ℕ) (at : ℕ) (pieces : List (List ℕ)) → lines_of (drop at text) ≡ pieces → AllBegin text (spans_of at pieces)
begins text at [] is = tt
begins text at (piece ∷ pieces) is =
    let step : drop (length piece + 1) (drop at text) ≡ drop (at + length piece + 1) text = drop-drop (length piece + 1) at text ∙ ap (λ m. drop m text) (omega arith) in
    let next : lines_of (drop (at + length piece + 1) text) ≡ pieces = ap lines_of (sym step) ∙ lines_next (drop at text) piece pieces is in
    ((spans_of (at + length piece + 1) pieces, ap (spans_of at) is), begins text (at + length piece + 1) pieces next)

pub all_begin : (text : List ℕ) → AllBegin text (line_spans text 0)
all_begin text = begins text 0 (lines_of (drop 0 text)) refl

-- what the line gives that begins where another one of the text does
pub on_first : {A : Type 0} (gives : Span → Option A) (text : List ℕ) (place : ℕ) (line : Span) (others : List Span) → line_spans text place ≡ line ∷ others → on_line gives text place ≡ gives line
on_first gives text place line others is = ap (λ (spans : List Span). option_and_then gives (first_of spans)) is

-- ---- lines that are named

-- where `places` gives the entry of a line: a line has rows that pass exactly where its entry is named, and each says where it begins
pub record RowsOf {A X : Type 0} (places : Span → Option A) (names : A → Bool) (rows_of : Span → List X) (passes : X → Bool) (line_of : X → ℕ) : Type 0 where
  pub none : (line : Span) → filter passes (rows_of line) ≡ [] → if_named names (places line) ≡ None
  pub some : (line : Span) (row : X) (rows : List X) → filter passes (rows_of line) ≡ row ∷ rows → (entry : A) × ((places line ≡ Some entry) × (names entry ≡ true))
  pub there : (line : Span) → AllByRecursion (λ row. line_of row ≡ line.from) (filter passes (rows_of line))

-- a row for each line that has an entry
pub one_row : {A X : Type 0} (places : Span → Option A) (names : A → Bool) (row_of : Span → A → X) (passes : X → Bool) (line_of : X → ℕ) → ((line : Span) (a : A) → passes (row_of line a) ≡ names a) → ((line : Span) (a : A) → line_of (row_of line a) ≡ line.from)
    → RowsOf places names (λ line. option_to_list (option_map (row_of line) (places line))) passes line_of
one_row {A} {X} places names row_of passes line_of agree there = record {
  none = λ line. elim (places line) as (λ o. filter passes (option_to_list (option_map (row_of line) o)) ≡ [] → if_named names o ≡ None) [
    | None ↦ λ e. refl
    | Some a ↦ elim (names a) as (λ v. passes (row_of line a) ≡ v → cond (passes (row_of line a)) (row_of line a ∷ []) [] ≡ [] → (if v then Some a else None) ≡ None) [
      | true ↦ λ p e. let filled : row_of line a ∷ [] ≡ [] = ap (λ v. cond v (row_of line a ∷ []) []) (sym p) ∙ e in cc
      | false ↦ λ p e. refl
    ] (agree line a)
  ];
  some = λ line row rows. elim (places line) as (λ o. filter passes (option_to_list (option_map (row_of line) o)) ≡ row ∷ rows → (entry : A) × ((o ≡ Some entry) × (names entry ≡ true))) [
    | None ↦ λ e. cc
    | Some a ↦ elim (names a) as (λ v. passes (row_of line a) ≡ v → names a ≡ v → cond (passes (row_of line a)) (row_of line a ∷ []) [] ≡ row ∷ rows → (entry : A) × ((Some a ≡ Some entry) × (names entry ≡ true))) [
      | true ↦ λ p n e. (a, (refl, n))
      | false ↦ λ p n e. let none : [] ≡ row ∷ rows = ap (λ v. cond v (row_of line a ∷ []) []) (sym p) ∙ e in cc
    ] (agree line a) refl
  ];
  there = λ line. elim (places line) as (λ o. AllByRecursion (λ row. line_of row ≡ line.from) (filter passes (option_to_list (option_map (row_of line) o)))) [
    | None ↦ tt
    | Some a ↦ elim (passes (row_of line a)) as (λ v. AllByRecursion (λ row. line_of row ≡ line.from) (cond v (row_of line a ∷ []) [])) [
      | true ↦ (there line a, tt)
      | false ↦ tt
    ]
  ];
}

-- a list with some of its elements once more, right after themselves
pub data Repeats {A : Type 0} : List A → List A → Type 0 where
  nothing : Repeats [] []
  once : (x : A) (xs ys : List A) → Repeats xs ys → Repeats (x ∷ xs) (x ∷ ys)
  again : (x : A) (xs ys : List A) → Repeats (x ∷ xs) ys → Repeats (x ∷ x ∷ xs) ys

-- the first that passes a test is the same
pub first_repeated : {A : Type 0} (test : A → Bool) (xs ys : List A) → Repeats xs ys → first_of (filter test xs) ≡ first_of (filter test ys)
first_repeated test xs ys nothing = refl
first_repeated test zs ws (once x xs ys more) =
    elim (test x) as (λ v. first_of (cond v (x ∷ filter test xs) (filter test xs)) ≡ first_of (cond v (x ∷ filter test ys) (filter test ys))) [
      | true ↦ refl
      | false ↦ first_repeated test xs ys more
    ]
first_repeated test zs ws (again x xs ys more) =
    elim (test x) as (λ v. first_of (cond v (x ∷ filter test xs) (filter test xs)) ≡ first_of (filter test ys) → first_of (cond v (x ∷ cond v (x ∷ filter test xs) (filter test xs)) (cond v (x ∷ filter test xs) (filter test xs))) ≡ first_of (filter test ys)) [
      | true ↦ λ same. same
      | false ↦ λ same. same
    ] (first_repeated test (x ∷ xs) ys more)

-- ---- row after row, up to the first whose entry passes a test

module _ {A X : Type 0} (entry : X → Option A) (test : A → Bool) where
  abbrev pub first_left : List X → Option A
  first_left rows = first_of (filter test (filter_map entry rows))

  left_more : (rows : List X) (i : ℕ) (row : X) → i < length rows → row ≡ get_or rows i row → first_left (drop i rows) ≡ option_or (if_named test (entry row)) (first_left (drop (i + 1) rows))
  left_more rows i row below is =
      let cut : drop i rows ≡ row ∷ drop (i + 1) rows = drop-cons rows i row below ∙ ap (λ x. x ∷ drop (suc i) rows) (sym is) ∙ ap (λ n. row ∷ drop n rows) (sym (add-one i)) in
      ap first_left cut ∙ first_step test (entry row) (filter_map entry (drop (i + 1) rows))

  pub left_next : (rows : List X) (i : ℕ) (row : X) (all : Option A) → i < length rows → row ≡ get_or rows i row → if_named test (entry row) ≡ None → first_left (drop i rows) ≡ all → first_left (drop (i + 1) rows) ≡ all
  left_next rows i row all below is none left = sym (left_more rows i row below is ∙ ap (λ o. option_or o (first_left (drop (i + 1) rows))) none) ∙ left

  pub left_here : (rows : List X) (i : ℕ) (row : X) (a : A) (all : Option A) → i < length rows → row ≡ get_or rows i row → if_named test (entry row) ≡ Some a → first_left (drop i rows) ≡ all → Some a ≡ all
  left_here rows i row a all below is some left = sym (left_more rows i row below is ∙ ap (λ o. option_or o (first_left (drop (i + 1) rows))) some) ∙ left

filter_twice : {A : Type 0} (test names both : A → Bool) → ((a : A) → both a ≡ (names a && test a)) → (xs : List A) → filter test (filter names xs) ≡ filter both xs
filter_twice test names both is [] = refl
filter_twice test names both is (x ∷ xs) =
    let rest = filter_twice test names both is xs in
    subst (λ v. filter test (filter names (x ∷ xs)) ≡ cond v (x ∷ filter both xs) (filter both xs)) (sym (is x))
    (elim (names x) as (λ n. filter test (cond n (x ∷ filter names xs) (filter names xs)) ≡ cond (n && test x) (x ∷ filter both xs) (filter both xs)) [
      | true ↦ elim (test x) as (λ t. cond t (x ∷ filter test (filter names xs)) (filter test (filter names xs)) ≡ cond t (x ∷ filter both xs) (filter both xs)) [
        | true ↦ ap (λ more. x ∷ more) rest
        | false ↦ rest
      ]
      | false ↦ rest
    ])

pub entries_of : {A : Type 0} (entry_of : List ℕ → Option A) (text : List ℕ) (lines : List Span) → filter_map (line_entry entry_of text) lines ≡ filter_map entry_of (map (part text) lines)
entries_of entry_of text [] = refl
entries_of entry_of text (line ∷ lines) = ap (cons_option (entry_of (part text line))) (entries_of entry_of text lines)

first_get : {X : Type 0} (xs : List X) → slice_get xs 0 ≡ first_of xs
first_get [] = refl
first_get (x ∷ xs) = refl

-- what a line gives, where its entry is named
abbrev pub Gives : {A : Type 0} → (Span → Option A) → (A → Bool) → Span → Option A → Type 0
Gives places names line given = given ≡ if_named names (places line)

module _ {A X : Type 0} {places : Span → Option A} {names : A → Bool} {rows_of : Span → List X} {passes : X → Bool} {line_of : X → ℕ} (is : RowsOf places names rows_of passes line_of) (text : List ℕ) where
  -- the entry of the line of a row
  abbrev pub entry_on : X → Option A
  entry_on row = on_line places text (line_of row)

  found_here : (line : Span) (lines : List Span) (entry : A) (found : Option A) → places line ≡ Some entry → names entry ≡ true → found ≡ places line → FirstOf (Gives places names) (line ∷ lines) found
  found_here line lines entry found has named same =
      let gives : Some entry ≡ if_named names (places line) = sym (ap (if_named names) has ∙ ap (λ v. if v then Some entry else None) named) in
      subst (FirstOf (Gives places names) (line ∷ lines)) (sym (same ∙ has)) (here line lines entry gives)

  first_at : (lines : List Span) → AllBegin text lines → FirstOf (Gives places names) lines (option_and_then entry_on (first_of (filter passes (flat_map rows_of lines))))
  first_at [] begin = nowhere
  first_at (line ∷ lines) begin =
      let rest = flat_map rows_of lines in
      subst (λ rows. FirstOf (Gives places names) (line ∷ lines) (option_and_then entry_on (first_of rows))) (sym (filter-append passes (rows_of line) rest))
      (elim (filter passes (rows_of line)) as (λ front. filter passes (rows_of line) ≡ front → AllByRecursion (λ row. line_of row ≡ line.from) front → FirstOf (Gives places names) (line ∷ lines) (option_and_then entry_on (first_of (front ++ filter passes rest)))) [
        | [] ↦ λ none there. later line lines _ (sym (is.none line none)) (first_at lines begin.1)
        | row ∷ rows ↦ λ some there.
            let entry = is.some line row rows some in
            found_here line lines entry.0 (entry_on row) entry.1.0 entry.1.1 (ap (on_line places text) there.0 ∙ on_first places text line.from line begin.0.0 begin.0.1)
      ] refl (is.there line))

  -- the first row that passes is that of the first line that is named
  pub first_on : FirstOf (Gives places names) (line_spans text 0) (option_and_then entry_on (first_of (filter passes (rows_from rows_of text 0))))
  first_on = first_at (line_spans text 0) (all_begin text)

  -- rows of one line give its entry again and again
  copies : (line : Span) (entry : A) (row : X) (rows more : List X) (ys : List A) → on_line places text line.from ≡ Some entry → AllByRecursion (λ row. line_of row ≡ line.from) (row ∷ rows) → Repeats (filter_map entry_on more) ys → Repeats (filter_map entry_on (row ∷ rows ++ more)) (entry ∷ ys)
  copies line entry row [] more ys has there repeats =
      subst (λ o. Repeats (cons_option o (filter_map entry_on more)) (entry ∷ ys)) (sym (ap (on_line places text) there.0 ∙ has)) (once entry (filter_map entry_on more) ys repeats)
  copies line entry row (next ∷ rows) more ys has there repeats =
      let second : entry_on next ≡ Some entry = ap (on_line places text) there.1.0 ∙ has in
      let others = copies line entry next rows more ys has there.1 repeats in
      let after = filter_map entry_on (rows ++ more) in
      subst (λ o. Repeats (cons_option o (cons_option (entry_on next) after)) (entry ∷ ys)) (sym (ap (on_line places text) there.0 ∙ has))
      (subst (λ o. Repeats (entry ∷ cons_option o after) (entry ∷ ys)) (sym second) (again entry after (entry ∷ ys) (subst (λ o. Repeats (cons_option o after) (entry ∷ ys)) second others)))

  all_at : (lines : List Span) → AllBegin text lines → Repeats (filter_map entry_on (filter passes (flat_map rows_of lines))) (filter names (filter_map places lines))
  all_at [] begin = nothing
  all_at (line ∷ lines) begin =
      let rest = flat_map rows_of lines in
      let others = all_at lines begin.1 in
      let step = named_step names (places line) (filter_map places lines) in
      subst (λ rows. Repeats (filter_map entry_on rows) (filter names (filter_map places (line ∷ lines)))) (sym (filter-append passes (rows_of line) rest))
      (subst (Repeats (filter_map entry_on (filter passes (rows_of line) ++ filter passes rest))) (sym step)
      (elim (filter passes (rows_of line)) as (λ front. filter passes (rows_of line) ≡ front → AllByRecursion (λ row. line_of row ≡ line.from) front → Repeats (filter_map entry_on (front ++ filter passes rest)) (cons_option (if_named names (places line)) (filter names (filter_map places lines)))) [
        | [] ↦ λ none there. subst (λ o. Repeats (filter_map entry_on (filter passes rest)) (cons_option o (filter names (filter_map places lines)))) (sym (is.none line none)) others
        | row ∷ rows ↦ λ some there.
            let entry = is.some line row rows some in
            let named : if_named names (places line) ≡ Some entry.0 = ap (if_named names) entry.1.0 ∙ ap (λ v. if v then Some entry.0 else None) entry.1.1 in
            let has : on_line places text line.from ≡ Some entry.0 = on_first places text line.from line begin.0.0 begin.0.1 ∙ entry.1.0 in
            subst (λ o. Repeats (filter_map entry_on (row ∷ rows ++ filter passes rest)) (cons_option o (filter names (filter_map places lines)))) (sym named) (copies line entry.0 row rows (filter passes rest) (filter names (filter_map places lines)) has there others)
      ] refl (is.there line)))

  -- the rows that pass are those of the lines that are named
  pub all_on : Repeats (filter_map entry_on (filter passes (rows_from rows_of text 0))) (filter names (filter_map places (line_spans text 0)))
  all_on = all_at (line_spans text 0) (all_begin text)

  -- the same by an index of the rows, where those that pass are those of a key
  module _ {K : Type 0} {cmp : K → K → Ordering} {key : X → K} (index : List X) (indexes : Indexes cmp key (rows_from rows_of text 0) index) (k : K) (of_key : (row : X) → is_eq (cmp (key row) k) ≡ passes row) where
    passing : (xs : List X) → filter (λ row. is_eq (cmp (key row) k)) xs ≡ filter passes xs
    passing = filter_agree (λ row. is_eq (cmp (key row) k)) passes of_key

    pub the_rows : filter passes index ≡ filter passes (rows_from rows_of text 0)
    the_rows = sym (passing index) ∙ indexes.same k ∙ passing (rows_from rows_of text 0)

    pub found_on : (slice : List X) (first : Option X) (found : Option A) → slice ≡ filter passes index → first ≡ slice_get slice 0 → found ≡ option_and_then entry_on first → FirstOf (Gives places names) (line_spans text 0) found
    found_on slice first found slice_is is_first on =
        subst (FirstOf (Gives places names) (line_spans text 0)) (sym (on ∙ ap (option_and_then entry_on) (is_first ∙ first_get slice ∙ ap first_of (slice_is ∙ the_rows)))) first_on

    pub all_found : (slice : List X) → slice ≡ filter passes index → Repeats (filter_map entry_on slice) (filter names (filter_map places (line_spans text 0)))
    all_found slice slice_is = subst (λ rows. Repeats (filter_map entry_on rows) (filter names (filter_map places (line_spans text 0)))) (sym (slice_is ∙ the_rows)) all_on

-- the first of the rows of a key whose entry passes a further test
pub first_among : {A X K : Type 0} (entry_of : List ℕ → Option A) (text : List ℕ) {names : A → Bool} {rows_of : Span → List X} {passes : X → Bool} {line_of : X → ℕ} (is : RowsOf (line_entry entry_of text) names rows_of passes line_of) {cmp : K → K → Ordering} {key : X → K} (index : List X)
    → Indexes cmp key (rows_from rows_of text 0) index → (k : K) → ((row : X) → is_eq (cmp (key row) k) ≡ passes row) → (slice : List X) → slice ≡ filter passes index
    → (test both : A → Bool) → ((a : A) → both a ≡ (names a && test a)) → first_left (λ row. on_line (line_entry entry_of text) text (line_of row)) test slice ≡ first_named entry_of both text
first_among entry_of text {names = names} is index indexes k of_key slice slice_is test both test_is =
    first_repeated test _ _ (all_found is text index indexes k of_key slice slice_is)
    ∙ ap first_of (filter_twice test names both test_is (filter_map (line_entry entry_of text) (line_spans text 0)))
    ∙ ap (λ entries. first_of (filter both entries)) (entries_of entry_of text (line_spans text 0) ∙ ap (filter_map entry_of) (line_spans-parts text 0))
