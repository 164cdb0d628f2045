-- An exact number of fields, found one after another.
use Rattle.std.proofs.Common.{◌≡◌, ◌≢◌, ℕ, ◌+◌, ◌-◌, ◌<◌, ◌≤◌, Bool, true, false, nat_eq, ◌==◌, if◌then◌else◌, List, [], ◌∷◌, ◌++◌, length, map, take, slice_range, Option, Some, None, refl, sym, ◌∙◌, ap, arith, set, append_assoc, length-append}
use Rattle.std.specs.List.{AllWithin}
use Rattle.std.specs.Option.{option_map}
use Rattle.std.proofs.lemmas.Bool.Decides.{nat_tests}
use Rattle.std.proofs.lemmas.List.{append-nil, length-map, take_all, take_more_set}
use Rattle.std.proofs.lemmas.List.Elements.{AllWithin-more_set}
use Rattle.nsc_base.specs.declared.span.Line.{Line}
use Rattle.nsc_base.specs.declared.span.Span.{Span}
use Rattle.nsc_base.specs.Fields.{exactly}
use Rattle.nsc_base.specs.Text.{IsField, LiesIn, field_spans, fields_between, fields_of, part, spans_of}
use Rattle.nsc_base.proofs.Compare.{is_below, not_below}
use Rattle.nsc_base.proofs.Pieces.{pieces-some}
use Rattle.nsc_base.proofs.Places.{range-length}
use Rattle.nsc_base.proofs.Spans.{field_spans-parts}

-- where the fields stand from a place on
abbrev pub spans_between : ℕ → List ℕ → ℕ → ℕ → List Span
spans_between cut text from to = spans_of from (fields_between cut text from to)

pub spans_left : (cut : ℕ) (text : List ℕ) (within : Span) → within.from ≤ within.to → field_spans cut text within ≡ spans_between cut text within.from within.to
spans_left cut text within ordered = rw (not_below within.to within.from ordered) refl

pub spans_none : (cut : ℕ) (text : List ℕ) (from to : ℕ) → to < from → spans_between cut text from to ≡ []
spans_none cut text from to past = rw (is_below to from past) refl

pub spans_some : (cut : ℕ) (text : List ℕ) (from to : ℕ) → from ≤ to → 0 < length (spans_between cut text from to)
spans_some cut text from to l =
    let some = pieces-some (λ b. b == cut) (slice_range text from to) in
    rw (not_below to from l) (rw some.1.1 (omega arith))

-- one field, and the others
pub field_stands : (cut : ℕ) (text : List ℕ) (within : Span) (from : ℕ) (field : Line) → within.to ≤ length text → IsField cut text within from field → spans_between cut text from within.to ≡ field.span ∷ spans_between cut text field.next within.to
field_stands cut text within from field inside is =
    let size : length (part text field.span) ≡ field.span.to - field.span.from = range-length text field.span.from field.span.to (omega (arith, is.ends)) in
    let stop : from + length (part text field.span) ≡ field.span.to = omega (arith, size, is.begins, is.ordered) in
    let next : from + length (part text field.span) + 1 ≡ field.next = omega (arith, stop, is.next_is) in
    let others = fields_between cut text field.next within.to in
    ap (spans_of from) is.cut_is
    ∙ ap (λ n. record { from = from; to = n } ∷ spans_of (from + length (part text field.span) + 1) others) stop
    ∙ ap (λ n. record { from = n; to = field.span.to } ∷ spans_of (from + length (part text field.span) + 1) others) (sym is.begins)
    ∙ ap (λ n. field.span ∷ spans_of n others) next

-- ---- exactly `n` items

other_count : {A : Type 0} (n : ℕ) (items : List A) → length items ≢ n → exactly n items ≡ None
other_count n items ne =
    let apart : nat_eq (length items) n ≡ false = grind (arith, nat_tests) in
    rw apart refl

same_count : {A : Type 0} (n : ℕ) (items : List A) → length items ≡ n → exactly n items ≡ Some items
same_count n items is =
    let same : nat_eq (length items) n ≡ true = grind (arith, nat_tests) in
    rw same refl

pub too_few : {A : Type 0} (n : ℕ) (all found left : List A) → all ≡ found ++ left → left ≡ [] → length found < n → None ≡ exactly n all
too_few {A} n all found left is none few =
    sym (other_count n all (λ e. omega (arith, ap length is, length-append found left, ap (length {A = A}) none)))

pub too_many : {A : Type 0} (n : ℕ) (all found left : List A) → all ≡ found ++ left → 0 < length left → length found ≡ n → None ≡ exactly n all
too_many n all found left is some enough = sym (other_count n all (λ e. omega (arith, ap length is, length-append found left)))

pub just_enough : {A : Type 0} (n : ℕ) (all found left : List A) → all ≡ found ++ left → left ≡ [] → length found ≡ n → Some found ≡ exactly n all
just_enough {A} n all found left is none enough =
    let whole : all ≡ found = is ∙ ap (λ (l : List A). found ++ l) none ∙ append-nil found in
    ap (λ (l : List A). Some l) (sym whole) ∙ sym (same_count n all (ap length whole ∙ enough))

exactly-map : {A B : Type 0} (f : A → B) (n : ℕ) (items : List A) → option_map (map f) (exactly n items) ≡ exactly n (map f items)
exactly-map {A} {B} f n items =
    ap (λ (m : ℕ). option_map (map f) (if nat_eq m n then Some items else None)) (sym (length-map items f)) ∙ by_test (nat_eq (length (map f items)) n)
  where
    by_test : (v : Bool) → option_map (map f) (if v then Some items else None) ≡ (if v then Some (map f items) else None)
    by_test true = refl
    by_test false = refl

-- the fields that stand in these places
pub fields_there : (cut n : ℕ) (text : List ℕ) (within : Span) (r : Option (List Span)) → r ≡ exactly n (field_spans cut text within) → option_map (map (part text)) r ≡ exactly n (fields_of cut (part text within))
fields_there cut n text within r is =
    ap (option_map (map (part text))) is ∙ exactly-map (part text) n (field_spans cut text within) ∙ ap (exactly n) (field_spans-parts cut text within)

-- ---- one field more is found, and written down

pub stands_more : (cut : ℕ) (text : List ℕ) (within : Span) (from : ℕ) (spans : List Span) (i : ℕ) (field : Line) (all : List Span) → within.to ≤ length text → i < length spans → all ≡ take i spans ++ spans_between cut text from within.to → IsField cut text within from field → all ≡ take (i + 1) (set spans i field.span) ++ spans_between cut text field.next within.to
stands_more cut text within from spans i field all inside l is field_is =
    let others = spans_between cut text field.next within.to in
    is ∙ ap (λ (fs : List Span). take i spans ++ fs) (field_stands cut text within from field inside field_is) ∙ sym (append_assoc (take i spans) (field.span ∷ []) others)
    ∙ ap (λ (fs : List Span). fs ++ others) (sym (take_more_set spans i field.span l))

pub lie_more : (cut : ℕ) (text : List ℕ) (within : Span) (from : ℕ) (spans : List Span) (i : ℕ) (field : Line) → i < length spans → within.from ≤ from → AllWithin (LiesIn within) spans 0 i → IsField cut text within from field → AllWithin (LiesIn within) (set spans i field.span) 0 (i + 1)
lie_more cut text within from spans i field l no_earlier lie is =
    AllWithin-more_set spans i field.span l (LiesIn within) lie (record { begins = omega (arith, is.begins); ordered = omega (arith, is.begins, is.ordered); ends = is.ends })

-- when all are found, what was written down is the whole list
pub all_found : (i n : ℕ) (spans all left : List Span) → length spans ≡ n → n ≤ i → all ≡ take i spans ++ left → all ≡ spans ++ left
all_found i n spans all left size full is = is ∙ ap (λ (found : List Span). found ++ left) (take_all i spans (omega arith))
