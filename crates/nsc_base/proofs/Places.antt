-- What the places that a search gives say of the lines, fields and words of a text.
use Rattle.std.proofs.Common.{◌≡◌, ℕ, ◌+◌, ◌-◌, ◌<◌, ◌≤◌, Bool, true, false, ◌==◌, List, [], ◌∷◌, ◌++◌, length, map, take, drop, slice_range, get_or, Some, None, refl, sym, ◌∙◌, ap, subst, arith, add-one, length-drop}
use Rattle.std.specs.List.{list_any}
use Rattle.std.proofs.lemmas.List.{take-append-drop, take-take, drop_all, drop-take, drop-drop, length-take, length-take-le, get_or-take, get_or-drop, take_rest}
use Rattle.std.proofs.Math.Seq.{drop-cons, drop-length}
use Rattle.std.proofs.lemmas.Bool.{eqb-true}
use Rattle.memchr.specs.Find.{IsFirstByte, Passes, Nowhere, is_byte}
use Rattle.nsc_base.specs.declared.span.Span.{Span}
use Rattle.nsc_base.specs.declared.span.Line.{Line}
use Rattle.nsc_base.specs.Text.{pieces, lines_of, is_white, words_of, part, spans_of, fields_between, IsLine, IsField, IsWord, word_spans}
use Rattle.nsc_base.proofs.Compare.{not_below, is_below}
use Rattle.nsc_base.proofs.Pieces.{none_cuts, pieces-last, pieces-first, lines-last, lines-first}
use Rattle.nsc_base.proofs.Spans.{word_spans-parts, worded, worded-first, worded-skip, words-are}

pub not_true : (b : Bool) → (b ≡ true → ⊥) → b ≡ false
not_true true h = absurd (h refl)
not_true false h = refl

pub not_false : (b : Bool) → (b ≡ false → ⊥) → b ≡ true
not_false true h = refl
not_false false h = absurd (h refl)

-- a list around one of its items
pub split_at : (xs : List ℕ) (n : ℕ) → n < length xs → xs ≡ take n xs ++ get_or xs n 0 ∷ drop (n + 1) xs
split_at xs n l =
    let rest : drop n xs ≡ get_or xs n 0 ∷ drop (n + 1) xs = rw add-one (drop-cons xs n 0 l) in
    sym (take-append-drop n xs) ∙ ap (λ ys. take n xs ++ ys) rest

-- no byte before a place passes the test
before_place : (test : ℕ → Bool) (xs : List ℕ) (n : ℕ) → n ≤ length xs → Nowhere (Passes test xs) 0 n → list_any test (take n xs) ≡ false
before_place test xs n l nowhere =
    let len = length-take-le n xs l in
    none_cuts test (take n xs) (λ k h.
    let below : k < n = omega (arith, len) in
    rw (get_or-take n xs k 0 below) (not_true _ (nowhere k (omega arith) below)))

pub pieces-found : (test : ℕ → Bool) (xs : List ℕ) (n : ℕ) → IsFirstByte test xs (Some n) → pieces test xs ≡ take n xs ∷ pieces test (drop (n + 1) xs)
pieces-found test xs n found =
    let bound : n < length xs = found.0.high in
    let none : list_any test (take n xs) ≡ false = before_place test xs n (omega arith) found.0.before in
    ap (pieces test) (split_at xs n bound) ∙ pieces-first test (take n xs) (get_or xs n 0) (drop (n + 1) xs) none found.1

pub pieces-missing : (test : ℕ → Bool) (xs : List ℕ) → IsFirstByte test xs None → pieces test xs ≡ xs ∷ []
pieces-missing test xs missing =
    pieces-last test xs (none_cuts test xs (λ k h. not_true _ (missing k (omega arith) h)))

lines-found : (xs : List ℕ) (n : ℕ) → IsFirstByte (is_byte 10) xs (Some n) → lines_of xs ≡ take n xs ∷ lines_of (drop (n + 1) xs)
lines-found xs n found =
    let bound : n < length xs = found.0.high in
    let none : list_any (λ b. b == 10) (take n xs) ≡ false = before_place (is_byte 10) xs n (omega arith) found.0.before in
    let newline : get_or xs n 0 ≡ 10 = eqb-true (get_or xs n 0) 10 found.1 in
    ap lines_of (split_at xs n bound ∙ ap (λ b. take n xs ++ b ∷ drop (n + 1) xs) newline) ∙ lines-first (take n xs) (drop (n + 1) xs) none

lines-missing : (xs : List ℕ) → 0 < length xs → IsFirstByte (is_byte 10) xs None → lines_of xs ≡ xs ∷ []
lines-missing [] filled missing = absurd (omega arith)
lines-missing (x ∷ xs) filled missing =
    lines-last x xs (none_cuts (λ b. b == 10) (x ∷ xs) (λ k h. not_true _ (missing k (omega arith) h)))

-- a part of a part from its front, and from a place in it
pub range-take : (xs : List ℕ) (a n b : ℕ) → a + n ≤ b → slice_range xs a (a + n) ≡ take n (slice_range xs a b)
range-take xs a n b l =
    let here : a + n - a ≡ n = omega arith in
    rw here (sym (take-take n (b - a) (drop a xs) (omega arith)))

pub range-drop : (xs : List ℕ) (a n b : ℕ) → a + n ≤ b → slice_range xs (a + n) b ≡ drop n (slice_range xs a b)
range-drop xs a n b l =
    let size : b - a ≡ n + (b - (a + n)) = omega arith in
    sym (ap (λ m. drop n (take m (drop a xs))) size ∙ drop-take n (b - (a + n)) (drop a xs) ∙ ap (take (b - (a + n))) (drop-drop n a xs))

pub range-length : (xs : List ℕ) (a b : ℕ) → b ≤ length xs → length (slice_range xs a b) ≡ b - a
range-length xs a b l = omega (arith, length-take (b - a) (drop a xs), length-drop a xs)

-- where the first piece stands, and where the others begin
spans_step : (from next : ℕ) (piece : List ℕ) (others all : List (List ℕ)) (span : Span) → all ≡ piece ∷ others → span ≡ record { from = from; to = from + length piece } → next ≡ from + length piece + 1 → spans_of from all ≡ span ∷ spans_of next others
spans_step from next piece others all span cut is onward =
    ap (spans_of from) cut ∙ ap (λ (s : Span). s ∷ spans_of (from + length piece + 1) others) (sym is) ∙ ap (λ (n : ℕ). span ∷ spans_of n others) (sym onward)

spans_last : (from : ℕ) (piece : List ℕ) (all : List (List ℕ)) (span : Span) → all ≡ piece ∷ [] → span ≡ record { from = from; to = from + length piece } → spans_of from all ≡ span ∷ []
spans_last from piece all span cut is = ap (spans_of from) cut ∙ ap (λ (s : Span). s ∷ []) (sym is)

pub same_span : (from a b : ℕ) → a ≡ b → let span : Span = record { from = from; to = a } in span ≡ record { from = from; to = b }
same_span from a b is = ap (λ (n : ℕ). let span : Span = record { from = from; to = n } in span) is

pub line-found : (text : List ℕ) (from n : ℕ) (line : Line) → line.span ≡ record { from = from; to = from + n } → line.next ≡ from + n + 1 → IsFirstByte (is_byte 10) (slice_range text from (length text)) (Some n) → IsLine text from line
line-found text from n line spans onward found_there =
    let found : IsFirstByte (is_byte 10) (drop from text) (Some n) = rw (take_rest text from) at found_there in
    let bound : n < length (drop from text) = found.0.high in
    let here : from + n - from ≡ n = omega arith in
    let rest : drop (n + 1) (drop from text) ≡ drop line.next text = drop-drop (n + 1) from text ∙ ap (λ m. drop m text) (omega (arith, onward)) in
    let size : length (part text line.span) ≡ n = ap (λ (s : Span). length (part text s)) spans ∙ range-length text from (from + n) (omega (arith, bound, length-drop from text)) ∙ here in
    let cuts : lines_of (drop from text) ≡ part text line.span ∷ lines_of (drop line.next text) =
    lines-found (drop from text) n found ∙ ap (λ m. take m (drop from text) ∷ lines_of (drop (n + 1) (drop from text))) (sym here) ∙ ap (λ (s : Span). part text s ∷ lines_of (drop (n + 1) (drop from text))) (sym spans) ∙ ap (λ ys. part text line.span ∷ lines_of ys) rest in
    record {
      begins = ap (λ (s : Span). s.from) spans;
      ordered = omega (arith, ap (λ (s : Span). s.to) spans);
      ends = omega (arith, ap (λ (s : Span). s.to) spans, bound, length-drop from text);
      onward = omega (arith, onward);
      next_ends = omega (arith, onward, bound, length-drop from text);
      cut = cuts;
      stands = spans_step from line.next (part text line.span) (lines_of (drop line.next text)) (lines_of (drop from text)) line.span cuts (spans ∙ same_span from (from + n) (from + length (part text line.span)) (omega (arith, size))) (omega (arith, onward, size));
    }

pub line-last : (text : List ℕ) (from : ℕ) (line : Line) → line.span ≡ record { from = from; to = length text } → line.next ≡ length text → from < length text → IsFirstByte (is_byte 10) (slice_range text from (length text)) None → IsLine text from line
line-last text from line spans onward l missing_there =
    let missing : IsFirstByte (is_byte 10) (drop from text) None = rw (take_rest text from) at missing_there in
    let filled : 0 < length (drop from text) = omega (arith, length-drop from text) in
    let none : drop line.next text ≡ [] = ap (λ m. drop m text) onward ∙ drop-length text in
    let size : length (part text line.span) ≡ length text - from = ap (λ (s : Span). length (part text s)) spans ∙ range-length text from (length text) (omega arith) in
    let alone : lines_of (drop from text) ≡ part text line.span ∷ [] =
    lines-missing (drop from text) filled missing ∙ ap (λ ys. ys ∷ []) (sym (take_rest text from)) ∙ ap (λ (s : Span). part text s ∷ []) (sym spans) in
    record {
      begins = ap (λ (s : Span). s.from) spans;
      ordered = omega (arith, ap (λ (s : Span). s.to) spans);
      ends = omega (arith, ap (λ (s : Span). s.to) spans);
      onward = omega (arith, onward);
      next_ends = omega (arith, onward);
      cut = alone ∙ ap (λ ys. part text line.span ∷ lines_of ys) (sym none);
      stands = spans_last from (part text line.span) (lines_of (drop from text)) line.span alone (spans ∙ same_span from (length text) (from + length (part text line.span)) (omega (arith, size))) ∙ ap (λ ys. line.span ∷ spans_of line.next (lines_of ys)) (sym none);
    }

fields_of_part : (cut : ℕ) (text : List ℕ) (from to : ℕ) → from ≤ to → fields_between cut text from to ≡ pieces (is_byte cut) (slice_range text from to)
fields_of_part cut text from to l = rw (not_below to from l) refl

pub field-found : (cut : ℕ) (text : List ℕ) (within : Span) (from n : ℕ) (field : Line) → field.span ≡ record { from = from; to = from + n } → field.next ≡ from + n + 1 → within.to ≤ length text → from ≤ within.to → IsFirstByte (is_byte cut) (slice_range text from within.to) (Some n) → IsField cut text within from field
field-found cut text within from n field spans onward inside before found =
    let size : length (slice_range text from within.to) ≡ within.to - from = range-length text from within.to inside in
    let bound : n < length (slice_range text from within.to) = found.0.high in
    let stops : from + n + 1 ≤ within.to = omega (arith, size, bound) in
    let here = fields_of_part cut text from within.to before in
    let there : fields_between cut text field.next within.to ≡ pieces (is_byte cut) (slice_range text (from + n + 1) within.to) = ap (λ m. fields_between cut text m within.to) onward ∙ fields_of_part cut text (from + n + 1) within.to stops in
    let rest : slice_range text (from + n + 1) within.to ≡ drop (n + 1) (slice_range text from within.to) = ap (λ m. slice_range text m within.to) (omega arith) ∙ range-drop text from (n + 1) within.to (omega arith) in
    let bytes : part text field.span ≡ take n (slice_range text from within.to) = ap (part text) spans ∙ range-take text from n within.to (omega arith) in
    let cuts = pieces-found (is_byte cut) (slice_range text from within.to) n found in
    record {
      begins = ap (λ (s : Span). s.from) spans;
      ordered = omega (arith, ap (λ (s : Span). s.to) spans);
      ends = omega (arith, ap (λ (s : Span). s.to) spans);
      next_is = omega (arith, onward, ap (λ (s : Span). s.to) spans);
      cut_is = here ∙ cuts ∙ ap (λ ys. ys ∷ pieces (is_byte cut) (drop (n + 1) (slice_range text from within.to))) (sym bytes) ∙ ap (λ ys. part text field.span ∷ ys) (sym (there ∙ ap (pieces (is_byte cut)) rest));
    }

pub field-last : (cut : ℕ) (text : List ℕ) (within : Span) (from : ℕ) (field : Line) → field.span ≡ record { from = from; to = within.to } → field.next ≡ within.to + 1 → from ≤ within.to → IsFirstByte (is_byte cut) (slice_range text from within.to) None → IsField cut text within from field
field-last cut text within from field spans onward before missing =
    let here = fields_of_part cut text from within.to before in
    let past : fields_between cut text field.next within.to ≡ [] = rw (onward, is_below within.to (within.to + 1) (omega arith)) refl in
    record {
      begins = ap (λ (s : Span). s.from) spans;
      ordered = omega (arith, ap (λ (s : Span). s.to) spans);
      ends = omega (arith, ap (λ (s : Span). s.to) spans);
      next_is = omega (arith, onward, ap (λ (s : Span). s.to) spans);
      cut_is = here ∙ pieces-missing (is_byte cut) (slice_range text from within.to) missing ∙ ap (λ (s : Span). part text s ∷ []) (sym spans) ∙ ap (λ ys. part text field.span ∷ ys) (sym past);
    }

-- the words of a text do not change where the white space at its front is dropped
worded_after : (a : ℕ) (xs : List ℕ) (n : ℕ) → n ≤ length xs → ((k : ℕ) → k < n → is_white (get_or xs k 0) ≡ true) → worded a xs ≡ worded (a + n) (drop n xs)
worded_after a xs n l white =
    let len = length-take-le n xs l in
    ap (worded a) (sym (take-append-drop n xs)) ∙ worded-skip a (take n xs) (drop n xs) (λ k h.
    let below : k < n = omega (arith, len) in
    rw (get_or-take n xs k 0 below) (white k below)) ∙ ap (λ m. worded (a + m) (drop n xs)) len

not_below_le : (xs : List ℕ) (n : ℕ) → (n < length xs → ⊥) → length xs ≤ n
not_below_le xs n h = omega arith

at_end : (xs : List ℕ) (n : ℕ) → (n < length xs → is_white (get_or xs n 0) ≡ true → ⊥) → (0 < length (drop n xs) → is_white (get_or (drop n xs) 0 0) ≡ false → ⊥) → length xs ≤ n
at_end xs n stop none =
    not_below_le xs n (λ l.
    let filled : 0 < length (drop n xs) = omega (arith, length-drop n xs) in
    let same : get_or (drop n xs) 0 0 ≡ get_or xs n 0 = get_or-drop n xs 0 0 ∙ ap (λ k. get_or xs k 0) (omega arith) in
    none filled (ap is_white same ∙ not_true _ (stop l)))

pub words-none : (xs ys : List ℕ) (n m : ℕ) → m ≡ 0 → ys ≡ drop n xs → n ≤ length xs → ((k : ℕ) → k < n → is_white (get_or xs k 0) ≡ true) → (n < length xs → is_white (get_or xs n 0) ≡ true → ⊥) → (m < length ys → is_white (get_or ys m 0) ≡ false → ⊥) → words_of xs ≡ []
words-none xs ys n m zero_is is l white stop none =
    let P : List ℕ → ℕ → Type 0 = λ zs k. k < length zs → is_white (get_or zs k 0) ≡ false → ⊥ in
    let here : P (drop n xs) 0 = subst (λ (zs : List ℕ). P zs 0) is (subst (P ys) zero_is none) in
    let past : drop n xs ≡ [] = drop_all n xs (at_end xs n stop here) in
    let nothing : worded (0 + n) [] ≡ [] = rw (not_below (0 + n) (0 + n + 0) (omega arith)) refl in
    words-are xs ∙ ap (map (part xs)) (worded_after 0 xs n l white ∙ ap (worded (0 + n)) past ∙ nothing)

-- the first word after the white space, and what follows it
worded_found : (a : ℕ) (xs : List ℕ) (m : ℕ) → m ≤ length xs → 0 < m → ((k : ℕ) → k < m → is_white (get_or xs k 0) ≡ false) → (m < length xs → is_white (get_or xs m 0) ≡ false → ⊥) → worded a xs ≡ record { from = a; to = a + m } ∷ worded (a + m) (drop m xs)
worded_found a xs m l filled black stop =
    let len = length-take-le m xs l in
    let none : list_any is_white (take m xs) ≡ false = none_cuts is_white (take m xs) (λ k h.
    let below : k < m = omega (arith, len) in
    rw (get_or-take m xs k 0 below) (black k below)) in
    ap (worded a) (sym (take-append-drop m xs)) ∙ worded-first a (take m xs) (drop m xs) (omega (arith, len)) none (λ h.
    let bound : m < length xs = omega (arith, length-drop m xs) in
    let same : get_or (drop m xs) 0 0 ≡ get_or xs m 0 = get_or-drop m xs 0 0 ∙ ap (λ k. get_or xs k 0) (omega arith) in
    ap is_white same ∙ not_false _ (stop bound)) ∙ ap (λ k. record { from = a; to = a + k } ∷ worded (a + k) (drop m xs)) len

-- the white space at the front, the first word, and what follows it
pub word-some : (a : ℕ) (xs ys : List ℕ) (n m : ℕ) → ys ≡ drop n xs → n ≤ length xs → ((k : ℕ) → k < n → is_white (get_or xs k 0) ≡ true) → m ≤ length ys → 0 < m → ((k : ℕ) → k < m → is_white (get_or ys k 0) ≡ false) → (m < length ys → is_white (get_or ys m 0) ≡ false → ⊥) → worded a xs ≡ record { from = a + n; to = a + n + m } ∷ worded (a + n + m) (drop m ys)
word-some a xs ys n m is skips white reads filled black stop =
    worded_after a xs n skips white ∙ ap (worded (a + n)) (sym is) ∙ worded_found (a + n) ys m reads filled black stop

pub word-found : (text : List ℕ) (within : Span) (from to n m : ℕ) (ys : List ℕ) (word : Line) → word.span ≡ record { from = from + n; to = from + n + m } → word.next ≡ from + n + m → within.to ≡ to → ys ≡ drop n (slice_range text from to) → to ≤ length text → from ≤ to → n ≤ length (slice_range text from to) → ((k : ℕ) → k < n → is_white (get_or (slice_range text from to) k 0) ≡ true) → m ≤ length ys → 0 < m → ((k : ℕ) → k < m → is_white (get_or ys k 0) ≡ false) → (m < length ys → is_white (get_or ys m 0) ≡ false → ⊥) → IsWord text within from word
word-found text within from to n m ys word spans onward end is inside before skips white reads filled black stop =
    let size : length (slice_range text from to) ≡ to - from = range-length text from to inside in
    let left : length ys ≡ to - from - n = ap length is ∙ length-drop n (slice_range text from to) ∙ ap (λ l. l - n) size in
    let ends_by : from + n + m ≤ to = omega (arith, size, left) in
    let rest : slice_range text (from + n) to ≡ ys = range-drop text from n to (omega arith) ∙ sym is in
    let later : slice_range text word.next to ≡ drop m ys = ap (λ k. slice_range text k to) onward ∙ range-drop text (from + n) m to ends_by ∙ ap (drop m) rest in
    let found : word_spans text (record { from = from; to = to }) ≡ word.span ∷ word_spans text (record { from = word.next; to = to }) =
    word-some from (slice_range text from to) ys n m is skips white reads filled black stop ∙ ap (λ (s : Span). s ∷ worded (from + n + m) (drop m ys)) (sym spans) ∙ ap (λ zs. word.span ∷ worded (from + n + m) zs) (sym later) ∙ ap (λ k. word.span ∷ worded k (slice_range text word.next to)) (sym onward) in
    let words : words_of (slice_range text from to) ≡ part text word.span ∷ words_of (slice_range text word.next to) =
    sym (word_spans-parts text (record { from = from; to = to })) ∙ ap (map (part text)) found ∙ ap (λ (ws : List (List ℕ)). part text word.span ∷ ws) (word_spans-parts text (record { from = word.next; to = to })) in
    record {
      no_earlier = omega (arith, ap (λ (s : Span). s.from) spans);
      filled = omega (arith, ap (λ (s : Span). s.from) spans, ap (λ (s : Span). s.to) spans);
      ends = omega (arith, end, ap (λ (s : Span). s.to) spans);
      next_is = omega (arith, onward, ap (λ (s : Span). s.to) spans);
      cut = rw end words;
      stands = rw end found;
    }
