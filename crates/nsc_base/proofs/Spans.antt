-- Where lines, fields and words stand, and what stands there.
use Rattle.std.proofs.Common.{◌≡◌, ℕ, suc, ◌+◌, ◌-◌, ◌<◌, Bool, true, false, if◌then◌else◌, ◌==◌, nat_lt, List, [], ◌∷◌, ◌++◌, length, take, drop, map, filter, slice_range, get_or, refl, sym, ◌∙◌, ap, arith}
use Rattle.std.specs.List.{list_any}
use Rattle.std.proofs.lemmas.List.{append-nil, drop-drop, take-append-drop}
use Rattle.nsc_base.specs.declared.span.Span.{Span}
use Rattle.nsc_base.specs.Text.{field_spans, fields_of, is_filled, is_white, line_spans, lines_of, onto_first, part, pieces, spans_of, word_spans, words_of}
use Rattle.nsc_base.proofs.Compare.{is_below, not_below}
use Rattle.nsc_base.proofs.Pieces.{pieces-first, pieces-last}

-- a part that begins with its first byte
part-cons : (text : List ℕ) (a n b : ℕ) (rest : List ℕ) → drop a text ≡ b ∷ rest → drop (a + 1) text ≡ rest → part text (record { from = a; to = a + suc n }) ≡ b ∷ part text (record { from = a + 1; to = a + 1 + n })
part-cons text a n b rest here next =
    let long : a + suc n - a ≡ suc n = omega arith in
    let short : a + 1 + n - (a + 1) ≡ n = omega arith in
    ap (λ m. take m (drop a text)) long ∙ ap (take (suc n)) here ∙ sym (ap (λ m. b ∷ take m (drop (a + 1) text)) short ∙ ap (λ ys. b ∷ take n ys) next)

part-nil : (text : List ℕ) (a : ℕ) → part text (record { from = a; to = a + 0 }) ≡ []
part-nil text a = let none : a + 0 - a ≡ 0 = omega arith in ap (λ m. take m (drop a text)) none

drop-next : (text : List ℕ) (a b : ℕ) (rest : List ℕ) → drop a text ≡ b ∷ rest → drop (a + 1) text ≡ rest
drop-next text a b rest here = sym (drop-drop 1 a text) ∙ ap (drop 1) here

-- pieces that stand in a text stand there with one byte more at the front of the first
onto-parts : (text : List ℕ) (a b : ℕ) (rest : List ℕ) (ps : List (List ℕ)) → drop a text ≡ b ∷ rest → map (part text) (spans_of (a + 1) ps) ≡ ps → map (part text) (spans_of a (onto_first b ps)) ≡ onto_first b ps
onto-parts text a b rest [] here same =
    let one = part-cons text a 0 b rest here (drop-next text a b rest here) in
    ap (λ (p : List ℕ). p ∷ []) (one ∙ ap (λ (p : List ℕ). b ∷ p) (part-nil text (a + 1)))
onto-parts text a b rest (p ∷ ps) here same =
    let front : part text (record { from = a + 1; to = a + 1 + length p }) ≡ p = cc in
    let back : map (part text) (spans_of (a + 1 + length p + 1) ps) ≡ ps = cc in
    let place : a + suc (length p) + 1 ≡ a + 1 + length p + 1 = omega arith in
    let long = part-cons text a (length p) b rest here (drop-next text a b rest here) in
    ap (λ (q : List ℕ). q ∷ map (part text) (spans_of (a + suc (length p) + 1) ps)) (long ∙ ap (λ (q : List ℕ). b ∷ q) front) ∙ ap (λ n. (b ∷ p) ∷ map (part text) (spans_of n ps)) place ∙ ap (λ (qs : List (List ℕ)). (b ∷ p) ∷ qs) back

-- an empty piece before pieces that stand in a text
nil-parts : (text : List ℕ) (a : ℕ) (ps : List (List ℕ)) → map (part text) (spans_of (a + 1) ps) ≡ ps → map (part text) (spans_of a ([] ∷ ps)) ≡ [] ∷ ps
nil-parts text a ps same =
    let place : a + 0 + 1 ≡ a + 1 = omega arith in
    ap (λ (q : List ℕ). q ∷ map (part text) (spans_of (a + 0 + 1) ps)) (part-nil text a) ∙ ap (λ n. [] ∷ map (part text) (spans_of n ps)) place ∙ ap (λ (qs : List (List ℕ)). [] ∷ qs) same

pub pieces-parts : (cuts : ℕ → Bool) (text : List ℕ) (a : ℕ) (xs after : List ℕ) → drop a text ≡ xs ++ after → map (part text) (spans_of a (pieces cuts xs)) ≡ pieces cuts xs
pieces-parts cuts text a [] after here = ap (λ (p : List ℕ). p ∷ []) (part-nil text a)
pieces-parts cuts text a (b ∷ xs) after here =
    let onward = pieces-parts cuts text (a + 1) xs after (drop-next text a b (xs ++ after) here) in
    elim (cuts b) as (λ v. map (part text) (spans_of a (if v then [] ∷ pieces cuts xs else onto_first b (pieces cuts xs))) ≡ (if v then [] ∷ pieces cuts xs else onto_first b (pieces cuts xs))) [
      | true ↦ nil-parts text a (pieces cuts xs) onward
      | false ↦ onto-parts text a b (xs ++ after) (pieces cuts xs) here onward
    ]

lines-parts : (text : List ℕ) (a : ℕ) (xs : List ℕ) → drop a text ≡ xs → map (part text) (spans_of a (lines_of xs)) ≡ lines_of xs
lines-parts text a [] here = refl
lines-parts text a (b ∷ xs) here =
    let onward = lines-parts text (a + 1) xs (drop-next text a b xs here) in
    elim (b == 10) as (λ v. map (part text) (spans_of a (if v then [] ∷ lines_of xs else onto_first b (lines_of xs))) ≡ (if v then [] ∷ lines_of xs else onto_first b (lines_of xs))) [
      | true ↦ nil-parts text a (lines_of xs) onward
      | false ↦ onto-parts text a b xs (lines_of xs) here onward
    ]

-- the lines of a text stand where they are said to stand
pub line_spans-parts : (text : List ℕ) (from : ℕ) → map (part text) (line_spans text from) ≡ lines_of (drop from text)
line_spans-parts text from = lines-parts text from (drop from text) refl

in-text : (text : List ℕ) (a b : ℕ) → drop a text ≡ slice_range text a b ++ drop (b - a) (drop a text)
in-text text a b = sym (take-append-drop (b - a) (drop a text))

-- and so do fields
pub field_spans-parts : (cut : ℕ) (text : List ℕ) (within : Span) → map (part text) (field_spans cut text within) ≡ fields_of cut (part text within)
field_spans-parts cut text within = pieces-parts (λ b. b == cut) text within.from (part text within) (drop (within.to - within.from) (drop within.from text)) (in-text text within.from within.to)

-- ---- words

abbrev pub wide : List Span → List Span
wide spans = filter (λ span. nat_lt span.from span.to) spans

wide-parts : (text : List ℕ) (a : ℕ) (ps : List (List ℕ)) → map (part text) (spans_of a ps) ≡ ps → map (part text) (wide (spans_of a ps)) ≡ filter is_filled ps
wide-parts text a [] same = refl
wide-parts text a ([] ∷ ps) same =
    let back : map (part text) (spans_of (a + 0 + 1) ps) ≡ ps = cc in
    rw (not_below a (a + 0) (omega arith)) (wide-parts text (a + 0 + 1) ps back)
wide-parts text a ((b ∷ bs) ∷ ps) same =
    let front : part text (record { from = a; to = a + length (b ∷ bs) }) ≡ b ∷ bs = cc in
    let back : map (part text) (spans_of (a + length (b ∷ bs) + 1) ps) ≡ ps = cc in
    let rest = wide-parts text (a + length (b ∷ bs) + 1) ps back in
    rw (is_below a (a + length (b ∷ bs)) (omega arith)) (ap (λ (q : List ℕ). q ∷ map (part text) (wide (spans_of (a + length (b ∷ bs) + 1) ps))) front ∙ ap (λ (qs : List (List ℕ)). (b ∷ bs) ∷ qs) rest)

pub word_spans-parts : (text : List ℕ) (within : Span) → map (part text) (word_spans text within) ≡ words_of (part text within)
word_spans-parts text within =
    wide-parts text within.from (pieces is_white (part text within)) (pieces-parts is_white text within.from (part text within) (drop (within.to - within.from) (drop within.from text)) (in-text text within.from within.to))

-- where the words stand of bytes that begin at a place
abbrev pub worded : ℕ → List ℕ → List Span
worded a xs = wide (spans_of a (pieces is_white xs))

white-step : (a b : ℕ) (xs : List ℕ) → is_white b ≡ true → worded a (b ∷ xs) ≡ worded (a + 1) xs
white-step a b xs white =
    let place : a + 0 + 1 ≡ a + 1 = omega arith in
    rw (white, not_below a (a + 0) (omega arith)) (ap (λ n. worded n xs) place)

-- white space at the front is passed over
pub worded-skip : (a : ℕ) (xs ys : List ℕ) → ((k : ℕ) → k < length xs → is_white (get_or xs k 0) ≡ true) → worded a (xs ++ ys) ≡ worded (a + length xs) ys
worded-skip a [] ys h = ap (λ n. worded n ys) (omega arith)
worded-skip a (x ∷ xs) ys h =
    let place : a + 1 + length xs ≡ a + length (x ∷ xs) = omega arith in
    white-step a x (xs ++ ys) (h 0 (omega arith)) ∙ worded-skip (a + 1) xs ys (λ k l. h (suc k) (omega arith)) ∙ ap (λ n. worded n ys) place

-- a word ends at white space, or at the end of the text
pub worded-first : (a : ℕ) (word ys : List ℕ) → 0 < length word → list_any is_white word ≡ false → (0 < length ys → is_white (get_or ys 0 0) ≡ true) → worded a (word ++ ys) ≡ record { from = a; to = a + length word } ∷ worded (a + length word) ys
worded-first a [] ys filled h ends = absurd (omega arith)
worded-first a (x ∷ xs) [] filled h ends =
    let b = a + length (x ∷ xs) in
    let none : worded b [] ≡ [] = rw (not_below b (b + 0) (omega arith)) refl in
    ap (worded a) (append-nil (x ∷ xs)) ∙ ap (λ (ps : List (List ℕ)). wide (spans_of a ps)) (pieces-last is_white (x ∷ xs) h) ∙ rw (is_below a b (omega arith)) (ap (λ (spans : List Span). record { from = a; to = b } ∷ spans) (sym none))
worded-first a (x ∷ xs) (y ∷ ys) filled h ends =
    let b = a + length (x ∷ xs) in
    let white : is_white y ≡ true = ends (omega arith) in
    ap (λ (ps : List (List ℕ)). wide (spans_of a ps)) (pieces-first is_white (x ∷ xs) y ys h white) ∙ rw (is_below a b (omega arith)) (ap (λ (spans : List Span). record { from = a; to = b } ∷ spans) (sym (white-step b y ys white)))

-- the words of bytes are those that stand in them
pub words-are : (xs : List ℕ) → words_of xs ≡ map (part xs) (worded 0 xs)
words-are xs = sym (wide-parts xs 0 (pieces is_white xs) (pieces-parts is_white xs 0 xs [] (sym (append-nil xs))))
