-- Where lines begin: the lines of a text from one place on, and those from a later one on.
use Rattle.std.proofs.Common.{◌≡◌, ℕ, suc, ◌+◌, ◌-◌, ◌<◌, ◌≤◌, true, false, if◌then◌else◌, ◌==◌, List, [], ◌∷◌, ◌++◌, length, take, drop, slice_range, get_or, Option, Some, None, IfSome, IsNone, MatchOption, ◌↔◌, refl, sym, ◌∙◌, ap, subst, arith, length-drop, length-take}
use Rattle.std.proofs.lemmas.List.{append-nil, drop-drop, get_or-drop, get_or-take, length-take-le}
use Rattle.std.proofs.lemmas.Bool.{eqb-true}
use Rattle.std.proofs.lemmas.Slice.Eq.{bytes_eq-Decides}
use Rattle.memchr.specs.Find.{FindsNeedle, IsLastByte, OccursAt, is_byte}
use Rattle.std.proofs.Math.Seq.{drop-length}
use Rattle.nsc_base.specs.declared.search.Case.{Case}
use Rattle.nsc_base.specs.declared.search.Case.TheVariants.{Counts}
use Rattle.nsc_base.specs.declared.span.Line.{Line}
use Rattle.nsc_base.specs.declared.span.Span.{Span}
use Rattle.nsc_base.specs.Found.{AllBetween, FirstOf, IsLineStart, IsLineWith, Lacks, NoneBefore, OrLacks, PassesOver, StandsAt, done, lacks, later, over, same_by}
use Rattle.nsc_base.specs.Text.{IsLine, line_spans, lines_of, onto_first, part, spans_of}
use Rattle.nsc_base.proofs.Places.{range-drop, range-length, range-take, split_at}

-- no line begins at the end
pub no_lines : (text : List ℕ) (from : ℕ) → from ≡ length text → line_spans text from ≡ []
no_lines text from last = ap (line_spans text) last ∙ ap (λ bytes. spans_of (length text) (lines_of bytes)) (drop-length text)

-- how far lines go, with their newlines
reach : List (List ℕ) → ℕ
reach [] = 0
reach (line ∷ lines) = length line + 1 + reach lines

lines-some : (ys : List ℕ) → (first : List ℕ) × ((later : List (List ℕ)) × (lines_of (ys ++ 10 ∷ []) ≡ first ∷ later))
lines-some [] = ([], ([], refl))
lines-some (y ∷ ys) =
    let more = lines-some ys in
    elim (y == 10) as (λ v. (first : List ℕ) × ((later : List (List ℕ)) × ((if v then [] ∷ lines_of (ys ++ 10 ∷ []) else onto_first y (lines_of (ys ++ 10 ∷ []))) ≡ first ∷ later))) [
      | true ↦ ([], (lines_of (ys ++ 10 ∷ []), refl))
      | false ↦ (y ∷ more.0, (more.1.0, ap (onto_first y) more.1.1))
    ]

-- the lines up to a newline, and those after it
lines-append : (ys zs : List ℕ) → lines_of (ys ++ 10 ∷ zs) ≡ lines_of (ys ++ 10 ∷ []) ++ lines_of zs
lines-append [] zs = refl
lines-append (y ∷ ys) zs =
    let more = lines-some ys in
    let onward = lines-append ys zs in
    elim (y == 10) as (λ v. (if v then [] ∷ lines_of (ys ++ 10 ∷ zs) else onto_first y (lines_of (ys ++ 10 ∷ zs))) ≡ (if v then [] ∷ lines_of (ys ++ 10 ∷ []) else onto_first y (lines_of (ys ++ 10 ∷ []))) ++ lines_of zs) [
      | true ↦ ap (λ (ls : List (List ℕ)). [] ∷ ls) onward
      | false ↦ ap (onto_first y) (onward ∙ ap (λ (ls : List (List ℕ)). ls ++ lines_of zs) more.1.1) ∙ sym (ap (λ (ls : List (List ℕ)). onto_first y ls ++ lines_of zs) more.1.1)
    ]

reach-onto : (y : ℕ) (first : List ℕ) (lines : List (List ℕ)) → reach (onto_first y (first ∷ lines)) ≡ reach (first ∷ lines) + 1
unfolding reach
reach-onto y first lines = omega arith

reach-onto-le : (y : ℕ) (lines : List (List ℕ)) (n : ℕ) → reach lines ≤ n + 1 → reach (onto_first y lines) ≤ suc n + 1
unfolding reach
reach-onto-le y [] n le = omega arith
reach-onto-le y (first ∷ lines) n le = omega (arith, le)

not_earlier : (a b : ℕ) → (a < b → ⊥) → b ≤ a
not_earlier a b never = omega arith

reach-lines : (ys : List ℕ) → reach (lines_of (ys ++ 10 ∷ [])) ≡ length ys + 1
unfolding reach
reach-lines [] = refl
reach-lines (y ∷ ys) =
    let more = lines-some ys in
    let onward = reach-lines ys in
    elim (y == 10) as (λ v. reach (if v then [] ∷ lines_of (ys ++ 10 ∷ []) else onto_first y (lines_of (ys ++ 10 ∷ []))) ≡ length (y ∷ ys) + 1) [
      | true ↦ omega (arith, onward)
      | false ↦ ap (λ (ls : List (List ℕ)). reach (onto_first y ls)) more.1.1 ∙ reach-onto y more.0 more.1.0 ∙ omega (arith, ap reach more.1.1, onward)
    ]

spans-append : (at : ℕ) (front back : List (List ℕ)) → spans_of at (front ++ back) ≡ spans_of at front ++ spans_of (at + reach front) back
unfolding reach
spans-append at [] back = ap (λ n. spans_of n back) (omega arith)
spans-append at (line ∷ front) back =
    ap (λ (spans : List Span). record { from = at; to = at + length line } ∷ spans) (spans-append (at + length line + 1) front back ∙ ap (λ n. spans_of (at + length line + 1) front ++ spans_of n back) (omega arith))

spans-between : (low at high : ℕ) (lines : List (List ℕ)) → low ≤ at → at + reach lines ≤ high → AllBetween low high (spans_of at lines)
unfolding reach
spans-between low at high [] lower within = tt
spans-between low at high (line ∷ lines) lower within = (lower, omega arith, omega (arith, within), spans-between low (at + length line + 1) high lines (omega arith) (omega (arith, within)))

-- a line begins after a newline
pub start_after : (text : List ℕ) (from n : ℕ) → n < length (drop from text) → get_or (drop from text) n 0 ≡ 10 → IsLineStart text from (from + n + 1)
start_after text from n inside newline =
    let xs = drop from text in
    let ys = take n xs in
    let zs = drop (n + 1) xs in
    let cut : xs ≡ ys ++ 10 ∷ zs = split_at xs n inside ∙ ap (λ b. ys ++ b ∷ zs) newline in
    let size : length ys ≡ n = length-take-le n xs (omega arith) in
    let reached : from + reach (lines_of (ys ++ 10 ∷ [])) ≡ from + n + 1 = omega (arith, reach-lines ys, size) in
    let rest : zs ≡ drop (from + n + 1) text = drop-drop (n + 1) from text ∙ ap (λ m. drop m text) (omega arith) in
    record {
      before = spans_of from (lines_of (ys ++ 10 ∷ []));
      lines = ap (λ bytes. spans_of from (lines_of bytes)) cut ∙ ap (spans_of from) (lines-append ys zs) ∙ spans-append from (lines_of (ys ++ 10 ∷ [])) (lines_of zs)
          ∙ ap (λ m. spans_of from (lines_of (ys ++ 10 ∷ [])) ++ spans_of m (lines_of zs)) reached ∙ ap (λ bytes. spans_of from (lines_of (ys ++ 10 ∷ [])) ++ spans_of (from + n + 1) (lines_of bytes)) rest;
      ends = spans-between from from (from + n + 1) (lines_of (ys ++ 10 ∷ [])) (omega arith) (omega (arith, reached));
    }

pub start_here : (text : List ℕ) (from : ℕ) → IsLineStart text from from
start_here text from = record { before = []; lines = refl; ends = tt }

-- a part of a part
pub range-range : (xs : List ℕ) (a b c d : ℕ) → c ≤ d → a + d ≤ b → slice_range (slice_range xs a b) c d ≡ slice_range xs (a + c) (a + d)
range-range xs a b c d ordered within =
    let there : a + c + (d - c) ≡ a + d = omega arith in
    ap (take (d - c)) (sym (range-drop xs a c b (omega arith))) ∙ sym (range-take xs (a + c) (d - c) b (omega arith)) ∙ ap (slice_range xs (a + c)) there

-- what stands in a line stands in the text from a place before the line on
stands-later : (case : Case) (needle text : List ℕ) (from : ℕ) (line at : Span) → from ≤ line.from → line.from ≤ line.to → line.to ≤ length text → StandsAt case needle (part text line) at → StandsAt case needle (slice_range text from (length text)) (record { from = line.from - from + at.from; to = line.from - from + at.to })
stands-later case needle text from line at low ordered inside stands =
    let size = range-length text line.from line.to inside in
    let whole = range-length text from (length text) (omega arith) in
    let reaches : line.from + at.to ≤ line.to = omega (arith, stands.ends, size) in
    let in_line : part (part text line) at ≡ slice_range text (line.from + at.from) (line.from + at.to) = range-range text line.from line.to at.from at.to stands.ordered reaches in
    let in_rest : slice_range (slice_range text from (length text)) (line.from - from + at.from) (line.from - from + at.to) ≡ slice_range text (from + (line.from - from + at.from)) (from + (line.from - from + at.to)) = range-range text from (length text) (line.from - from + at.from) (line.from - from + at.to) (omega (arith, stands.ordered)) (omega (arith, reaches)) in
    let begins : from + (line.from - from + at.from) ≡ line.from + at.from = omega arith in
    let stops : from + (line.from - from + at.to) ≡ line.from + at.to = omega arith in
    record {
      ordered = omega (arith, stands.ordered);
      ends = omega (arith, whole, reaches);
      same = ap (λ piece. same_by case piece needle) (in_rest ∙ ap (λ k. slice_range text k (from + (line.from - from + at.to))) begins ∙ ap (slice_range text (line.from + at.from)) stops ∙ sym in_line) ∙ stands.same;
    }

-- lines that lack the needle are passed over
pass : (case : Case) (needle text : List ℕ) (low high : ℕ) (before left : List Span) → AllBetween low high before → ((line : Span) → low ≤ line.from → line.from ≤ line.to → line.to < high → Lacks case needle (part text line)) → PassesOver case needle text left (before ++ left)
pass case needle text low high [] left between lack = done
pass case needle text low high (line ∷ before) left between lack = over line (before ++ left) (lack line between.0 between.1 between.2) (pass case needle text low high before left between.3 lack)

-- the lines before the place at which the needle may stand
pub pass_before : (case : Case) (needle text : List ℕ) (from k start : ℕ) → from ≤ length text → NoneBefore case needle (slice_range text from (length text)) (Some k) → start ≤ from + k → IsLineStart text from start → PassesOver case needle text (line_spans text start) (line_spans text from)
pass_before case needle text from k start inside none early is =
    let whole = range-length text from (length text) (omega arith) in
    subst (PassesOver case needle text (line_spans text start)) (sym is.lines)
    (pass case needle text from start is.before (line_spans text start) is.ends (λ line low ordered high at stands.
    let size = range-length text line.from line.to (omega (arith, none.0, whole)) in
    let there = none.1 _ (stands-later case needle text from line at low ordered (omega (arith, none.0, whole)) stands) in
    omega (arith, there, stands.ordered, stands.ends, size)))

reach-le : (bytes : List ℕ) → reach (lines_of bytes) ≤ length bytes + 1
unfolding reach
reach-le [] = omega arith
reach-le (b ∷ bytes) =
    let onward = reach-le bytes in
    elim (b == 10) as (λ v. reach (if v then [] ∷ lines_of bytes else onto_first b (lines_of bytes)) ≤ length (b ∷ bytes) + 1) [
      | true ↦ omega (arith, onward)
      | false ↦ reach-onto-le b (lines_of bytes) (length bytes) onward
    ]

-- the lines of a text stand in it
pub lines-between : (text : List ℕ) (from : ℕ) → from ≤ length text → AllBetween from (length text + 1) (line_spans text from)
lines-between text from inside = spans-between from from (length text + 1) (lines_of (drop from text)) (omega arith) (omega (arith, reach-le (drop from text), length-drop from text))

-- where the needle stands nowhere, all lines are passed over
pub pass_all : (case : Case) (needle text : List ℕ) (from : ℕ) → from ≤ length text → NoneBefore case needle (slice_range text from (length text)) None → PassesOver case needle text [] (line_spans text from)
pass_all case needle text from inside none =
    subst (PassesOver case needle text []) (append-nil (line_spans text from))
    (pass case needle text from (length text + 1) (line_spans text from) [] (lines-between text from inside) (λ line low ordered high at stands.
    none _ (stands-later case needle text from line at low ordered (omega arith) stands)))

-- the line that begins where it may stand
pub with_line : (case : Case) (needle text : List ℕ) (from start : ℕ) (found : Option Line) → from ≤ start → IsNone found ↔ (start ≡ length text) → IfSome found (IsLine text start) → PassesOver case needle text (line_spans text start) (line_spans text from)
    → MatchOption found (PassesOver case needle text [] (line_spans text from)) (IsLineWith case needle text from)
with_line case needle text from start None low none line passes = subst (λ (left : List Span). PassesOver case needle text left (line_spans text from)) (no_lines text start (none.0 refl)) passes
with_line case needle text from start (Some line) low none is passes = record {
  passes = subst (λ (left : List Span). PassesOver case needle text left (line_spans text from)) is.stands passes;
  ordered = omega (arith, is.begins, is.ordered);
  ends = is.ends;
  onward = omega (arith, is.onward);
  next_ends = is.next_ends;
}

-- what the first line gives after lines that are passed over
pub first_after : {E : Type 0} (case : Case) (needle text : List ℕ) (gives : Span → Option E → Type 0) (left all : List Span) (found : Option E) → PassesOver case needle text left all → FirstOf (OrLacks case needle text gives) left found → FirstOf (OrLacks case needle text gives) all found
first_after case needle text gives left all found done first = first
first_after case needle text gives left all found (over line others lack rest) first = later line others found (lacks lack) (first_after case needle text gives left others found rest first)

-- a newline found from the back
pub start_found : (text : List ℕ) (from at n : ℕ) → IsLastByte (is_byte 10) (slice_range text from at) (Some n) → IsLineStart text from (from + n + 1)
start_found text from at n found =
    let xs = drop from text in
    let here : n < length (take (at - from) xs) = found.0.high in
    let size = length-take (at - from) xs in
    let below : n < at - from = omega (arith, here, size) in
    let newline : get_or xs n 0 ≡ 10 = sym (get_or-take (at - from) xs n 0 below) ∙ eqb-true (get_or (take (at - from) xs) n 0) 10 found.1 in
    start_after text from n (omega (arith, here, size)) newline

-- the bytes of a needle stand where it is found
occurs : (needle bytes : List ℕ) (at : Span) → StandsAt Counts needle bytes at → OccursAt bytes needle at.from
occurs needle bytes at stands =
    let is : part bytes at ≡ needle = (bytes_eq-Decides (part bytes at) needle).0 stands.same in
    let size : at.to - at.from ≡ length needle = sym (range-length bytes at.from at.to stands.ends) ∙ ap length is in
    record {
      fits = omega (arith, size, stands.ordered, stands.ends);
      reads = λ j below.
          let short : j < at.to - at.from = omega (arith, size) in
          sym (get_or-drop at.from bytes j 0) ∙ sym (get_or-take (at.to - at.from) (drop at.from bytes) j 0 short) ∙ ap (λ piece. get_or piece j 0) is;
    }

pub none_before : (needle bytes : List ℕ) (found : Option ℕ) → FindsNeedle bytes needle 0 found → NoneBefore Counts needle bytes found
none_before needle bytes None nowhere = λ at stands. nowhere at.from (omega arith) (omega (arith, stands.ordered, stands.ends)) (occurs needle bytes at stands)
none_before needle bytes (Some k) found =
    (omega (arith, found.0.high), λ at stands. not_earlier at.from k (λ below. found.0.before at.from (omega arith) below (occurs needle bytes at stands)))
