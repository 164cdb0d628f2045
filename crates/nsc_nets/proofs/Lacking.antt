-- A line that lacks a needle has no word in which it stands.
use Rattle.std.proofs.Common.{◌≡◌, ℕ, ◌+◌, ◌-◌, ◌<◌, ◌≤◌, false, ◌==◌, ◌⊎◌, inl, inr, List, [], ◌∷◌, length, map, take, drop, refl, sym, ◌∙◌, ap, subst, arith, length-drop, length-take}
use Rattle.std.specs.List.{list_any, position_or_len}
use Rattle.std.proofs.lemmas.Bool.{cases_lt, false_from_ne_true, or_from}
use Rattle.std.proofs.lemmas.List.{take_all}
use Rattle.nsc_base.specs.declared.search.Case.{Case}
use Rattle.nsc_base.specs.declared.span.Span.{Span}
use Rattle.nsc_base.specs.Found.{Lacks, StandsAt, same_by}
use Rattle.nsc_base.specs.Text.{before_remark, part, word_spans, words_of}
use Rattle.nsc_base.proofs.LineStarts.{range-range}
use Rattle.nsc_base.proofs.Spans.{word_spans-parts}

-- what stands in a part stands in the whole, and nothing stands where bytes that lack it begin
within : (case : Case) (needle bytes : List ℕ) (span at : Span) → (0 < at.to) ⊎ (at.to ≤ 0) → Lacks case needle bytes → StandsAt case needle (part bytes span) at → ⊥
within case needle bytes span at (inl some) lack stands =
    let size = length-take (span.to - span.from) (drop span.from bytes) in
    let left = length-drop span.from bytes in
    lack (record { from = span.from + at.from; to = span.from + at.to }) (record {
      ordered = omega (arith, stands.ordered);
      ends = omega (arith, some, size, left, stands.ends);
      same = ap (λ piece. same_by case piece needle) (sym (range-range bytes span.from span.to at.from at.to stands.ordered (omega (arith, some, size, stands.ends)))) ∙ stands.same;
    })
within case needle bytes span at (inr none) lack stands =
    let nothing : at.to - at.from ≡ 0 = omega (arith, none) in
    lack (record { from = 0; to = 0 }) (record {
      ordered = omega arith;
      ends = omega arith;
      same = ap (λ n. same_by case (take n (drop at.from (part bytes span))) needle) (sym nothing) ∙ stands.same;
    })

pub lacks_part : (case : Case) (needle bytes : List ℕ) (span : Span) → Lacks case needle bytes → Lacks case needle (part bytes span)
lacks_part case needle bytes span lack = λ at stands. within case needle bytes span at (cases_lt 0 at.to) lack stands

-- each of these lacks it
abbrev pub AllLack : Case → List ℕ → List (List ℕ) → Type 0
AllLack case needle [] = Unit {0}
AllLack case needle (piece ∷ pieces) = Lacks case needle piece × AllLack case needle pieces

parts_lack : (case : Case) (needle bytes : List ℕ) (spans : List Span) → Lacks case needle bytes → AllLack case needle (map (part bytes) spans)
parts_lack case needle bytes [] lack = tt
parts_lack case needle bytes (span ∷ spans) lack = (lacks_part case needle bytes span lack, parts_lack case needle bytes spans lack)

pub words_lack : (case : Case) (needle line : List ℕ) → Lacks case needle line → AllLack case needle (words_of (before_remark line))
words_lack case needle line lack =
    let front : Span = record { from = 0; to = position_or_len (λ b. b == 35) line } in
    let size : front.to - 0 ≡ front.to = omega arith in
    let here : part line front ≡ before_remark line = ap (λ n. take n line) size in
    subst (AllLack case needle) (word_spans-parts line front ∙ ap words_of here) (parts_lack case needle line (word_spans line front) lack)

-- so none of them is the needle
pub is_other : (case : Case) (needle piece : List ℕ) → Lacks case needle piece → same_by case piece needle ≡ false
is_other case needle piece lack =
    let size : length piece - 0 ≡ length piece = omega arith in
    let whole : take (length piece - 0) piece ≡ piece = ap (λ n. take n piece) size ∙ take_all (length piece) piece (omega arith) in
    false_from_ne_true (same_by case piece needle) (λ same. lack (record { from = 0; to = length piece }) (record { ordered = omega arith; ends = omega arith; same = ap (λ p. same_by case p needle) whole ∙ same }))

pub none_same : (case : Case) (needle : List ℕ) (pieces : List (List ℕ)) → AllLack case needle pieces → list_any (λ piece. same_by case piece needle) pieces ≡ false
none_same case needle [] all = refl
none_same case needle (piece ∷ pieces) all = or_from _ _ (is_other case needle piece all.0) (none_same case needle pieces all.1)
