-- Places at which lines begin, and the lines that begin there.
use Rattle.std.proofs.Common.{◌≡◌, ℕ, ◌+◌, ◌<◌, ◌≤◌, Bool, true, false, ◌==◌, ◌&&◌, ◌||◌, cond, All, List, [], ◌∷◌, eqb, filter, length, map, refl, sym, ◌∙◌, ap, subst, arith}
use Rattle.std.specs.List.{cons_option, dedup, dedup_from, filter_map, list_any}
use Rattle.std.specs.List.Sorted.{IsStrictlyIncreasing, IsStrictlySortedBy}
use Rattle.std.specs.declared.cmp.Ordering.TheVariants.{Less}
use Rattle.std.specs.Ordering.{nat_cmp}
use Rattle.std.proofs.lemmas.Bool.Decides.{Decides-eqb, nat_tests}
use Rattle.std.proofs.lemmas.List.Elements.{All-cons, All-nil}
use Rattle.std.proofs.lemmas.Map.Keys.{sorted_from_strictly_increasing}
use Rattle.nsc_base.specs.declared.span.Span.{Span}
use Rattle.nsc_base.specs.Found.{AllBetween}
use Rattle.nsc_base.specs.Text.{line_spans, part}
use Rattle.nsc_base.proofs.LineStarts.{lines-between}
use Rattle.nsc_base.proofs.Spans.{line_spans-parts}
use Rattle.nsc_model.specs.Entries.{first_of}
use Rattle.nsc_accounts.specs.Matters.{AreLines}
use Rattle.nsc_index.specs.Signs.{Adds, has_place}
use Rattle.nsc_index.proofs.LineRows.{AllBegin, all_begin}
use Rattle.nsc_index.proofs.MemberRows.{parts_filtered}
use Rattle.nsc_index.proofs.OnceRows.{Rising, all_rising}

-- ---- each once

or_again : (a b : Bool) → (a || (a || b)) ≡ (a || b)
or_again true b = refl
or_again false b = refl

any_deduped : (p : ℕ → Bool) (k : ℕ) (xs : List ℕ) → list_any p (dedup_from eqb k xs) ≡ (p k || list_any p xs)
any_deduped p k [] = refl
any_deduped p k (x ∷ xs) =
    elim (eqb x k) as (λ v. eqb x k ≡ v → list_any p (cond v (dedup_from eqb k xs) (k ∷ dedup_from eqb x xs)) ≡ (p k || (p x || list_any p xs))) [
      | true ↦ λ is.
          let same : p x ≡ p k = ap p ((Decides-eqb x k).0 is) in
          any_deduped p k xs ∙ sym (ap (λ v. p k || (v || list_any p xs)) same ∙ or_again (p k) (list_any p xs))
      | false ↦ λ is. ap (λ v. p k || v) (any_deduped p x xs)
    ] refl

pub any_once : (p : ℕ → Bool) (xs : List ℕ) → list_any p (dedup eqb xs) ≡ list_any p xs
any_once p [] = refl
any_once p (x ∷ xs) = any_deduped p x xs

-- ---- numbers that rise are told by which there are

abbrev Rises : ℕ → List ℕ → Type 0
Rises low [] = Unit {0}
Rises low (x ∷ xs) = (low ≤ x) × Rises (x + 1) xs

none_below : (low n : ℕ) (xs : List ℕ) → Rises low xs → n < low → has_place xs n ≡ false
none_below low n [] rises below = refl
none_below low n (x ∷ xs) rises below =
    let first : (x == n) ≡ false = grind (arith, nat_tests, rises.0) in
    ap (λ v. v || has_place xs n) first ∙ none_below (x + 1) n xs rises.1 (omega (arith, rises.0))

has_first : (x : ℕ) (xs : List ℕ) → has_place (x ∷ xs) x ≡ true
has_first x xs = ap (λ v. v || has_place xs x) ((Decides-eqb x x).1 refl)

not_above : (x y : ℕ) (xs ys : List ℕ) → Rises (y + 1) ys → ((n : ℕ) → has_place (x ∷ xs) n ≡ has_place (y ∷ ys) n) → x < y → ⊥
not_above x y xs ys rises same above =
    let there : true ≡ has_place (y ∷ ys) x = sym (has_first x xs) ∙ same x in
    let lacks : has_place (y ∷ ys) x ≡ false = none_below y x (y ∷ ys) (omega arith, rises) above in
    cc

rest_same : (x : ℕ) (xs ys : List ℕ) → Rises (x + 1) xs → Rises (x + 1) ys → ((n : ℕ) → has_place (x ∷ xs) n ≡ has_place (x ∷ ys) n) → (n : ℕ) → has_place xs n ≡ has_place ys n
rest_same x xs ys rises others same n =
    elim (x == n) as (λ v. (x == n) ≡ v → (v || has_place xs n) ≡ (v || has_place ys n) → has_place xs n ≡ has_place ys n) [
      | true ↦ λ is e.
          let at : x ≡ n = (Decides-eqb x n).0 is in
          none_below (x + 1) n xs rises (omega (arith, at)) ∙ sym (none_below (x + 1) n ys others (omega (arith, at)))
      | false ↦ λ is e. e
    ] refl (same n)

rises_same : (low high : ℕ) (xs ys : List ℕ) → Rises low xs → Rises high ys → ((n : ℕ) → has_place xs n ≡ has_place ys n) → xs ≡ ys
rises_same low high [] [] rises others same = refl
rises_same low high [] (y ∷ ys) rises others same = let e : false ≡ true = same y ∙ has_first y ys in cc
rises_same low high (x ∷ xs) [] rises others same = let e : true ≡ false = sym (has_first x xs) ∙ same x in cc
rises_same low high (x ∷ xs) (y ∷ ys) rises others same =
    let less : x < y → ⊥ = not_above x y xs ys others.1 same in
    let more : y < x → ⊥ = not_above y x ys xs rises.1 (λ n. sym (same n)) in
    let at : y ≡ x = grind (arith, less, more) in
    let low_rises : Rises (x + 1) ys = subst (λ n. Rises (n + 1) ys) at others.1 in
    let tails = rest_same x xs ys rises.1 low_rises (λ n. same n ∙ ap (λ k. has_place (k ∷ ys) n) at) in
    ap (λ (zs : List ℕ). x ∷ zs) (rises_same (x + 1) (x + 1) xs ys rises.1 low_rises tails) ∙ ap (λ k. k ∷ ys) (sym at)

abbrev FirstFrom : ℕ → List ℕ → Type 0
FirstFrom low [] = Unit {0}
FirstFrom low (x ∷ xs) = low ≤ x

is_less : (x y : ℕ) → nat_cmp x y ≡ Less → x + 1 ≤ y
is_less x y is = grind (arith, nat_tests, is)

rises_on : (low : ℕ) (xs : List ℕ) → FirstFrom low xs → IsStrictlySortedBy nat_cmp xs → Rises low xs
unfolding IsStrictlySortedBy
rises_on low [] first sorted = tt
rises_on low (x ∷ []) first sorted = (first, tt)
rises_on low (x ∷ y ∷ ys) first sorted = (first, rises_on (x + 1) (y ∷ ys) (is_less x y sorted.0.0) sorted.1)

from_zero : (xs : List ℕ) → FirstFrom 0 xs
from_zero [] = tt
from_zero (x ∷ xs) = omega arith

-- ---- the lines that begin there

module _ (text : List ℕ) (passes : Span → Bool) where
  starts_rise : (low : ℕ) (lines : List Span) → Rising low lines → Rises low (map (λ (l : Span). l.from) (filter passes lines))
  starts_rise low [] rises = tt
  starts_rise low (line ∷ lines) rises =
      elim (passes line) as (λ v. Rises low (map (λ (l : Span). l.from) (cond v (line ∷ filter passes lines) (filter passes lines)))) [
        | true ↦ (rises.0, starts_rise (line.from + 1) lines rises.1)
        | false ↦ lower_rises low (line.from + 1) (map (λ (l : Span). l.from) (filter passes lines)) (omega (arith, rises.0)) (starts_rise (line.from + 1) lines rises.1)
      ] where
        lower_rises : (l h : ℕ) (xs : List ℕ) → l ≤ h → Rises h xs → Rises l xs
        lower_rises l h [] le r = tt
        lower_rises l h (x ∷ xs) le r = (omega (arith, r.0), r.1)

  starts_there : (n : ℕ) (lines : List Span) → has_place (map (λ (l : Span). l.from) (filter passes lines)) n ≡ list_any (λ line. (line.from == n) && passes line) lines
  starts_there n [] = refl
  starts_there n (line ∷ lines) =
      elim (passes line) as (λ v. has_place (map (λ (l : Span). l.from) (cond v (line ∷ filter passes lines) (filter passes lines))) n ≡ (((line.from == n) && v) || list_any (λ line. (line.from == n) && passes line) lines)) [
        | true ↦ elim (line.from == n) as (λ w. (w || has_place (map (λ (l : Span). l.from) (filter passes lines)) n) ≡ ((w && true) || list_any (λ line. (line.from == n) && passes line) lines)) [
          | true ↦ refl
          | false ↦ starts_there n lines
        ]
        | false ↦ elim (line.from == n) as (λ w. has_place (map (λ (l : Span). l.from) (filter passes lines)) n ≡ ((w && false) || list_any (λ line. (line.from == n) && passes line) lines)) [
          | true ↦ starts_there n lines
          | false ↦ starts_there n lines
        ]
      ]

  lines_back : (lines : List Span) → AllBegin text lines → filter_map (λ place. first_of (line_spans text place)) (map (λ (l : Span). l.from) (filter passes lines)) ≡ filter passes lines
  lines_back [] begin = refl
  lines_back (line ∷ lines) begin =
      elim (passes line) as (λ v. filter_map (λ place. first_of (line_spans text place)) (map (λ (l : Span). l.from) (cond v (line ∷ filter passes lines) (filter passes lines))) ≡ cond v (line ∷ filter passes lines) (filter passes lines)) [
        | true ↦ ap (λ (spans : List Span). cons_option (first_of spans) (filter_map (λ place. first_of (line_spans text place)) (map (λ (l : Span). l.from) (filter passes lines)))) begin.0.1 ∙ ap (λ (ls : List Span). line ∷ ls) (lines_back lines begin.1)
        | false ↦ lines_back lines begin.1
      ]

  all_inside : (from : ℕ) (lines : List Span) → AllBetween from (length text + 1) lines → All (λ (l : Span). l.to ≤ length text) (filter passes lines)
  all_inside from [] between = All-nil (λ (l : Span). l.to ≤ length text)
  all_inside from (line ∷ lines) between =
      elim (passes line) as (λ v. All (λ (l : Span). l.to ≤ length text) (cond v (line ∷ filter passes lines) (filter passes lines))) [
        | true ↦ All-cons (λ (l : Span). l.to ≤ length text) line (filter passes lines) (omega (arith, between.2)) (all_inside from lines between.3)
        | false ↦ all_inside from lines between.3
      ]

pub the_lines : (text : List ℕ) (test : List ℕ → Bool) (given places : List ℕ) (lines : List Span) → Adds text test [] given → ((n : ℕ) → has_place places n ≡ has_place given n) → IsStrictlyIncreasing places → lines ≡ filter_map (λ place. first_of (line_spans text place)) places → AreLines text test lines
the_lines text test given places lines are same rises is =
    let passes : Span → Bool = λ l. test (part text l) in
    let all = line_spans text 0 in
    let starts = map (λ (l : Span). l.from) (filter passes all) in
    let at : places ≡ starts = rises_same 0 0 places starts (rises_on 0 places (from_zero places) (sorted_from_strictly_increasing places rises)) (starts_rise text passes 0 all (all_rising text)) (λ n. same n ∙ are n ∙ sym (starts_there text passes n all)) in
    let lines_are : lines ≡ filter passes all = is ∙ ap (filter_map (λ place. first_of (line_spans text place))) at ∙ lines_back text passes all (all_begin text) in
    record {
      inside = subst (λ (ls : List Span). All (λ (l : Span). l.to ≤ length text) ls) (sym lines_are) (all_inside text passes 0 all (lines-between text 0 (omega arith)));
      are = ap (map (part text)) lines_are ∙ parts_filtered text test all ∙ ap (filter test) (line_spans-parts text 0);
    }
