-- Answers in order, one part after another, are those of all.
use Rattle.std.proofs.Common.{◌≡◌, ℕ, zero, suc, ◌+◌, ◌-◌, ◌*◌, ◌/◌, ◌<◌, ◌≤◌, List, [], ◌∷◌, ◌++◌, Option, Some, map, refl, sym, ap, subst, ◌∙◌, arith, append_assoc}
use Rattle.std.specs.List.{slice_index_or}
use Rattle.std.proofs.Math.Nat.{div-mul-le_self, le-div_iff_mul-le, mul-div_cancel, mul-le-mul_left}
use Rattle.std.proofs.lemmas.List.{append-nil}
use Rattle.nsc_model.specs.Answer.{Answer}
use Rattle.nsc_workload.specs.Workload.{answer_at, answers_from, request_count}
use Rattle.nsc_workload.specs.Runs.{AreShares, IsShare, first_of, replies_from}

pub map-bytes : (before after : List Answer) → map (λ a. a.bytes) (before ++ after) ≡ map (λ a. a.bytes) before ++ map (λ a. a.bytes) after
map-bytes [] after = refl
map-bytes (a ∷ before) after = ap (λ rest. a.bytes ∷ rest) (map-bytes before after)

pub next : (n from count : ℕ) → replies_from n from (count + 1) ≡ replies_from n from count ++ (answer_at n (from + count)).bytes ∷ []
next n from count =
    let more : count + 1 ≡ suc count = omega arith in
    rw more (map-bytes (answers_from n from count) (answer_at n (from + count) ∷ []))

answers-join : (n from a b : ℕ) → answers_from n from (a + b) ≡ answers_from n from a ++ answers_from n (from + a) b
answers-join n from a zero =
    let sum : a + zero ≡ a = omega arith in
    rw sum (sym (append-nil (answers_from n from a)))
answers-join n from a (suc b) =
    let earlier = answers-join n from a b in
    let place : from + a + b ≡ from + (a + b) = omega arith in
    let sum : a + suc b ≡ suc (a + b) = omega arith in
    rw (sum, place, earlier) (append_assoc (answers_from n from a) (answers_from n (from + a) b) (answer_at n (from + (a + b)) ∷ []))

pub join : (n a b : ℕ) → a ≤ b → replies_from n 0 a ++ replies_from n a (b - a) ≡ replies_from n 0 b
join n a b within =
    let sum : a + (b - a) ≡ b = omega (arith, within) in
    let start : 0 + a ≡ a = omega arith in
    let all : answers_from n 0 b ≡ answers_from n 0 a ++ answers_from n a (b - a) = subst (λ k. answers_from n 0 k ≡ answers_from n 0 a ++ answers_from n a (b - a)) sum (subst (λ k. answers_from n 0 (a + (b - a)) ≡ answers_from n 0 a ++ answers_from n k (b - a)) start (answers-join n 0 a (b - a))) in
    sym (ap (λ answers. map (λ a. a.bytes) answers) all ∙ map-bytes (answers_from n 0 a) (answers_from n a (b - a)))

-- ---- where the part of each worker begins

through : (a b c : ℕ) → a ≤ b → b ≤ c → a ≤ c
through a b c h k = omega (arith, h, k)

div-grows : (m p w : ℕ) → 0 < w → m ≤ p → m / w ≤ p / w
div-grows m p w some h = (le-div_iff_mul-le some).1 (through (m / w * w) m p (div-mul-le_self m w) h)

grows : (n w k : ℕ) → 0 < w → first_of n w k ≤ first_of n w (k + 1)
grows n w k some =
    let more : k ≤ k + 1 = omega arith in
    div-grows (request_count n * k) (request_count n * (k + 1)) w some (mul-le-mul_left (request_count n) more)

pub ends : (n w : ℕ) → 0 < w → first_of n w w ≡ request_count n
ends n w some = mul-div_cancel (request_count n) some

within : (n w k : ℕ) → 0 < w → k ≤ w → first_of n w k ≤ request_count n
within n w k some h = subst (λ end. first_of n w k ≤ end) (ends n w some) (div-grows (request_count n * k) (request_count n * w) w some (mul-le-mul_left (request_count n) h))

part : (f t c : ℕ) → f ≤ t → t ≤ c → f + (t - f) ≤ c
part f t c h k = omega (arith, h, k)

pub part_fits : (n w k from to : ℕ) → 0 < w → k < w → from ≡ first_of n w k → to ≡ first_of n w (k + 1) → from + (to - from) ≤ request_count n
part_fits n w k from to some h is is_end =
    let last : k + 1 ≤ w = omega (arith, h) in
    rw (is, is_end) (part (first_of n w k) (first_of n w (k + 1)) (request_count n) (grows n w k some) (within n w (k + 1) some last))

pub goes_on : (n w k : ℕ) (shares : List (Option (List (List ℕ)))) (share : Option (List (List ℕ))) (texts : List (List ℕ)) → 0 < w → k < w → AreShares n w shares → share ≡ slice_index_or shares k share → share ≡ Some texts → replies_from n 0 (first_of n w k) ++ texts ≡ replies_from n 0 (first_of n w (k + 1))
goes_on n w k shares share texts some h each is text =
    let own : texts ≡ replies_from n (first_of n w k) (first_of n w (k + 1) - first_of n w k) = subst (λ s. IsShare n w k s) (sym is ∙ text) (each k share h) in
    ap (λ more. replies_from n 0 (first_of n w k) ++ more) own ∙ join n (first_of n w k) (first_of n w (k + 1)) (grows n w k some)
