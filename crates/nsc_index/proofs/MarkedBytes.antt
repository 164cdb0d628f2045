-- The first places of a byte in a text, where bits mark those among its first thirty-two bytes.
use Rattle.std.proofs.Common.{◌≡◌, ◌≢◌, ℕ, ◌+◌, ◌-◌, ◌<◌, ◌≤◌, ◌==◌, ⊎_elim, Bool, false, true, cond, List, length, drop, get_or, refl, sym, ◌∙◌, ap, arith}
use Rattle.std.specs.Int.{bit_at}
use Rattle.std.specs.List.{after_first, position_or_len}
use Rattle.std.proofs.lemmas.Bool.{cases_lt, eqb-true}
use Rattle.std.proofs.lemmas.List.{drop-drop, get_or-drop, length-drop}
use Rattle.std.proofs.lemmas.Nat.Bits.{bit_at-zero}
use Rattle.nsc_index.specs.Looks.{IsLowest, IsWithout, MarksByte}
use Rattle.nsc_index.specs.Fronts.{is_colon}
use Rattle.nsc_index.proofs.FirstColons.{byte_there, colon_there}

one_set : (b : Bool) → cond {A = ℕ} b 1 0 ≡ 1 → b ≡ true
one_set true is = refl
one_set false is = absurd (omega arith)

none_set : (b : Bool) → cond {A = ℕ} b 1 0 ≡ 0 → b ≡ false
none_set true is = absurd (omega arith)
none_set false is = refl

set_inside : (byte : ℕ) (bytes : List ℕ) (bits k : ℕ) → MarksByte byte bytes bits → bit_at bits k ≡ 1 → k < 32
set_inside byte bytes bits k marked set = ⊎_elim (λ (l : k < 32). l) (λ (past : 32 ≤ k). absurd (omega (arith, marked.no_more k past))) (cases_lt k 32)

marked_at : (byte : ℕ) (bytes : List ℕ) (bits k : ℕ) → MarksByte byte bytes bits → bit_at bits k ≡ 1 → get_or bytes k 0 ≡ byte
marked_at byte bytes bits k marked set = eqb-true (get_or bytes k 0) byte (one_set (get_or bytes k 0 == byte) (sym (marked.marks k (set_inside byte bytes bits k marked set)) ∙ set))

other_at : (byte : ℕ) (bytes : List ℕ) (bits k : ℕ) → MarksByte byte bytes bits → k < 32 → bit_at bits k ≡ 0 → (get_or bytes k 0 == byte) ≡ false
other_at byte bytes bits k marked inside clear = none_set (get_or bytes k 0 == byte) (sym (marked.marks k inside) ∙ clear)

pub first_marked : (byte : ℕ) (bytes : List ℕ) (bits first : ℕ) → 32 ≤ length bytes → MarksByte byte bytes bits → IsLowest bits first → position_or_len (λ b. b == byte) bytes ≡ first
first_marked byte bytes bits first long marked low =
    let inside = set_inside byte bytes bits first marked low.set in
    byte_there byte bytes first (omega arith) (λ k below. other_at byte bytes bits k marked (omega arith) (low.below k below)) (marked_at byte bytes bits first marked low.set)

-- where the first thirty-two bytes have none, and the next have some
pub later_marked : (byte : ℕ) (bytes : List ℕ) (bits later place : ℕ) → 64 ≤ length bytes → MarksByte byte bytes bits → bits ≡ 0 → MarksByte byte (drop 32 bytes) later → IsLowest later place → position_or_len (λ b. b == byte) bytes ≡ 32 + place
later_marked byte bytes bits later place long marked clear others low =
    let inside = set_inside byte (drop 32 bytes) later place others low.set in
    let before = λ (k : ℕ) (below : k < 32 + place).
    ⊎_elim
    (λ (near : k < 32). other_at byte bytes bits k marked near (ap (λ n. bit_at n k) clear ∙ bit_at-zero k))
    (λ (far : 32 ≤ k).
    let at : 32 + (k - 32) ≡ k = omega arith in
    ap (λ n. get_or bytes n 0 == byte) (sym at) ∙ ap (λ b. b == byte) (sym (get_or-drop 32 bytes (k - 32) 0)) ∙ other_at byte (drop 32 bytes) later (k - 32) others (omega arith) (low.below (k - 32) (omega arith)))
    (cases_lt k 32) in
    byte_there byte bytes (32 + place) (omega arith) before (sym (get_or-drop 32 bytes place 0) ∙ marked_at byte (drop 32 bytes) later place others low.set)

-- the lowest of the other places lies behind the lowest of all
behind : (bits fewer first second : ℕ) → IsLowest bits first → IsWithout bits first fewer → IsLowest fewer second → (first < second) × (bit_at bits second ≡ 1)
behind bits fewer first second low one next =
    let apart : second ≢ first = λ same. absurd (omega (arith, one.taken, next.set, ap (bit_at fewer) same)) in
    let set : bit_at bits second ≡ 1 = sym (one.kept second next.within apart) ∙ next.set in
    (⊎_elim (λ (less : second < first). absurd (omega (arith, low.below second less))) (λ (le : first ≤ second). omega (arith, apart)) (cases_lt second first), set)

pub second_marked : (bytes : List ℕ) (bits fewer first second : ℕ) → 32 ≤ length bytes → MarksByte 58 bytes bits → IsLowest bits first → IsWithout bits first fewer → IsLowest fewer second → drop (second + 1) bytes ≡ after_first is_colon (after_first is_colon bytes)
second_marked bytes bits fewer first second long marked low one next =
    let next_set = behind bits fewer first second low one next in
    let inside = set_inside 58 bytes bits second marked next_set.1 in
    let rest = drop (first + 1) bytes in
    let gap = second - (first + 1) in
    let at : first + 1 + gap ≡ second = omega (arith, next_set.0) in
    let none = λ (k : ℕ) (below : k < gap).
    let place = first + 1 + k in
    ap is_colon (get_or-drop (first + 1) bytes k 0) ∙ other_at 58 bytes bits place marked (omega (arith, next_set.0)) (sym (one.kept place (omega (arith, next_set.0)) (omega arith)) ∙ next.below place (omega (arith, next_set.0))) in
    let here : get_or rest gap 0 ≡ 58 = get_or-drop (first + 1) bytes gap 0 ∙ ap (λ n. get_or bytes n 0) at ∙ marked_at 58 bytes bits second marked next_set.1 in
    let there = colon_there rest gap (omega (arith, length-drop (first + 1) bytes, next_set.0)) none here in
    let end : first + 1 + (gap + 1) ≡ second + 1 = omega arith in
    let front = first_marked 58 bytes bits first long marked low in
    sym (ap (λ n. after_first is_colon (drop (n + 1) bytes)) front ∙ ap (λ n. drop (n + 1) rest) there ∙ drop-drop (gap + 1) (first + 1) bytes ∙ ap (λ n. drop n bytes) end)
