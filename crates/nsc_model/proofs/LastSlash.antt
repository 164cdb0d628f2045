-- A key cut at its last slash, by the place that a search gives.
use Rattle.std.proofs.Common.{◌≡◌, ℕ, ◌+◌, ◌-◌, ◌<◌, Bool, true, false, not, List, [], length, get_or, take, drop, Some, None, refl, ◌∙◌, ap, arith, length-drop}
use Rattle.std.specs.List.{after_last, before_last, list_any, suffix_len}
use Rattle.std.proofs.lemmas.List.{take_all}
use Rattle.std.proofs.lemmas.List.Folds.{list_any_at}
use Rattle.std.proofs.lemmas.List.Sums.{suffix_len_is}
use Rattle.memchr.specs.Find.{IsLastByte, is_byte}
use Rattle.nsc_base.proofs.Pieces.{none_cuts}
use Rattle.nsc_model.specs.ServiceLines.{ServiceKey, is_slash, service_key}

not_true : (b : Bool) → (b ≡ true → ⊥) → b ≡ false
not_true true h = absurd (h refl)
not_true false h = refl

-- no slash stands after the last one
past_last : (key : List ℕ) (at : ℕ) → IsLastByte (is_byte 47) key (Some at) → suffix_len (λ b. not (is_slash b)) key ≡ length key - (at + 1)
past_last key at found =
    let bound : at < length key = found.0.high in
    let here : at + 1 - 1 ≡ at = omega arith in
    suffix_len_is (λ b. not (is_slash b)) key (at + 1) 0 (omega arith) (λ k past below. ap not (not_true _ (found.0.after k past below))) (λ some. ap (λ n. not (is_slash (get_or key n 0))) here ∙ ap not found.1)

before_is : (key : List ℕ) (at : ℕ) → IsLastByte (is_byte 47) key (Some at) → take at key ≡ before_last is_slash key
before_is key at found =
    let front : at ≡ length key - suffix_len (λ b. not (is_slash b)) key - 1 = omega (arith, past_last key at found, found.0.high) in
    ap (λ n. take n key) front

after_is : (key : List ℕ) (at : ℕ) → IsLastByte (is_byte 47) key (Some at) → take (length key - (at + 1)) (drop (at + 1) key) ≡ after_last is_slash key
after_is key at found =
    let back : at + 1 ≡ length key - suffix_len (λ b. not (is_slash b)) key = omega (arith, past_last key at found, found.0.high) in
    take_all (length key - (at + 1)) (drop (at + 1) key) (omega (arith, length-drop (at + 1) key)) ∙ ap (λ n. drop n key) back

same_key : (a b c d : List ℕ) → a ≡ b → c ≡ d → let key : ServiceKey = record { asked = a; proto = c } in key ≡ record { asked = b; proto = d }
same_key a b c d asked proto = cc

cut_key : (key : List ℕ) → list_any is_slash key ≡ true → record { asked = before_last is_slash key; proto = after_last is_slash key } ≡ service_key key
cut_key key has = rw has refl

pub cut-found : (key : List ℕ) (at : ℕ) → IsLastByte (is_byte 47) key (Some at) → record { asked = take at key; proto = take (length key - (at + 1)) (drop (at + 1) key) } ≡ service_key key
cut-found key at found =
    let bound : at < length key = found.0.high in
    same_key (take at key) (before_last is_slash key) (take (length key - (at + 1)) (drop (at + 1) key)) (after_last is_slash key) (before_is key at found) (after_is key at found)
    ∙ cut_key key (list_any_at is_slash key at 0 bound found.1)

pub cut-missing : (key : List ℕ) → IsLastByte (is_byte 47) key None → record { asked = key; proto = [] } ≡ service_key key
cut-missing key missing =
    let none : list_any is_slash key ≡ false = none_cuts is_slash key (λ k below. not_true _ (missing k (omega arith) below)) in
    rw none refl
