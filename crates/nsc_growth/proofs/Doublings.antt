-- Doublings one after the other, and those that were tried.
use Rattle.std.proofs.Common.{◌≡◌, ℕ, ◌+◌, ◌*◌, ◌^◌, ◌<◌, ◌≤◌, ◌⊎◌, inl, inr, None, ap, sym, subst, ◌∙◌, arith, below_more}
use Rattle.std.proofs.lemmas.Bool.{cases_lt}
use Rattle.std.proofs.lemmas.Nat.{pow-add, pow_pos}
use Rattle.std.proofs.Math.Nat.{mul_assoc, mul-le-mul_left, pow-le-pow_right}
use Rattle.nsc_words.specs.declared.layout.Layout.{Layout}
use Rattle.nsc_words.specs.Layout.{IsLayout}
use Rattle.nsc_growth.specs.Doubled.{Fits, IsNext, doubled}

product_again : (n j k : ℕ) → n * 2 ^ j * 2 ^ k ≡ n * 2 ^ (j + k)
product_again n j k = mul_assoc n (2 ^ j) (2 ^ k) ∙ ap (λ x. n * x) (sym (pow-add 2 j k))

-- doubled so often, and then so often again
pub doubled_again : (j k : ℕ) (layout : Layout) → doubled k (doubled j layout) ≡ doubled (j + k) layout
doubled_again j k layout = λ i. record { buckets = product_again layout.buckets j k i; arena = product_again layout.arena j k i }

-- fewer doublings make no more
pub product_less : (n j k : ℕ) → j ≤ k → n * 2 ^ j ≤ n * 2 ^ k
product_less n j k low = mul-le-mul_left n (pow-le-pow_right {n = 2} (pow_pos 1) low)

-- fewer doublings fit where more do
pub fewer_fit : (limit j k : ℕ) (layout : Layout) → j ≤ k → Fits limit (doubled k layout) → Fits limit (doubled j layout)
fewer_fit limit j k layout low fits =
    let buckets = product_less layout.buckets j k low in
    let arena = product_less layout.arena j k low in
    record { bytes = omega arith; words = omega arith }

-- this is how large it became so far, and no table before has room for `wanted` words
pub record Tried (layout : Layout) (wanted : ℕ) (larger : Layout) : Type 0 where
  pub doublings : ℕ
  pub is : larger ≡ doubled (doublings + 1) layout
  pub short : (j : ℕ) → j < doublings → (doubled (j + 1) layout).arena < wanted
  pub buckets : larger.buckets ≤ 2 ^ 30
  pub some : 128 ≤ larger.arena
  pub most : larger.arena ≤ 2 ^ 24

-- doubled once
pub tried_first : (layout larger : Layout) (wanted : ℕ) → IsLayout layout → larger ≡ doubled 1 layout → Tried layout wanted larger
tried_first layout larger wanted sizes is =
    let buckets = ap (λ (l : Layout). l.buckets) is in
    let arena = ap (λ (l : Layout). l.arena) is in
    record {
      doublings = 0;
      is = is;
      short = λ j low. absurd (omega arith);
      buckets = omega arith;
      some = omega arith;
      most = omega arith;
    }

-- doubled once more, where it fits and has no room
pub tried_next : (limit : ℕ) (layout larger next : Layout) (wanted : ℕ) → larger.buckets ≤ 2 ^ 29 → Tried layout wanted larger → Fits limit larger → larger.arena < wanted → next ≡ doubled 1 larger → Tried layout wanted next
tried_next limit layout larger next wanted few tried fits short is =
    let buckets = ap (λ (l : Layout). l.buckets) is in
    let arena = ap (λ (l : Layout). l.arena) is in
    let here : (doubled (tried.doublings + 1) layout).arena < wanted = subst (λ (l : Layout). l.arena < wanted) tried.is short in
    record {
      doublings = tried.doublings + 1;
      is = is ∙ ap (doubled 1) tried.is ∙ doubled_again (tried.doublings + 1) 1 layout;
      short = below_more (λ j. (doubled (j + 1) layout).arena < wanted) tried.doublings tried.short here;
      buckets = omega arith;
      some = omega arith;
      most = omega arith;
    }

-- where it does not fit, none after it does
pub none_fits : (limit : ℕ) (layout larger : Layout) (wanted : ℕ) → Tried layout wanted larger → ¬ (Fits limit larger) → IsNext limit layout wanted None
none_fits limit layout larger wanted tried not_fits k fits = by_order (cases_lt k tried.doublings) where
  by_order : (k < tried.doublings) ⊎ (tried.doublings ≤ k) → (doubled (k + 1) layout).arena < wanted
  by_order (inl low) = tried.short k low
  by_order (inr high) = absurd (not_fits (subst (Fits limit) (sym tried.is) (fewer_fit limit (tried.doublings + 1) (k + 1) layout (omega arith) fits)))
