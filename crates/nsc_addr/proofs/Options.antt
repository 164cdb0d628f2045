-- What an option was, where something that was made of it is there.
use Rattle.std.proofs.Common.{◌≡◌, ℕ, ◌==◌, Bool, true, false, cond, ◌&&◌, ◌||◌, ◌⊎◌, List, ◌∷◌, length, Option, Some, None, option_and_then, refl, sym, ◌∙◌, ap, inl, inr}
use Rattle.std.specs.Option.{option_map, option_or}
use Rattle.std.proofs.lemmas.Bool.{eqb-true}
use Rattle.nsc_base.specs.Addresses.{exactly, each_spelled}

module _ {A B : Type 0} where
  pub then_some : (f : A → Option B) (o : Option A) (y : B) → option_and_then f o ≡ Some y → (x : A) × (o ≡ Some x) × (f x ≡ Some y)
  then_some f None y h = cc
  then_some f (Some x) y h = (x, refl, h)

  pub map_some : (f : A → B) (o : Option A) (y : B) → option_map f o ≡ Some y → (x : A) × (o ≡ Some x) × (f x ≡ y)
  map_some f None y h = cc
  map_some f (Some x) y h = (x, refl, cc)

pub if_some : {A : Type 0} (b : Bool) (x y : A) → cond b (Some x) None ≡ Some y → (b ≡ true) × (x ≡ y)
if_some true x y h = (refl, cc)
if_some false x y h = cc

pub both_true : (a b : Bool) → (a && b) ≡ true → (a ≡ true) × (b ≡ true)
both_true true b h = (refl, h)
both_true false b h = cc

pub exactly_some : (count : ℕ) (o : Option (List ℕ)) (xs : List ℕ) → exactly count o ≡ Some xs → (o ≡ Some xs) × (length xs ≡ count)
exactly_some count None xs h = cc
exactly_some count (Some ys) xs h =
    let parts = if_some (length ys == count) ys xs h in
    let size : length ys ≡ count = eqb-true (length ys) count parts.0 in
    (ap Some parts.1, ap length (sym parts.1) ∙ size)

pub each_some : (spelled : List ℕ → Option ℕ) (text : List ℕ) (texts : List (List ℕ)) (ns : List ℕ) → each_spelled spelled (text ∷ texts) ≡ Some ns
    → (n : ℕ) × (others : List ℕ) × (spelled text ≡ Some n) × (each_spelled spelled texts ≡ Some others) × (n ∷ others ≡ ns)
each_some spelled text texts ns h =
    let front = then_some (λ n. option_and_then (λ others. Some (n ∷ others)) (each_spelled spelled texts)) (spelled text) ns h in
    let back = then_some (λ others. Some (front.0 ∷ others)) (each_spelled spelled texts) ns front.2 in
    (front.0, back.0, front.1, back.1, cc)

pub none_from : {A : Type 0} (o : Option A) → ((x : A) → o ≡ Some x → ⊥) → o ≡ None
none_from None h = refl
none_from (Some x) h = absurd (h x refl)

pub or_some : {A : Type 0} (o p : Option A) (x : A) → option_or o p ≡ Some x → (o ≡ Some x) ⊎ ((o ≡ None) × (p ≡ Some x))
or_some None p x h = inr (refl, h)
or_some (Some y) p x h = inl h

pub either_false : (a b : Bool) → (a || b) ≡ false → (a ≡ false) × (b ≡ false)
either_false true b h = cc
either_false false b h = (refl, h)
