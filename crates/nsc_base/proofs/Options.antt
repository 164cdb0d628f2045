-- What holds of the value of an option, where it has one, step by step as parsers make it.
use Rattle.std.proofs.Common.{◌≡◌, Bool, true, false, if◌then◌else◌, Option, Some, None, IfSome, refl}
use Rattle.std.specs.Option.{option_and_then, option_map, option_or}

-- a value that is there where a test says so
pub when_true : {A : Type 0} (P : A → Type 0) (b : Bool) (x : A) → (b ≡ true → P x) → IfSome (if b then Some x else None) P
when_true P true x h = h refl
when_true P false x h = tt

-- an option that counts where a test does not say so
pub when_false : {A : Type 0} (P : A → Type 0) (b : Bool) (o : Option A) → (b ≡ false → IfSome o P) → IfSome (if b then None else o) P
when_false P true o h = tt
when_false P false o h = h refl

pub then_keeps : {A B : Type 0} (P : A → Type 0) (Q : B → Type 0) (f : A → Option B) (o : Option A) → IfSome o P → ((x : A) → P x → IfSome (f x) Q) → IfSome (option_and_then f o) Q
then_keeps P Q f None kept next = tt
then_keeps P Q f (Some x) kept next = next x kept

pub map_keeps : {A B : Type 0} (Q : B → Type 0) (f : A → B) (o : Option A) → IfSome o (λ x. Q (f x)) → IfSome (option_map f o) Q
map_keeps Q f None kept = tt
map_keeps Q f (Some x) kept = kept

pub or_keeps : {A : Type 0} (P : A → Type 0) (a b : Option A) → IfSome a P → IfSome b P → IfSome (option_or a b) P
or_keeps P None b first second = second
or_keeps P (Some x) b first second = first
