-- What holds of each item of a list holds of the items that a step of a lookup keeps.
use Rattle.std.proofs.Common.{Bool, true, false, cond, List, [], ◌∷◌, ◌++◌, filter, map, Option, Some, None, IfSome}
use Rattle.std.specs.List.{AllByRecursion, cons_option}
use Rattle.nsc_model.specs.Entries.{first_of}

pub filter_keeps : {A : Type 0} (P : A → Type 0) (test : A → Bool) (xs : List A) → AllByRecursion P xs → AllByRecursion P (filter test xs)
filter_keeps P test [] all = tt
filter_keeps P test (x ∷ xs) all =
    elim (test x) as (λ v. AllByRecursion P (cond v (x ∷ filter test xs) (filter test xs))) [
      | true ↦ (all.0, filter_keeps P test xs all.1)
      | false ↦ filter_keeps P test xs all.1
    ]

pub first_keeps : {A : Type 0} (P : A → Type 0) (xs : List A) → AllByRecursion P xs → IfSome (first_of xs) P
first_keeps P [] all = tt
first_keeps P (x ∷ xs) all = all.0

pub map_keeps : {A B : Type 0} (P : B → Type 0) (f : A → B) (xs : List A) → AllByRecursion (λ x. P (f x)) xs → AllByRecursion P (map f xs)
map_keeps P f [] all = tt
map_keeps P f (x ∷ xs) all = (all.0, map_keeps P f xs all.1)

pub append_keeps : {A : Type 0} (P : A → Type 0) (xs ys : List A) → AllByRecursion P xs → AllByRecursion P ys → AllByRecursion P (xs ++ ys)
append_keeps P [] ys all others = others
append_keeps P (x ∷ xs) ys all others = (all.0, append_keeps P xs ys all.1 others)

pub parts_keep : {A : Type 0} (P : A → Type 0) (xs ys : List A) → AllByRecursion P (xs ++ ys) → AllByRecursion P xs × AllByRecursion P ys
parts_keep P [] ys all = (tt, all)
parts_keep P (x ∷ xs) ys all = let later = parts_keep P xs ys all.1 in ((all.0, later.0), later.1)

pub all_weaker : {A : Type 0} (P Q : A → Type 0) → ((x : A) → P x → Q x) → (xs : List A) → AllByRecursion P xs → AllByRecursion Q xs
all_weaker P Q each [] all = tt
all_weaker P Q each (x ∷ xs) all = (each x all.0, all_weaker P Q each xs all.1)

-- an item, where there is one, in front of others
pub onto_keeps : {A : Type 0} (P : A → Type 0) (o : Option A) (xs : List A) → IfSome o P → AllByRecursion P xs → AllByRecursion P (cons_option o xs)
onto_keeps P None xs first all = all
onto_keeps P (Some x) xs first all = (first, all)

pub front_keeps : {A : Type 0} (P : A → Type 0) (o : Option A) (xs : List A) → AllByRecursion P (cons_option o xs) → IfSome o P × AllByRecursion P xs
front_keeps P None xs all = (tt, all)
front_keeps P (Some x) xs all = all
