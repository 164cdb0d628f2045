-- The front of a line that has the form of an entry: its name and its id.
use Rattle.std.proofs.Common.{◌≡◌, ℕ, ◌+◌, Bool, true, false, not, if◌then◌else◌, cond, List, [], ◌∷◌, drop, suc, take, Option, Some, None, refl, sym, ◌∙◌, ap, subst, arith}
use Rattle.std.specs.List.{after_first, before_first, position_or_len}
use Rattle.std.specs.Option.{is_some, option_map}
use Rattle.nsc_base.specs.Decimal.{decimal_of}
use Rattle.nsc_base.specs.Text.{fields_of, onto_first, pieces, trimmed}
use Rattle.nsc_base.proofs.Pieces.{pieces-some}
use Rattle.nsc_model.specs.Entries.{if_named}
use Rattle.nsc_accounts.proofs.Named.{HasNames, Names}
use Rattle.nsc_index.specs.Fronts.{is_colon, raw_id, raw_mark, raw_name}
use Rattle.nsc_index.specs.Numbers.{text_number}

one_more : {X : Type 0} (n : ℕ) (x : X) (xs : List X) → take (1 + n) (x ∷ xs) ≡ x ∷ take n xs
one_more n x xs = let m : 1 + n ≡ suc n = omega arith in ap (λ k. take k (x ∷ xs)) m

one_less : {X : Type 0} (n : ℕ) (x : X) (xs : List X) → drop (1 + n + 1) (x ∷ xs) ≡ drop (n + 1) xs
one_less n x xs = let m : 1 + n + 1 ≡ suc (n + 1) = omega arith in ap (λ k. drop k (x ∷ xs)) m

-- the first of several pieces is what stands before the first cut, and the others are those of what stands after it
first_cut : (cuts : ℕ → Bool) (bytes first second : List ℕ) (others : List (List ℕ)) → pieces cuts bytes ≡ first ∷ second ∷ others → (before_first cuts bytes ≡ first) × (pieces cuts (after_first cuts bytes) ≡ second ∷ others)
first_cut cuts [] first second others is = cc
first_cut cuts (b ∷ bytes) first second others is =
    let some = pieces-some cuts bytes in
    elim (cuts b) as (λ v. (if v then [] ∷ pieces cuts bytes else onto_first b (pieces cuts bytes)) ≡ first ∷ second ∷ others → (take (cond (not v) (1 + position_or_len cuts bytes) 0) (b ∷ bytes) ≡ first) × (pieces cuts (drop (cond (not v) (1 + position_or_len cuts bytes) 0 + 1) (b ∷ bytes)) ≡ second ∷ others)) [
      | true ↦ λ e. (cc, cc)
      | false ↦ λ e.
          let cut : (b ∷ some.0) ∷ some.1.0 ≡ first ∷ second ∷ others = ap (onto_first b) (sym some.1.1) ∙ e in
          let front : b ∷ some.0 ≡ first = cc in
          let rest : some.1.0 ≡ second ∷ others = cc in
          let more = first_cut cuts bytes some.0 second others (some.1.1 ∙ ap (λ l. some.0 ∷ l) rest) in
          (one_more (position_or_len cuts bytes) b bytes ∙ ap (λ (l : List ℕ). b ∷ l) more.0 ∙ front, ap (pieces cuts) (one_less (position_or_len cuts bytes) b bytes) ∙ more.1)
    ] is

-- the first piece, where there is but one
only_piece : (cuts : ℕ → Bool) (bytes first : List ℕ) (others : List (List ℕ)) → pieces cuts bytes ≡ first ∷ others → before_first cuts bytes ≡ first
only_piece cuts [] first others is = cc
only_piece cuts (b ∷ bytes) first others is =
    let some = pieces-some cuts bytes in
    elim (cuts b) as (λ v. (if v then [] ∷ pieces cuts bytes else onto_first b (pieces cuts bytes)) ≡ first ∷ others → take (cond (not v) (1 + position_or_len cuts bytes) 0) (b ∷ bytes) ≡ first) [
      | true ↦ λ e. cc
      | false ↦ λ e.
          let cut : (b ∷ some.0) ∷ some.1.0 ≡ first ∷ others = ap (onto_first b) (sym some.1.1) ∙ e in
          let front : b ∷ some.0 ≡ first = cc in
          one_more (position_or_len cuts bytes) b bytes ∙ ap (λ (l : List ℕ). b ∷ l) (only_piece cuts bytes some.0 some.1.0 some.1.1) ∙ front
    ] is

name_there : (line name : List ℕ) (id : ℕ) → Names (fields_of 58 (trimmed line)) name id → raw_name line ≡ name
name_there line name id is = (first_cut is_colon (trimmed line) name is.second (is.third ∷ is.others) is.are).0

id_there : (line name : List ℕ) (id : ℕ) → Names (fields_of 58 (trimmed line)) name id → raw_id line ≡ Some id
id_there line name id is =
    let one = (first_cut is_colon (trimmed line) name is.second (is.third ∷ is.others) is.are).1 in
    let two = (first_cut is_colon (after_first is_colon (trimmed line)) is.second is.third is.others one).1 in
    ap decimal_of (only_piece is_colon (after_first is_colon (after_first is_colon (trimmed line))) is.third is.others two) ∙ is.spells

-- a line that is named has the name, or the id, that is asked for
named_there : {A : Type 0} {P : Type 0} (names : A → Bool) (o : Option A) → is_some (if_named names o) ≡ true → ((a : A) → o ≡ Some a → names a ≡ true → P) → P
named_there names None is goes = cc
named_there {A} {P} names (Some a) is goes =
    elim (names a) as (λ v. names a ≡ v → is_some (if v then Some a else None) ≡ true → P) [
      | true ↦ λ named e. goes a refl named
      | false ↦ λ named e. cc
    ] refl is

pub marked_front : {A : Type 0} (line : List ℕ) (o : Option A) (name_of : A → List ℕ) (id_of : A → ℕ) (names : A → Bool) (name : List ℕ) → HasNames line o name_of id_of → ((a : A) → names a ≡ true → name_of a ≡ name) → is_some (if_named names o) ≡ true → raw_mark line ≡ Some (text_number name)
marked_front line o name_of id_of names name has same is =
    named_there names o is (λ a given named.
    let are = subst (λ x. HasNames line x name_of id_of) given has in
    ap (option_map (λ (id : ℕ). text_number (raw_name line))) (id_there line (name_of a) (id_of a) are) ∙ ap (λ (n : List ℕ). Some (text_number n)) (name_there line (name_of a) (id_of a) are ∙ same a named))

pub numbered_front : {A : Type 0} (line : List ℕ) (o : Option A) (name_of : A → List ℕ) (id_of : A → ℕ) (names : A → Bool) (id : ℕ) → HasNames line o name_of id_of → ((a : A) → names a ≡ true → id_of a ≡ id) → is_some (if_named names o) ≡ true → raw_id line ≡ Some id
numbered_front line o name_of id_of names id has same is =
    named_there names o is (λ a given named. id_there line (name_of a) (id_of a) (subst (λ x. HasNames line x name_of id_of) given has) ∙ ap Some (same a named))
