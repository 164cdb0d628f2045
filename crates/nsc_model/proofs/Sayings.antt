-- What a compat line may say, case by case: its name, or its fields.
use Rattle.std.proofs.Common.{◌≡◌, ℕ, true, false, ◌==◌, if◌then◌else◌, List, [], ◌∷◌, refl}
use Rattle.nsc_base.specs.Text.{fields_of, trimmed}
use Rattle.nsc_model.specs.Compat.{Saying, Own, Excludes, Asks, AsksAll, Netgroup, first_field, sayings, sayings_by, sayings_minus, sayings_plus}
use Rattle.nsc_model.specs.Users.{has_zero}

module _ (P : List Saying → Type 0) (nothing : P []) (netgroup : P (Netgroup ∷ [])) (excludes : (name : List ℕ) → P (Excludes name ∷ [])) (line : List ℕ) (own : P (Own line ∷ [])) where
  minus_case : (name : List ℕ) → P (sayings_minus name)
  minus_case [] = nothing
  minus_case (b ∷ name) = elim (b == 64) as (λ v. P (if v then Netgroup ∷ [] else Excludes (b ∷ name) ∷ [])) [ true ↦ netgroup | false ↦ excludes (b ∷ name) ]

  plus_case : (fields : List (List ℕ)) (name : List ℕ) → P (AsksAll fields ∷ []) → ((name : List ℕ) → P (Asks name fields ∷ [])) → P (sayings_plus fields name)
  plus_case fields [] asks_all asks = asks_all
  plus_case fields (b ∷ name) asks_all asks = elim (b == 64) as (λ v. P (if v then Netgroup ∷ [] else Asks (b ∷ name) fields ∷ [])) [ true ↦ netgroup | false ↦ asks (b ∷ name) ]

  by_case : (bytes : List ℕ) → P (AsksAll (fields_of 58 bytes) ∷ []) → ((name : List ℕ) → P (Asks name (fields_of 58 bytes) ∷ [])) → P (sayings_by line bytes)
  by_case [] asks_all asks = nothing
  by_case (b ∷ bytes) asks_all asks =
      let other = elim (b == 45) as (λ v. P (if v then sayings_minus (first_field bytes) else Own line ∷ [])) [ true ↦ minus_case (first_field bytes) | false ↦ own ] in
      elim (b == 43) as (λ v. P (if v then sayings_plus (fields_of 58 (b ∷ bytes)) (first_field bytes) else (if b == 45 then sayings_minus (first_field bytes) else Own line ∷ []))) [
        | true ↦ plus_case (fields_of 58 (b ∷ bytes)) (first_field bytes) asks_all asks
        | false ↦ other
      ]

  -- the fields are those of a line without a zero byte
  pub line_case : (has_zero line ≡ false → P (AsksAll (fields_of 58 (trimmed line)) ∷ [])) → (has_zero line ≡ false → (name : List ℕ) → P (Asks name (fields_of 58 (trimmed line)) ∷ [])) → P (sayings line)
  line_case asks_all asks =
      elim (has_zero line) as (λ v. has_zero line ≡ v → P (if v then [] else sayings_by line (trimmed line))) [
        | true ↦ λ is. nothing
        | false ↦ λ clean. by_case (trimmed line) (asks_all clean) (asks clean)
      ] refl
