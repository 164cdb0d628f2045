-- The numbers of reads. Sets of files that were split from one draw them together: the n-th read of them all draws n.
use Rattle.std.specs.Prelude.{◌≡◌, ℕ, ◌%◌, ◌^◌, ◌<◌, ◌≤◌, ◌⊎◌, ◌==◌, Bool, List, [], ◌∷◌, ◌++◌, All, sum_by, count_by}
use Rattle.std.specs.List.{list_any}
use Rattle.atomic_table.specs.Seated.{TableId}

-- how often a number was drawn, where each set drew a list of them
abbrev pub times_drawn : ℕ → List (List ℕ) → ℕ
times_drawn number draws = sum_by (λ drawn. count_by (λ n. n == number) drawn) draws

-- each number from 1 on, up to how many reads were made, was drawn once, and no other; a word of 64 bits counts the reads
pub record IsNumbered (words : List ℕ) (draws : List (List ℕ)) : Type 0 where
  pub made : ℕ
  pub counted : words ≡ made % 2 ^ 64 ∷ []
  pub once : (number : ℕ) → 0 < number → number ≤ made → times_drawn number draws ≡ 1
  pub no_other : (number : ℕ) → (number ≡ 0) ⊎ (made < number) → times_drawn number draws ≡ 0

-- a read drew one number, above those that its set drew before, and this holds of it
pub record Draws (before after : List ℕ) (P : ℕ → Type 0) : Type 0 where
  pub number : ℕ
  pub from_one : 0 < number
  pub above : All (λ earlier. earlier < number) before
  pub drawn : after ≡ before ++ number ∷ []
  pub told : P number

-- the read of this number is one of those that fail, which have numbers of 64 bits
abbrev pub is_failing : List ℕ → ℕ → Bool
is_failing failing number = list_any (λ read. read == number % 2 ^ 64) failing

-- a set's handle on a numbering: which one it is, and the numbers that the set drew
pub record Numbering : Type 0 where
  pub table : TableId
  pub numbers : List ℕ
