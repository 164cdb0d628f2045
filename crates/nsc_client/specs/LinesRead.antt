-- What was read of a connection to the gate, line by line.
use Rattle.std.specs.Prelude.{◌≡◌, ◌⊎◌, ℕ, ◌==◌, Bool, true, false, List, [], ◌∷◌, ◌++◌, All, Option, flat_map}
use Rattle.std.specs.List.{before_first, list_any}
use Rattle.nsc_base.specs.Text.{is_filled, lines_of}
use Rattle.nsc_outside.specs.Stream.{IsDrained, Moves}

abbrev pub is_newline : ℕ → Bool
is_newline b = b == 10

abbrev pub HasNoNewline : List ℕ → Type 0
HasNoNewline bytes = list_any is_newline bytes ≡ false

-- lines, each with its newline
abbrev pub with_newlines : List (List ℕ) → List ℕ
with_newlines lines = flat_map (λ line. line ++ 10 ∷ []) lines

-- the line that bytes begin with
abbrev pub front_line : List ℕ → List ℕ
front_line bytes = before_first is_newline bytes

-- these lines were read, each with its newline, and after them this
pub record ReadsLines (before after : Option (List ℕ)) (lines : List (List ℕ)) (rest : List ℕ) : Type 0 where
  pub moved : Moves before after (with_newlines lines ++ rest)
  pub are_lines : All HasNoNewline lines

-- the input was read to its end, and these are its lines
pub record ReadsAll (before after : Option (List ℕ)) (lines : List (List ℕ)) : Type 0 where
  pub bytes : List ℕ
  pub moved : Moves before after bytes
  pub are_lines : lines_of bytes ≡ lines
  pub drained : IsDrained after

-- these lines were read first, and each is whole
abbrev pub ReadsFirst : Option (List ℕ) → Option (List ℕ) → List (List ℕ) → Type 0
ReadsFirst before after lines = ((rest : List ℕ) × ReadsLines before after lines rest) ⊎ ReadsAll before after lines

-- the last line, which has no newline, where it is not empty and nothing is left after it
pub record IsLastLine (rest : List ℕ) (left : Option (List ℕ)) : Type 0 where
  pub lone : HasNoNewline rest
  pub filled : is_filled rest ≡ true
  pub drained : IsDrained left

-- bytes begin with a whole line: it has its newline, or is the last one
abbrev pub BeginsWithLine : List ℕ → Option (List ℕ) → Type 0
BeginsWithLine rest left = (list_any is_newline rest ≡ true) ⊎ IsLastLine rest left
