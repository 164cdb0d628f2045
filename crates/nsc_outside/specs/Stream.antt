-- Streams of bytes.
use Rattle.std.specs.Prelude.{◌≡◌, ℕ, ◌<◌, List, [], ◌++◌, length, Option, Some, None, IfSome}

-- bytes moved out of a source: they stood at the front of what was left, where the source tells it
abbrev pub Moves : Option (List ℕ) → Option (List ℕ) → List ℕ → Type 0
Moves None after moved = after ≡ None
Moves (Some left) after moved = (rest : List ℕ) × (after ≡ Some rest) × (left ≡ moved ++ rest)

-- some bytes moved out of a source, fewer than there was room for
abbrev pub MovesFewer : Option (List ℕ) → Option (List ℕ) → ℕ → Type 0
MovesFewer before after room = (front : List ℕ) × (length front < room) × Moves before after front

-- nothing is left, where the source tells what is left
abbrev pub IsDrained : Option (List ℕ) → Type 0
IsDrained left = IfSome left (λ rest. rest ≡ [])

-- bytes stand at the front of what is left in a source, where it tells that
abbrev pub IsAhead : Option (List ℕ) → List ℕ → Type 0
IsAhead left front = IfSome left (λ bytes. (rest : List ℕ) × (bytes ≡ front ++ rest))

-- a sink took bytes after those that it had, where it tells them
abbrev pub Grows : Option (List ℕ) → Option (List ℕ) → List ℕ → Type 0
Grows None after added = after ≡ None
Grows (Some had) after added = after ≡ Some (had ++ added)

-- a sink took the bytes at the front, and perhaps not all
abbrev pub GrowsByFront : Option (List ℕ) → Option (List ℕ) → List ℕ → Type 0
GrowsByFront before after bytes = (front : List ℕ) × ((rest : List ℕ) × (bytes ≡ front ++ rest)) × Grows before after front
