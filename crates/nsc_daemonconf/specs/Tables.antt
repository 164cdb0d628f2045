-- Tables of names.
use Rattle.std.specs.Prelude.{ℕ, if◌then◌else◌, List, [], ◌∷◌, Option, Some, None}
use Rattle.std.specs.Borrow.{Bor}
use Rattle.std.specs.Str.{bytes_eq}

-- what stands beside the first name of a table that is this word
unfoldable pub found : {A : Type 0} → List (Bor (List ℕ) × A) → List ℕ → Option A
found [] word = None
found (entry ∷ table) word = if bytes_eq word entry.0.now then Some entry.1 else found table word
