-- Fields that are counted.
use Rattle.std.specs.Prelude.{ℕ, ◌==◌, if◌then◌else◌, List, length, Option, Some, None}

-- a list of exactly `count` items, and no other
abbrev pub exactly : {A : Type 0} → ℕ → List A → Option (List A)
exactly count items = if length items == count then Some items else None
