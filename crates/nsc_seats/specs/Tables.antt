-- The tables of a database: those that its writer left, the oldest first, and then the one that it writes.
use Rattle.std.specs.Prelude.{◌≡◌, List, [], ◌∷◌, ◌++◌, map}
use Rattle.atomic_table.specs.Seated.{TableId}
use Rattle.nsc_writer.specs.Former.{Former}

abbrev pub tables : List Former → TableId → List TableId
tables left newest = map (λ (f : Former). f.table) left ++ newest ∷ []

-- they are the first one, and after it each that went on in place of one that was left
abbrev pub IsChain : TableId → List Former → TableId → Type 0
IsChain first left newest = tables left newest ≡ first ∷ map (λ (f : Former). f.newer.table) left
