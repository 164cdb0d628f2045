-- A node that is found by a number.
use Rattle.std.specs.Prelude.{◌≡◌, ℕ, ◌≤◌, true, List, Option, Some, None}
use Rattle.nsc_words.specs.declared.node.Placed.{Placed}
use Rattle.nsc_words.specs.Laid.{Among}
use Rattle.nsc_arena.specs.Changes.{IsFirst, head_of}
use Rattle.nsc_shelf.specs.declared.finding.Found.{Found}

-- it is the oldest usable node of at least this number, with its place and what is read of it, or there is none
abbrev pub IsOldest : ℕ → List Placed → Option Found → Type 0
IsOldest number nodes None = IsFirst number nodes None
IsOldest number nodes (Some found) =
    (p : Placed) × Among p nodes × (p.place ≡ found.at) × (p.usable ≡ true) × (number ≤ p.node.number)
    × ((q : Placed) → Among q nodes → q.usable ≡ true → number ≤ q.node.number → p.node.number ≤ q.node.number)
    × (found.head ≡ head_of p)
