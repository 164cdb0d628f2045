-- Ids, each once.
use Rattle.std.specs.Prelude.{◌≡◌, ℕ, ◌==◌, if◌then◌else◌, List, [], ◌∷◌, ◌++◌}
use Rattle.std.specs.BTreeSet.{BTreeSet, contains}
use Rattle.std.specs.List.{list_any}
use Rattle.std.specs.Ordering.{nat_cmp}

-- a set has the numbers of a list and no other
abbrev pub HasThose : BTreeSet ℕ → List ℕ → Type 0
HasThose seen ids = (q : ℕ) → contains nat_cmp seen q ≡ list_any (λ id. q == id) ids

-- numbers with one more at the end, unless they have it
abbrev pub with_id : List ℕ → ℕ → List ℕ
with_id ids id = if list_any (λ other. id == other) ids then ids else ids ++ id ∷ []

-- more numbers after others, each where it is not there yet
abbrev pub all_ids : List ℕ → List ℕ → List ℕ
all_ids ids [] = ids
all_ids ids (n ∷ more) = all_ids (with_id ids n) more
