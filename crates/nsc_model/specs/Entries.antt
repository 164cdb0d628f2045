-- The rule of every lookup in a file: of the entries of its lines that have the form, those that the request names.
use Rattle.std.specs.Prelude.{ℕ, Bool, if◌then◌else◌, List, [], ◌∷◌, filter, Option, Some, None}
use Rattle.std.specs.List.{filter_map}
use Rattle.nsc_base.specs.Text.{lines_of}

abbrev pub first_of : {A : Type 0} → List A → Option A
first_of [] = None
first_of (x ∷ xs) = Some x

-- an entry, where the request names it
abbrev pub if_named : {A : Type 0} → (A → Bool) → Option A → Option A
if_named names None = None
if_named names (Some entry) = if names entry then Some entry else None

-- the entries of a file that the request names, in its order, where `entry_of` gives the entry of a line that has the form
abbrev pub named_in : {A : Type 0} → (List ℕ → Option A) → (A → Bool) → List ℕ → List A
named_in entry_of names file = filter names (filter_map entry_of (lines_of file))

-- the first of them
abbrev pub first_named : {A : Type 0} → (List ℕ → Option A) → (A → Bool) → List ℕ → Option A
first_named entry_of names file = first_of (named_in entry_of names file)
