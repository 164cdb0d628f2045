-- What holds of the entry of each short line holds of the entries of a file, and of the first that a request names.
use Rattle.std.proofs.Common.{ℕ, ◌+◌, ◌≤◌, Bool, List, [], ◌∷◌, length, IfSome, Option, Some, None, arith}
use Rattle.std.specs.List.{AllByRecursion, filter_map}
use Rattle.nsc_base.specs.Text.{lines_of}
use Rattle.nsc_model.specs.declared.row.Looked.{Looked}
use Rattle.nsc_model.specs.declared.row.Looked.TheVariants.{Found, NotFound, Unavail}
use Rattle.nsc_model.specs.declared.row.Row.{Row}
use Rattle.nsc_model.specs.Answers.{file_entry, found_first}
use Rattle.nsc_model.specs.Entries.{first_named, named_in}
use Rattle.nsc_model.specs.Files.{FileFits, file_limit}
use Rattle.nsc_laws.proofs.SentLists.{filter_keeps, first_keeps, onto_keeps}
use Rattle.nsc_laws.proofs.SentSizes.{lines_few, lines_size, size_of}

-- each line that a file may have gives such an entry, or none
abbrev pub EachLine : {A : Type 0} → (A → Type 0) → (List ℕ → Option A) → Type 0
EachLine P entry_of = (line : List ℕ) → length line ≤ file_limit → IfSome (entry_of line) P

-- the entries of a file; an absent one has none
abbrev pub entries_in : {A : Type 0} → (List ℕ → Option A) → Option (List ℕ) → List A
entries_in entry_of None = []
entries_in entry_of (Some file) = filter_map entry_of (lines_of file)

lines_keep : {A : Type 0} (P : A → Type 0) (entry_of : List ℕ → Option A) → EachLine P entry_of → (lines : List (List ℕ)) → size_of lines ≤ file_limit + 1 → AllByRecursion P (filter_map entry_of lines)
lines_keep P entry_of each [] short = tt
lines_keep P entry_of each (line ∷ lines) short = onto_keeps P (entry_of line) (filter_map entry_of lines) (each line (omega (arith, short))) (lines_keep P entry_of each lines (omega (arith, short)))

pub entries_keep : {A : Type 0} (P : A → Type 0) (entry_of : List ℕ → Option A) → EachLine P entry_of → (file : Option (List ℕ)) → FileFits file → AllByRecursion P (entries_in entry_of file)
entries_keep P entry_of each None fits = tt
entries_keep P entry_of each (Some file) fits = lines_keep P entry_of each (lines_of file) (omega (arith, lines_size file, fits))

pub entries_few : {A : Type 0} (entry_of : List ℕ → Option A) (file : Option (List ℕ)) → FileFits file → length (entries_in entry_of file) ≤ file_limit + 1
entries_few entry_of None fits = omega arith
entries_few entry_of (Some file) fits = omega (arith, lines_few entry_of (lines_of file), lines_size file, fits)

pub found_keeps : {A : Type 0} (P : Looked → Type 0) (row_of : A → Row) → P NotFound → (o : Option A) → IfSome o (λ x. P (Found (row_of x))) → P (found_first row_of o)
found_keeps P row_of none None kept = none
found_keeps P row_of none (Some x) kept = kept

-- a property of outcomes that the entries of a file have
pub file_keeps : {A : Type 0} (P : Looked → Type 0) (row_of : A → Row) (entry_of : List ℕ → Option A) (names : A → Bool) → P NotFound → P Unavail
    → (file : Option (List ℕ)) → AllByRecursion (λ x. P (Found (row_of x))) (entries_in entry_of file) → P (file_entry row_of entry_of names file)
file_keeps P row_of entry_of names none lacking None all = lacking
file_keeps {A} P row_of entry_of names none lacking (Some file) all =
    let Q : A → Type 0 = λ x. P (Found (row_of x)) in
    found_keeps P row_of none (first_named entry_of names file) (first_keeps Q (named_in entry_of names file) (filter_keeps Q names (entries_in entry_of (Some file)) all))
