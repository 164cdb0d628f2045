-- Rows in the order of their keys.
use Rattle.std.specs.Prelude.{◌≡◌, ℕ, Bool, List, filter, map, Option, option_and_then}
use Rattle.std.specs.List.{flat_map}
use Rattle.std.specs.List.Sorted.{IsSortedByKey}
use Rattle.std.specs.declared.cmp.Ordering.{Ordering}
use Rattle.std.specs.Option.{is_some}
use Rattle.std.specs.Ordering.{is_eq}
use Rattle.nsc_base.specs.declared.span.Span.{Span}
use Rattle.nsc_base.specs.Text.{line_spans, part}
use Rattle.nsc_model.specs.Entries.{first_of, if_named}

-- an index of rows: they stand in the order of their keys, and those of each key as they stand among the rows
pub record Indexes {X K : Type 0} (cmp : K → K → Ordering) (key : X → K) (rows index : List X) : Type 0 where
  pub ordered : IsSortedByKey key cmp index
  pub same : (k : K) → filter (λ x. is_eq (cmp (key x) k)) index ≡ filter (λ x. is_eq (cmp (key x) k)) rows

-- the rows of the lines of a text from a place on, where `rows_of` gives those of a line
abbrev pub rows_from : {X : Type 0} → (Span → List X) → List ℕ → ℕ → List X
rows_from rows_of text from = flat_map rows_of (line_spans text from)

-- the entry of a line, where it has the form
abbrev pub line_entry : {A : Type 0} → (List ℕ → Option A) → List ℕ → Span → Option A
line_entry entry_of text line = entry_of (part text line)

-- what the line gives that begins at a place, where `gives` says what each line gives
abbrev pub on_line : {A : Type 0} → (Span → Option A) → List ℕ → ℕ → Option A
on_line gives text place = option_and_then gives (first_of (line_spans text place))

-- the places of the lines whose entries are named, in their order, where `gives` says what each line gives
abbrev pub lines_named : {A : Type 0} → (Span → Option A) → (A → Bool) → List ℕ → List ℕ
lines_named gives names text = map (λ (line : Span). line.from) (filter (λ line. is_some (if_named names (gives line))) (line_spans text 0))
