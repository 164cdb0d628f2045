-- The fields of a line.
use Rattle.std.specs.Prelude.{ℕ, ◌-◌, if◌then◌else◌, List, ◌∷◌, length, Option, None}
use Rattle.nsc_base.specs.Decimal.{decimal_of}
use Rattle.nsc_base.specs.Fields.{exactly}
use Rattle.nsc_base.specs.Text.{field_spans, part, trimmed}
use Rattle.nsc_base.specs.declared.span.Span.{Span}
use Rattle.nsc_model.specs.Users.{has_zero}

-- the part of a line after the white space at its front
abbrev pub trimmed_span : List ℕ → Span → Span
trimmed_span text line = record { from = line.to - length (trimmed (part text line)); to = line.to }

-- where the fields of a line stand
abbrev pub line_fields : List ℕ → Span → List Span
line_fields text line = field_spans 58 text (trimmed_span text line)

-- the fields of a line, if there are exactly `count` and no byte is zero
abbrev pub exact_line_fields : ℕ → List ℕ → Span → Option (List Span)
exact_line_fields count text line = if has_zero (part text line) then None else exactly count (line_fields text line)

-- the number that the third field spells: the id of an entry
abbrev pub third_number : List (List ℕ) → Option ℕ
third_number (first ∷ second ∷ third ∷ others) = decimal_of third
third_number _ = None
