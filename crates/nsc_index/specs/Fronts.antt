-- The front of a line of a passwd file, whether or not the line has the form.
use Rattle.std.specs.Prelude.{ℕ, Bool, ◌==◌, List, Option}
use Rattle.std.specs.List.{after_first, before_first}
use Rattle.std.specs.Option.{option_map, option_to_list}
use Rattle.nsc_base.specs.Decimal.{decimal_of}
use Rattle.nsc_base.specs.declared.span.Span.{Span}
use Rattle.nsc_base.specs.Text.{part, trimmed}
use Rattle.nsc_index.specs.declared.numbers.NumberAt.{NumberAt}
use Rattle.nsc_index.specs.Numbers.{place_of_number, text_number}

abbrev pub is_colon : ℕ → Bool
is_colon b = b == 58

-- the bytes up to the first colon, after the white space at the front
abbrev pub raw_name : List ℕ → List ℕ
raw_name line = before_first is_colon (trimmed line)

-- the number that the bytes between the second colon and the third spell
abbrev pub raw_id : List ℕ → Option ℕ
raw_id line = decimal_of (before_first is_colon (after_first is_colon (after_first is_colon (trimmed line))))

-- the number of the name of a line that spells an id; a line that spells none has not the form
abbrev pub raw_mark : List ℕ → Option ℕ
raw_mark line = option_map (λ id. text_number (raw_name line)) (raw_id line)

-- the rows of a line that spells an id: one under the number of its name, and one under the id
abbrev pub name_rows : List ℕ → Span → List NumberAt
name_rows text line = option_to_list (option_map (place_of_number line) (raw_mark (part text line)))

abbrev pub id_rows : List ℕ → Span → List NumberAt
id_rows text line = option_to_list (option_map (place_of_number line) (raw_id (part text line)))
