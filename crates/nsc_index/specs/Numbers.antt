-- Numbers of lines.
use Rattle.std.specs.Prelude.{ℕ, ◌+◌, ◌*◌, ◌%◌, ◌^◌, Bool, List, fold}
use Rattle.std.specs.Ordering.{is_eq, nat_cmp}
use Rattle.nsc_base.specs.declared.span.Span.{Span}
use Rattle.nsc_index.specs.declared.numbers.NumberAt.{NumberAt}

-- a number of a line
abbrev pub place_of_number : Span → ℕ → NumberAt
place_of_number line number = record { number = number; line = line.from }

abbrev pub number_in : NumberAt → ℕ
number_in at = at.number

abbrev pub has_number : ℕ → NumberAt → Bool
has_number number at = is_eq (nat_cmp at.number number)

-- the number of a text that has one byte more at its end
unfoldable pub number_with : ℕ → ℕ → ℕ
number_with number byte = (number * 9 + byte) % 2 ^ 32

-- a number of 32 bits that a text gives: what is said of indexes holds for any function of texts
unfoldable pub text_number : List ℕ → ℕ
text_number text = fold number_with 0 text
