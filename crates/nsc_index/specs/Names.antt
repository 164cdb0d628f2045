-- Names by the places where they stand in a text.
use Rattle.std.specs.Prelude.{ℕ, Bool, List, map, slice_range}
use Rattle.std.specs.Ordering.{is_eq, nat_cmp}
use Rattle.std.specs.Cmp.Lexicographic.{slice_cmp}
use Rattle.std.specs.Str.{str_to_ascii_lowercase}
use Rattle.nsc_base.specs.declared.search.Case.{Case}
use Rattle.nsc_base.specs.declared.search.Case.TheVariants.{Counts, Ignored}
use Rattle.nsc_base.specs.declared.span.Span.{Span}
use Rattle.nsc_base.specs.Text.{word_spans}
use Rattle.nsc_index.specs.declared.names.NameAt.{NameAt}

-- a name of a line
abbrev pub place_of_name : Span → Span → NameAt
place_of_name line name = record { from = name.from; to = name.to; line = line.from }

-- the words of a part of a line
abbrev pub words_at : List ℕ → Span → Span → List NameAt
words_at text line within = map (place_of_name line) (word_spans text within)

-- the bytes of a name
abbrev pub name_in : List ℕ → NameAt → List ℕ
name_in text at = slice_range text at.from at.to

-- a name as it is compared: as it stands, or without regard to the case of ASCII letters
abbrev pub cased : Case → List ℕ → List ℕ
cased Counts name = name
cased Ignored name = str_to_ascii_lowercase name

abbrev pub name_key : Case → List ℕ → NameAt → List ℕ
name_key case text at = cased case (name_in text at)

abbrev pub has_name : Case → List ℕ → List ℕ → NameAt → Bool
has_name case text name at = is_eq (slice_cmp nat_cmp (name_key case text at) (cased case name))
