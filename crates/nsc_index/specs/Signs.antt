-- The lines of a passwd or group file that speak by a sign, by the names on which they speak, and places at which lines begin.
use Rattle.std.specs.Prelude.{◌≡◌, ℕ, Bool, ◌==◌, ◌&&◌, ◌||◌, List, map}
use Rattle.std.specs.List.{list_any}
use Rattle.std.specs.List.Sorted.{IsSortedByKey}
use Rattle.std.specs.Option.{option_map, option_to_list}
use Rattle.std.specs.Ordering.{nat_cmp}
use Rattle.std.specs.Cmp.Lexicographic.{slice_cmp}
use Rattle.nsc_base.specs.declared.search.Case.TheVariants.{Counts}
use Rattle.nsc_base.specs.declared.span.Span.{Span}
use Rattle.nsc_base.specs.Text.{line_spans, part}
use Rattle.nsc_model.specs.Compat.{sayings}
use Rattle.nsc_accounts.specs.Matters.{sign_name}
use Rattle.nsc_index.specs.declared.names.NameAt.{NameAt}
use Rattle.nsc_index.specs.Indexes.{rows_from}
use Rattle.nsc_index.specs.Names.{name_in, name_key}

-- the name on which a line speaks, with the place of the line
abbrev pub signs_of : List ℕ → Span → List (List ℕ × ℕ)
signs_of text line = option_to_list (option_map (λ name. (name, line.from)) (sign_name (sayings (part text line))))

-- a row as the name and the place of its line
abbrev pub named_line : List ℕ → NameAt → List ℕ × ℕ
named_line text at = (name_in text at, at.line)

-- the names of those lines, in the order of the names
pub record IsSignIndex (text : List ℕ) (index : List NameAt) : Type 0 where
  pub ordered : IsSortedByKey (name_key Counts text) (slice_cmp nat_cmp) index
  pub same : (test : List ℕ × ℕ → Bool) → list_any test (map (named_line text) index) ≡ list_any test (rows_from (signs_of text) text 0)

-- whether a line that passes a test begins at a place
abbrev pub begins_one : List ℕ → (List ℕ → Bool) → ℕ → Bool
begins_one text test place = list_any (λ line. (line.from == place) && test (part text line)) (line_spans text 0)

abbrev pub has_place : List ℕ → ℕ → Bool
has_place places place = list_any (λ other. other == place) places

-- besides the old places there are those at which the lines begin that pass a test
abbrev pub Adds : List ℕ → (List ℕ → Bool) → List ℕ → List ℕ → Type 0
Adds text test old new = (place : ℕ) → has_place new place ≡ (has_place old place || begins_one text test place)
