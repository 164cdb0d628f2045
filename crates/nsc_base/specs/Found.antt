-- The first line of a text that gives something, and the lines in which something stands.
use Rattle.std.specs.Prelude.{◌≡◌, ℕ, ◌<◌, ◌≤◌, Bool, true, length, List, [], ◌∷◌, ◌++◌, Option, Some, None, MatchOption}
use Rattle.std.specs.Str.{bytes_eq, str_eq_ignore_ascii_case}
use Rattle.nsc_base.specs.declared.search.Case.{Case}
use Rattle.nsc_base.specs.declared.search.Case.TheVariants.{Counts, Ignored}
use Rattle.nsc_base.specs.declared.span.Line.{Line}
use Rattle.nsc_base.specs.declared.span.Span.{Span}
use Rattle.nsc_base.specs.Text.{line_spans, part}

-- where `gives` says what each line may give: what the first of the lines that gives something has given
pub data FirstOf {E : Type 0} (gives : Span → Option E → Type 0) : List Span → Option E → Type 0 where
  nowhere : FirstOf gives [] None
  here : (line : Span) (others : List Span) (entry : E) → gives line (Some entry) → FirstOf gives (line ∷ others) (Some entry)
  later : (line : Span) (others : List Span) (found : Option E) → gives line None → FirstOf gives others found → FirstOf gives (line ∷ others) found

-- whether two texts are the same, with regard to the case of ASCII letters or without
abbrev pub same_by : Case → List ℕ → List ℕ → Bool
same_by Counts a b = bytes_eq a b
same_by Ignored a b = str_eq_ignore_ascii_case a b

-- the needle stands in these bytes at this place
pub record StandsAt (case : Case) (needle bytes : List ℕ) (at : Span) : Type 0 where
  pub ordered : at.from ≤ at.to
  pub ends : at.to ≤ length bytes
  pub same : same_by case (part bytes at) needle ≡ true

-- the needle stands nowhere in these bytes
abbrev pub Lacks : Case → List ℕ → List ℕ → Type 0
Lacks case needle bytes = (at : Span) → StandsAt case needle bytes at → ⊥

-- no needle begins before this place, or there is none
abbrev pub NoneBefore : Case → List ℕ → List ℕ → Option ℕ → Type 0
NoneBefore case needle bytes found = MatchOption found (Lacks case needle bytes) (λ place. (place ≤ length bytes) × ((at : Span) → StandsAt case needle bytes at → place ≤ at.from))

-- what is left of lines after some that lack the needle
pub data PassesOver (case : Case) (needle text : List ℕ) (left : List Span) : List Span → Type 0 where
  done : PassesOver case needle text left left
  over : (line : Span) (others : List Span) → Lacks case needle (part text line) → PassesOver case needle text left others → PassesOver case needle text left (line ∷ others)

-- each of these lines stands from one place on, and ends before another
abbrev pub AllBetween : ℕ → ℕ → List Span → Type 0
AllBetween from to [] = Unit {0}
AllBetween from to (line ∷ others) = (from ≤ line.from) × (line.from ≤ line.to) × (line.to < to) × AllBetween from to others

-- a line begins at a place: the lines from another on are some that end before this place, and those from here on
pub record IsLineStart (text : List ℕ) (from start : ℕ) : Type 0 where
  pub before : List Span
  pub lines : line_spans text from ≡ before ++ line_spans text start
  pub ends : AllBetween from start before

-- the next line in which the needle may stand, from a place on: the lines before it lack it
pub record IsLineWith (case : Case) (needle text : List ℕ) (from : ℕ) (line : Line) : Type 0 where
  pub passes : PassesOver case needle text (line.span ∷ line_spans text line.next) (line_spans text from)
  pub ordered : line.span.from ≤ line.span.to
  pub ends : line.span.to ≤ length text
  pub onward : from < line.next
  pub next_ends : line.next ≤ length text

-- a line that lacks the needle gives nothing, and is not read
pub data OrLacks {E : Type 0} (case : Case) (needle text : List ℕ) (gives : Span → Option E → Type 0) (line : Span) : Option E → Type 0 where
  read : (given : Option E) → gives line given → OrLacks case needle text gives line given
  lacks : Lacks case needle (part text line) → OrLacks case needle text gives line None
