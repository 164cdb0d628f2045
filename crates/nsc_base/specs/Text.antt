-- Texts cut into lines, fields and words. A text is a list of bytes, and nothing is decoded.
use Rattle.std.specs.Prelude.{◌≡◌, ℕ, ◌+◌, ◌<◌, ◌≤◌, Bool, ◌==◌, ◌||◌, nat_lt, if◌then◌else◌, List, [], ◌∷◌, length, drop, filter, slice_range, true, false}
use Rattle.std.specs.List.{after_first, before_first, list_any}
use Rattle.nsc_base.specs.declared.span.Line.{Line}
use Rattle.nsc_base.specs.declared.span.Span.{Span}

-- the first piece with one byte more at its front
abbrev pub onto_first : ℕ → List (List ℕ) → List (List ℕ)
onto_first b [] = (b ∷ []) ∷ []
onto_first b (piece ∷ pieces) = (b ∷ piece) ∷ pieces

-- the pieces between the bytes that cut, one more than there are such bytes
abbrev pub pieces : (ℕ → Bool) → List ℕ → List (List ℕ)
pieces cuts [] = [] ∷ []
pieces cuts (b ∷ bytes) = if cuts b then [] ∷ pieces cuts bytes else onto_first b (pieces cuts bytes)

-- the fields of passwd(5) and group(5): the pieces between colons, or another separator
abbrev pub fields_of : ℕ → List ℕ → List (List ℕ)
fields_of cut bytes = pieces (λ b. b == cut) bytes

-- a newline ends a line, and so does the end of the text: after a last newline no line stands
abbrev pub lines_of : List ℕ → List (List ℕ)
lines_of [] = []
lines_of (b ∷ bytes) = if b == 10 then [] ∷ lines_of bytes else onto_first b (lines_of bytes)

-- white space within a line: a blank or a tab
abbrev pub is_white : ℕ → Bool
is_white b = b == 32 || b == 9

abbrev pub is_filled : List ℕ → Bool
is_filled [] = false
is_filled (b ∷ bytes) = true

-- the words between white space
abbrev pub words_of : List ℕ → List (List ℕ)
words_of bytes = filter is_filled (pieces is_white bytes)

-- the bytes after the white space at the front
abbrev pub trimmed : List ℕ → List ℕ
trimmed [] = []
trimmed (b ∷ bytes) = if is_white b then trimmed bytes else b ∷ bytes

-- a remark begins with a `#` and goes to the end of its line
abbrev pub before_remark : List ℕ → List ℕ
before_remark line = before_first (λ b. b == 35) line

-- the bytes from one place up to another
abbrev pub part : List ℕ → Span → List ℕ
part text span = slice_range text span.from span.to

-- where pieces stand one after another from a place on, with one byte between each and the next
abbrev pub spans_of : ℕ → List (List ℕ) → List Span
spans_of at [] = []
spans_of at (piece ∷ others) = record { from = at; to = at + length piece } ∷ spans_of (at + length piece + 1) others

-- where the lines of a text stand, from a place on at which a line begins
abbrev pub line_spans : List ℕ → ℕ → List Span
line_spans text from = spans_of from (lines_of (drop from text))

-- where the fields of a part of a text stand
abbrev pub field_spans : ℕ → List ℕ → Span → List Span
field_spans cut text within = spans_of within.from (fields_of cut (part text within))

-- where the words of a part of a text stand
abbrev pub word_spans : List ℕ → Span → List Span
word_spans text within = filter (λ span. nat_lt span.from span.to) (spans_of within.from (pieces is_white (part text within)))

-- a span lies within another
pub record LiesIn (within span : Span) : Type 0 where
  pub begins : within.from ≤ span.from
  pub ordered : span.from ≤ span.to
  pub ends : span.to ≤ within.to

-- a part of a text is cut at its first byte of a kind: what stands before it, and what stands after it
pub record IsSplit (byte : ℕ) (text : List ℕ) (within front rest : Span) : Type 0 where
  pub has : list_any (λ b. b == byte) (part text within) ≡ true
  pub front_is : part text front ≡ before_first (λ b. b == byte) (part text within)
  pub rest_is : part text rest ≡ after_first (λ b. b == byte) (part text within)
  pub front_in : LiesIn within front
  pub rest_in : LiesIn within rest
  pub begins : front.from ≡ within.from
  pub next : rest.from ≡ front.to + 1
  pub ends : rest.to ≡ within.to

-- the line that begins at this place, and the place of the next one
pub record IsLine (text : List ℕ) (from : ℕ) (line : Line) : Type 0 where
  pub begins : line.span.from ≡ from
  pub ordered : from ≤ line.span.to
  pub ends : line.span.to ≤ length text
  pub onward : from < line.next
  pub next_ends : line.next ≤ length text
  pub cut : lines_of (drop from text) ≡ part text line.span ∷ lines_of (drop line.next text)
  pub stands : line_spans text from ≡ line.span ∷ line_spans text line.next

-- the fields from this place on: none after the last one
abbrev pub fields_between : ℕ → List ℕ → ℕ → ℕ → List (List ℕ)
fields_between cut text from to = if nat_lt to from then [] else fields_of cut (slice_range text from to)

-- the field that begins at this place; the next one begins after its separator
pub record IsField (cut : ℕ) (text : List ℕ) (within : Span) (from : ℕ) (field : Line) : Type 0 where
  pub begins : field.span.from ≡ from
  pub ordered : from ≤ field.span.to
  pub ends : field.span.to ≤ within.to
  pub next_is : field.next ≡ field.span.to + 1
  pub cut_is : fields_between cut text from within.to ≡ part text field.span ∷ fields_between cut text field.next within.to

-- the first word from this place on, and the place where it ends
pub record IsWord (text : List ℕ) (within : Span) (from : ℕ) (word : Line) : Type 0 where
  pub no_earlier : from ≤ word.span.from
  pub filled : word.span.from < word.span.to
  pub ends : word.span.to ≤ within.to
  pub next_is : word.next ≡ word.span.to
  pub cut : words_of (slice_range text from within.to) ≡ part text word.span ∷ words_of (slice_range text word.next within.to)
  pub stands : word_spans text (record { from = from; to = within.to }) ≡ word.span ∷ word_spans text (record { from = word.next; to = within.to })
