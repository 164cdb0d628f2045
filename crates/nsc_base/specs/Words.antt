-- The first words of a part of a text.
use Rattle.std.specs.Prelude.{ℕ, List, ◌∷◌, Option, Some, None}
use Rattle.nsc_base.specs.declared.span.Span.{Span}
use Rattle.nsc_base.specs.declared.words.WordsAt.{WordsAt}
use Rattle.nsc_base.specs.Text.{LiesIn, part, words_of}

-- two words, and the words after them
pub record TwoWords : Type 0 where
  pub first : List ℕ
  pub second : List ℕ
  pub others : List (List ℕ)

abbrev pub two_of : List (List ℕ) → Option TwoWords
two_of (first ∷ second ∷ others) = Some (record { first = first; second = second; others = others })
two_of _ = None

-- the words that stand in these places
abbrev pub words_at : List ℕ → WordsAt → TwoWords
words_at text at = record { first = part text at.first; second = part text at.second; others = words_of (part text at.others) }

pub record WordsLieIn (within : Span) (at : WordsAt) : Type 0 where
  pub first_in : LiesIn within at.first
  pub second_in : LiesIn within at.second
  pub others_in : LiesIn within at.others
