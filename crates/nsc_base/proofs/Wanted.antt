-- The words of a part of a text, looked at one after another.
use Rattle.std.proofs.Common.{◌≡◌, ℕ, Bool, true, false, ◌||◌, List, [], slice_range, sym, ◌∙◌, ap}
use Rattle.std.specs.List.{list_any}
use Rattle.nsc_base.specs.declared.span.Line.{Line}
use Rattle.nsc_base.specs.declared.span.Span.{Span}
use Rattle.nsc_base.specs.Text.{IsWord, part, words_of}
use Rattle.nsc_base.specs.declared.search.Case.{Case}
use Rattle.nsc_base.specs.Found.{same_by}

-- whether one of the words from a place on is the wanted one
abbrev pub wanted_from : Case → List ℕ → List ℕ → ℕ → ℕ → Bool
wanted_from case wanted text from to = list_any (λ n. same_by case n wanted) (words_of (slice_range text from to))

word_step : (case : Case) (wanted text : List ℕ) (within : Span) (from : ℕ) (word : Line) → IsWord text within from word → wanted_from case wanted text from within.to ≡ (same_by case (part text word.span) wanted || wanted_from case wanted text word.next within.to)
word_step case wanted text within from word is = ap (λ (words : List (List ℕ)). list_any (λ n. same_by case n wanted) words) is.cut

pub wanted_here : (case : Case) (wanted text : List ℕ) (within : Span) (from : ℕ) (word : Line) → IsWord text within from word → same_by case (part text word.span) wanted ≡ true → wanted_from case wanted text from within.to ≡ true
wanted_here case wanted text within from word is h = word_step case wanted text within from word is ∙ ap (λ b. b || wanted_from case wanted text word.next within.to) h

pub wanted_later : (case : Case) (wanted text : List ℕ) (within : Span) (from : ℕ) (word : Line) → IsWord text within from word → same_by case (part text word.span) wanted ≡ false → wanted_from case wanted text word.next within.to ≡ wanted_from case wanted text from within.to
wanted_later case wanted text within from word is h = sym (word_step case wanted text within from word is ∙ ap (λ b. b || wanted_from case wanted text word.next within.to) h)

pub wanted_nowhere : (case : Case) (wanted text : List ℕ) (from to : ℕ) → words_of (slice_range text from to) ≡ [] → wanted_from case wanted text from to ≡ false
wanted_nowhere case wanted text from to none = ap (λ (words : List (List ℕ)). list_any (λ n. same_by case n wanted) words) none
