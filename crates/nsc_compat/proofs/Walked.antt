-- Lines that are walked one after another.
use Rattle.std.proofs.Common.{◌≡◌, ℕ, ◌+◌, ◌<◌, Bool, List, ◌∷◌, drop, filter, get_or, length, map, Option, Some, sym, ◌∙◌, ap}
use Rattle.std.proofs.lemmas.List.{at_drop_more}
use Rattle.nsc_base.specs.declared.span.Span.{Span}
use Rattle.nsc_base.specs.Text.{lines_of, part}
use Rattle.nsc_model.specs.declared.row.Looked.{Looked}
use Rattle.nsc_model.specs.Switches.{text_of}
use Rattle.nsc_accounts.specs.Matters.{AreLines}

-- the line that is next stands before those after it
pub line_next : (comes : List (List ℕ) → Looked) (text : List ℕ) (lines : List Span) (n : ℕ) (line : Span) → n < length lines → line ≡ get_or lines n line → comes (part text line ∷ map (part text) (drop (n + 1) lines)) ≡ comes (map (part text) (drop n lines))
line_next comes text lines n line below is =
    let left = drop (n + 1) lines in
    ap (λ (l : Span). comes (part text l ∷ map (part text) left)) is ∙ sym (at_drop_more (λ (ls : List Span). comes (map (part text) ls)) lines n line below)

-- the lines of a file that is there
pub lines_there : (text : List ℕ) (file : Option (List ℕ)) (test : List ℕ → Bool) (lines : List Span) → Some text ≡ file → AreLines (text_of file) test lines → map (part text) lines ≡ filter test (lines_of text)
lines_there text file test lines is given =
    let same : text ≡ text_of file = ap text_of is in
    ap (λ (bytes : List ℕ). map (part bytes) lines) same ∙ given.are ∙ ap (λ (bytes : List ℕ). filter test (lines_of bytes)) (sym same)
