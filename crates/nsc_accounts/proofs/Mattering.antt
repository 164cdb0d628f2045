-- The lines of a text that pass a test, kept one after another.
use Rattle.std.proofs.Common.{◌≡◌, ℕ, Bool, true, false, cond, List, [], ◌∷◌, ◌++◌, length, drop, filter, map, Option, Some, None, refl, sym, ◌∙◌, ap, append_assoc}
use Rattle.std.specs.Option.{is_some, option_map}
use Rattle.std.proofs.lemmas.List.{append-nil, map-append}
use Rattle.std.proofs.Math.Seq.{drop-length}
use Rattle.nsc_base.specs.declared.span.Line.{Line}
use Rattle.nsc_base.specs.declared.span.Span.{Span}
use Rattle.nsc_base.specs.Text.{IsLine, lines_of, part}

-- what is kept so far, and what is left of the text
abbrev pub KeptSo : List ℕ → (List ℕ → Bool) → ℕ → List Span → Type 0
KeptSo text test from lines = map (part text) lines ++ filter test (lines_of (drop from text)) ≡ filter test (lines_of text)

module _ (text : List ℕ) (test : List ℕ → Bool) (from : ℕ) (line : Line) (lines : List Span) (is : IsLine text from line) (left : KeptSo text test from lines) where
  later : List (List ℕ)
  later = filter test (lines_of (drop line.next text))

  next : (b : Bool) → test (part text line.span) ≡ b → map (part text) lines ++ cond b (part text line.span ∷ later) later ≡ filter test (lines_of text)
  unfolding later
  next b e = ap (λ v. map (part text) lines ++ cond v (part text line.span ∷ later) later) (sym e) ∙ ap (λ (ls : List (List ℕ)). map (part text) lines ++ filter test ls) (sym is.cut) ∙ left

  pub skipped : false ≡ test (part text line.span) → KeptSo text test line.next lines
  unfolding later
  skipped e = next false (sym e)

  pub kept : true ≡ test (part text line.span) → KeptSo text test line.next (lines ++ line.span ∷ [])
  unfolding later
  kept e =
      ap (λ (ls : List (List ℕ)). ls ++ later) (map-append (part text) lines (line.span ∷ [])) ∙ append_assoc (map (part text) lines) (part text line.span ∷ []) later ∙ next true (sym e)

pub all_kept : (text : List ℕ) (test : List ℕ → Bool) (from : ℕ) (lines : List Span) → from ≡ length text → KeptSo text test from lines → map (part text) lines ≡ filter test (lines_of text)
all_kept text test from lines end left = sym (append-nil (map (part text) lines)) ∙ ap (λ (ls : List (List ℕ)). map (part text) lines ++ filter test ls) (sym (ap (λ n. lines_of (drop n text)) end ∙ ap lines_of (drop-length text))) ∙ left

-- what is mapped is there exactly if it was
pub is_mapped : {A B : Type 0} (f : A → B) (o : Option A) → is_some o ≡ is_some (option_map f o)
is_mapped f None = refl
is_mapped f (Some a) = refl
