-- The entries that a request names, where lines that lack a needle are passed over.
use Rattle.std.proofs.Common.{◌≡◌, ℕ, Bool, true, false, cond, List, [], ◌∷◌, drop, map, filter, Option, Some, None, refl, sym, ◌∙◌, ap}
use Rattle.std.specs.List.{cons_option, filter_map}
use Rattle.nsc_base.specs.declared.search.Case.{Case}
use Rattle.nsc_base.specs.declared.span.Line.{Line}
use Rattle.nsc_base.specs.declared.span.Span.{Span}
use Rattle.nsc_base.specs.Found.{IsLineWith, Lacks, PassesOver, done, over}
use Rattle.nsc_base.specs.Text.{line_spans, part}
use Rattle.nsc_base.proofs.Spans.{line_spans-parts}
use Rattle.nsc_model.specs.Entries.{if_named, named_in}

-- those of the lines that stand in these places
abbrev named_at : {A : Type 0} → (List ℕ → Option A) → (A → Bool) → List ℕ → List Span → List A
named_at entry_of names text lines = filter names (filter_map entry_of (map (part text) lines))

named_from : {A : Type 0} (entry_of : List ℕ → Option A) (names : A → Bool) (text : List ℕ) (from : ℕ) → named_at entry_of names text (line_spans text from) ≡ named_in entry_of names (drop from text)
named_from entry_of names text from = ap (λ (lines : List (List ℕ)). filter names (filter_map entry_of lines)) (line_spans-parts text from)

-- one line more
named_step : {A : Type 0} (names : A → Bool) (o : Option A) (others : List A) → filter names (cons_option o others) ≡ cons_option (if_named names o) (filter names others)
named_step names None others = refl
named_step names (Some x) others =
    elim (names x) as (λ v. cond v (x ∷ filter names others) (filter names others) ≡ cons_option (cond v (Some x) None) (filter names others)) [
      | true ↦ refl
      | false ↦ refl
    ]

-- lines that lack the needle name nothing
abbrev pub NeedsNeedle : {A : Type 0} → Case → List ℕ → (List ℕ → Option A) → (A → Bool) → Type 0
NeedsNeedle case needle entry_of names = (line : List ℕ) → Lacks case needle line → if_named names (entry_of line) ≡ None

passed : {A : Type 0} (case : Case) (needle : List ℕ) (entry_of : List ℕ → Option A) (names : A → Bool) → NeedsNeedle case needle entry_of names → (text : List ℕ) (left all : List Span) → PassesOver case needle text left all → named_at entry_of names text all ≡ named_at entry_of names text left
passed case needle entry_of names needs text left all done = refl
passed case needle entry_of names needs text left all (over line others lack rest) =
    named_step names (entry_of (part text line)) (filter_map entry_of (map (part text) others))
    ∙ ap (λ o. cons_option o (named_at entry_of names text others)) (needs (part text line) lack)
    ∙ passed case needle entry_of names needs text left others rest

-- the next line in which the needle may stand, and those after it
pub named_next : {A : Type 0} (case : Case) (needle : List ℕ) (entry_of : List ℕ → Option A) (names : A → Bool) → NeedsNeedle case needle entry_of names → (text : List ℕ) (from : ℕ) (line : Line) → IsLineWith case needle text from line → named_in entry_of names (drop from text) ≡ cons_option (if_named names (entry_of (part text line.span))) (named_in entry_of names (drop line.next text))
named_next case needle entry_of names needs text from line is =
    sym (named_from entry_of names text from)
    ∙ passed case needle entry_of names needs text (line.span ∷ line_spans text line.next) (line_spans text from) is.passes
    ∙ named_step names (entry_of (part text line.span)) (filter_map entry_of (map (part text) (line_spans text line.next)))
    ∙ ap (cons_option (if_named names (entry_of (part text line.span)))) (named_from entry_of names text line.next)

-- where all lines lack the needle none is named
pub none_named : {A : Type 0} (case : Case) (needle : List ℕ) (entry_of : List ℕ → Option A) (names : A → Bool) → NeedsNeedle case needle entry_of names → (text : List ℕ) (from : ℕ) → PassesOver case needle text [] (line_spans text from) → named_in entry_of names (drop from text) ≡ []
none_named case needle entry_of names needs text from is = sym (named_from entry_of names text from) ∙ passed case needle entry_of names needs text [] (line_spans text from) is
