-- The entries that a request names, in what is left of a text from a line on.
use Rattle.std.proofs.Common.{◌≡◌, ℕ, Bool, true, false, cond, List, [], ◌∷◌, drop, filter, map, Option, Some, None, refl, sym, ◌∙◌, ap}
use Rattle.std.specs.List.{cons_option, filter_map}
use Rattle.nsc_base.specs.declared.search.Case.{Case}
use Rattle.nsc_base.specs.declared.span.Line.{Line}
use Rattle.nsc_base.specs.declared.span.Span.{Span}
use Rattle.nsc_base.specs.Found.{IsLineWith, Lacks, PassesOver, done, over}
use Rattle.nsc_base.specs.Text.{line_spans, part}
use Rattle.nsc_base.proofs.Spans.{line_spans-parts}
use Rattle.nsc_model.specs.Entries.{if_named, named_in}

-- one line more at the front
filter_step : {A : Type 0} (names : A → Bool) (o : Option A) (others : List A) → filter names (cons_option o others) ≡ cons_option (if_named names o) (filter names others)
filter_step names None others = refl
filter_step names (Some x) others =
    elim (names x) as (λ v. cond v (x ∷ filter names others) (filter names others) ≡ cons_option (cond v (Some x) None) (filter names others)) [
      | true ↦ refl
      | false ↦ refl
    ]

-- those of the lines that stand in these places
abbrev named_at : {A : Type 0} → (List ℕ → Option A) → (A → Bool) → List ℕ → List Span → List A
named_at entry_of names text lines = filter names (filter_map entry_of (map (part text) lines))

named_there : {A : Type 0} (entry_of : List ℕ → Option A) (names : A → Bool) (text : List ℕ) (from : ℕ) → named_in entry_of names (drop from text) ≡ named_at entry_of names text (line_spans text from)
named_there entry_of names text from = ap (λ (lines : List (List ℕ)). filter names (filter_map entry_of lines)) (sym (line_spans-parts text from))

-- a line that lacks the needle names nothing
abbrev pub LacksUnnamed : {A : Type 0} → Case → List ℕ → (List ℕ → Option A) → (A → Bool) → Type 0
LacksUnnamed case needle entry_of names = (line : List ℕ) → Lacks case needle line → if_named names (entry_of line) ≡ None

passed : {A : Type 0} (case : Case) (needle : List ℕ) (entry_of : List ℕ → Option A) (names : A → Bool) (text : List ℕ) (left all : List Span) → LacksUnnamed case needle entry_of names → PassesOver case needle text left all → named_at entry_of names text all ≡ named_at entry_of names text left
passed case needle entry_of names text left all unnamed done = refl
passed {A} case needle entry_of names text left all unnamed (over line others lack rest) =
    filter_step names (entry_of (part text line)) (filter_map entry_of (map (part text) others))
    ∙ ap (λ (o : Option A). cons_option o (named_at entry_of names text others)) (unnamed (part text line) lack)
    ∙ passed case needle entry_of names text left others unnamed rest

pub named_step : {A : Type 0} (case : Case) (needle : List ℕ) (entry_of : List ℕ → Option A) (names : A → Bool) (text : List ℕ) (from : ℕ) (line : Line) (r : Option A) → LacksUnnamed case needle entry_of names → IsLineWith case needle text from line → r ≡ if_named names (entry_of (part text line.span)) → named_in entry_of names (drop from text) ≡ cons_option r (named_in entry_of names (drop line.next text))
named_step {A} case needle entry_of names text from line r unnamed is gives =
    named_there entry_of names text from
    ∙ passed case needle entry_of names text (line.span ∷ line_spans text line.next) (line_spans text from) unnamed is.passes
    ∙ filter_step names (entry_of (part text line.span)) (filter_map entry_of (map (part text) (line_spans text line.next)))
    ∙ ap (λ (o : Option A). cons_option o (named_at entry_of names text (line_spans text line.next))) (sym gives)
    ∙ ap (λ (found : List A). cons_option r found) (sym (named_there entry_of names text line.next))

-- where all lines that are left lack the needle, nothing is left
pub named_end : {A : Type 0} (case : Case) (needle : List ℕ) (entry_of : List ℕ → Option A) (names : A → Bool) (text : List ℕ) (from : ℕ) → LacksUnnamed case needle entry_of names → PassesOver case needle text [] (line_spans text from) → named_in entry_of names (drop from text) ≡ []
named_end case needle entry_of names text from unnamed passes = named_there entry_of names text from ∙ passed case needle entry_of names text [] (line_spans text from) unnamed passes

-- a line that names nothing is passed over
pub named_after : {A : Type 0} (case : Case) (needle : List ℕ) (entry_of : List ℕ → Option A) (names : A → Bool) (text : List ℕ) (from : ℕ) (line : Line) → LacksUnnamed case needle entry_of names → IsLineWith case needle text from line → None ≡ if_named names (entry_of (part text line.span)) → named_in entry_of names (drop line.next text) ≡ named_in entry_of names (drop from text)
named_after case needle entry_of names text from line unnamed is gives = sym (named_step case needle entry_of names text from line None unnamed is gives)
