-- The first entry that a request names, line by line.
use Rattle.std.proofs.Common.{◌≡◌, ℕ, ◌+◌, ◌≤◌, Bool, true, false, cond, List, ◌∷◌, length, map, filter, Option, Some, None, IfSome, refl, sym, ◌∙◌, ap, arith}
use Rattle.std.specs.List.{cons_option, filter_map}
use Rattle.std.specs.Option.{option_map, option_or}
use Rattle.nsc_base.specs.declared.search.Case.{Case}
use Rattle.nsc_base.specs.declared.span.Span.{Span}
use Rattle.nsc_base.specs.Found.{AllBetween, FirstOf, Lacks, OrLacks, here, lacks, later, nowhere, read}
use Rattle.nsc_base.specs.Text.{line_spans, part}
use Rattle.nsc_base.proofs.LineStarts.{lines-between}
use Rattle.nsc_base.proofs.Spans.{line_spans-parts}
use Rattle.nsc_model.specs.Entries.{first_named, first_of, if_named}

-- one line more at the front
pub first_step : {A : Type 0} (names : A → Bool) (o : Option A) (others : List A) → first_of (filter names (cons_option o others)) ≡ option_or (if_named names o) (first_of (filter names others))
first_step names None others = refl
first_step names (Some x) others =
    elim (names x) as (λ v. first_of (cond v (x ∷ filter names others) (filter names others)) ≡ option_or (cond v (Some x) None) (first_of (filter names others))) [
      | true ↦ refl
      | false ↦ refl
    ]

-- what each line gives is its entry, where the request names it
abbrev pub GivesNamed : {A E : Type 0} → (Span → Option E → Type 0) → List ℕ → (E → A) → (List ℕ → Option A) → (A → Bool) → Type 0
GivesNamed {A} {E} gives text entry_at entry_of names = (span : Span) (r : Option E) → span.from ≤ span.to → span.to ≤ length text → gives span r → option_map entry_at r ≡ if_named names (entry_of (part text span))

-- so it is where lines that lack the needle give nothing, and are not named
pub lacking_named : {A E : Type 0} (case : Case) (needle : List ℕ) (gives : Span → Option E → Type 0) (text : List ℕ) (entry_at : E → A) (entry_of : List ℕ → Option A) (names : A → Bool) → GivesNamed gives text entry_at entry_of names → ((line : List ℕ) → Lacks case needle line → if_named names (entry_of line) ≡ None) → GivesNamed (OrLacks case needle text gives) text entry_at entry_of names
lacking_named case needle gives text entry_at entry_of names all unnamed span r ordered ends (read given is) = all span given ordered ends is
lacking_named case needle gives text entry_at entry_of names all unnamed span r ordered ends (lacks lack) = sym (unnamed (part text span) lack)

firsts : {A E : Type 0} (gives : Span → Option E → Type 0) (text : List ℕ) (entry_at : E → A) (entry_of : List ℕ → Option A) (names : A → Bool) → GivesNamed gives text entry_at entry_of names → (lines : List Span) (found : Option E) → AllBetween 0 (length text + 1) lines → FirstOf gives lines found → option_map entry_at found ≡ first_of (filter names (filter_map entry_of (map (part text) lines)))
firsts gives text entry_at entry_of names all lines found between nowhere = refl
firsts gives text entry_at entry_of names all lines found between (here line others entry is) =
    let rest = first_of (filter names (filter_map entry_of (map (part text) others))) in
    sym (first_step names (entry_of (part text line)) (filter_map entry_of (map (part text) others)) ∙ ap (λ o. option_or o rest) (sym (all line (Some entry) between.1 (omega (arith, between.2)) is)))
firsts gives text entry_at entry_of names all lines found between (later line others more is rest_is) =
    let rest = first_of (filter names (filter_map entry_of (map (part text) others))) in
    firsts gives text entry_at entry_of names all others more between.3 rest_is
    ∙ sym (first_step names (entry_of (part text line)) (filter_map entry_of (map (part text) others)) ∙ ap (λ o. option_or o rest) (sym (all line None between.1 (omega (arith, between.2)) is)))

-- the first line that gives something gives the first entry that is named
pub first_is : {A E : Type 0} (gives : Span → Option E → Type 0) (text : List ℕ) (entry_at : E → A) (entry_of : List ℕ → Option A) (names : A → Bool) → GivesNamed gives text entry_at entry_of names → (found : Option E) → FirstOf gives (line_spans text 0) found → option_map entry_at found ≡ first_named entry_of names text
first_is gives text entry_at entry_of names all found is =
    firsts gives text entry_at entry_of names all (line_spans text 0) found (lines-between text 0 (omega arith)) is ∙ ap (λ (lines : List (List ℕ)). first_of (filter names (filter_map entry_of lines))) (line_spans-parts text 0)

having : {E : Type 0} (gives : Span → Option E → Type 0) (text : List ℕ) (P : E → Type 0) → ((span : Span) (r : Option E) → span.from ≤ span.to → span.to ≤ length text → gives span r → IfSome r P) → (lines : List Span) (found : Option E) → AllBetween 0 (length text + 1) lines → FirstOf gives lines found → IfSome found P
having gives text P all lines found between nowhere = tt
having gives text P all lines found between (here line others entry is) = all line (Some entry) between.1 (omega (arith, between.2)) is
having gives text P all lines found between (later line others more is rest) = having gives text P all others more between.3 rest

-- what holds of whatever a line gives holds of what is found
pub first_has : {E : Type 0} (gives : Span → Option E → Type 0) (text : List ℕ) (P : E → Type 0) → ((span : Span) (r : Option E) → span.from ≤ span.to → span.to ≤ length text → gives span r → IfSome r P) → (found : Option E) → FirstOf gives (line_spans text 0) found → IfSome found P
first_has gives text P all found is = having gives text P all (line_spans text 0) found (lines-between text 0 (omega arith)) is

-- what is so of whatever each line of a text gives
abbrev pub EachGives : {E : Type 0} → (Span → Option E → Type 0) → List ℕ → (Span → Option E → Type 0) → Type 0
EachGives {E} gives text so = (span : Span) (r : Option E) → span.from ≤ span.to → span.to ≤ length text → gives span r → so span r

-- so it is where lines that lack the needle give nothing
pub lacking_gives : {E : Type 0} (case : Case) (needle : List ℕ) (gives : Span → Option E → Type 0) (text : List ℕ) (so : Span → Option E → Type 0) → EachGives gives text so → ((span : Span) → span.from ≤ span.to → span.to ≤ length text → Lacks case needle (part text span) → so span None) → EachGives (OrLacks case needle text gives) text so
lacking_gives case needle gives text so all none span r ordered ends (read given is) = all span given ordered ends is
lacking_gives case needle gives text so all none span r ordered ends (lacks lack) = none span ordered ends lack

giving : {E : Type 0} (gives : Span → Option E → Type 0) (text : List ℕ) (so : Span → Option E → Type 0) → EachGives gives text so → (lines : List Span) (found : Option E) → AllBetween 0 (length text + 1) lines → FirstOf gives lines found → FirstOf so lines found
giving gives text so all lines found between nowhere = nowhere
giving gives text so all lines found between (here line others entry is) = here line others entry (all line (Some entry) between.1 (omega (arith, between.2)) is)
giving gives text so all lines found between (later line others more is rest) = later line others more (all line None between.1 (omega (arith, between.2)) is) (giving gives text so all others more between.3 rest)

-- the first line that gives something, by what each line gives
pub first_gives : {E : Type 0} (gives : Span → Option E → Type 0) (text : List ℕ) (so : Span → Option E → Type 0) → EachGives gives text so → (found : Option E) → FirstOf gives (line_spans text 0) found → FirstOf so (line_spans text 0) found
first_gives gives text so all found is = giving gives text so all (line_spans text 0) found (lines-between text 0 (omega arith)) is
