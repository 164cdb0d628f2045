-- What the first line that gives something gives, where lines without a needle are not read.
use Rattle.std.proofs.Common.{ℕ, ◌≤◌, ◌+◌, List, length, Option, None, arith}
use Rattle.nsc_base.specs.declared.search.Case.{Case}
use Rattle.nsc_base.specs.declared.span.Span.{Span}
use Rattle.nsc_base.specs.Found.{AllBetween, FirstOf, Lacks, OrLacks, here, lacks, later, nowhere, read}
use Rattle.nsc_base.specs.Text.{line_spans, part}
use Rattle.nsc_base.proofs.LineStarts.{lines-between}

-- what each line gives, given otherwise
abbrev pub Gives : {E : Type 0} → (Span → Option E → Type 0) → (Span → Option E → Type 0) → List ℕ → Type 0
Gives {E} gives given text = (line : Span) (r : Option E) → line.from ≤ line.to → line.to ≤ length text → gives line r → given line r

gives_all : {E : Type 0} (gives given : Span → Option E → Type 0) (text : List ℕ) (lines : List Span) (found : Option E) → Gives gives given text → AllBetween 0 (length text + 1) lines → FirstOf gives lines found → FirstOf given lines found
gives_all gives given text lines found each between nowhere = nowhere
gives_all gives given text lines found each between (here line others entry is) = here line others entry (each line _ between.1 (omega (arith, between.2)) is)
gives_all gives given text lines found each between (later line others more is rest) = later line others more (each line None between.1 (omega (arith, between.2)) is) (gives_all gives given text others more each between.3 rest)

pub first_given : {E : Type 0} {gives : Span → Option E → Type 0} (given : Span → Option E → Type 0) (text : List ℕ) (found : Option E) → Gives gives given text → FirstOf gives (line_spans text 0) found → FirstOf given (line_spans text 0) found
first_given {E} {gives} given text found each is = gives_all gives given text (line_spans text 0) found each (lines-between text 0 (omega arith)) is

-- a line that lacks the needle is none of those that are wanted
pub or_lacks : {E : Type 0} {gives : Span → Option E → Type 0} (case : Case) (needle text : List ℕ) (given : Span → Option E → Type 0) → Gives gives given text → ((line : Span) → Lacks case needle (part text line) → given line None) → Gives (OrLacks case needle text gives) given text
or_lacks case needle text given each none line r ordered ends (read given_is is) = each line given_is ordered ends is
or_lacks case needle text given each none line r ordered ends (lacks lack) = none line lack
