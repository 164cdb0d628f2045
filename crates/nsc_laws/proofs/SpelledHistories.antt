-- Each answer in a history spells what the switch finds over a version of it.
use Rattle.std.proofs.Common.{◌≡◌, ◌⊎◌, ℕ, ◌+◌, ◌<◌, true, false, ◌==◌, if◌then◌else◌, List, [], ◌∷◌, All, Option, Some, None, refl, sym, ap, subst, arith, inl, inr}
use Rattle.std.specs.List.{AllByRecursion}
use Rattle.std.proofs.lemmas.Bool.Decides.{Decides-eqb, nat_tests}
use Rattle.std.proofs.lemmas.List.Elements.{recursion_from_All}
use Rattle.nsc_model.specs.declared.answer.Request.{Request}
use Rattle.nsc_model.specs.declared.record.Record.{Record}
use Rattle.nsc_model.specs.declared.record.Record.TheVariants.{Change, Poll, Load, End, Invalid}
use Rattle.nsc_model.specs.Answers.{answer_of}
use Rattle.nsc_model.specs.Content.{Content}
use Rattle.nsc_model.specs.Files.{FilesFit}
use Rattle.nsc_model.specs.Entry.{Entry}
use Rattle.nsc_model.specs.History.{Answered, FromEntry, FromPoll, HasLoad, IsFit, Legal, changes, version_in}
use Rattle.nsc_model.specs.Answer.{Answer}
use Rattle.nsc_laws.specs.Spelled.{SpellsVersion}
use Rattle.nsc_laws.proofs.Spelled.{answer_spells}

-- ---- versions are numbered from 0, and none has the number of an earlier one

change_below : (version n count : ℕ) (content files : Content) (before : Option Content) → version ≡ count → (before ≡ Some files → n < count) → (if version == n then Some content else before) ≡ Some files → n < count + 1
change_below version n count content files before is below h =
    elim (version == n) as (λ v. (version == n) ≡ v → (if v then Some content else before) ≡ Some files → n < count + 1) [
      | true ↦ λ same e. omega (arith, (Decides-eqb version n).0 same)
      | false ↦ λ other e. omega (arith, below e)
    ] refl h

pub version_below : (history : List Record) (n : ℕ) (files : Content) → Legal history → version_in history n ≡ Some files → n < changes history
version_below [] n files l h = absurd l
version_below (Change version content ∷ []) n files l h = change_below version n 0 content files None l (λ e. absurd cc) h
version_below (Change version content ∷ r ∷ before) n files l h = change_below version n (changes (r ∷ before)) content files (version_in (r ∷ before) n) l.1 (version_below (r ∷ before) n files l.0) h
version_below (Poll version ∷ before) n files l h = version_below before n files l.0 h
version_below (Load entry ∷ before) n files l h = version_below before n files l.0 h
version_below (End number cause ∷ before) n files l h = version_below before n files l.0 h
version_below (Invalid epoch ∷ before) n files l h = version_below before n files l.0 h

-- so a version stays after the change to the next
version_stays : (version : ℕ) (content : Content) (before : List Record) (n : ℕ) (files : Content) → Legal before
    → version ≡ changes before → version_in before n ≡ Some files → version_in (Change version content ∷ before) n ≡ Some files
version_stays version content before n files l is h =
    let below = version_below before n files l h in
    let other : (version == n) ≡ false = grind (arith, nat_tests) in
    rw other h

-- ---- answers

version_fits : (history : List Record) (n : ℕ) (files : Content) → AllByRecursion IsFit history → version_in history n ≡ Some files → FilesFit files
version_fits [] n files within h = absurd cc
version_fits (Change version content ∷ before) n files within h =
    elim (version == n) as (λ v. (if v then Some content else version_in before n) ≡ Some files → FilesFit files) [
      | true ↦ λ e. subst FilesFit (let same : content ≡ files = cc in same) within.0
      | false ↦ λ e. version_fits before n files within.1 e
    ] h
version_fits (Poll version ∷ before) n files within h = version_fits before n files within.1 h
version_fits (Load entry ∷ before) n files within h = version_fits before n files within.1 h
version_fits (End number cause ∷ before) n files within h = version_fits before n files within.1 h
version_fits (Invalid epoch ∷ before) n files within h = version_fits before n files within.1 h

spelled_over : (history : List Record) (n : ℕ) (files : Content) (request : Request) (bytes : List ℕ) → AllByRecursion IsFit history
    → version_in history n ≡ Some files → (answer_of files request).bytes ≡ bytes → SpellsVersion history request bytes
spelled_over history n files request bytes within holds said =
    let fits = version_fits history n files within holds in
    subst (λ (b : List ℕ). SpellsVersion history request b) said (record { version = n; files = files; holds = holds; fits = fits; spells = answer_spells files request fits })

-- what was spelled before a record is spelled after it, where the versions stay
still_spelled : (r : Record) (before : List Record) (e : Entry) → ((n : ℕ) (files : Content) → version_in before n ≡ Some files → version_in (r ∷ before) n ≡ Some files)
    → SpellsVersion before e.request e.answer.bytes → SpellsVersion (r ∷ before) e.request e.answer.bytes
still_spelled r before e stay spelled = record { version = spelled.version; files = spelled.files; holds = stay spelled.version spelled.files spelled.holds; fits = spelled.fits; spells = spelled.spells }

load_spells : (history : List Record) (e : Entry) → Legal history → AllByRecursion IsFit history → HasLoad history e → SpellsVersion history e.request e.answer.bytes
load_spells [] e l within has = absurd has
load_spells (Change version content ∷ []) e l within has = absurd has
load_spells (Change version content ∷ r ∷ before) e l within has =
    still_spelled (Change version content) (r ∷ before) e (λ n files h. version_stays version content (r ∷ before) n files l.0 l.1 h) (load_spells (r ∷ before) e l.0 within.1 has)
load_spells (Poll version ∷ before) e l within has = still_spelled (Poll version) before e (λ n files h. h) (load_spells before e l.0 within.1 has)
load_spells (Load entry ∷ before) e l within (inl same) =
    let history = Load entry ∷ before in
    let answer = l.3 in
    let spelled = spelled_over history entry.version answer.0 entry.request entry.answer.bytes within answer.1 (sym (ap (λ (a : Answer). a.bytes) answer.2)) in
    subst (λ (x : Entry). SpellsVersion history x.request x.answer.bytes) same spelled
load_spells (Load entry ∷ before) e l within (inr has) = still_spelled (Load entry) before e (λ n files h. h) (load_spells before e l.0 within.1 has)
load_spells (End number cause ∷ before) e l within has = still_spelled (End number cause) before e (λ n files h. h) (load_spells before e l.0 within.1 has)
load_spells (Invalid epoch ∷ before) e l within has = still_spelled (Invalid epoch) before e (λ n files h. h) (load_spells before e l.0 within.1 has)

pub loaded_law : (history : List Record) (entry : Entry) → Legal history → All IsFit history → HasLoad history entry → SpellsVersion history entry.request entry.answer.bytes
loaded_law history entry l within has = load_spells history entry l (recursion_from_All IsFit history within) has

source_spells : (seen history : List Record) (request : Request) (bytes : List ℕ) → Legal history → All IsFit history
    → FromEntry seen history request bytes ⊎ FromPoll seen history request bytes → SpellsVersion history request bytes
source_spells seen history request bytes l within (inl from) =
    let e = from.entry_is in
    let spelled = subst (λ (asked : Request). SpellsVersion history asked e.answer.bytes) from.answers (loaded_law history e l within from.inserted) in
    subst (λ (said : List ℕ). SpellsVersion history request said) from.said spelled
source_spells seen history request bytes l within (inr from) = spelled_over history from.version_is from.files_are request bytes (recursion_from_All IsFit history within) from.holds from.said

pub answered_law : (seen history : List Record) (request : Request) (bytes : List ℕ) → Legal history → All IsFit history → Answered seen history request bytes → SpellsVersion history request bytes
answered_law seen history request bytes l within answered = source_spells seen history request bytes l within answered.source
