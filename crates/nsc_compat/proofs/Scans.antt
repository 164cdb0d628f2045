-- Scans go by which of the names that they may answer with are excluded, and not by how these are listed.
use Rattle.std.proofs.Common.{◌≡◌, ℕ, Bool, true, false, not, ◌&&◌, ◌||◌, if◌then◌else◌, List, [], ◌∷◌, ◌++◌, IfSome, Option, Some, None, refl, ◌∙◌, ap}
use Rattle.std.specs.Str.{bytes_eq}
use Rattle.nsc_model.specs.declared.row.Looked.{Looked}
use Rattle.nsc_model.specs.Compat.{Saying, Own, Excludes, Asks, AsksAll, Netgroup, Scan, answers_or, is_excluded, sayings, scan_saying, scanned}
use Rattle.nsc_model.specs.Content.{Content}
use Rattle.nsc_compat.specs.declared.asking.Asking.{Asking}
use Rattle.nsc_compat.specs.Accounts.{Accounts, is_wanted, outcome_by, scan_of}
use Rattle.nsc_compat.specs.Names.{SameNames}
use Rattle.nsc_compat.specs.Lines.{looked_or}

pub with_name : (name : List ℕ) (these those : List (List ℕ)) → SameNames these those → SameNames (name ∷ these) (name ∷ those)
with_name name these those same = λ q. ap (λ v. bytes_eq name q || v) (same q)

-- two lists exclude the same of some names
abbrev pub SameAmong : (List ℕ → Type 0) → List (List ℕ) → List (List ℕ) → Type 0
SameAmong P these those = (name : List ℕ) → P name → is_excluded these name ≡ is_excluded those name

-- whatever a scan may answer with has one of some names
pub record AnswersAmong {A : Type 0} (P : List ℕ → Type 0) (scan : Scan A) : Type 0 where
  pub named : (a : A) → scan.names a ≡ true → P (scan.name_of a)
  pub asked : IfSome scan.asked (λ a. P (scan.name_of a))

answers_same : {A : Type 0} (scan : Scan A) (P : List ℕ → Type 0) (names : A → Bool) (these those : List (List ℕ)) → SameAmong P these those → (o : Option A) → IfSome o (λ a. names a ≡ true → P (scan.name_of a))
    → (replaced : A → A) (next later : Looked) → next ≡ later → answers_or scan names these o replaced next ≡ answers_or scan names those o replaced later
answers_same scan P names these those same None among replaced next later e = e
answers_same scan P names these those same (Some entry) among replaced next later e =
    let name = scan.name_of entry in
    elim (names entry) as (λ v. (v ≡ true → P name) → (if v && not (is_excluded these name) then scan.found (replaced entry) else next) ≡ (if v && not (is_excluded those name) then scan.found (replaced entry) else later)) [
      | true ↦ λ is.
          ap (λ v. if not v then scan.found (replaced entry) else next) (same name (is refl))
          ∙ ap (λ (n : Looked). if not (is_excluded those name) then scan.found (replaced entry) else n) e
      | false ↦ λ is. e
    ] among

module _ {A : Type 0} (scan : Scan A) (P : List ℕ → Type 0) (among : AnswersAmong P scan) where
  named : (o : Option A) → IfSome o (λ a. scan.names a ≡ true → P (scan.name_of a))
  named None = tt
  named (Some a) = among.named a

  asked : (o : Option A) → IfSome o (λ a. P (scan.name_of a)) → IfSome o (λ a. true ≡ true → P (scan.name_of a))
  asked None is = tt
  asked (Some a) is = λ always. is

  saying_same : (saying : Saying) (these those : List (List ℕ)) (next : List (List ℕ) → Looked) → ((a b : List (List ℕ)) → SameAmong P a b → next a ≡ next b) → SameAmong P these those
      → scan_saying scan these saying next ≡ scan_saying scan those saying next
  saying_same (Own line) these those next each same = answers_same scan P scan.names these those same (scan.entry_of line) (named (scan.entry_of line)) (λ x. x) (next these) (next those) (each these those same)
  saying_same (Excludes name) these those next each same = each (name ∷ these) (name ∷ those) (λ q is. ap (λ v. bytes_eq name q || v) (same q is))
  saying_same (Asks name fields) these those next each same = answers_same scan P scan.names these those same (scan.by_name name) (named (scan.by_name name)) (scan.replaced fields) (next these) (next those) (each these those same)
  saying_same (AsksAll fields) these those next each same = answers_same scan P (λ e. true) these those same scan.asked (asked scan.asked among.asked) (scan.replaced fields) (next these) (next those) (each these those same)
  saying_same Netgroup these those next each same = refl

  pub scanned_among : (later : List Saying) (these those : List (List ℕ)) → SameAmong P these those → scanned scan later these ≡ scanned scan later those
  scanned_among [] these those same = refl
  scanned_among (saying ∷ later) these those same = saying_same saying these those (scanned scan later) (scanned_among later) same

any_name : {A : Type 0} (o : Option A) → IfSome o (λ a. Unit {0})
any_name None = tt
any_name (Some a) = tt

scanned_same : {A : Type 0} (scan : Scan A) (later : List Saying) (these those : List (List ℕ)) → SameNames these those → scanned scan later these ≡ scanned scan later those
scanned_same scan later these those same = scanned_among scan (λ name. Unit {0}) (record { named = λ a is. tt; asked = any_name scan.asked }) later these those (λ name is. same name)

-- ---- line by line

-- the outcome of a line is that of what it says
said_line : {A : Type 0} (scan : Scan A) (line : List ℕ) (said : List Saying) (excluded : List (List ℕ)) (later : List Saying) → said ≡ sayings line → scanned scan (said ++ later) excluded ≡ scanned scan (sayings line ++ later) excluded
said_line scan line said excluded later is = ap (λ (s : List Saying). scanned scan (s ++ later) excluded) is

pub name_excluded : {A : Type 0} (scan : Scan A) (line name : List ℕ) (excluded more : List (List ℕ)) → Excludes name ∷ [] ≡ sayings line → SameNames more (name ∷ excluded) → (later : List Saying) → scanned scan later more ≡ scanned scan (sayings line ++ later) excluded
name_excluded scan line name excluded more is same later = scanned_same scan later more (name ∷ excluded) same ∙ said_line scan line (Excludes name ∷ []) excluded later is

module _ {A : Type 0} (accounts : Accounts A) (content : Content) (asking : Asking) (line : List ℕ) (excluded : List (List ℕ)) where
  -- an entry that answers, or the lines after it
  entry_or : (names : A → Bool) (o : Option A) (replaced : A → A) (next : Looked) → looked_or (outcome_by accounts names excluded o replaced) next ≡ answers_or (scan_of accounts content asking) names excluded o replaced next
  entry_or names None replaced next = refl
  entry_or names (Some a) replaced next =
      elim (names a && not (is_excluded excluded (accounts.name_of a))) as (λ v. looked_or (if v then Some (accounts.found (replaced a)) else None) next ≡ (if v then accounts.found (replaced a) else next)) [ true ↦ refl | false ↦ refl ]

  pub own_answers : (outcome : Option Looked) → Own line ∷ [] ≡ sayings line → outcome ≡ outcome_by accounts (is_wanted accounts asking.wanted) excluded (accounts.entry_of line) (λ a. a)
      → (later : List Saying) → looked_or outcome (scanned (scan_of accounts content asking) later excluded) ≡ scanned (scan_of accounts content asking) (sayings line ++ later) excluded
  own_answers outcome is gives later =
      let scan = scan_of accounts content asking in
      let next = scanned scan later excluded in
      ap (λ o. looked_or o next) gives ∙ entry_or (is_wanted accounts asking.wanted) (accounts.entry_of line) (λ a. a) next ∙ said_line scan line (Own line ∷ []) excluded later is

  pub named_answers : (outcome : Option Looked) (name : List ℕ) (fields : List (List ℕ)) (o : Option A) → Asks name fields ∷ [] ≡ sayings line → o ≡ (scan_of accounts content asking).by_name name
      → outcome ≡ outcome_by accounts (is_wanted accounts asking.wanted) excluded o (accounts.replaced fields) → (later : List Saying) → looked_or outcome (scanned (scan_of accounts content asking) later excluded) ≡ scanned (scan_of accounts content asking) (sayings line ++ later) excluded
  named_answers outcome name fields o is found gives later =
      let scan = scan_of accounts content asking in
      let next = scanned scan later excluded in
      ap (λ p. looked_or p next) (gives ∙ ap (λ p. outcome_by accounts (is_wanted accounts asking.wanted) excluded p (accounts.replaced fields)) found)
      ∙ entry_or (is_wanted accounts asking.wanted) (scan.by_name name) (accounts.replaced fields) next ∙ said_line scan line (Asks name fields ∷ []) excluded later is

  pub asked_answers : (outcome : Option Looked) (fields : List (List ℕ)) (o : Option A) → AsksAll fields ∷ [] ≡ sayings line → o ≡ (scan_of accounts content asking).asked
      → outcome ≡ outcome_by accounts (λ a. true) excluded o (accounts.replaced fields) → (later : List Saying) → looked_or outcome (scanned (scan_of accounts content asking) later excluded) ≡ scanned (scan_of accounts content asking) (sayings line ++ later) excluded
  asked_answers outcome fields o is found gives later =
      let scan = scan_of accounts content asking in
      let next = scanned scan later excluded in
      ap (λ p. looked_or p next) (gives ∙ ap (λ p. outcome_by accounts (λ a. true) excluded p (accounts.replaced fields)) found)
      ∙ entry_or (λ a. true) scan.asked (accounts.replaced fields) next ∙ said_line scan line (AsksAll fields ∷ []) excluded later is
