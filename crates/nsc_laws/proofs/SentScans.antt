-- What compat lines answer to a request for one entry can be sent, where what they may find can be.
use Rattle.std.proofs.Common.{ℕ, ◌+◌, ◌≤◌, Bool, true, false, not, ◌&&◌, if◌then◌else◌, List, [], ◌∷◌, ◌++◌, flat_map, Option, Some, None, IfSome, arith}
use Rattle.std.specs.List.{AllByRecursion, filter_map}
use Rattle.std.proofs.lemmas.Option.{IfSome_then}
use Rattle.nsc_base.specs.Text.{fields_of, lines_of, trimmed}
use Rattle.nsc_model.specs.declared.row.Looked.{Looked}
use Rattle.nsc_model.specs.declared.row.Looked.TheVariants.{NotFound, Unavail}
use Rattle.nsc_model.specs.Compat.{Scan, answers_or, is_excluded, sayings, scanned, scanned_file}
use Rattle.nsc_model.specs.Files.{FileFits, file_limit}
use Rattle.nsc_model.proofs.Sayings.{line_case}
use Rattle.nsc_laws.proofs.SentAccounts.{AreFields, line_fields}
use Rattle.nsc_laws.proofs.SentEntries.{entries_in}
use Rattle.nsc_laws.proofs.SentLists.{front_keeps}
use Rattle.nsc_laws.proofs.SentSizes.{lines_size, size_of}

-- Q holds of what lines and services find, and P of what comes of it
pub record Scans {A : Type 0} (P : Looked → Type 0) (Q : A → Type 0) (scan : Scan A) : Type 0 where
  pub none : P NotFound
  pub lacking : P Unavail
  pub own : (x : A) → Q x → P (scan.found x)
  pub replaced : (fields : List (List ℕ)) (x : A) → AreFields fields → Q x → P (scan.found (scan.replaced fields x))
  pub named : (name : List ℕ) → IfSome (scan.by_name name) Q
  pub asked : IfSome scan.asked Q

answers_keep : {A : Type 0} (P : Looked → Type 0) (scan : Scan A) (names : A → Bool) (excluded : List (List ℕ)) (o : Option A) (replaced : A → A) (next : Looked)
    → IfSome o (λ x. P (scan.found (replaced x))) → P next → P (answers_or scan names excluded o replaced next)
answers_keep P scan names excluded None replaced next kept later = later
answers_keep P scan names excluded (Some x) replaced next kept later =
    elim (names x && not (is_excluded excluded (scan.name_of x))) as (λ v. P (if v then scan.found (replaced x) else next)) [ true ↦ kept | false ↦ later ]

lines_keep : {A : Type 0} (P : Looked → Type 0) (Q : A → Type 0) (scan : Scan A) → Scans P Q scan → (lines : List (List ℕ))
    → size_of lines ≤ file_limit + 1 → AllByRecursion Q (filter_map scan.entry_of lines) → (excluded : List (List ℕ)) → P (scanned scan (flat_map sayings lines) excluded)
lines_keep P Q scan scans [] short all excluded = scans.none
lines_keep {A} P Q scan scans (line ∷ lines) short all excluded =
    let front = front_keeps Q (scan.entry_of line) (filter_map scan.entry_of lines) all in
    let later = lines_keep P Q scan scans lines (omega (arith, short)) front.1 in
    let after = flat_map sayings lines in
    let next = scanned scan after excluded in
    let fields = fields_of 58 (trimmed line) in
    line_case (λ said. P (scanned scan (said ++ after) excluded)) (later excluded) scans.lacking (λ name. later (name ∷ excluded)) line
    (answers_keep P scan scan.names excluded (scan.entry_of line) (λ e. e) next (IfSome_then (scan.entry_of line) front.0 scans.own) (later excluded))
    (λ clean. answers_keep P scan (λ x. true) excluded scan.asked (scan.replaced fields) next (IfSome_then scan.asked scans.asked (λ x kept. scans.replaced fields x (line_fields line clean (omega (arith, short))) kept)) (later excluded))
    (λ clean name. answers_keep P scan scan.names excluded (scan.by_name name) (scan.replaced fields) next (IfSome_then (scan.by_name name) (scans.named name) (λ x kept. scans.replaced fields x (line_fields line clean (omega (arith, short))) kept)) (later excluded))

pub scan_keeps : {A : Type 0} (P : Looked → Type 0) (Q : A → Type 0) (scan : Scan A) → Scans P Q scan → (file : Option (List ℕ)) → FileFits file → AllByRecursion Q (entries_in scan.entry_of file) → P (scanned_file scan file)
scan_keeps P Q scan scans None fits all = scans.lacking
scan_keeps P Q scan scans (Some file) fits all = lines_keep P Q scan scans (lines_of file) (omega (arith, lines_size file, fits)) all []
