-- Lines that do not matter to a request change nothing.
use Rattle.std.proofs.Common.{◌≡◌, ℕ, Bool, true, false, not, cond, ◌&&◌, ◌||◌, if◌then◌else◌, List, [], ◌∷◌, ◌++◌, filter, flat_map, Bor, IfSome, Option, Some, None, refl, sym, ◌∙◌, ap, subst}
use Rattle.std.specs.Option.{is_some}
use Rattle.std.specs.Str.{bytes_eq}
use Rattle.std.proofs.lemmas.Bool.{false_from_ne_true}
use Rattle.std.proofs.lemmas.Slice.Eq.{bytes_eq-Decides}
use Rattle.nsc_base.specs.Text.{fields_of, is_filled, trimmed}
use Rattle.nsc_model.specs.declared.kind.Kind.{Kind}
use Rattle.nsc_model.specs.declared.row.Group.{Group}
use Rattle.nsc_model.specs.declared.row.Looked.{Looked}
use Rattle.nsc_model.specs.Answers.{sub_looked}
use Rattle.nsc_model.specs.Compat.{IdScan, Saying, Scan, answers_or, before_ids, gather_saying, gathered, id_of_group, is_excluded, sayings, scan_saying, scanned}
use Rattle.nsc_model.specs.Content.{Content}
use Rattle.nsc_model.specs.Entries.{if_named}
use Rattle.nsc_model.proofs.Sayings.{line_case}
use Rattle.nsc_compat.specs.declared.asking.Naming.{Naming}
use Rattle.nsc_compat.specs.declared.asking.Naming.TheVariants.{Name, Id}
use Rattle.nsc_compat.specs.Accounts.{Accounts, IsAskedBy, is_wanted, scan_of, wanted_names}
use Rattle.nsc_accounts.specs.Matters.{matters, sign_name, speaks_on}
use Rattle.nsc_compat.proofs.Scans.{AnswersAmong, scanned_among}

same_functions : {A B : Type 0} (f g : A → B) → ((x : A) → f x ≡ g x) → f ≡ g
same_functions f g each = λ i x. each x i

-- ---- tests that fail

neither : (a b : Bool) → (a || b) ≡ false → (a ≡ false) × (b ≡ false)
neither true b is = cc
neither false b is = (refl, is)

has_none : {A : Type 0} (o : Option A) → is_some o ≡ false → o ≡ None
has_none None is = refl
has_none (Some a) is = cc

filtered_step : {A B : Type 0} (comes : List A → B) (test : A → Bool) (x : A) (xs : List A) → (test x ≡ false → comes xs ≡ comes (x ∷ xs)) → (comes (x ∷ filter test xs) ≡ comes (x ∷ xs)) → comes (filter test xs) ≡ comes xs → comes (filter test (x ∷ xs)) ≡ comes (x ∷ xs)
filtered_step comes test x xs passed kept rest =
    elim (test x) as (λ v. test x ≡ v → comes (cond v (x ∷ filter test xs) (filter test xs)) ≡ comes (x ∷ xs)) [
      | true ↦ λ is. kept
      | false ↦ λ is. rest ∙ passed is
    ] refl

-- ---- a request for one entry

-- what is not named does not answer
unnamed : {A : Type 0} (scan : Scan A) (excluded : List (List ℕ)) (o : Option A) (replaced : A → A) (next : Looked) → if_named scan.names o ≡ None → answers_or scan scan.names excluded o replaced next ≡ next
unnamed scan excluded None replaced next none = refl
unnamed scan excluded (Some a) replaced next none =
    elim (scan.names a) as (λ v. (if v then Some a else None) ≡ None → (if v && not (is_excluded excluded (scan.name_of a)) then scan.found (replaced a) else next) ≡ next) [
      | true ↦ λ is. cc
      | false ↦ λ is. refl
    ] none

module _ {A : Type 0} (accounts : Accounts A) (files : Content) (gives : (name : List ℕ) → IfSome (accounts.entry_in (sub_looked files accounts.database accounts.by_name name)) (λ a. accounts.name_of a ≡ name)) where
  -- what further services have for the request itself
  asked_named : (by : Kind) (key name : List ℕ) → by ≡ accounts.by_name → name ≡ key → IfSome (accounts.entry_in (sub_looked files accounts.database by key)) (λ a. accounts.name_of a ≡ name)
  asked_named by key name is same =
      subst (λ k. IfSome (accounts.entry_in (sub_looked files accounts.database k key)) (λ a. accounts.name_of a ≡ name)) (sym is)
      (subst (λ n. IfSome (accounts.entry_in (sub_looked files accounts.database accounts.by_name key)) (λ a. accounts.name_of a ≡ n)) (sym same) (gives key))

module _ {A : Type 0} (scan : Scan A) (these : List ℕ → Bool) (among : AnswersAmong (λ name. these name ≡ true) scan) (others : (name : List ℕ) → these name ≡ false → if_named scan.names (scan.by_name name) ≡ None) where
  other_name : (name q : List ℕ) → these name ≡ false → these q ≡ true → bytes_eq name q ≡ false
  other_name name q is there = false_from_ne_true (bytes_eq name q) (λ same. let e : these name ≡ these q = ap these ((bytes_eq-Decides name q).0 same) in cc)

  says_nothing : (line : List ℕ) (later : List Saying) (excluded : List (List ℕ)) → if_named scan.names (scan.entry_of line) ≡ None → speaks_on these (sign_name (sayings line)) ≡ false → scanned scan later excluded ≡ scanned scan (sayings line ++ later) excluded
  says_nothing line later excluded own =
      let next = scanned scan later excluded in
      line_case (λ said. speaks_on these (sign_name said) ≡ false → next ≡ scanned scan (said ++ later) excluded) (λ none. refl) (λ none. cc)
      (λ name none.
      let is = (neither (not (is_filled name)) (these name) none).1 in
      sym (scanned_among scan (λ n. these n ≡ true) among later (name ∷ excluded) excluded (λ q there. ap (λ v. v || is_excluded excluded q) (other_name name q is there)))) line
      (λ none. sym (unnamed scan excluded (scan.entry_of line) (λ a. a) next own)) (λ clean none. cc)
      (λ clean name none.
      let is = (neither (not (is_filled name)) (these name) none).1 in
      sym (unnamed scan excluded (scan.by_name name) (scan.replaced (fields_of 58 (trimmed line))) next (others name is)))

  after_said : (said these those : List Saying) → ((excluded : List (List ℕ)) → scanned scan these excluded ≡ scanned scan those excluded) → (excluded : List (List ℕ)) → scanned scan (said ++ these) excluded ≡ scanned scan (said ++ those) excluded
  after_said [] these those same excluded = same excluded
  after_said (saying ∷ said) these those same excluded = ap (scan_saying scan excluded saying) (same_functions (scanned scan (said ++ these)) (scanned scan (said ++ those)) (after_said said these those same))

  -- the outcome of a scan is the same over the lines that matter
  pub filtered : (lines excluded : List (List ℕ)) → scanned scan (flat_map sayings (filter (matters scan.entry_of scan.names these) lines)) excluded ≡ scanned scan (flat_map sayings lines) excluded
  filtered [] excluded = refl
  filtered (line ∷ lines) excluded =
      let kept = filter (matters scan.entry_of scan.names these) lines in
      filtered_step (λ ls. scanned scan (flat_map sayings ls) excluded) (matters scan.entry_of scan.names these) line lines
      (λ is.
      let none = neither (is_some (if_named scan.names (scan.entry_of line))) (speaks_on these (sign_name (sayings line))) is in
      says_nothing line (flat_map sayings lines) excluded (has_none (if_named scan.names (scan.entry_of line)) none.0) none.1)
      (after_said (sayings line) (flat_map sayings kept) (flat_map sayings lines) (filtered lines) excluded)
      (filtered lines excluded)

module _ {A : Type 0} (accounts : Accounts A) (files : Content) (gives : (name : List ℕ) → IfSome (accounts.entry_in (sub_looked files accounts.database accounts.by_name name)) (λ a. accounts.name_of a ≡ name)) where
  -- what further services have for another name is not named
  given_other : (key name : List ℕ) (o : Option A) → IfSome o (λ a. accounts.name_of a ≡ name) → bytes_eq name key ≡ false → if_named (λ a. bytes_eq (accounts.name_of a) key) o ≡ None
  given_other key name None has other = refl
  given_other key name (Some a) has other = ap (λ (n : List ℕ). if bytes_eq n key then Some a else None) has ∙ ap (λ v. if v then Some a else None) other

  pub entry_filtered : (by : Kind) (key : Bor (List ℕ)) (wanted : Naming) → IsAskedBy accounts by key.now wanted → (lines excluded : List (List ℕ))
      → scanned (scan_of accounts files (record { kind = by; key = key; wanted = wanted })) (flat_map sayings (filter (matters accounts.entry_of (is_wanted accounts wanted) (wanted_names wanted)) lines)) excluded ≡ scanned (scan_of accounts files (record { kind = by; key = key; wanted = wanted })) (flat_map sayings lines) excluded
  entry_filtered by key (Name name) asked =
      filtered (scan_of accounts files (record { kind = by; key = key; wanted = Name name })) (λ n. bytes_eq n name.now) (record {
        named = λ a is. is;
        asked = asked_is (accounts.entry_in (sub_looked files accounts.database by key.now)) (asked_named accounts files gives by key.now name.now asked.0 asked.1);
      }) (λ n other. given_other name.now n (accounts.entry_in (sub_looked files accounts.database accounts.by_name n)) (gives n) other) where
        asked_is : (o : Option A) → IfSome o (λ a. accounts.name_of a ≡ name.now) → IfSome o (λ a. bytes_eq (accounts.name_of a) name.now ≡ true)
        asked_is None is = tt
        asked_is (Some a) is = (bytes_eq-Decides (accounts.name_of a) name.now).1 is
  entry_filtered by key (Id id) asked =
      filtered (scan_of accounts files (record { kind = by; key = key; wanted = Id id })) (λ n. true) (record {
        named = λ a is. refl;
        asked = any_is (accounts.entry_in (sub_looked files accounts.database by key.now));
      }) (λ n other. cc) where
        any_is : (o : Option A) → IfSome o (λ a. true ≡ true)
        any_is None = tt
        any_is (Some a) = refl

-- ---- the groups of a user

no_ids : (o : Option (List ℕ)) → o ≡ before_ids [] o
no_ids None = refl
no_ids (Some ids) = refl

no_id : (scan : IdScan) (excluded : List (List ℕ)) (o : Option Group) → if_named scan.has_user o ≡ None → [] ≡ id_of_group scan excluded o
no_id scan excluded None is = refl
no_id scan excluded (Some g) is =
    elim (scan.has_user g) as (λ v. (if v then Some g else None) ≡ None → [] ≡ (if v && not (is_excluded excluded g.name) then g.gid ∷ [] else [])) [
      | true ↦ λ e. cc
      | false ↦ λ e. refl
    ] is

adds_nothing : (scan : IdScan) (line : List ℕ) (later : List Saying) (excluded : List (List ℕ)) → if_named scan.has_user (scan.group_of line) ≡ None → speaks_on (λ name. true) (sign_name (sayings line)) ≡ false → gathered scan later excluded ≡ gathered scan (sayings line ++ later) excluded
adds_nothing scan line later excluded own =
    let next = gathered scan later excluded in
    line_case (λ said. speaks_on (λ name. true) (sign_name said) ≡ false → next ≡ gathered scan (said ++ later) excluded) (λ none. refl) (λ none. cc)
    (λ name none. let is = (neither (not (is_filled name)) true none).1 in cc) line
    (λ none. no_ids next ∙ ap (λ ids. before_ids ids next) (no_id scan excluded (scan.group_of line) own)) (λ clean none. cc)
    (λ clean name none. let is = (neither (not (is_filled name)) true none).1 in cc)

after_gathered : (scan : IdScan) (said these those : List Saying) → ((excluded : List (List ℕ)) → gathered scan these excluded ≡ gathered scan those excluded) → (excluded : List (List ℕ)) → gathered scan (said ++ these) excluded ≡ gathered scan (said ++ those) excluded
after_gathered scan [] these those same excluded = same excluded
after_gathered scan (saying ∷ said) these those same excluded = ap (gather_saying scan excluded saying) (same_functions (gathered scan (said ++ these)) (gathered scan (said ++ those)) (after_gathered scan said these those same))

pub ids_filtered : (scan : IdScan) (lines excluded : List (List ℕ)) → gathered scan (flat_map sayings (filter (matters scan.group_of scan.has_user (λ name. true)) lines)) excluded ≡ gathered scan (flat_map sayings lines) excluded
ids_filtered scan [] excluded = refl
ids_filtered scan (line ∷ lines) excluded =
    let kept = filter (matters scan.group_of scan.has_user (λ name. true)) lines in
    filtered_step (λ ls. gathered scan (flat_map sayings ls) excluded) (matters scan.group_of scan.has_user (λ name. true)) line lines
    (λ is.
    let none = neither (is_some (if_named scan.has_user (scan.group_of line))) (speaks_on (λ name. true) (sign_name (sayings line))) is in
    adds_nothing scan line (flat_map sayings lines) excluded (has_none (if_named scan.has_user (scan.group_of line)) none.0) none.1)
    (after_gathered scan (sayings line) (flat_map sayings kept) (flat_map sayings lines) (ids_filtered scan lines) excluded)
    (ids_filtered scan lines excluded)
