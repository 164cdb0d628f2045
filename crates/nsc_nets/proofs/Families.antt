-- The first host of each family: of two families, the first host and the first of the other family.
use Rattle.std.proofs.Common.{◌≡◌, ℕ, Bool, true, false, not, cond, ◌&&◌, ◌==◌, ◌⊎◌, inl, inr, if◌then◌else◌, List, [], ◌∷◌, drop, filter, Option, Some, None, refl, sym, ◌∙◌, ap, subst, arith}
use Rattle.std.specs.List.{cons_option, filter_map}
use Rattle.std.specs.Option.{option_map, option_or}
use Rattle.std.proofs.lemmas.Bool.Decides.{Decides-eqb, nat_tests}
use Rattle.nsc_base.specs.declared.span.Line.{Line}
use Rattle.nsc_base.specs.Addresses.{v4_of, v6_of}
use Rattle.nsc_base.specs.declared.search.Case.TheVariants.{Ignored}
use Rattle.nsc_base.specs.Found.{IsLineWith}
use Rattle.nsc_base.specs.Text.{before_remark, lines_of, part, words_of}
use Rattle.nsc_model.specs.declared.row.Host.{Host}
use Rattle.nsc_model.specs.Answers.{addresses_of, all_addresses}
use Rattle.nsc_model.specs.Entries.{first_named, first_of, if_named, named_in}
use Rattle.nsc_model.specs.Hosts.{Addressed, addressed_of, family_once, host_has_name, host_of_line, host_of_words}
use Rattle.nsc_model.specs.Users.{has_zero}
use Rattle.nsc_nets.specs.declared.hosts.HostAt.{HostAt}
use Rattle.nsc_nets.specs.Addresses.{found_at, founds_at, of_other_family}
use Rattle.nsc_nets.specs.Hosts.{host_at}
use Rattle.nsc_nets.proofs.Remaining.{named_step}
use Rattle.nsc_nets.proofs.Unnamed.{no_host_called}

-- ---- every host of a file is of one family or of the other

abbrev pub IsFamily : ℕ → Type 0
IsFamily family = (family ≡ 2) ⊎ (family ≡ 10)

abbrev pub AreFamilies : List Host → Type 0
AreFamilies [] = Unit {0}
AreFamilies (h ∷ hosts) = IsFamily h.family × AreFamilies hosts

spelled_family : (v4 v6 : Option (List ℕ)) (a : Addressed) → option_or (option_map (λ bytes. record { family = 2; address = bytes }) v4) (option_map (λ bytes. record { family = 10; address = bytes }) v6) ≡ Some a → IsFamily a.family
spelled_family None None a h = cc
spelled_family None (Some bytes) a h =
    let same : record { family = 10; address = bytes } ≡ a = cc in
    inr (sym (ap (λ (x : Addressed). x.family) same))
spelled_family (Some bytes) v6 a h =
    let same : record { family = 2; address = bytes } ≡ a = cc in
    inl (sym (ap (λ (x : Addressed). x.family) same))

made_family : (name : List ℕ) (aliases : List (List ℕ)) (o : Option Addressed) (h : Host) → ((a : Addressed) → o ≡ Some a → IsFamily a.family) → option_map (λ (a : Addressed). record { name = name; aliases = aliases; family = a.family; address = a.address }) o ≡ Some h → IsFamily h.family
made_family name aliases None h known is = cc
made_family name aliases (Some a) h known is =
    let made : record { name = name; aliases = aliases; family = a.family; address = a.address } ≡ h = cc in
    let family : a.family ≡ h.family = ap (λ (x : Host). x.family) made in
    let P : ℕ → Type 0 = λ n. IsFamily n in
    subst P family (known a refl)

words_family : (words : List (List ℕ)) (h : Host) → host_of_words words ≡ Some h → IsFamily h.family
words_family [] h is = cc
words_family (address ∷ []) h is = cc
words_family (address ∷ name ∷ aliases) h is = made_family name aliases (addressed_of address) h (spelled_family (v4_of address) (v6_of address)) is

line_family : (line : List ℕ) (h : Host) → host_of_line line ≡ Some h → IsFamily h.family
line_family line h is =
    elim (has_zero line) as (λ v. (if v then None else host_of_words (words_of (before_remark line))) ≡ Some h → IsFamily h.family) [
      | true ↦ λ e. cc
      | false ↦ λ e. words_family (words_of (before_remark line)) h e
    ] is

more_families : (o : Option Host) (hosts : List Host) → ((h : Host) → o ≡ Some h → IsFamily h.family) → AreFamilies hosts → AreFamilies (cons_option o hosts)
more_families None hosts known all = all
more_families (Some h) hosts known all = (known h refl, all)

lines_families : (lines : List (List ℕ)) → AreFamilies (filter_map host_of_line lines)
lines_families [] = tt
lines_families (line ∷ lines) = more_families (host_of_line line) (filter_map host_of_line lines) (line_family line) (lines_families lines)

kept_families : (keep : Host → Bool) (hosts : List Host) → AreFamilies hosts → AreFamilies (filter keep hosts)
kept_families keep [] all = tt
kept_families keep (h ∷ hosts) all =
    elim (keep h) as (λ v. AreFamilies (cond v (h ∷ filter keep hosts) (filter keep hosts))) [
      | true ↦ (all.0, kept_families keep hosts all.1)
      | false ↦ kept_families keep hosts all.1
    ]

once_families : (hosts : List Host) → AreFamilies hosts → AreFamilies (family_once hosts)
once_families [] all = tt
once_families (h ∷ hosts) all = (all.0, kept_families (λ other. not (other.family == h.family)) (family_once hosts) (once_families hosts all.1))

-- ---- the first of the other family

abbrev pub is_other : ℕ → Host → Bool
is_other family h = not (h.family == family)

abbrev pub at_most_one : Option Host → List Host
at_most_one None = []
at_most_one (Some h) = h ∷ []

-- two families leave no third
no_third : (a b c : ℕ) → IsFamily a → IsFamily b → IsFamily c → (b == a) ≡ false → (c == b) ≡ false → (c == a) ≡ false → ⊥
no_third a b c (inl x) (inl y) z ba cb ca = grind (arith, nat_tests)
no_third a b c (inr x) (inr y) z ba cb ca = grind (arith, nat_tests)
no_third a b c (inl x) (inr y) (inl z) ba cb ca = grind (arith, nat_tests)
no_third a b c (inl x) (inr y) (inr z) ba cb ca = grind (arith, nat_tests)
no_third a b c (inr x) (inl y) (inl z) ba cb ca = grind (arith, nat_tests)
no_third a b c (inr x) (inl y) (inr z) ba cb ca = grind (arith, nat_tests)

none_left : (f g : ℕ) (hosts : List Host) → IsFamily f → IsFamily g → (g == f) ≡ false → AreFamilies hosts → filter (is_other f) (filter (is_other g) hosts) ≡ []
none_left f g [] is_f is_g apart all = refl
none_left f g (h ∷ hosts) is_f is_g apart all =
    let later = none_left f g hosts is_f is_g apart all.1 in
    elim (h.family == g) as (λ v. (h.family == g) ≡ v → filter (is_other f) (cond (not v) (h ∷ filter (is_other g) hosts) (filter (is_other g) hosts)) ≡ []) [
      | true ↦ λ same. later
      | false ↦ λ other.
          elim (h.family == f) as (λ w. (h.family == f) ≡ w → cond (not w) (h ∷ filter (is_other f) (filter (is_other g) hosts)) (filter (is_other f) (filter (is_other g) hosts)) ≡ []) [
            | true ↦ λ same. later
            | false ↦ λ third. absurd (no_third f g h.family is_f is_g all.0 apart other third)
          ] refl
    ] refl

-- a test that was made need not be made again
twice : (test : Host → Bool) (hosts : List Host) → filter test (filter test hosts) ≡ filter test hosts
twice test [] = refl
twice test (h ∷ hosts) =
    elim (test h) as (λ v. test h ≡ v → filter test (cond v (h ∷ filter test hosts) (filter test hosts)) ≡ cond v (h ∷ filter test hosts) (filter test hosts)) [
      | true ↦ λ is. rw is (ap (λ (hs : List Host). h ∷ hs) (twice test hosts))
      | false ↦ λ is. twice test hosts
    ] refl

pub once_other : (f : ℕ) (hosts : List Host) → IsFamily f → AreFamilies hosts → filter (is_other f) (family_once hosts) ≡ at_most_one (first_of (filter (is_other f) hosts))
once_other f [] is_f all = refl
once_other f (h ∷ hosts) is_f all =
    let rest = filter (is_other h.family) (family_once hosts) in
    elim (h.family == f) as (λ v. (h.family == f) ≡ v → cond (not v) (h ∷ filter (is_other f) rest) (filter (is_other f) rest) ≡ at_most_one (first_of (cond (not v) (h ∷ filter (is_other f) hosts) (filter (is_other f) hosts)))) [
      | true ↦ λ same.
          let is : h.family ≡ f = (Decides-eqb h.family f).0 same in
          ap (λ g. filter (is_other f) (filter (is_other g) (family_once hosts))) is ∙ twice (is_other f) (family_once hosts) ∙ once_other f hosts is_f all.1
      | false ↦ λ other. ap (λ (hs : List Host). h ∷ hs) (none_left f h.family (family_once hosts) is_f all.0 other (once_families hosts all.1))
    ] refl

-- ---- what is found

filter-both : (test names : Host → Bool) (hosts : List Host) → filter test (filter names hosts) ≡ filter (λ h. test h && names h) hosts
filter-both test names [] = refl
filter-both test names (h ∷ hosts) =
    let later = filter-both test names hosts in
    elim (names h) as (λ n. filter test (cond n (h ∷ filter names hosts) (filter names hosts)) ≡ cond (test h && n) (h ∷ filter (λ x. test x && names x) hosts) (filter (λ x. test x && names x) hosts)) [
      | true ↦
          elim (test h) as (λ t. cond t (h ∷ filter test (filter names hosts)) (filter test (filter names hosts)) ≡ cond (t && true) (h ∷ filter (λ x. test x && names x) hosts) (filter (λ x. test x && names x) hosts)) [
            | true ↦ ap (λ (hs : List Host). h ∷ hs) later
            | false ↦ later
          ]
      | false ↦
          elim (test h) as (λ t. filter test (filter names hosts) ≡ cond (t && false) (h ∷ filter (λ x. test x && names x) hosts) (filter (λ x. test x && names x) hosts)) [
            | true ↦ later
            | false ↦ later
          ]
    ]

pub file_families : (name file : List ℕ) → AreFamilies (named_in host_of_line (host_has_name name) file)
file_families name file = kept_families (host_has_name name) (filter_map host_of_line (lines_of file)) (lines_families (lines_of file))

once_found : (name file : List ℕ) (h : Host) → IsFamily h.family → family_once (h ∷ named_in host_of_line (host_has_name name) file) ≡ h ∷ at_most_one (first_named host_of_line (of_other_family h.family name) file)
once_found name file h is =
    let all = filter_map host_of_line (lines_of file) in
    ap (λ (hs : List Host). h ∷ hs) (once_other h.family (named_in host_of_line (host_has_name name) file) is (file_families name file)
    ∙ ap (λ (hs : List Host). at_most_one (first_of hs)) (filter-both (is_other h.family) (host_has_name name) all))

pub made : (text : List ℕ) (first : HostAt) (other : Option HostAt) → Some (record { list = found_at first ∷ founds_at other; canon = part text first.name }) ≡ all_addresses (host_at text first ∷ at_most_one (option_map (host_at text) other))
made text first None = refl
made text first (Some other) = refl

-- the first host of the name, and the first after it of the other family
pub addresses_are : (name text : List ℕ) (from : ℕ) (line : Line) (first : HostAt) (other : Option HostAt) → IsLineWith Ignored name text from line → Some (host_at text first) ≡ if_named (host_has_name name) (host_of_line (part text line.span)) → option_map (host_at text) other ≡ first_named host_of_line (of_other_family first.family name) (drop line.next text) → named_in host_of_line (host_has_name name) (drop from text) ≡ named_in host_of_line (host_has_name name) text → Some (record { list = found_at first ∷ founds_at other; canon = part text first.name }) ≡ addresses_of name text
addresses_are name text from line first other is here there left =
    let h = host_at text first in
    let below = drop line.next text in
    let rest = named_in host_of_line (host_has_name name) below in
    let step : named_in host_of_line (host_has_name name) (drop from text) ≡ h ∷ rest = named_step Ignored name host_of_line (host_has_name name) text from line (Some h) (no_host_called name) is here in
    let known : AreFamilies (h ∷ rest) = subst AreFamilies step (file_families name (drop from text)) in
    made text first other
    ∙ ap (λ o. all_addresses (h ∷ at_most_one o)) there
    ∙ ap all_addresses (sym (once_found name below h known.0))
    ∙ ap (λ (hs : List Host). all_addresses (family_once hs)) (sym step ∙ left)

pub no_addresses : (name text : List ℕ) → named_in host_of_line (host_has_name name) text ≡ [] → None ≡ addresses_of name text
no_addresses name text none = sym (ap (λ (hs : List Host). all_addresses (family_once hs)) none)
