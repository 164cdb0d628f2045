-- A line that lacks a name has no entry of this name.
use Rattle.std.proofs.Common.{◌≡◌, ℕ, Bool, true, false, ◌&&◌, if◌then◌else◌, List, [], ◌∷◌, Option, Some, None, refl, ◌∙◌, ap}
use Rattle.std.specs.List.{after_first, before_first}
use Rattle.std.specs.Option.{option_map}
use Rattle.std.proofs.lemmas.Bool.{and_left}
use Rattle.nsc_base.specs.declared.search.Case.TheVariants.{Counts, Ignored}
use Rattle.nsc_base.specs.Found.{Lacks}
use Rattle.nsc_base.specs.Text.{before_remark, is_filled, words_of}
use Rattle.nsc_model.specs.declared.row.Host.{Host}
use Rattle.nsc_model.specs.declared.row.Service.{Service}
use Rattle.nsc_model.specs.Entries.{if_named}
use Rattle.nsc_model.specs.Hosts.{Addressed, addressed_of, host_has_name, host_of_line, host_of_words}
use Rattle.nsc_model.specs.ServiceLines.{is_slash, port_of, proto_fits, service_has_name, service_named, service_of_line, service_of_words}
use Rattle.nsc_model.specs.Users.{◌>>=◌, has_zero}
use Rattle.nsc_nets.proofs.Called.{if_named-both, if_named-no}
use Rattle.nsc_nets.proofs.Lacking.{AllLack, none_same, words_lack}

-- ---- hosts

no_host_made : (name canon : List ℕ) (aliases : List (List ℕ)) (o : Option Addressed) → AllLack Ignored name (canon ∷ aliases) → if_named (host_has_name name) (option_map (λ a. record { name = canon; aliases = aliases; family = a.family; address = a.address }) o) ≡ None
no_host_made name canon aliases None lack = refl
no_host_made name canon aliases (Some a) lack = if_named-no (host_has_name name) (record { name = canon; aliases = aliases; family = a.family; address = a.address }) (none_same Ignored name (canon ∷ aliases) lack)

no_host_of_words : (name : List ℕ) (words : List (List ℕ)) → AllLack Ignored name words → if_named (host_has_name name) (host_of_words words) ≡ None
no_host_of_words name [] lack = refl
no_host_of_words name (address ∷ []) lack = refl
no_host_of_words name (address ∷ canon ∷ aliases) lack = no_host_made name canon aliases (addressed_of address) lack.1

pub no_host_called : (name line : List ℕ) → Lacks Ignored name line → if_named (host_has_name name) (host_of_line line) ≡ None
no_host_called name line lack =
    elim (has_zero line) as (λ v. if_named (host_has_name name) (if v then None else host_of_words (words_of (before_remark line))) ≡ None) [
      | true ↦ refl
      | false ↦ no_host_of_words name (words_of (before_remark line)) (words_lack Ignored name line lack)
    ]

-- nor is it one of a family, or of another
pub no_host_of : (of_family : Host → Bool) (name line : List ℕ) → Lacks Ignored name line → if_named (λ h. of_family h && host_has_name name h) (host_of_line line) ≡ None
no_host_of of_family name line lack = if_named-both of_family (host_has_name name) (host_of_line line) ∙ ap (if_named of_family) (no_host_called name line lack)

-- ---- services

unnamed : (names : Service → Bool) (s : Service) → names s ≡ false → if_named names (Some s) ≡ None
unnamed names s is = rw is refl

no_service_made : (names : Service → Bool) (name proto : List ℕ) (aliases : List (List ℕ)) (o : Option ℕ) (filled : Bool) → ((port : ℕ) → o ≡ Some port → filled ≡ true → names (record { name = name; proto = proto; aliases = aliases; port = port }) ≡ false) → if_named names (o >>= λ port. if filled then Some (record { name = name; proto = proto; aliases = aliases; port = port }) else None) ≡ None
no_service_made names name proto aliases None filled fails = refl
no_service_made names name proto aliases (Some port) false fails = refl
no_service_made names name proto aliases (Some port) true fails = unnamed names (record { name = name; proto = proto; aliases = aliases; port = port }) (fails port refl refl)

-- where no entry that its words can make is named
pub no_service_line : (names : Service → Bool) (line : List ℕ) → ((name second : List ℕ) (aliases : List (List ℕ)) (port : ℕ) → words_of (before_remark line) ≡ name ∷ second ∷ aliases → port_of (before_first is_slash second) ≡ Some port → is_filled (after_first is_slash second) ≡ true → names (record { name = name; proto = after_first is_slash second; aliases = aliases; port = port }) ≡ false) → if_named names (service_of_line line) ≡ None
no_service_line names line fails =
    elim (has_zero line) as (λ v. if_named names (if v then None else service_of_words (words_of (before_remark line))) ≡ None) [
      | true ↦ refl
      | false ↦ by_words (words_of (before_remark line)) refl
    ]
  where
    by_words : (words : List (List ℕ)) → words_of (before_remark line) ≡ words → if_named names (service_of_words words) ≡ None
    by_words [] is = refl
    by_words (name ∷ []) is = refl
    by_words (name ∷ second ∷ aliases) is = no_service_made names name (after_first is_slash second) aliases (port_of (before_first is_slash second)) (is_filled (after_first is_slash second)) (λ port known filled. fails name second aliases port is known filled)

lacks_rest : (name first second : List ℕ) (others : List (List ℕ)) → AllLack Counts name (first ∷ second ∷ others) → AllLack Counts name (first ∷ others)
lacks_rest name first second others all = (all.0, all.1.1)

pub no_service_called : (name proto line : List ℕ) → Lacks Counts name line → if_named (service_named name proto) (service_of_line line) ≡ None
no_service_called name proto line lack =
    no_service_line (service_named name proto) line (λ first second others port is known filled.
    let all : AllLack Counts name (first ∷ second ∷ others) = rw is at (words_lack Counts name line lack) in
    let found : Service = record { name = first; proto = after_first is_slash second; aliases = others; port = port } in
    and_left (service_has_name name found) (proto_fits proto found) (none_same Counts name (first ∷ others) (lacks_rest name first second others all)))
