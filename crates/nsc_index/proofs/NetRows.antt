-- The rows of hosts and services: the names that stand in their lines.
use Rattle.std.proofs.Common.{◌≡◌, ℕ, ◌+◌, ◌-◌, Bool, true, false, not, ◌==◌, ◌&&◌, cond, if◌then◌else◌, List, [], ◌∷◌, length, drop, take, zero, suc, filter, map, Option, Some, None, refl, sym, ◌∙◌, ap, subst, arith}
use Rattle.std.specs.List.{before_first, filter_map, list_any, position_or_len}
use Rattle.std.specs.Option.{option_map}
use Rattle.std.specs.Str.{bytes_eq, str_eq_ignore_ascii_case, str_to_ascii_lowercase}
use Rattle.std.specs.Cmp.{unsigned_ties}
use Rattle.std.specs.Cmp.Lexicographic.{texts_ties}
use Rattle.std.proofs.lemmas.Bool.Decides.{Decides-eqb}
use Rattle.std.proofs.lemmas.Slice.Eq.{bytes_eq-Decides}
use Rattle.nsc_base.specs.declared.search.Case.TheVariants.{Counts, Ignored}
use Rattle.nsc_base.specs.declared.span.Span.{Span}
use Rattle.nsc_base.specs.Text.{before_remark, is_filled, line_spans, part, word_spans, words_of}
use Rattle.nsc_base.proofs.Spans.{line_spans-parts, word_spans-parts}
use Rattle.nsc_model.specs.declared.row.Host.{Host}
use Rattle.nsc_model.specs.declared.row.Service.{Service}
use Rattle.nsc_model.specs.Answers.{addresses_of, all_addresses}
use Rattle.nsc_model.specs.Entries.{first_named, first_of, named_in}
use Rattle.nsc_model.specs.Hosts.{Addressed, addressed_of, family_once, host_addressed, host_has_name, host_named, host_of_line, host_of_words}
use Rattle.nsc_model.specs.ServiceLines.{is_slash, port_of, proto_fits, service_has_name, service_named, service_of_line, service_of_words, service_ported}
use Rattle.nsc_model.specs.Users.{◌>>=◌, has_zero}
use Rattle.std.specs.List.{after_first}
use Rattle.nsc_nets.specs.declared.hosts.HostAt.{HostAt}
use Rattle.nsc_nets.specs.Addresses.{found_at, founds_at}
use Rattle.nsc_nets.specs.Hosts.{host_at}
use Rattle.nsc_nets.specs.Lines.{entry_part}
use Rattle.nsc_nets.proofs.Families.{AreFamilies, at_most_one, file_families, is_other, made, once_other}
use Rattle.nsc_index.specs.declared.hosts.HostIndex.{HostIndex}
use Rattle.nsc_index.specs.declared.names.NameAt.{NameAt}
use Rattle.nsc_index.specs.declared.numbers.NumberAt.{NumberAt}
use Rattle.nsc_index.specs.declared.services.ServiceIndex.{ServiceIndex}
use Rattle.nsc_index.specs.Numbers.{text_number}
use Rattle.nsc_index.specs.Hosts.{IsHostIndex, host_addresses, host_names, host_words, hosts_on, is_other_than}
use Rattle.nsc_index.specs.Indexes.{line_entry, on_line}
use Rattle.nsc_index.specs.Names.{has_name}
use Rattle.nsc_index.specs.Numbers.{has_number, place_of_number}
use Rattle.nsc_index.specs.Services.{IsServiceIndex, but_second, service_names, service_ports, service_words}
use Rattle.nsc_index.proofs.LineRows.{Repeats, RowsOf, all_found, entries_of, first_among, first_left, first_repeated, one_row}
use Rattle.nsc_index.proofs.NameRows.{many_rows}

-- ---- the words of a line before its remark

fronts : (k n : ℕ) (xs : List ℕ) → take k (take n xs) ≡ take (length (take k (take n xs))) xs
fronts zero n xs = refl
fronts (suc k) zero xs = refl
fronts (suc k) (suc n) [] = refl
fronts (suc k) (suc n) (x ∷ xs) = ap (λ (ys : List ℕ). x ∷ ys) (fronts k n xs)

part_is : (text : List ℕ) (line : Span) → part text (entry_part text line) ≡ before_remark (part text line)
part_is text line =
    let front = before_remark (part text line) in
    let size : line.from + length front - line.from ≡ length front = omega arith in
    ap (λ n. take n (drop line.from text)) size ∙ sym (fronts (position_or_len (λ b. b == 35) (part text line)) (line.to - line.from) (drop line.from text))

words_are : (text : List ℕ) (line : Span) → map (part text) (word_spans text (entry_part text line)) ≡ words_of (before_remark (part text line))
words_are text line = word_spans-parts text (entry_part text line) ∙ ap words_of (part_is text line)

-- ---- services

second_mapped : {A B : Type 0} (f : A → B) (xs : List A) → map f (but_second xs) ≡ but_second (map f xs)
second_mapped f [] = refl
second_mapped f (x ∷ []) = refl
second_mapped f (x ∷ y ∷ xs) = refl

service_made : (name second : List ℕ) (aliases : List (List ℕ)) (port : Option ℕ) (filled : Bool) (s : Service) → (port >>= λ n. if filled then Some (record { name = name; proto = second; aliases = aliases; port = n }) else None) ≡ Some s → s.name ∷ s.aliases ≡ name ∷ aliases
service_made name second aliases None filled s is = cc
service_made name second aliases (Some n) true s is = let same : record { name = name; proto = second; aliases = aliases; port = n } ≡ s = cc in ap (λ (x : Service). x.name ∷ x.aliases) (sym same)
service_made name second aliases (Some n) false s is = cc

service_of : (words : List (List ℕ)) (s : Service) → service_of_words words ≡ Some s → s.name ∷ s.aliases ≡ but_second words
service_of [] s is = cc
service_of (name ∷ []) s is = cc
service_of (name ∷ second ∷ aliases) s is = service_made name (after_first is_slash second) aliases (port_of (before_first is_slash second)) (is_filled (after_first is_slash second)) s is

service_named_there : (text : List ℕ) (line : Span) (s : Service) → line_entry service_of_line text line ≡ Some s → s.name ∷ s.aliases ≡ map (part text) (service_words text line)
service_named_there text line s is =
    elim (has_zero (part text line)) as (λ v. (if v then None else service_of_words (words_of (before_remark (part text line)))) ≡ Some s → s.name ∷ s.aliases ≡ map (part text) (service_words text line)) [
      | true ↦ λ e. cc
      | false ↦ λ e. service_of (words_of (before_remark (part text line))) s e ∙ sym (second_mapped (part text) (word_spans text (entry_part text line)) ∙ ap but_second (words_are text line))
    ] is

rows_of_service : (text name : List ℕ) → RowsOf (line_entry service_of_line text) (service_has_name name) (service_names text) (has_name Counts text name) (λ row. row.line)
rows_of_service text name =
    many_rows text (has_name Counts text name) (λ n. bytes_eq n name) (λ line span. sym (texts_ties (part text span) name)) (line_entry service_of_line text) (service_has_name name) (λ line s. service_words text line)
    (λ line s has. ap (λ (names : List (List ℕ)). list_any (λ n. bytes_eq n name) names) (service_named_there text line s has))

rows_of_port : (text : List ℕ) (port : ℕ) → RowsOf (line_entry service_of_line text) (λ s. s.port == port) (service_ports text) (has_number port) (λ row. row.line)
rows_of_port text port = one_row (line_entry service_of_line text) (λ s. s.port == port) (λ line s. place_of_number line s.port) (has_number port) (λ row. row.line) (λ line s. sym (unsigned_ties s.port port)) (λ line s. refl)

module _ (text proto : List ℕ) (index : ServiceIndex) (is : IsServiceIndex text index) where
  pub service_by_name : (name : List ℕ) (slice : List NameAt) → slice ≡ filter (has_name Counts text name) index.names.items → first_left (λ (at : NameAt). on_line (line_entry service_of_line text) text at.line) (proto_fits proto) slice ≡ first_named service_of_line (service_named name proto) text
  service_by_name name slice slice_is = first_among service_of_line text (rows_of_service text name) index.names.items is.names name (λ row. refl) slice slice_is (proto_fits proto) (service_named name proto) (λ s. refl)

  pub service_by_port : (port : ℕ) (slice : List NumberAt) → slice ≡ filter (has_number port) index.ports.items → first_left (λ (at : NumberAt). on_line (line_entry service_of_line text) text at.line) (proto_fits proto) slice ≡ first_named service_of_line (service_ported port proto) text
  service_by_port port slice slice_is = first_among service_of_line text (rows_of_port text port) index.ports.items is.ports port (λ row. refl) slice slice_is (proto_fits proto) (service_ported port proto) (λ s. refl)

-- ---- hosts

host_made : (name : List ℕ) (aliases : List (List ℕ)) (o : Option Addressed) (h : Host) → option_map (λ (a : Addressed). record { name = name; aliases = aliases; family = a.family; address = a.address }) o ≡ Some h → h.name ∷ h.aliases ≡ name ∷ aliases
host_made name aliases None h is = cc
host_made name aliases (Some a) h is = let same : record { name = name; aliases = aliases; family = a.family; address = a.address } ≡ h = cc in ap (λ (x : Host). x.name ∷ x.aliases) (sym same)

host_of : (words : List (List ℕ)) (h : Host) → host_of_words words ≡ Some h → h.name ∷ h.aliases ≡ drop 1 words
host_of [] h is = cc
host_of (address ∷ []) h is = cc
host_of (address ∷ name ∷ aliases) h is = host_made name aliases (addressed_of address) h is

dropped : {A B : Type 0} (f : A → B) (xs : List A) → map f (drop 1 xs) ≡ drop 1 (map f xs)
dropped f [] = refl
dropped f (x ∷ xs) = refl

host_named_there : (text : List ℕ) (line : Span) (h : Host) → line_entry host_of_line text line ≡ Some h → h.name ∷ h.aliases ≡ map (part text) (host_words text line)
host_named_there text line h is =
    elim (has_zero (part text line)) as (λ v. (if v then None else host_of_words (words_of (before_remark (part text line)))) ≡ Some h → h.name ∷ h.aliases ≡ map (part text) (host_words text line)) [
      | true ↦ λ e. cc
      | false ↦ λ e. host_of (words_of (before_remark (part text line))) h e ∙ sym (dropped (part text) (word_spans text (entry_part text line)) ∙ ap (drop 1) (words_are text line))
    ] is

pub rows_of_host : (text name : List ℕ) → RowsOf (line_entry host_of_line text) (host_has_name name) (host_names text) (has_name Ignored text name) (λ row. row.line)
rows_of_host text name =
    many_rows text (has_name Ignored text name) (λ n. str_eq_ignore_ascii_case n name) (λ line span. sym (texts_ties (str_to_ascii_lowercase (part text span)) (str_to_ascii_lowercase name))) (line_entry host_of_line text) (host_has_name name) (λ line h. host_words text line)
    (λ line h has. ap (λ (names : List (List ℕ)). list_any (λ n. str_eq_ignore_ascii_case n name) names) (host_named_there text line h has))

rows_of_address : (text : List ℕ) (number : ℕ) → RowsOf (line_entry host_of_line text) (λ h. text_number h.address == number) (host_addresses text) (has_number number) (λ row. row.line)
rows_of_address text number = one_row (line_entry host_of_line text) (λ h. text_number h.address == number) (λ line h. place_of_number line (text_number h.address)) (has_number number) (λ row. row.line) (λ line h. sym (unsigned_ties (text_number h.address) number)) (λ line h. refl)

and_comm : (a b : Bool) → (a && b) ≡ (b && a)
and_comm true true = refl
and_comm true false = refl
and_comm false true = refl
and_comm false false = refl

-- one address has one number
same_number : (address : List ℕ) (h : Host) → host_addressed address h ≡ ((text_number h.address == text_number address) && host_addressed address h)
same_number address h =
    elim (bytes_eq h.address address) as (λ v. bytes_eq h.address address ≡ v → v ≡ ((text_number h.address == text_number address) && v)) [
      | true ↦ λ same. ap (λ v. v && true) (sym ((Decides-eqb (text_number h.address) (text_number address)).1 (ap text_number ((bytes_eq-Decides h.address address).0 same))))
      | false ↦ λ other. and_comm false (text_number h.address == text_number address)
    ] refl

module _ (text : List ℕ) (index : HostIndex) (is : IsHostIndex text index) where
  pub host_by_name : (name : List ℕ) (family : ℕ) (slice : List NameAt) → slice ≡ filter (has_name Ignored text name) index.names.items → first_left (λ (at : NameAt). on_line (line_entry host_of_line text) text at.line) (λ h. h.family == family) slice ≡ first_named host_of_line (host_named family name) text
  host_by_name name family slice slice_is = first_among host_of_line text (rows_of_host text name) index.names.items is.names (str_to_ascii_lowercase name) (λ row. refl) slice slice_is (λ h. h.family == family) (host_named family name) (λ h. and_comm (h.family == family) (host_has_name name h))

  pub host_by_address : (address : List ℕ) (slice : List NumberAt) → slice ≡ filter (has_number (text_number address)) index.addresses.items → first_left (λ (at : NumberAt). on_line (line_entry host_of_line text) text at.line) (host_addressed address) slice ≡ first_named host_of_line (host_addressed address) text
  host_by_address address slice slice_is = first_among host_of_line text (rows_of_address text (text_number address)) index.addresses.items is.addresses (text_number address) (λ row. refl) slice slice_is (host_addressed address) (host_addressed address) (same_number address)

-- ---- all addresses of a host

addresses_by : (text : List ℕ) (found hosts : List Host) → Repeats found hosts → AreFamilies hosts → (first : HostAt) (other : Option HostAt) → Some (host_at text first) ≡ first_of (filter (is_other_than None) found)
    → option_map (host_at text) other ≡ first_of (filter (is_other_than (Some first.family)) found) → Some (record { list = found_at first ∷ founds_at other; canon = part text first.name }) ≡ all_addresses (family_once hosts)
addresses_by text found [] repeats families first other here there = let none = first_repeated (is_other_than None) found [] repeats in cc
addresses_by text found (h ∷ hosts) repeats families first other here there =
    let is_first : Some (host_at text first) ≡ Some h = here ∙ first_repeated (is_other_than None) found (h ∷ hosts) repeats in
    let is_h : host_at text first ≡ h = cc in
    let family : first.family ≡ h.family = ap (λ (x : Host). x.family) is_h in
    let itself : (h.family == h.family) ≡ true = (Decides-eqb h.family h.family).1 refl in
    let others = filter (is_other h.family) hosts in
    let is_there : option_map (host_at text) other ≡ first_of others =
    there ∙ ap (λ f. first_of (filter (is_other f) found)) family ∙ first_repeated (is_other h.family) found (h ∷ hosts) repeats ∙ ap (λ v. first_of (cond (not v) (h ∷ others) others)) itself in
    made text first other ∙ ap (λ x. all_addresses (x ∷ at_most_one (option_map (host_at text) other))) is_h ∙ ap (λ o. all_addresses (h ∷ at_most_one o)) is_there
    ∙ ap (λ (rest : List Host). all_addresses (h ∷ rest)) (sym (once_other h.family hosts families.0 families.1))

no_hosts : (found hosts : List Host) → Repeats found hosts → None ≡ first_of (filter (is_other_than None) found) → None ≡ all_addresses (family_once hosts)
no_hosts found [] repeats none = refl
no_hosts found (h ∷ hosts) repeats none = let some = first_repeated (is_other_than None) found (h ∷ hosts) repeats in cc

module _ (text name : List ℕ) (index : HostIndex) (is : IsHostIndex text index) (slice : List NameAt) (slice_is : slice ≡ filter (has_name Ignored text name) index.names.items) where
  hosts_are : Repeats (hosts_on text slice) (named_in host_of_line (host_has_name name) text)
  hosts_are =
      subst (Repeats (hosts_on text slice)) (ap (filter (host_has_name name)) (entries_of host_of_line text (line_spans text 0) ∙ ap (filter_map host_of_line) (line_spans-parts text 0)))
      (all_found (rows_of_host text name) text index.names.items is.names (str_to_ascii_lowercase name) (λ row. refl) slice slice_is)

  pub all_addresses_are : (first : HostAt) (other : Option HostAt) → Some (host_at text first) ≡ first_of (filter (is_other_than None) (hosts_on text slice)) → option_map (host_at text) other ≡ first_of (filter (is_other_than (Some first.family)) (hosts_on text slice)) → Some (record { list = found_at first ∷ founds_at other; canon = part text first.name }) ≡ addresses_of name text
  all_addresses_are first other here there = addresses_by text (hosts_on text slice) (named_in host_of_line (host_has_name name) text) hosts_are (file_families name text) first other here there

  pub no_addresses : None ≡ first_of (filter (is_other_than None) (hosts_on text slice)) → None ≡ addresses_of name text
  no_addresses none = no_hosts (hosts_on text slice) (named_in host_of_line (host_has_name name) text) hosts_are none

-- ---- the words of a line, one after another

pub no_words : (text : List ℕ) (within : Span) → words_of (part text within) ≡ [] → word_spans text within ≡ []
no_words text within none = empty (word_spans text within) (word_spans-parts text within ∙ none)
  where
    empty : (spans : List Span) → map (part text) spans ≡ [] → spans ≡ []
    empty [] is = refl
    empty (span ∷ spans) is = cc
