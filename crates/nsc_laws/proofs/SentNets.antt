-- The entries of hosts and services files can be sent.
use Rattle.std.proofs.Common.{◌≡◌, ℕ, ◌+◌, ◌*◌, ◌^◌, ◌<◌, ◌≤◌, false, nat_lt, not, ◌==◌, List, [], ◌∷◌, flat_map, map, length, IfSome, refl, inl, inr, arith, length-append, length-take, length-drop}
use Rattle.std.specs.List.{AllByRecursion, after_first, before_first, position_or_len}
use Rattle.std.specs.Option.{option_map}
use Rattle.std.proofs.lemmas.Bool.Decides.{Decides-ltb}
use Rattle.std.proofs.lemmas.List.Elements.{All-from_recursion}
use Rattle.std.proofs.lemmas.Option.{IfSome_then}
use Rattle.nsc_base.specs.Addresses.{v4_of, v6_of}
use Rattle.nsc_base.specs.Decimal.{decimal_of}
use Rattle.nsc_base.specs.Text.{before_remark, is_filled, is_white, words_of}
use Rattle.nsc_base.proofs.AddressLengths.{v4-length, v6-length}
use Rattle.nsc_base.proofs.Options.{map_keeps, or_keeps, then_keeps, when_false, when_true}
use Rattle.nsc_model.specs.declared.kind.Kind.TheVariants as kind
use Rattle.nsc_model.specs.declared.row.Ai.{Ai}
use Rattle.nsc_model.specs.declared.row.Found6.{Found6}
use Rattle.nsc_model.specs.declared.row.Host.{Host}
use Rattle.nsc_model.specs.declared.row.Looked.TheVariants.{Found}
use Rattle.nsc_model.specs.declared.row.Row.TheVariants as row
use Rattle.nsc_model.specs.declared.row.Service.{Service}
use Rattle.nsc_model.specs.Answers.{all_addresses}
use Rattle.nsc_model.specs.Files.{file_limit}
use Rattle.nsc_model.specs.Hosts.{Addressed, addressed_of, family_once, host_of_line, host_of_words}
use Rattle.nsc_model.specs.ServiceLines.{is_slash, port_of, service_of_line, service_of_words}
use Rattle.nsc_model.specs.Users.{has_zero}
use Rattle.nsc_model.specs.Wire.{IsAddress, IsHost, addresses_found, host_found, service_found, text, text_len}
use Rattle.nsc_laws.proofs.SentAccounts.{decimal_fits}
use Rattle.nsc_laws.proofs.SentLists.{all_weaker, filter_keeps}
use Rattle.nsc_laws.proofs.SentLists as lists
use Rattle.nsc_laws.proofs.Sent.{IsSent, entry_limit}
use Rattle.nsc_laws.proofs.SentSizes.{filled_size, filter_few, sent_lengths, sent_texts, size_of}
use Rattle.nsc_laws.proofs.SentTexts.{IsClean, are_texts, clean_drop, clean_filled, clean_line, clean_take, is_text}

-- words as a line of a file may have them
abbrev AreWords : List (List ℕ) → Type 0
AreWords words = AllByRecursion IsClean words × (size_of words ≤ file_limit + 1)

line_words : (line : List ℕ) → has_zero line ≡ false → length line ≤ file_limit → AreWords (words_of (before_remark line))
line_words line clean short =
    let cut = position_or_len (λ b. b == 35) line in
    (clean_filled is_white (before_remark line) (clean_take cut line (clean_line line clean)), omega (arith, filled_size is_white (before_remark line), length-take cut line, short))

-- ---- hosts

-- a host whose names have room in a line
abbrev pub IsHostIn : Host → Type 0
IsHostIn h = IsHost h × (size_of (h.name ∷ h.aliases) ≤ file_limit + 1)

address_is : (text : List ℕ) → IfSome (addressed_of text) (λ a. IsAddress a.family a.address)
address_is text =
    let P : Addressed → Type 0 = λ a. IsAddress a.family a.address in
    let v4 = map_keeps P (λ a. record { family = 2; address = a }) (v4_of text) (IfSome_then (v4_of text) (v4-length text) (λ a four. inl (refl, four))) in
    let v6 = map_keeps P (λ a. record { family = 10; address = a }) (v6_of text) (IfSome_then (v6_of text) (v6-length text) (λ a sixteen. inr (refl, sixteen))) in
    or_keeps P (option_map (λ a. record { family = 2; address = a }) (v4_of text)) (option_map (λ a. record { family = 10; address = a }) (v6_of text)) v4 v6

host_fits : (words : List (List ℕ)) → AreWords words → IfSome (host_of_words words) IsHostIn
host_fits (address ∷ name ∷ aliases) ((a, (n, s)), small) =
    map_keeps IsHostIn _ (addressed_of address) (IfSome_then (addressed_of address) (address_is address) (λ at is. (record { name_is = is_text name n; aliases_are = are_texts aliases s; address_is = is }, omega (arith, small))))
host_fits _ are = tt

pub host_line : (line : List ℕ) → length line ≤ file_limit → IfSome (host_of_line line) IsHostIn
host_line line short = when_false IsHostIn (has_zero line) (host_of_words (words_of (before_remark line))) (λ clean. host_fits (words_of (before_remark line)) (line_words line clean short))

address_short : (family : ℕ) (address : List ℕ) → IsAddress family address → length address ≤ 16
address_short family address (inl is) = omega (arith, is.1)
address_short family address (inr is) = omega (arith, is.1)

host_size : (h : Host) → length (host_found h) ≡ 33 + length h.name + length (flat_map text_len h.aliases) + length h.address + length (flat_map text h.aliases)
host_size h = simp length-append (omega arith)

pub host_sent : (h : Host) → IsHostIn h → IsSent entry_limit kind.HostName (Found (row.Host h))
host_sent h is = ((refl, is.0), omega (arith, host_size h, is.1, sent_lengths h.aliases, sent_texts h.aliases, address_short h.family h.address is.0.address_is))

-- ---- the addresses of a host

once_keeps : (P : Host → Type 0) (hosts : List Host) → AllByRecursion P hosts → AllByRecursion P (family_once hosts)
once_keeps P [] all = tt
once_keeps P (h ∷ hosts) all = (all.0, filter_keeps P (λ (other : Host). not (other.family == h.family)) (family_once hosts) (once_keeps P hosts all.1))

once_few : (hosts : List Host) → length (family_once hosts) ≤ length hosts
once_few [] = omega arith
once_few (h ∷ hosts) = omega (arith, filter_few (λ (other : Host). not (other.family == h.family)) (family_once hosts), once_few hosts)

abbrev founds : List Host → List Found6
founds hosts = map (λ (h : Host). record { family = h.family; address = h.address }) hosts

-- an address has sixteen bytes at most, and a byte for its family
founds_size : (hosts : List Host) → AllByRecursion IsHostIn hosts → length (flat_map (λ (f : Found6). f.address) (founds hosts)) + length (map (λ (f : Found6). f.family) (founds hosts)) ≤ 17 * length hosts
founds_size [] all = omega arith
founds_size (h ∷ hosts) all =
    omega (arith, address_short h.family h.address all.0.0.address_is, length-append h.address (flat_map (λ (f : Found6). f.address) (founds hosts)), founds_size hosts all.1)

addresses_size : (a : Ai) → length (addresses_found a) ≡ 25 + length (flat_map (λ (f : Found6). f.address) a.list) + length (map (λ (f : Found6). f.family) a.list) + length a.canon
addresses_size a = simp length-append (omega arith)

abbrev pub IsSentAi : Ai → Type 0
IsSentAi a = IsSent entry_limit kind.Ai (Found (row.Ai a))

all_sent : (hosts : List Host) → length hosts ≤ file_limit + 1 → AllByRecursion IsHostIn hosts → IfSome (all_addresses hosts) IsSentAi
all_sent [] few all = tt
all_sent (h ∷ hosts) few all =
    let P : Found6 → Type 0 = λ f. IsAddress f.family f.address in
    let list = founds (h ∷ hosts) in
    let each = lists.map_keeps P (λ (host : Host). record { family = host.family; address = host.address }) (h ∷ hosts) (all_weaker IsHostIn (λ (host : Host). IsAddress host.family host.address) (λ host is. is.0.address_is) (h ∷ hosts) all) in
    ((refl, record { addresses_are = All-from_recursion P list each; canon_is = all.0.0.name_is }), omega (arith, addresses_size (record { list = list; canon = h.name }), founds_size (h ∷ hosts) all, all.0.1, few))

pub addresses_sent : (hosts : List Host) → length hosts ≤ file_limit + 1 → AllByRecursion IsHostIn hosts → IfSome (all_addresses (family_once hosts)) IsSentAi
addresses_sent hosts few all = all_sent (family_once hosts) (omega (arith, once_few hosts, few)) (once_keeps IsHostIn hosts all)

-- ---- services

abbrev pub IsSentService : Service → Type 0
IsSentService s = IsSent entry_limit kind.ServName (Found (row.Service s))

port_fits : (text : List ℕ) → IfSome (port_of text) (λ n. n < 2 ^ 16)
port_fits text = then_keeps (λ n. n < 2 ^ 32) (λ n. n < 2 ^ 16) _ (decimal_of text) (decimal_fits text) (λ n fits. when_true (λ m. m < 2 ^ 16) (nat_lt n 65536) n (λ is. (Decides-ltb n 65536).0 is))

service_size : (s : Service) → length (service_found s) ≡ 26 + length s.name + length s.proto + length (flat_map text_len s.aliases) + length (flat_map text s.aliases)
service_size s = simp length-append (omega arith)

service_fits : (words : List (List ℕ)) → AreWords words → IfSome (service_of_words words) IsSentService
service_fits (name ∷ second ∷ aliases) ((n, (w, s)), small) =
    let cut = position_or_len is_slash second in
    let proto = after_first is_slash second in
    then_keeps (λ port. port < 2 ^ 16) IsSentService _ (port_of (before_first is_slash second)) (port_fits (before_first is_slash second)) (λ port fits.
    let service : Service = record { name = name; proto = proto; aliases = aliases; port = port } in
    when_true IsSentService (is_filled proto) service (λ is. (
      (refl, record { name_is = is_text name n; proto_is = is_text proto (clean_drop (cut + 1) second w); aliases_are = are_texts aliases s; port_fits = fits }),
      omega (arith, service_size service, sent_lengths aliases, sent_texts aliases, length-drop (cut + 1) second, small),
    )))
service_fits _ are = tt

pub service_line : (line : List ℕ) → length line ≤ file_limit → IfSome (service_of_line line) IsSentService
service_line line short = when_false IsSentService (has_zero line) (service_of_words (words_of (before_remark line))) (λ clean. service_fits (words_of (before_remark line)) (line_words line clean short))
