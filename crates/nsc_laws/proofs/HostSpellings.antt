-- No bytes spell two hosts, or the addresses of two.
use Rattle.std.proofs.Common.{◌≡◌, inl, inr, ℕ, ◌+◌, ◌<◌, ◌≤◌, ◌^◌, List, [], ◌∷◌, ◌++◌, length, map, flat_map, take, drop, All, refl, sym, ap, subst, ◌∙◌, append_assoc, arith, length-append}
use Rattle.std.proofs.Math.Seq.{take-append_seam, drop-append_seam}
use Rattle.std.proofs.lemmas.List.{length-map}
use Rattle.std.proofs.lemmas.List.Elements.{All-head, All-tail}
use Rattle.nsc_model.specs.declared.row.Host.{Host}
use Rattle.nsc_model.specs.declared.row.Found6.{Found6}
use Rattle.nsc_model.specs.declared.row.Ai.{Ai}
use Rattle.nsc_model.specs.Answer.{reply_limit}
use Rattle.nsc_model.specs.Wire.{text, text_len, host_found, addresses_found, IsAddress, IsHost, AreAddresses}
use Rattle.nsc_laws.proofs.Spellings.{same_field, same_text, same_last, head_is, tail_is}
use Rattle.nsc_laws.proofs.GroupSpellings.{same_lengths, same_texts, lengths_size}

-- ---- addresses

-- bytes and what stands after them, where their number is known
same_front : (a b r s : List ℕ) → length a ≡ length b → a ++ r ≡ b ++ s → (a ≡ b) × (r ≡ s)
same_front a b r s l e = (
  sym (take-append_seam a r) ∙ (ap (λ n. take n (a ++ r)) l ∙ (ap (take (length b)) e ∙ take-append_seam b s)),
  sym (drop-append_seam a r) ∙ (ap (λ n. drop n (a ++ r)) l ∙ (ap (drop (length b)) e ∙ drop-append_seam b s)),
)

-- the family and the length fit their fields
family_fits : (family : ℕ) (address : List ℕ) → IsAddress family address → family < 2 ^ 32
family_fits family address (inl v4) = let h : family ≡ 2 = v4.0 in omega (arith, h)
family_fits family address (inr v6) = let h : family ≡ 10 = v6.0 in omega (arith, h)

address_fits : (family : ℕ) (address : List ℕ) → IsAddress family address → length address < 2 ^ 32
address_fits family address (inl v4) = let h : length address ≡ 4 = v4.1 in omega (arith, h)
address_fits family address (inr v6) = let h : length address ≡ 16 = v6.1 in omega (arith, h)

-- addresses of one family have one length
same_size : (family : ℕ) (a b : List ℕ) → IsAddress family a → IsAddress family b → length a ≡ length b
same_size family a b (inl x) (inl y) = x.1 ∙ sym y.1
same_size family a b (inl x) (inr y) = let h : family ≡ 2 = x.0 in let k : family ≡ 10 = y.0 in absurd (omega (arith, h, k))
same_size family a b (inr x) (inl y) = let h : family ≡ 10 = x.0 in let k : family ≡ 2 = y.0 in absurd (omega (arith, h, k))
same_size family a b (inr x) (inr y) = x.1 ∙ sym y.1

-- ---- the entry of a host

-- the name and what stands after it
abbrev from_name : Host → List ℕ
from_name h = text h.name ++ (flat_map text_len h.aliases ++ (h.address ++ flat_map text h.aliases))

regrouped : (h : Host) → text h.name ++ flat_map text_len h.aliases ++ h.address ++ flat_map text h.aliases ≡ from_name h
regrouped h =
    append_assoc (text h.name ++ flat_map text_len h.aliases) h.address (flat_map text h.aliases)
    ∙ append_assoc (text h.name) (flat_map text_len h.aliases) (h.address ++ flat_map text h.aliases)

host_length : (h : Host) → length (host_found h) ≡ 33 + length h.name + length (flat_map text_len h.aliases) + length h.address + length (flat_map text h.aliases)
host_length h = simp length-append (omega arith)

-- its lengths and its count fit their fields
record HostFits (h : Host) : Type 0 where
  name_fits : length h.name + 1 < 2 ^ 32
  aliases_fit : length h.aliases < 2 ^ 32
  texts_fit : length (flat_map text h.aliases) ≤ reply_limit

host_sizes : (h : Host) → length (host_found h) ≤ reply_limit → HostFits h
host_sizes h bound = record {
  name_fits = omega (arith, host_length h);
  aliases_fit = omega (arith, host_length h, lengths_size h.aliases);
  texts_fit = omega (arith, host_length h);
}

abbrev made : List ℕ → List (List ℕ) → ℕ → List ℕ → Host
made name aliases family address = record { name = name; aliases = aliases; family = family; address = address }

host_from : (h k : Host) → h.name ≡ k.name → h.aliases ≡ k.aliases → h.family ≡ k.family → h.address ≡ k.address → h ≡ k
host_from h k h0 h1 h2 h3 =
    ap (λ x. made x h.aliases h.family h.address) h0 ∙ (ap (λ x. made k.name x h.family h.address) h1 ∙ (ap (λ x. made k.name k.aliases x h.address) h2 ∙ ap (λ x. made k.name k.aliases k.family x) h3))

pub same_host : (h k : Host) → IsHost h → IsHost k → length (host_found h) ≤ reply_limit → length (host_found k) ≤ reply_limit → host_found h ≡ host_found k → h ≡ k
same_host h k h_is k_is h_short k_short e =
    let f = host_sizes h h_short in
    let g = host_sizes k k_short in
    let version = same_field 2 2 _ _ (omega arith) (omega arith) e in
    let found = same_field 1 1 _ _ (omega arith) (omega arith) version.1 in
    let name_len = same_field (length h.name + 1) (length k.name + 1) _ _ f.name_fits g.name_fits found.1 in
    let count = same_field (length h.aliases) (length k.aliases) _ _ f.aliases_fit g.aliases_fit name_len.1 in
    let family = same_field h.family k.family _ _ (family_fits h.family h.address h_is.address_is) (family_fits k.family k.address k_is.address_is) count.1 in
    let size = same_field (length h.address) (length k.address) _ _ (address_fits h.family h.address h_is.address_is) (address_fits k.family k.address k_is.address_is) family.1 in
    let addresses = same_field 1 1 _ _ (omega arith) (omega arith) size.1 in
    let error = same_field 0 0 _ _ (omega arith) (omega arith) addresses.1 in
    let name = same_text h.name k.name (flat_map text_len h.aliases ++ (h.address ++ flat_map text h.aliases)) (flat_map text_len k.aliases ++ (k.address ++ flat_map text k.aliases)) name_len.0 (sym (regrouped h) ∙ (error.1 ∙ regrouped k)) in
    let sizes = same_lengths h.aliases k.aliases (h.address ++ flat_map text h.aliases) (k.address ++ flat_map text k.aliases) count.0 f.texts_fit g.texts_fit name.1 in
    let address = same_front h.address k.address (flat_map text h.aliases) (flat_map text k.aliases) size.0 sizes.1 in
    host_from h k name.0 (same_texts h.aliases k.aliases sizes.0 address.1) family.0 address.0

-- ---- the addresses of a host

abbrev addresses_of : List Found6 → List ℕ
addresses_of founds = flat_map (λ f. f.address) founds

abbrev families_of : List Found6 → List ℕ
families_of founds = map (λ f. f.family) founds

abbrev Addressed : Found6 → Type 0
Addressed f = IsAddress f.family f.address

abbrev found6 : ℕ → List ℕ → Found6
found6 family address = record { family = family; address = address }

-- addresses in a row, where the families tell their lengths
same_founds : (xs ys : List Found6) → All Addressed xs → All Addressed ys → families_of xs ≡ families_of ys → addresses_of xs ≡ addresses_of ys → xs ≡ ys
same_founds [] [] a b m e = refl
same_founds [] (y ∷ ys) a b m e = absurd cc
same_founds (x ∷ xs) [] a b m e = absurd cc
same_founds (x ∷ xs) (y ∷ ys) a b m e =
    let family : x.family ≡ y.family = head_is x.family y.family (families_of xs) (families_of ys) m in
    let x_is : IsAddress y.family x.address = subst (λ n. IsAddress n x.address) family (All-head Addressed x xs a) in
    let size = same_size y.family x.address y.address x_is (All-head Addressed y ys b) in
    let address = same_front x.address y.address (addresses_of xs) (addresses_of ys) size e in
    let first : x ≡ y = ap (λ n. found6 n x.address) family ∙ ap (λ c. found6 y.family c) address.0 in
    let later = same_founds xs ys (All-tail Addressed x xs a) (All-tail Addressed y ys b) (tail_is x.family y.family (families_of xs) (families_of ys) m) address.1 in
    subst (λ (z : Found6). x ∷ xs ≡ z ∷ ys) first (ap (λ more. x ∷ more) later)

-- all addresses and what stands after them
abbrev from_addresses : Ai → List ℕ
from_addresses a = addresses_of a.list ++ (families_of a.list ++ text a.canon)

addresses_regrouped : (a : Ai) → addresses_of a.list ++ families_of a.list ++ text a.canon ≡ from_addresses a
addresses_regrouped a = append_assoc (addresses_of a.list) (families_of a.list) (text a.canon)

addresses_length : (a : Ai) → length (addresses_found a) ≡ 25 + length (addresses_of a.list) + length a.list + length a.canon
addresses_length a = simp (length-append, length-map) (omega arith)

-- its lengths and its count fit their fields
record AddressesFit (a : Ai) : Type 0 where
  count_fits : length a.list < 2 ^ 32
  bytes_fit : length (addresses_of a.list) < 2 ^ 32
  canon_fits : length a.canon + 1 < 2 ^ 32

addresses_sizes : (a : Ai) → length (addresses_found a) ≤ reply_limit → AddressesFit a
addresses_sizes a bound = record {
  count_fits = omega (arith, addresses_length a);
  bytes_fit = omega (arith, addresses_length a);
  canon_fits = omega (arith, addresses_length a);
}

abbrev made_of : List Found6 → List ℕ → Ai
made_of founds canon = record { list = founds; canon = canon }

pub same_addresses : (a b : Ai) → AreAddresses a → AreAddresses b → length (addresses_found a) ≤ reply_limit → length (addresses_found b) ≤ reply_limit → addresses_found a ≡ addresses_found b → a ≡ b
same_addresses a b a_is b_is a_short b_short e =
    let f = addresses_sizes a a_short in
    let g = addresses_sizes b b_short in
    let version = same_field 2 2 _ _ (omega arith) (omega arith) e in
    let found = same_field 1 1 _ _ (omega arith) (omega arith) version.1 in
    let count = same_field (length a.list) (length b.list) _ _ f.count_fits g.count_fits found.1 in
    let size = same_field (length (addresses_of a.list)) (length (addresses_of b.list)) _ _ f.bytes_fit g.bytes_fit count.1 in
    let canon_len = same_field (length a.canon + 1) (length b.canon + 1) _ _ f.canon_fits g.canon_fits size.1 in
    let error = same_field 0 0 _ _ (omega arith) (omega arith) canon_len.1 in
    let bytes = same_front (addresses_of a.list) (addresses_of b.list) (families_of a.list ++ text a.canon) (families_of b.list ++ text b.canon) size.0 (sym (addresses_regrouped a) ∙ (error.1 ∙ addresses_regrouped b)) in
    let as_many : length (families_of a.list) ≡ length (families_of b.list) = length-map a.list (λ f. f.family) ∙ (count.0 ∙ sym (length-map b.list (λ f. f.family))) in
    let families = same_front (families_of a.list) (families_of b.list) (text a.canon) (text b.canon) as_many bytes.1 in
    ap (λ x. made_of x a.canon) (same_founds a.list b.list a_is.addresses_are b_is.addresses_are families.0 bytes.0) ∙ ap (λ x. made_of b.list x) (same_last a.canon b.canon families.1)
