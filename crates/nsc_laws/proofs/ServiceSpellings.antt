-- No bytes spell two services.
use Rattle.std.proofs.Common.{◌≡◌, ℕ, ◌+◌, ◌<◌, ◌≤◌, ◌^◌, List, ◌++◌, length, flat_map, sym, ap, ◌∙◌, append_assoc, arith, length-append}
use Rattle.nsc_model.specs.declared.row.Service.{Service}
use Rattle.nsc_model.specs.Answer.{reply_limit}
use Rattle.nsc_model.specs.ServiceLines.{exchanged}
use Rattle.nsc_model.specs.Wire.{text, text_len, service_found, IsService}
use Rattle.nsc_laws.proofs.Spellings.{same_field, same_text}
use Rattle.nsc_laws.proofs.GroupSpellings.{same_lengths, same_texts, lengths_size}

-- ---- ports

-- with its two bytes exchanged a port fits its field
exchanged_fits : (port : ℕ) → port < 2 ^ 16 → exchanged port < 2 ^ 32
exchanged_fits port fits = omega arith

-- no two ports are one number on the wire
same_port : (p q : ℕ) → p < 2 ^ 16 → q < 2 ^ 16 → exchanged p ≡ exchanged q → p ≡ q
same_port p q p_fits q_fits e = omega arith

-- ---- the entry of a service

-- the name and what stands after it
abbrev from_name : Service → List ℕ
from_name s = text s.name ++ (text s.proto ++ (flat_map text_len s.aliases ++ flat_map text s.aliases))

regrouped : (s : Service) → text s.name ++ text s.proto ++ flat_map text_len s.aliases ++ flat_map text s.aliases ≡ from_name s
regrouped s =
    append_assoc (text s.name ++ text s.proto) (flat_map text_len s.aliases) (flat_map text s.aliases)
    ∙ append_assoc (text s.name) (text s.proto) (flat_map text_len s.aliases ++ flat_map text s.aliases)

service_length : (s : Service) → length (service_found s) ≡ 26 + length s.name + length s.proto + length (flat_map text_len s.aliases) + length (flat_map text s.aliases)
service_length s = simp length-append (omega arith)

-- its lengths and its count fit their fields
record ServiceFits (s : Service) : Type 0 where
  name_fits : length s.name + 1 < 2 ^ 32
  proto_fits : length s.proto + 1 < 2 ^ 32
  aliases_fit : length s.aliases < 2 ^ 32
  texts_fit : length (flat_map text s.aliases) ≤ reply_limit

service_sizes : (s : Service) → length (service_found s) ≤ reply_limit → ServiceFits s
service_sizes s bound = record {
  name_fits = omega (arith, service_length s);
  proto_fits = omega (arith, service_length s);
  aliases_fit = omega (arith, service_length s, lengths_size s.aliases);
  texts_fit = omega (arith, service_length s);
}

abbrev made : List ℕ → List ℕ → List (List ℕ) → ℕ → Service
made name proto aliases port = record { name = name; proto = proto; aliases = aliases; port = port }

service_from : (s t : Service) → s.name ≡ t.name → s.proto ≡ t.proto → s.aliases ≡ t.aliases → s.port ≡ t.port → s ≡ t
service_from s t h0 h1 h2 h3 =
    ap (λ x. made x s.proto s.aliases s.port) h0 ∙ (ap (λ x. made t.name x s.aliases s.port) h1 ∙ (ap (λ x. made t.name t.proto x s.port) h2 ∙ ap (λ x. made t.name t.proto t.aliases x) h3))

pub same_service : (s t : Service) → IsService s → IsService t → length (service_found s) ≤ reply_limit → length (service_found t) ≤ reply_limit → service_found s ≡ service_found t → s ≡ t
same_service s t s_is t_is s_short t_short e =
    let f = service_sizes s s_short in
    let g = service_sizes t t_short in
    let version = same_field 2 2 _ _ (omega arith) (omega arith) e in
    let found = same_field 1 1 _ _ (omega arith) (omega arith) version.1 in
    let name_len = same_field (length s.name + 1) (length t.name + 1) _ _ f.name_fits g.name_fits found.1 in
    let proto_len = same_field (length s.proto + 1) (length t.proto + 1) _ _ f.proto_fits g.proto_fits name_len.1 in
    let count = same_field (length s.aliases) (length t.aliases) _ _ f.aliases_fit g.aliases_fit proto_len.1 in
    let port = same_field (exchanged s.port) (exchanged t.port) _ _ (exchanged_fits s.port s_is.port_fits) (exchanged_fits t.port t_is.port_fits) count.1 in
    let name = same_text s.name t.name (text s.proto ++ (flat_map text_len s.aliases ++ flat_map text s.aliases)) (text t.proto ++ (flat_map text_len t.aliases ++ flat_map text t.aliases)) name_len.0 (sym (regrouped s) ∙ (port.1 ∙ regrouped t)) in
    let proto = same_text s.proto t.proto (flat_map text_len s.aliases ++ flat_map text s.aliases) (flat_map text_len t.aliases ++ flat_map text t.aliases) proto_len.0 name.1 in
    let sizes = same_lengths s.aliases t.aliases (flat_map text s.aliases) (flat_map text t.aliases) count.0 f.texts_fit g.texts_fit proto.1 in
    service_from s t name.0 proto.0 (same_texts s.aliases t.aliases sizes.0 sizes.1) (same_port s.port t.port s_is.port_fits t_is.port_fits port.0)
