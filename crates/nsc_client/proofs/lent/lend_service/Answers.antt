use Rattle.std.proofs.Common.{◌≡◌, ◌∙◌, ℕ, ◌*◌, ◌≤◌, ◌^◌, List, [], ◌++◌, append-nil, drop, flat_map, length, ap, sym, subst, arith}
use Rattle.nsc_model.specs.ServiceLines.{exchanged}
use Rattle.nsc_model.specs.Wire.{service_found, text, text_len}
use Rattle.nsc_client.proofs.LentRows.{exchanged_fits, lengths_passed, service_counted, service_texts}
use Rattle.nsc_client.proofs.lent.lend_service.Goals as goal

pub returns : goal.returns
returns c = λ service. λ is. λ spells.
    let texts : List ℕ = flat_map text service.aliases in
    let lengths : List ℕ = flat_map text_len service.aliases ++ texts in
    let rest1 : List ℕ = text service.proto ++ lengths in
    let rest0 : List ℕ = text service.name ++ rest1 in
    let few = service_counted service (subst (λ (b : List ℕ). length b ≤ 2 ^ 30) spells c.requires) in
    let small = exchanged_fits service.port is.port_fits in
    let count : c.number-count.result ≡ length service.aliases = c.number-count.ensures (length service.aliases) (drop 20 (service_found service)) few (ap (λ (b : List ℕ). drop 16 b) spells) in
    let field-port = c.number.ensures (exchanged service.port) (drop 24 (service_found service)) (omega (arith, small)) (ap (λ (b : List ℕ). drop 20 b) spells) in
    let name = c.next_text.ensures service.name rest1 is.name_is (c.after.ensures ∙ ap (λ (b : List ℕ). drop 24 b) spells ∙ service_texts service) in
    let proto = c.next_text-2.ensures service.proto lengths is.proto_is name.1 in
    let rest : c.after-2.result.now ≡ texts = c.after-2.ensures ∙ ap (λ (b : List ℕ). drop (4 * c.number-count.result) b) proto.1 ∙ lengths_passed service.aliases texts c.number-count.result count in
    record {
      name_is = name.0;
      port_is = c.port.ensures service.port is.port_fits field-port;
      proto_is = proto.0;
      aliases = record { rest = []; are_texts = is.aliases_are; spelled = rest ∙ sym (append-nil texts); counted = count };
    }
