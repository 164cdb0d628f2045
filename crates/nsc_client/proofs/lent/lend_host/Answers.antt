use Rattle.std.proofs.Common.{◌≡◌, ◌∙◌, ℕ, ◌*◌, ◌≤◌, ◌^◌, List, [], ◌++◌, append-nil, drop, take, flat_map, length, ap, sym, subst, refl}
use Rattle.std.proofs.lemmas.List.{take_at}
use Rattle.std.proofs.Math.Seq.{drop-append_seam}
use Rattle.nsc_model.specs.Wire.{host_found, text, text_len}
use Rattle.nsc_client.proofs.LentRows.{address_size, host_counted, host_texts, lengths_passed}
use Rattle.nsc_client.proofs.lent.lend_host.Goals as goal

pub returns : goal.returns
returns c = λ host. λ is. λ spells.
    let texts : List ℕ = flat_map text host.aliases in
    let address : List ℕ = host.address ++ texts in
    let lengths : List ℕ = flat_map text_len host.aliases ++ address in
    let rest0 : List ℕ = text host.name ++ lengths in
    let few = host_counted host (subst (λ (b : List ℕ). length b ≤ 2 ^ 30) spells c.requires) in
    let fits = address_size host.family host.address is.address_is in
    let count : c.number-count.result ≡ length host.aliases = c.number-count.ensures (length host.aliases) (drop 16 (host_found host)) few (ap (λ (b : List ℕ). drop 12 b) spells) in
    let size : c.number-size.result ≡ length host.address = c.number-size.ensures (length host.address) (drop 24 (host_found host)) fits.1 (ap (λ (b : List ℕ). drop 20 b) spells) in
    let family = c.number.ensures host.family (drop 20 (host_found host)) fits.0 (ap (λ (b : List ℕ). drop 16 b) spells) in
    let name = c.next_text.ensures host.name lengths is.name_is (c.after.ensures ∙ ap (λ (b : List ℕ). drop 32 b) spells ∙ host_texts host) in
    let there : c.after-rest.result.now ≡ address = c.after-rest.ensures ∙ ap (λ (b : List ℕ). drop (4 * c.number-count.result) b) name.1 ∙ lengths_passed host.aliases address c.number-count.result count in
    let rest : c.after-2.result.now ≡ texts = c.after-2.ensures ∙ ap (λ (b : List ℕ). drop c.number-size.result b) there ∙ ap (λ (n : ℕ). drop n address) size ∙ drop-append_seam host.address texts in
    record {
      name_is = name.0;
      family_is = family;
      address_is = c.front.ensures ∙ ap (λ (b : List ℕ). take c.number-size.result b) there ∙ ap (λ (n : ℕ). take n address) size ∙ take_at host.address texts (length host.address) refl;
      aliases = record { rest = []; are_texts = is.aliases_are; spelled = rest ∙ sym (append-nil texts); counted = count };
    }
