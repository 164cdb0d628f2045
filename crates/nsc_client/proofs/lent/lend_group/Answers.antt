use Rattle.std.proofs.Common.{◌≡◌, ◌∙◌, ℕ, ◌*◌, ◌≤◌, ◌^◌, List, [], ◌++◌, append-nil, drop, flat_map, length, ap, sym, subst}
use Rattle.nsc_model.specs.Wire.{group_found, text, text_len}
use Rattle.nsc_client.proofs.LentRows.{group_counted, group_texts, lengths_passed}
use Rattle.nsc_client.proofs.lent.lend_group.Goals as goal

pub returns : goal.returns
returns c = λ group. λ is. λ spells.
    let texts : List ℕ = flat_map text group.members in
    let rest1 : List ℕ = text group.passwd ++ texts in
    let rest0 : List ℕ = text group.name ++ rest1 in
    let lengths : List ℕ = flat_map text_len group.members ++ rest0 in
    let few = group_counted group (subst (λ (b : List ℕ). length b ≤ 2 ^ 30) spells c.requires) in
    let count : c.number-count.result ≡ length group.members = c.number-count.ensures (length group.members) (drop 24 (group_found group)) few (ap (λ (b : List ℕ). drop 20 b) spells) in
    let there : c.after.result.now ≡ lengths = c.after.ensures ∙ ap (λ (b : List ℕ). drop 24 b) spells ∙ group_texts group in
    let passed : c.after-2.result.now ≡ rest0 = c.after-2.ensures ∙ ap (λ (b : List ℕ). drop (4 * c.number-count.result) b) there ∙ lengths_passed group.members rest0 c.number-count.result count in
    let name = c.next_text.ensures group.name rest1 is.name_is passed in
    let passwd = c.next_text-2.ensures group.passwd texts is.passwd_is name.1 in
    let gid = c.number.ensures group.gid (drop 20 (group_found group)) is.gid_fits (ap (λ (b : List ℕ). drop 16 b) spells) in
    record {
      name_is = name.0;
      passwd_is = passwd.0;
      gid_is = gid;
      members = record { rest = []; are_texts = is.members_are; spelled = passwd.1 ∙ sym (append-nil texts); counted = count };
    }
