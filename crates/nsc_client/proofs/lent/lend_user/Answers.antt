use Rattle.std.proofs.Common.{◌≡◌, ◌∙◌, ℕ, List, [], ◌++◌, append-nil, drop, ap, sym}
use Rattle.nsc_model.specs.Wire.{passwd_found, text}
use Rattle.nsc_client.proofs.LentRows.{same_user, user_texts}
use Rattle.nsc_client.proofs.lent.lend_user.Goals as goal

pub returns : goal.returns
returns c = λ user. λ is. λ spells.
    let rest4 : List ℕ = text user.shell in
    let rest3 : List ℕ = text user.dir ++ rest4 in
    let rest2 : List ℕ = text user.gecos ++ rest3 in
    let rest1 : List ℕ = text user.passwd ++ rest2 in
    let rest0 : List ℕ = text user.name ++ rest1 in
    let texts : c.after.result.now ≡ rest0 = c.after.ensures ∙ ap (λ (b : List ℕ). drop 36 b) spells ∙ user_texts user in
    let name = c.next_text.ensures user.name rest1 is.name_is texts in
    let passwd = c.next_text-2.ensures user.passwd rest2 is.passwd_is name.1 in
    let gecos = c.next_text-3.ensures user.gecos rest3 is.gecos_is passwd.1 in
    let dir = c.next_text-4.ensures user.dir rest4 is.dir_is gecos.1 in
    let shell = c.next_text-5.ensures user.shell [] is.shell_is (dir.1 ∙ sym (append-nil (text user.shell))) in
    let uid = c.number.ensures user.uid (drop 20 (passwd_found user)) is.uid_fits (ap (λ (b : List ℕ). drop 16 b) spells) in
    let gid = c.number-2.ensures user.gid (drop 24 (passwd_found user)) is.gid_fits (ap (λ (b : List ℕ). drop 20 b) spells) in
    same_user user c.next_text.result.0.now c.next_text-2.result.0.now c.number.result c.number-2.result c.next_text-3.result.0.now c.next_text-4.result.0.now c.next_text-5.result.0.now name.0 passwd.0 uid gid gecos.0 dir.0 shell.0
