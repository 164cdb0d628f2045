use Rattle.std.proofs.Common.{◌≡◌, ◌∙◌, ◌∷◌, ◌++◌, ℕ, List, ap, decimal, subst}
use Rattle.std.specs.List.{join_with_byte}
use Rattle.std.specs.Result.{OnOk}
use Rattle.nsc_client.proofs.LentRows.{group_put}
use Rattle.nsc_client.proofs.spelled.put_group.Goals as goal

pub returns : goal.returns
returns c = λ row. λ lends.
    let out = c.args.out.now.items in
    let o1 = c.extend_from_slice.new.self.items in
    let o2 = c.put_after.new.out.items in
    let o3 = c.put_number_after.new.out.items in
    subst (λ (t : List ℕ). OnOk c.put_members.result (c.put_members.new.out.items ≡ t))
    (group_put out o1 o2 o3 c.push.new.self.items row.name row.passwd (decimal row.gid) (join_with_byte 44 row.members)
    (c.in_ok-extend_from_slice.ensures.items ∙ ap (λ (t : List ℕ). out ++ t) lends.name_is)
    (c.in_ok-put_after.ensures ∙ ap (λ (t : List ℕ). o1 ++ 58 ∷ t) lends.passwd_is)
    (c.in_ok-put_number_after.ensures ∙ ap (λ (n : ℕ). o2 ++ 58 ∷ decimal n) lends.gid_is)
    c.in_ok-push.ensures.items)
    (c.put_members.ensures row.members lends.members)
