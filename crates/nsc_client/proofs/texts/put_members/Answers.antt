use Rattle.std.proofs.Common.{◌≡◌, ◌<◌, List, ℕ, length, subst, arith}
use Rattle.std.proofs.lemmas.Bool.Decides.{nat_tests}
use Rattle.std.specs.Result.{OnOk}
use Rattle.nsc_client.proofs.Joined.{all_joined_after}
use Rattle.nsc_client.proofs.texts.put_members.Goals as goal

pub returns : goal.returns
returns c =
    let some : 0 < length c.args.members.now = grind (arith, nat_tests) in
    subst (λ (text : List ℕ). OnOk c.put_each_after.result (c.put_each_after.new.out.items ≡ text))
    (all_joined_after 44 c.args.out.now.items c.extend_from_slice.new.self.items c.get.result.now c.args.members.now some c.get.ensures c.in_ok-extend_from_slice.ensures.items)
    c.put_each_after.ensures
