use Rattle.std.proofs.Common.{◌≡◌, ◌∙◌, ◌++◌, ◌<◌, ℕ, List, ap, arith, flat_map, subst, sym}
use Rattle.std.specs.List.{join_with_byte}
use Rattle.std.proofs.lemmas.Bool.Decides.{nat_tests}
use Rattle.std.specs.Result.{OnOk}
use Rattle.nsc_model.specs.Wire.{text}
use Rattle.nsc_client.proofs.Joined.{joined_after}
use Rattle.nsc_client.proofs.LentRows.{first_lent}
use Rattle.nsc_client.proofs.spelled.put_members.Goals as goal

pub returns : goal.returns
returns c = λ texts. λ lends.
    let some : 0 < c.args.members.count = grind (arith, nat_tests) in
    let out = c.args.out.now.items in
    let put = c.extend_from_slice.new.self.items in
    let split = first_lent c.args.members texts lends some in
    let first = split.0 in
    let others = split.1 in
    let next = c.next_text.ensures first (flat_map text others ++ lends.rest) split.3 split.4 in
    subst (λ (t : List ℕ). OnOk c.put_each_after.result (c.put_each_after.new.out.items ≡ t))
    (joined_after 44 out put first others (c.in_ok-extend_from_slice.ensures.items ∙ ap (λ (t : List ℕ). out ++ t) next.0) ∙ ap (λ (l : List (List ℕ)). out ++ join_with_byte 44 l) (sym split.2))
    (c.put_each_after.ensures others (record { rest = lends.rest; are_texts = split.5; spelled = next.1; counted = (let size = split.6 in omega arith) }))
