use Rattle.std.proofs.Common.{◌≡◌, ◌∙◌, ◌∷◌, ◌++◌, ℕ, List, ap, decimal, subst}
use Rattle.std.specs.Result.{OnOk}
use Rattle.nsc_client.proofs.Joined.{halves_joined_after}
use Rattle.nsc_client.proofs.spelled.put_service.Goals as goal

pub returns : goal.returns
returns c = λ row. λ lends.
    let out = c.args.out.now.items in
    let first = c.extend_from_slice.new.self.items in
    let half = c.put_number_after.new.out.items in
    subst (λ (text : List ℕ). OnOk c.put_each_after.result (c.put_each_after.new.out.items ≡ text))
    (halves_joined_after 32 out first half c.put_after.new.out.items row.name (decimal row.port) (47 ∷ row.proto) row.aliases
    (c.in_ok-extend_from_slice.ensures.items ∙ ap (λ (t : List ℕ). out ++ t) lends.name_is)
    (c.in_ok-put_number_after.ensures ∙ ap (λ (n : ℕ). first ++ 32 ∷ decimal n) lends.port_is)
    (c.in_ok-put_after.ensures ∙ ap (λ (t : List ℕ). half ++ 47 ∷ t) lends.proto_is))
    (c.put_each_after.ensures row.aliases lends.aliases)
