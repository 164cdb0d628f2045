use Rattle.std.proofs.Common.{◌≡◌, ◌∷◌, ◌++◌, List, ℕ, ap, decimal, subst, ◌∙◌}
use Rattle.std.specs.Result.{OnOk}
use Rattle.nsc_client.proofs.Joined.{halves_joined_after}
use Rattle.nsc_client.proofs.texts.put_service.Goals as goal

pub returns : goal.returns
returns c =
    let service = c.args.service.now in
    subst (λ (text : List ℕ). OnOk c.put_each_after.result (c.put_each_after.new.out.items ≡ text))
    (halves_joined_after 32 c.args.out.now.items c.extend_from_slice.new.self.items c.put_number_after.new.out.items c.put_after.new.out.items service.name (decimal service.port) (47 ∷ service.proto) service.aliases
    (c.in_ok-extend_from_slice.ensures.items ∙ ap (λ t. c.args.out.now.items ++ t) c.as_slice.ensures)
    (c.in_ok-put_number_after.ensures ∙ ap (λ n. c.extend_from_slice.new.self.items ++ 32 ∷ decimal n) c.from.ensures)
    (c.in_ok-put_after.ensures ∙ ap (λ t. c.put_number_after.new.out.items ++ 47 ∷ t) c.as_slice-2.ensures))
    c.put_each_after.ensures
