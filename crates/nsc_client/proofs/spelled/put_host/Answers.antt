use Rattle.std.proofs.Common.{◌≡◌, ◌∙◌, ◌∷◌, ◌++◌, ℕ, List, ap, subst, sym}
use Rattle.std.specs.Result.{OnOk}
use Rattle.nsc_model.specs.Wire.{IsAddress}
use Rattle.nsc_client.specs.GateText.{address_text}
use Rattle.nsc_client.proofs.Joined.{pair_joined_after}
use Rattle.nsc_client.proofs.spelled.put_host.Goals as goal

pub returns : goal.returns
returns c = λ row. λ is. λ lends.
    let host = c.args.host.now in
    let out = c.args.out.now.items in
    let address : IsAddress host.family host.address.now =
    subst (λ (f : ℕ). IsAddress f host.address.now) (sym lends.family_is) (subst (λ (a : List ℕ). IsAddress row.family a) (sym lends.address_is) is.address_is) in
    subst (λ (text : List ℕ). OnOk c.put_each_after.result (c.put_each_after.new.out.items ≡ text))
    (pair_joined_after 32 out c.put_address.new.out.items c.put_after.new.out.items (address_text row.family row.address) row.name row.aliases
    (c.in_ok-put_address.ensures address ∙ ap (λ (f : ℕ). out ++ address_text f host.address.now) lends.family_is ∙ ap (λ (a : List ℕ). out ++ address_text row.family a) lends.address_is)
    (c.in_ok-put_after.ensures ∙ ap (λ (t : List ℕ). c.put_address.new.out.items ++ 32 ∷ t) lends.name_is))
    (c.put_each_after.ensures row.aliases lends.aliases)
