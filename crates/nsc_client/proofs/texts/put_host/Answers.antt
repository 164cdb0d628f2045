use Rattle.std.proofs.Common.{◌≡◌, ◌∷◌, ◌++◌, List, ℕ, ap, subst, sym, ◌∙◌}
use Rattle.std.specs.Result.{OnOk}
use Rattle.nsc_model.specs.Wire.{IsAddress}
use Rattle.nsc_client.specs.GateText.{address_text}
use Rattle.nsc_client.proofs.Joined.{pair_joined_after}
use Rattle.nsc_client.proofs.texts.put_host.Goals as goal

pub returns : goal.returns
returns c =
    let host = c.args.host.now in
    let address = subst (λ (a : List ℕ). IsAddress host.family a) (sym c.as_slice.ensures) c.requires.address_is in
    subst (λ (text : List ℕ). OnOk c.put_each_after.result (c.put_each_after.new.out.items ≡ text))
    (pair_joined_after 32 c.args.out.now.items c.put_address.new.out.items c.put_after.new.out.items (address_text host.family host.address) host.name host.aliases
    (c.in_ok-put_address.ensures address ∙ ap (λ a. c.args.out.now.items ++ address_text host.family a) c.as_slice.ensures)
    (c.in_ok-put_after.ensures ∙ ap (λ t. c.put_address.new.out.items ++ 32 ∷ t) c.as_slice-2.ensures))
    c.put_each_after.ensures
