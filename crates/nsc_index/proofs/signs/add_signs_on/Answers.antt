use Rattle.nsc_index.proofs.SignRows.{named_signs}
use Rattle.nsc_index.proofs.signs.add_signs_on.Goals as goal

pub returns : goal.returns
returns c =
    named_signs c.args.text.now c.args.name.now c.args.signs.now c.requires c.args.places.now.items c.add_named.new.places.items c.add_named-2.new.places.items c.places_of_name.result.now c.places_of_name-2.result.now c.places_of_name.ensures
    c.places_of_name-2.ensures c.in_ok-add_named.ensures c.in_ok-add_named-2.ensures
