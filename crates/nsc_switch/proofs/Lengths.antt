-- The length of the reply of a joined group.
use Rattle.std.proofs.Common.{◌≡◌, ℕ, ◌+◌, ◌*◌, List, [], ◌∷◌, ◌++◌, length, flat_map, refl, ap, ◌∙◌, arith, length-append}
use Rattle.std.proofs.lemmas.Grind.{flat_map-append}
use Rattle.nsc_model.specs.declared.row.Group.{Group}
use Rattle.nsc_model.specs.Answers.{with_members}
use Rattle.nsc_model.specs.Wire.{group_found, text, text_len}

-- a field for each member
fields_size : (members : List (List ℕ)) → length (flat_map text_len members) ≡ 4 * length members
fields_size [] = refl
fields_size (m ∷ members) = omega (arith, length-append (text_len m) (flat_map text_len members), fields_size members)

group_size : (g : Group) → length (group_found g) ≡ 26 + length g.name + length g.passwd + length (flat_map text_len g.members) + length (flat_map text g.members)
group_size g = simp length-append (omega arith)

-- the texts of two rows of members are those of the one and those of the other
texts_size : (members others : List (List ℕ)) → length (flat_map text (members ++ others)) ≡ length (flat_map text members) + length (flat_map text others)
texts_size members others = ap length (flat_map-append text members others) ∙ length-append (flat_map text members) (flat_map text others)

pub joined_size : (h g : Group) → length (group_found (with_members h g))
    ≡ 26 + length h.name + length h.passwd + 4 * (length h.members + length g.members) + length (flat_map text h.members) + length (flat_map text g.members)
joined_size h g =
    omega (arith, group_size (with_members h g), fields_size (h.members ++ g.members), length-append h.members g.members, texts_size h.members g.members)
