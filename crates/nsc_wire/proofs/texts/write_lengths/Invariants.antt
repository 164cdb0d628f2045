use Rattle.std.proofs.Common.{◌≡◌, ◌*◌, take}
use Rattle.std.specs.List.{flat_map}
use Rattle.nsc_model.specs.Wire.{text_len}
use Rattle.nsc_wire.proofs.texts.write_lengths.Given as goal

abbrev pub invariant-loop-at : goal.invariant-loop-at
invariant-loop-at l = take (4 * l.at) l.fields ≡ flat_map text_len (take l.at l.texts)
