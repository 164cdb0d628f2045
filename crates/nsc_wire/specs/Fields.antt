-- Several fields of a reply, one after the other.
use Rattle.std.specs.Prelude.{ℕ, List}
use Rattle.std.specs.List.{flat_map}
use Rattle.nsc_model.specs.Wire.{field}

abbrev pub fields : List ℕ → List ℕ
fields numbers = flat_map field numbers
