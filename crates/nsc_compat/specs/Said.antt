-- What a line says, as a value of the code.
use Rattle.std.specs.Prelude.{ℕ, List, [], ◌∷◌}
use Rattle.nsc_base.specs.Text.{fields_of}
use Rattle.nsc_model.specs.Compat as compat
use Rattle.nsc_model.specs.Compat.{Saying}
use Rattle.nsc_compat.specs.declared.said.LineSays.{LineSays}
use Rattle.nsc_compat.specs.declared.said.LineSays.TheVariants.{Own, Excludes, Asks, AsksAll, Netgroup, Nothing}

abbrev pub sayings_as : List ℕ → LineSays → List Saying
sayings_as line Own = compat.Own line ∷ []
sayings_as line (Excludes name) = compat.Excludes name.now ∷ []
sayings_as line (Asks name all) = compat.Asks name.now (fields_of 58 all.now) ∷ []
sayings_as line (AsksAll all) = compat.AsksAll (fields_of 58 all.now) ∷ []
sayings_as line Netgroup = compat.Netgroup ∷ []
sayings_as line Nothing = []
