-- The bytes of a file that a content holds.
use Rattle.std.specs.Prelude.{ℕ, List}
use Rattle.std.specs.Arc.{arc_value}
use Rattle.nsc_model.specs.declared.content.Held.{Held}
use Rattle.nsc_model.specs.declared.content.Held.TheVariants.{Own, Shared}

abbrev pub held_bytes : Held → List ℕ
held_bytes (Own bytes) = bytes
held_bytes (Shared bytes) = arc_value bytes
