-- What a search finds at a table that was left.
use Rattle.std.proofs.Common.{◌≡◌, Option, None, Some, refl}
use Rattle.std.specs.Bool.{OnTrue}
use Rattle.std.specs.Option.{is_some}
use Rattle.atomic_table.specs.Seated.{TableId}

pub if_left : (newer : Option TableId) (P : Type 0) → ((table : TableId) → newer ≡ Some table → P) → OnTrue (is_some newer) P
if_left None P says = tt
if_left (Some table) P says = says table refl
