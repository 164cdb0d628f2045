-- The ids of a user's groups, line by line.
use Rattle.std.specs.Prelude.{ℕ, not, ◌&&◌, if◌then◌else◌, List, [], ◌∷◌, Option, Some, None}
use Rattle.nsc_model.specs.declared.row.Group.{Group}
use Rattle.nsc_model.specs.Compat.{is_excluded}
use Rattle.nsc_model.specs.Groups.{has_member}

-- an id whose group's name is not excluded
abbrev pub unless_excluded : List (List ℕ) → List ℕ → ℕ → List ℕ
unless_excluded excluded name id = if is_excluded excluded name then [] else id ∷ []

-- the id of a group that has the user as a member and whose name is not excluded
abbrev pub member_id : List ℕ → List (List ℕ) → Option Group → List ℕ
member_id user excluded None = []
member_id user excluded (Some g) = if has_member user g && not (is_excluded excluded g.name) then g.gid ∷ [] else []
