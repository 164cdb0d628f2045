-- When two groups are joined.
use Rattle.std.specs.Prelude.{◌==◌, nat_le, Bool, ◌&&◌, length}
use Rattle.std.specs.Str.{bytes_eq}
use Rattle.nsc_model.specs.declared.row.Group.{Group}
use Rattle.nsc_model.specs.Answers.{join_limit, with_members}
use Rattle.nsc_model.specs.Wire.{group_found}

-- both have one name and one id, and the reply of the joined group is not too long
abbrev pub may_join : Group → Group → Bool
may_join h g = bytes_eq h.name g.name && h.gid == g.gid && nat_le (length (group_found (with_members h g))) join_limit
