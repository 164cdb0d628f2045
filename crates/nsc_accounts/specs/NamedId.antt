-- Groups by their names and ids.
use Rattle.std.specs.Prelude.{ℕ, List}
use Rattle.nsc_accounts.specs.declared.named_id.NamedId.{NamedId}

abbrev pub pair_of : NamedId → List ℕ × ℕ
pair_of group = (group.name, group.gid)
