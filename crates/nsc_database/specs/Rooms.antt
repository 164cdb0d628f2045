-- What a room knows of each of the four databases.
use Rattle.std.specs.Prelude.{ℕ, []}
use Rattle.nsc_model.specs.declared.answer.Request.{Request}
use Rattle.nsc_model.specs.declared.kind.Db.{Db}
use Rattle.nsc_model.specs.declared.kind.Db.TheVariants as db_is
use Rattle.atomic_table.specs.Seated.{TableId}

abbrev pub no_table : TableId
no_table = record { words = 0; slots = 0; views_name = 0; atom = 0; block = 0; offset = 0; slot_names = [] }

abbrev pub tables : TableId → TableId → TableId → TableId → Db → TableId
tables passwd group hosts services db_is.Passwd = passwd
tables passwd group hosts services db_is.Group = group
tables passwd group hosts services db_is.Hosts = hosts
tables passwd group hosts services db_is.Services = services

-- the reloads that images brought back into each, by request
abbrev pub reloads_brought : (Request → ℕ) → (Request → ℕ) → (Request → ℕ) → (Request → ℕ) → Db → Request → ℕ
reloads_brought passwd group hosts services db_is.Passwd = passwd
reloads_brought passwd group hosts services db_is.Group = group
reloads_brought passwd group hosts services db_is.Hosts = hosts
reloads_brought passwd group hosts services db_is.Services = services
