-- What a table that was left is: its words and their history, CYCLE, which stays odd, the table that goes on in its place, and a pass of
-- that one, which has seen that history.
use Rattle.std.specs.Prelude.{◌≡◌, ℕ, List, None, Some}
use Rattle.atomic_table.specs.Seated.{TableId}
use Rattle.nsc_model.specs.declared.record.Record.{Record}
use Rattle.nsc_model.specs.History.{IsPrefix}
use Rattle.nsc_rule.specs.Map.{Map}
use Rattle.nsc_rule.specs.Pass.{Pass}
use Rattle.nsc_rule.specs.Pen.{Pen}

pub record Former : Type 0 where
  pub table : TableId
  pub seen : List Record
  pub cycle : ℕ
  pub newer : Map
  pub stock : Pass

-- the map and the pen of a table, the map of the one that goes on in its place, and a pass of that one, which knows the history of the
-- former table and no newer one, and has made no search
abbrev pub IsFormer : Map → Pen → Map → Pass → Type 0
IsFormer map pen newer stock =
    (map.table ≡ pen.table) × (stock.table ≡ newer.table) × (pen.plan.retired ≡ Some newer.table) × (stock.retired ≡ None)
    × IsPrefix pen.plan.seen stock.seen × (stock.searching.searches ≡ 0)
