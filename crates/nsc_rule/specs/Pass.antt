-- What a pass is: the words at which it has a seat, what it has seen of the history, which table it has seen goes on in place of these
-- words, and how far its search has come.
use Rattle.std.specs.Prelude.{List, Option}
use Rattle.atomic_table.specs.Seated.{TableId}
use Rattle.nsc_model.specs.declared.record.Record.{Record}
use Rattle.nsc_rule.specs.declared.view.Plan.{Plan}
use Rattle.nsc_rule.specs.declared.view.Search.{Search}
use Rattle.nsc_rule.specs.Plans.{cycle_of}
use Rattle.nsc_rule.specs.Seats.{rested}

pub record Pass : Type 0 where
  pub table : TableId
  pub seen : List Record
  pub retired : Option TableId
  pub searching : Search

-- a pass at a table that knows the whole history of a plan and its CYCLE, and has made no search
abbrev pub whole_pass : TableId → Plan → Pass
whole_pass table plan = record { table = table; seen = plan.seen; retired = plan.retired; searching = rested (cycle_of plan) }
