-- What a pen is: the words that it writes, and its plan.
use Rattle.std.specs.Prelude.{◌≡◌, ℕ, ◌<◌, List, [], slice_index}
use Rattle.atomic_table.specs.Seated.{TableId}
use Rattle.atomic_table.specs.Table.{Me}
use Rattle.nsc_words.specs.Layout.{table_words}
use Rattle.nsc_rule.specs.declared.view.Plan.{Plan}
use Rattle.nsc_rule.specs.declared.view.View.{View}
use Rattle.nsc_rule.specs.Plans.{Sound}
use Rattle.nsc_rule.specs.Seats.{plan_by, writing}

pub record Pen : Type 0 where
  pub table : TableId
  pub plan : Plan

-- these are the head words of a plan
abbrev pub AreHeads : List ℕ → Plan → Type 0
AreHeads heads plan = (i : ℕ) → i < 16 → slice_index heads i ≡ slice_index plan.words i

-- a seat writes a table of this number of words by a sound plan, and these are the head words of the plan
abbrev pub IsPenAt : Me (Unit {0}) View → ℕ → List ℕ → Type 0
IsPenAt me words heads = (me ≡ (writing (plan_by me.0), [])) × Sound (plan_by me.0) × (words ≡ table_words (plan_by me.0).layout) × AreHeads heads (plan_by me.0)
