-- The words of a table, as its one pen writes them.
use Rattle.std.specs.Prelude.{◌≡◌, ℕ, ◌+◌, ◌%◌, ◌==◌, nat_le, Bool, false, ◌&&◌, [], ◌∷◌, slice_index}
use Rattle.nsc_words.specs.declared.node.Placed.{Placed}
use Rattle.nsc_words.specs.Laid.{Among}
use Rattle.nsc_rule.specs.declared.view.Plan.{Plan}
use Rattle.nsc_rule.specs.Pen.{Pen}
use Rattle.nsc_rule.specs.Plans.{end_in}
use Rattle.nsc_rule.specs.Strokes.{stored}

-- while no slide is under way, the words behind the nodes may be set
abbrev pub is_free : Pen → ℕ → Bool
is_free s at = (slice_index s.plan.words 0 % 2 == 0) && nat_le (end_in s.plan) at

-- what a sheet is but for its words: CYCLE stays, since it says whether words may be set
abbrev pub with_cycle_alone : Pen → Pen
with_cycle_alone s = record s { plan = record s.plan { words = slice_index s.plan.words 0 ∷ [] } }

-- the first node of a bucket's chain is this one, and it ended
pub record IsEndedFront (p : Plan) (bucket : ℕ) (gone : Placed) : Type 0 where
  pub among : Among gone p.nodes
  pub ended : gone.usable ≡ false
  pub front : slice_index p.words (16 + bucket) ≡ gone.place

-- the bucket leads where this node led, and nothing else changed
abbrev pub IsPassed : ℕ → Placed → Pen → Pen → Type 0
IsPassed bucket gone before after = after ≡ record before { plan = stored (16 + bucket) (slice_index before.plan.words (gone.place + 7)) before.plan }
