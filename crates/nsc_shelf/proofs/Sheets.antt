-- A sheet whose words a call read, or set.
use Rattle.std.proofs.Common.{◌≡◌}
use Rattle.nsc_rule.specs.Pen.{Pen}
use Rattle.nsc_shelf.specs.Sheet.{with_cycle_alone}

-- it is the same where its words are, and what is not words
pub sheet_same : (old new : Pen) → new.plan.words ≡ old.plan.words → with_cycle_alone new ≡ with_cycle_alone old → new ≡ old
sheet_same old new words rest i = record (rest i) { plan = record (rest i).plan { words = words i } }

pub sheet_with : (old new : Pen) → with_cycle_alone new ≡ with_cycle_alone old → new ≡ record old { plan = record old.plan { words = new.plan.words } }
sheet_with old new rest i = record (rest i) { plan = record (rest i).plan { words = new.plan.words } }
