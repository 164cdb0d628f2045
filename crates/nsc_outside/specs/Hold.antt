-- A hold on a set of files: which reads wait, and until when.
use Rattle.std.specs.Prelude.{◌≡◌, ◌≢◌, ℕ, ◌%◌, ◌^◌, ◌<◌, ◌≤◌, Bool, true, false, not, List, [], Option, Some, None, IsSomeAnd}
use Rattle.atomic_table.specs.Seated.{TableId}
use Rattle.nsc_model.specs.declared.kind.FileId.{FileId}
use Rattle.nsc_outside.specs.Numbers.{Draws}
use Rattle.nsc_outside.specs.Release.{Release, IsLater}
use Rattle.nsc_outside.specs.declared.hold.Hold.{Hold}

-- a hold, the numbering of the reads of its file, and the numbers that the set's own ones drew from it
pub record Gate : Type 0 where
  pub hold : Hold
  pub numbering : TableId
  pub numbers : List ℕ

-- the handle knows nothing of its flag
abbrev pub unknown : Release → Release
unknown release = record release { is_set = false }

-- the same hold for another set, which made no read so far and knows nothing of the flags
abbrev pub shared_gate : Gate → Gate
shared_gate gate = record gate { hold = record gate.hold { reached = unknown gate.hold.reached; until = unknown gate.hold.until }; numbers = [] }

-- a read of this number came to a hold: one before the first that waits passes at once; each other one sets the flag that
-- tells of it, and passes exactly where it finds the other one set
pub record Comes (before after : Hold) (failed : Bool) (number : ℕ) : Type 0 where
  pub passes : number < before.from → (failed ≡ false) × (after ≡ before)
  pub waits : before.from ≤ number → (failed ≡ not after.until.is_set) × IsLater before.until after.until × (after ≡ record before { reached = record before.reached { is_set = true }; until = after.until })

-- a read of a file came to a hold: one of the held file drew its number, and each other one passes at once
pub record Meets (file : FileId) (before after : Gate) (failed : Bool) : Type 0 where
  pub other : file ≢ before.hold.file → (failed ≡ false) × (after ≡ before)
  pub own : file ≡ before.hold.file → Draws before.numbers after.numbers (λ number. Comes before.hold after.hold failed (number % 2 ^ 64))
  pub same : after.numbering ≡ before.numbering

-- the same where there may be no hold
abbrev pub MeetsAny : FileId → Option Gate → Option Gate → Bool → Type 0
MeetsAny file None after failed = (failed ≡ false) × (after ≡ None)
MeetsAny file (Some gate) after failed = IsSomeAnd after (λ later. Meets file gate later failed)
