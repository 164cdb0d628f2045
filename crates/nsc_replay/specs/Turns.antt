-- One frame through the machine of a replay.
use Rattle.std.specs.Prelude.{◌≡◌, ℕ, List, [], Option, Some, None, Result, Ok, Err}
use Rattle.nsc_outside.specs.Stream.{Grows, GrowsByFront}
use Rattle.nsc_model.specs.Reads.{Rose}
use Rattle.nsc_model.specs.Frames.{Finish, Spent}
use Rattle.nsc_model.specs.Replay.{State, Went, framed}
use Rattle.nsc_model.specs.declared.fault.CacheFault.{CacheFault}
use Rattle.nsc_model.specs.declared.fault.CacheFault.TheVariants as faults
use Rattle.nsc_model.specs.declared.exit.Exit.{Exit}
use Rattle.nsc_model.specs.declared.exit.Exit.TheVariants as exits

-- what is written for a reply, and for none
abbrev pub written : Option (List ℕ) → List ℕ
written None = []
written (Some reply) = framed reply

-- the machine goes on in this state, and this reply is to be written
abbrev pub GoesTo : Result Went Finish → State → Option (List ℕ) → Type 0
GoesTo (Ok went) state reply = (went.state ≡ state) × (went.writes ≡ written reply)
GoesTo (Err finish) state reply = ⊥

-- the machine ends so; nothing is claimed where memory was short
abbrev pub TurnFaults : Result Went Finish → CacheFault → Type 0
TurnFaults turn faults.NoMemory = Unit {0}
TurnFaults turn (faults.Spent count) = turn ≡ Err (Spent count)

-- a frame is done: the machine turned to this state, and the sink took what is written for it
abbrev pub FrameIsDone : Result Went Finish → State → Option (List ℕ) → Option (List ℕ) → Type 0
FrameIsDone (Ok went) state had got = (went.state ≡ state) × Grows had got went.writes
FrameIsDone (Err finish) state had got = ⊥

-- what is written for a frame went out in part
abbrev pub FrameIsCutShort : Result Went Finish → Option (List ℕ) → Option (List ℕ) → Type 0
FrameIsCutShort (Ok went) had got = GrowsByFront had got went.writes
FrameIsCutShort (Err finish) had got = ⊥

-- a frame ended the replay: what the sink took, before and after
abbrev pub DoesNot : Result Went Finish → Option (List ℕ) → Option (List ℕ) → Exit → Type 0
DoesNot turn had got exits.NoMemory = got ≡ had
DoesNot turn had got (exits.Spent count) = (turn ≡ Err (Spent count)) × (got ≡ had)
DoesNot turn had got exits.WriteFault = FrameIsCutShort turn had got
DoesNot turn had got _ = ⊥

-- the sink's count of faults, before and after: it rose where the output failed, and else stays
abbrev pub CountsOutput : Exit → ℕ → ℕ → Type 0
CountsOutput exits.WriteFault before after = Rose before after
CountsOutput _ before after = after ≡ before
