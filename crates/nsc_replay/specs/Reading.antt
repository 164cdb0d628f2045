-- Frames read from a source: what is claimed of the bytes that were read, where the source tells them.
use Rattle.std.specs.Prelude.{◌≡◌, ℕ, List, Option, Result, Ok, Err}
use Rattle.nsc_outside.specs.Stream.{Moves, IsDrained}
use Rattle.nsc_model.specs.Reads.{Rose}
use Rattle.nsc_model.specs.Frames as frames
use Rattle.nsc_model.specs.Fronts.{Finds, Refuses, IsPartial}
use Rattle.nsc_model.specs.declared.exit.Exit.{Exit}
use Rattle.nsc_model.specs.declared.exit.Exit.TheVariants.{BadFrame, NoMemory, ReadFault, TooLong}
use Rattle.nsc_replay.specs.declared.halt.Halt.{Halt}
use Rattle.nsc_replay.specs.declared.halt.Halt.TheVariants as halts

-- why a parser stops after this front
abbrev pub StopsParsing : {A : Type 0} → (List ℕ → Result (A × List ℕ) frames.Fault) → Option (List ℕ) → List ℕ → Halt → Type 0
StopsParsing parser after front halts.Ended = IsPartial parser front × IsDrained after
StopsParsing parser after front halts.NoFrame = Refuses parser front frames.NoFrame
StopsParsing parser after front (halts.LongFile size) = Refuses parser front (frames.LongFile size)
StopsParsing parser after front halts.ReadFault = IsPartial parser front
StopsParsing parser after front halts.NoMemory = IsPartial parser front

-- a reader read a front of what was left, and stopped there
pub record Halts {A : Type 0} (parser : List ℕ → Result (A × List ℕ) frames.Fault) (before after : Option (List ℕ)) (halt : Halt) : Type 0 where
  pub front : List ℕ
  pub moved : Moves before after front
  pub stops : StopsParsing parser after front halt

-- a reader read a front of what was left, in which the parser finds this, whatever follows
pub record Gets {A : Type 0} (parser : List ℕ → Result (A × List ℕ) frames.Fault) (before after : Option (List ℕ)) (piece : A) : Type 0 where
  pub front : List ℕ
  pub moved : Moves before after front
  pub finds : Finds parser front piece

-- a reader does what the parser does, to the front of what was left, and reads no more
abbrev pub Reads : {X A : Type 0} → (X → A) → (List ℕ → Result (A × List ℕ) frames.Fault) → Option (List ℕ) → Option (List ℕ) → Result X Halt → Type 0
Reads view parser before after (Ok x) = Gets parser before after (view x)
Reads view parser before after (Err halt) = Halts parser before after halt

-- the count of faults rose where the input failed, and else is as before
abbrev pub CountsFault : ℕ → ℕ → Halt → Type 0
CountsFault before after halts.Ended = after ≡ before
CountsFault before after halts.NoFrame = after ≡ before
CountsFault before after (halts.LongFile size) = after ≡ before
CountsFault before after halts.ReadFault = Rose before after
CountsFault before after halts.NoMemory = after ≡ before

abbrev pub CountsHalt : {X : Type 0} → ℕ → ℕ → Result X Halt → Type 0
CountsHalt before after (Ok x) = after ≡ before
CountsHalt before after (Err halt) = CountsFault before after halt

-- the exit where no frame was read at this place of the input
abbrev pub halt_exit : ℕ → Halt → Exit
halt_exit place halts.Ended = BadFrame place
halt_exit place halts.NoFrame = BadFrame place
halt_exit place (halts.LongFile size) = TooLong size
halt_exit place halts.ReadFault = ReadFault
halt_exit place halts.NoMemory = NoMemory
