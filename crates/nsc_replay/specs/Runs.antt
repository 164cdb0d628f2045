-- What a replay claims of its run, from a state and a place on.
use Rattle.std.specs.Prelude.{◌≡◌, ℕ, ◌+◌, ◌⊎◌, List, ◌++◌, length, Option}
use Rattle.nsc_outside.specs.Stream.{IsDrained}
use Rattle.nsc_model.specs.Frames.{Frame, frame_at, Finish, Done, Bad, Long, Spent}
use Rattle.nsc_model.specs.Fronts.{Finds}
use Rattle.nsc_model.specs.declared.conf.Conf.{Conf}
use Rattle.nsc_model.specs.Replay.{State, after_output, replay_from}
use Rattle.nsc_model.specs.declared.exit.Exit.{Exit}
use Rattle.nsc_model.specs.declared.exit.Exit.TheVariants as exits
use Rattle.nsc_replay.specs.Streams.{Streams, Transfers}

-- The replay ends so, with this output: it does whatever follows the bytes that were read, or they are all that there is.
abbrev pub FinishesBy : Finish → Conf → State → ℕ → Option (List ℕ) → List ℕ → List ℕ → Type 0
FinishesBy finish settings s place left front out =
    ((more : List ℕ) → replay_from settings s place (front ++ more) ≡ record { output = out; finish = finish })
    ⊎ (IsDrained left × (replay_from settings s place front ≡ record { output = out; finish = finish }))

-- what was written is the output for all frames that were read but the last
pub record AllButLast (settings : Conf) (s : State) (place : ℕ) (front out : List ℕ) : Type 0 where
  pub earlier : List ℕ
  pub last : List ℕ
  pub parts : front ≡ earlier ++ last
  pub frame_is : Frame
  pub one_frame : Finds frame_at last frame_is
  pub written_is : out ≡ (replay_from settings s place earlier).output

-- What the bytes that were read and those that were written are, by the exit: at Ok what was read ends with the
-- first E, whatever follows it, and at ReadFault, WriteFault and NoMemory what was written is the output for the whole frames
-- that were read, a front of it, or it but for that of the last frame.
abbrev pub EndsBy : Exit → Conf → State → ℕ → Option (List ℕ) → List ℕ → List ℕ → Type 0
EndsBy exits.Ok settings s place left front out =
    (more : List ℕ) → replay_from settings s place (front ++ more) ≡ record { output = out; finish = Done (place + length front) }
EndsBy exits.ReadFault settings s place left front out = out ≡ (replay_from settings s place front).output
EndsBy exits.WriteFault settings s place left front out = (rest : List ℕ) × ((replay_from settings s place front).output ≡ out ++ rest)
EndsBy (exits.BadFrame offset) settings s place left front out = FinishesBy (Bad offset) settings s place left front out
EndsBy (exits.TooLong size) settings s place left front out = FinishesBy (Long size) settings s place left front out
EndsBy (exits.Spent count) settings s place left front out = FinishesBy (Spent count) settings s place left front out
EndsBy exits.NoMemory settings s place left front out = (out ≡ (replay_from settings s place front).output) ⊎ AllButLast settings s place front out
EndsBy _ settings s place left front out = ⊥

-- the run: what was read, what was written, and how that ended
pub record ReplayRun (settings : Conf) (s : State) (place : ℕ) (streams : Streams) (exit : Exit) : Type 0 where
  pub front : List ℕ
  pub out : List ℕ
  pub transfers : Transfers streams front out
  pub ends : EndsBy exit settings s place streams.after.input.bytes front out

-- one round: the frame at the front is done, and the replay goes on in this state at this place
pub record RoundGoesOn (settings : Conf) (s : State) (place : ℕ) (next : State) (next_place : ℕ) (streams : Streams) : Type 0 where
  pub front : List ℕ
  pub out : List ℕ
  pub transfers : Transfers streams front out
  pub place_is : next_place ≡ place + length front
  pub goes : (more : List ℕ) → replay_from settings s place (front ++ more) ≡ after_output out (replay_from settings next next_place more)
