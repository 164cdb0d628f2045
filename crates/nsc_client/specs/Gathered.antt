-- Answers that are gathered in a buffer, and written together.
use Rattle.std.specs.Prelude.{◌≡◌, ◌⊎◌, ℕ, ◌+◌, ◌<◌, ◌≤◌, List, [], ◌∷◌, ◌++◌, length, min}
use Rattle.nsc_outside.specs.Stream.{Grows, GrowsByFront, IsDrained}
use Rattle.nsc_outside.specs.StreamAt.{StreamAt}
use Rattle.nsc_model.specs.declared.databases.Databases.{Databases}
use Rattle.nsc_model.specs.declared.store.Store as store
use Rattle.nsc_model.specs.Machine.{last_count}
use Rattle.nsc_model.specs.Reads.{Rose}
use Rattle.nsc_model.specs.Entry.{line_limit}
use Rattle.nsc_client.specs.declared.gate.Gated.{Gated}
use Rattle.nsc_client.specs.declared.gate.Gated.TheVariants as gated
use Rattle.nsc_client.specs.Exchanges.{AreAnswered}
use Rattle.nsc_client.specs.Gate.{IsRefusal, SeeMore, requests_of}
use Rattle.nsc_client.specs.GateText.{asking_of}
use Rattle.nsc_client.specs.LinesRead.{HasNoNewline, ReadsLines}
use Rattle.nsc_client.specs.Serving.{GateAt}

-- ---- texts

-- a text was added to what was pending: the output took a front of both, and the rest is pending
pub record WritesPart (output output' : StreamAt) (pending pending' text : List ℕ) : Type 0 where
  pub taken : List ℕ
  pub parts : pending ++ text ≡ taken ++ pending'
  pub grown : Grows output.bytes output'.bytes taken
  pub calm : output'.faults ≡ output.faults

-- the output failed, and took a front of what was pending and of the text
pub record WritesFront (output output' : StreamAt) (pending text : List ℕ) : Type 0 where
  pub front : GrowsByFront output.bytes output'.bytes (pending ++ text)
  pub failed : Rose output.faults output'.faults

-- the only fault of a write
abbrev pub IsBroken : StreamAt → StreamAt → List ℕ → List ℕ → Gated → Type 0
IsBroken output output' pending text gated.WriteFault = WritesFront output output' pending text
IsBroken output output' pending text _ = ⊥

-- ---- lines

-- the answers to lines were added to what was pending
pub record GathersAnswers {S P : Type 0} (g : store.Ghosts S P) (before after : Databases P) (output output' : StreamAt) (pending pending' : List ℕ) (lines : List (List ℕ)) : Type 0 where
  pub text : List ℕ
  pub answered : AreAnswered g before after lines text
  pub written : WritesPart output output' pending pending' text

-- the output failed, and took a front of what was pending and of the answers to lines
pub record GathersFront {S P : Type 0} (g : store.Ghosts S P) (before after : Databases P) (output output' : StreamAt) (pending : List ℕ) (lines : List (List ℕ)) : Type 0 where
  pub text : List ℕ
  pub answered : AreAnswered g before after lines text
  pub written : WritesFront output output' pending text

-- why a line was not answered: it was refused, and all that was pending is written; or the output failed, before the line was answered or
-- after it
abbrev pub IsUnserved : {S P : Type 0} → store.Ghosts S P → Databases S → Databases P → Databases P → StreamAt → StreamAt → List ℕ → List ℕ → Gated → Type 0
IsUnserved g stores before after output output' pending line (gated.Refused refused) = IsRefusal g stores before after (requests_of (asking_of line)) refused × WritesPart output output' pending [] []
IsUnserved g stores before after output output' pending line gated.WriteFault = (lines : List (List ℕ)) × ((lines ≡ []) ⊎ (lines ≡ line ∷ [])) × GathersFront g before after output output' pending lines
IsUnserved g stores before after output output' pending line _ = ⊥

-- why a line that may be too long was not answered
abbrev pub IsStopped : {S P : Type 0} → store.Ghosts S P → Databases S → Databases P → Databases P → StreamAt → StreamAt → List ℕ → List ℕ → Gated → Type 0
IsStopped g stores before after output output' pending line (gated.TooLongLine size) = (size ≡ line_limit + 1) × (line_limit < length line) × (after ≡ before) × WritesPart output output' pending [] []
IsStopped g stores before after output output' pending line (gated.Refused refused) = (length line ≤ line_limit) × IsUnserved g stores before after output output' pending line (gated.Refused refused)
IsStopped g stores before after output output' pending line by = IsUnserved g stores before after output output' pending line by

-- ---- a connection

-- `count` lines are answered, a number that stays at its end. Their answers were written, but for those that are pending; and the rest
-- was read after these lines
pub record HasGathered {S P : Type 0} (g : store.Ghosts S P) (before after : GateAt P) (count : ℕ) (rest pending : List ℕ) : Type 0 where
  pub lines : List (List ℕ)
  pub read : ReadsLines before.input.bytes after.input.bytes lines rest
  pub gathered : GathersAnswers g before.passes after.passes before.output after.output [] pending lines
  pub counted : count ≡ min (length lines) last_count
  pub goes_on : SeeMore g before.passes after.passes
  pub calm : after.input.faults ≡ before.input.faults

-- `count` lines with newlines were read, and their answers are written; the input ended after the rest, which has no newline
pub record AnswersEnded {S P : Type 0} (g : store.Ghosts S P) (before after : GateAt P) (count : ℕ) (rest : List ℕ) : Type 0 where
  pub has : HasGathered g before after count rest []
  pub lone : HasNoNewline rest
  pub drained : IsDrained after.input.bytes
