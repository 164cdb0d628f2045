-- What came of a connection to the gate.
use Rattle.std.specs.Prelude.{◌≡◌, ◌≢◌, ℕ, ◌+◌, ◌<◌, ◌≤◌, List, length, min}
use Rattle.nsc_outside.specs.StreamAt.{StreamAt, stream_in, stream_out}
use Rattle.nsc_outside.specs.declared.stream.Source as source
use Rattle.nsc_outside.specs.declared.stream.Sink as sink
use Rattle.nsc_model.specs.declared.databases.Databases.{Databases}
use Rattle.nsc_model.specs.declared.store.Store as store
use Rattle.nsc_model.specs.Machine.{last_count}
use Rattle.nsc_model.specs.Reads.{Rose}
use Rattle.nsc_model.specs.Entry.{line_limit}
use Rattle.nsc_client.specs.declared.gate.Gated.{Gated}
use Rattle.nsc_client.specs.declared.gate.Gated.TheVariants as gated
use Rattle.nsc_client.specs.declared.link.LinkFault.{LinkFault}
use Rattle.nsc_client.specs.declared.link.LinkFault.TheVariants as link
use Rattle.nsc_client.specs.Exchanges.{TakesAnswers, TakesFront}
use Rattle.nsc_client.specs.Gate.{IsRefusal, SeeMore, requests_of}
use Rattle.nsc_client.specs.GateText.{asking_of}
use Rattle.nsc_client.specs.LinesRead.{BeginsWithLine, HasNoNewline, ReadsAll, ReadsFirst, ReadsLines, front_line}

-- at one moment: the passes, what the input has left, and what the output took
pub record GateAt (P : Type 0) : Type 0 where
  pub passes : Databases P
  pub input : StreamAt
  pub output : StreamAt

abbrev pub gate_at : {P : Type 0} → Databases P → StreamAt → StreamAt → GateAt P
gate_at passes input output = record { passes = passes; input = input; output = output }

-- `gate_at`, by the source and the sink of a connection
abbrev pub gate_over : {P R K : Type 0} → source.Ghosts R → sink.Ghosts K → Databases P → R → K → GateAt P
gate_over r k passes input output = gate_at passes (stream_in r input) (stream_out k output)

-- the input was read to its end, and each of its lines was answered; their number stays at its end
pub record AnswersAll {S P : Type 0} (g : store.Ghosts S P) (before after : GateAt P) (count : ℕ) : Type 0 where
  pub lines : List (List ℕ)
  pub read : ReadsAll before.input.bytes after.input.bytes lines
  pub answered : TakesAnswers g before.passes after.passes before.output after.output lines
  pub counted : count ≡ min (length lines) last_count
  pub calm : after.input.faults ≡ before.input.faults

-- whole lines were read and answered; the rest was read after them, and is not answered
pub record StopsAfter {S P : Type 0} (g : store.Ghosts S P) (before after : GateAt P) (lines : List (List ℕ)) (rest : List ℕ) : Type 0 where
  pub read : ReadsLines before.input.bytes after.input.bytes lines rest
  pub answered : TakesAnswers g before.passes after.passes before.output after.output lines

-- the next line is too long
pub record MeetsTooLong {S P : Type 0} (g : store.Ghosts S P) (before after : GateAt P) (size : ℕ) : Type 0 where
  pub lines : List (List ℕ)
  pub rest : List ℕ
  pub stops : StopsAfter g before after lines rest
  pub long : line_limit < length (front_line rest)
  pub counted : size ≡ line_limit + 1
  pub calm : after.input.faults ≡ before.input.faults

-- the next line was refused, by the passes as the lines before it left them; it is whole, unless memory was short
pub record MeetsRefusal {S P : Type 0} (g : store.Ghosts S P) (stores : Databases S) (before after : GateAt P) (refused : LinkFault) : Type 0 where
  pub lines : List (List ℕ)
  pub rest : List ℕ
  pub between : Databases P
  pub stops : StopsAfter g before (record after { passes = between }) lines rest
  pub refusal : IsRefusal g stores between after.passes (requests_of (asking_of (front_line rest))) refused
  pub goes_on : SeeMore g between after.passes
  pub fits : length (front_line rest) ≤ line_limit
  pub whole : refused ≢ link.NoMemory → BeginsWithLine rest after.input.bytes
  pub calm : after.input.faults ≡ before.input.faults

-- the input failed, and all whole lines that were read are answered
pub record InputFails {S P : Type 0} (g : store.Ghosts S P) (before after : GateAt P) : Type 0 where
  pub lines : List (List ℕ)
  pub rest : List ℕ
  pub stops : StopsAfter g before after lines rest
  pub part : HasNoNewline rest
  pub failed : Rose before.input.faults after.input.faults

-- the output failed, at the answers to the lines that were read first
pub record OutputFails {S P : Type 0} (g : store.Ghosts S P) (before after : GateAt P) : Type 0 where
  pub lines : List (List ℕ)
  pub read : ReadsFirst before.input.bytes after.input.bytes lines
  pub taken : TakesFront g before.passes after.passes before.output after.output lines
  pub calm : after.input.faults ≡ before.input.faults

-- what came of a connection
abbrev pub ServesGate : {S P : Type 0} → store.Ghosts S P → Databases S → GateAt P → GateAt P → Gated → Type 0
ServesGate g stores before after (gated.Done count) = AnswersAll g before after count
ServesGate g stores before after (gated.TooLongLine size) = MeetsTooLong g before after size
ServesGate g stores before after gated.ReadFault = InputFails g before after
ServesGate g stores before after gated.WriteFault = OutputFails g before after
ServesGate g stores before after (gated.Refused refused) = MeetsRefusal g stores before after refused
