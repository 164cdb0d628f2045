-- A source and a sink over a run: what they tell of their bytes, and how often they failed.
use Rattle.std.specs.Prelude.{◌≡◌, ℕ, List}
use Rattle.nsc_outside.specs.Stream.{Moves, Grows}
use Rattle.nsc_outside.specs.StreamAt.{StreamAt, stream_in, stream_out}
use Rattle.nsc_model.specs.Reads.{Rose}
use Rattle.nsc_outside.specs.declared.stream.Source as source
use Rattle.nsc_outside.specs.declared.stream.Sink as sink
use Rattle.nsc_model.specs.declared.exit.Exit.{Exit}
use Rattle.nsc_model.specs.declared.exit.Exit.TheVariants.{ReadFault, WriteFault}

pub record StreamsAt : Type 0 where
  pub input : StreamAt
  pub output : StreamAt

pub record Streams : Type 0 where
  pub before : StreamsAt
  pub after : StreamsAt

abbrev pub streams_at : {R K : Type 0} → source.Ghosts R → sink.Ghosts K → R → K → StreamsAt
streams_at source sink input output = record { input = stream_in source input; output = stream_out sink output }

-- a source and a sink, each before and after
abbrev pub streams : {R K : Type 0} → source.Ghosts R → sink.Ghosts K → R → R → K → K → Streams
streams source sink input input' output output' = record { before = streams_at source sink input output; after = streams_at source sink input' output' }

-- these bytes were read, and these were written
pub record Transfers (s : Streams) (front out : List ℕ) : Type 0 where
  pub moved : Moves s.before.input.bytes s.after.input.bytes front
  pub grown : Grows s.before.output.bytes s.after.output.bytes out

-- the counts of faults: one rose where its stream failed, and else both stay
pub record Calm (s : Streams) : Type 0 where
  pub input_stays : s.after.input.faults ≡ s.before.input.faults
  pub output_stays : s.after.output.faults ≡ s.before.output.faults

pub record InputFailed (s : Streams) : Type 0 where
  pub input_rose : Rose s.before.input.faults s.after.input.faults
  pub output_stays : s.after.output.faults ≡ s.before.output.faults

pub record OutputFailed (s : Streams) : Type 0 where
  pub input_stays : s.after.input.faults ≡ s.before.input.faults
  pub output_rose : Rose s.before.output.faults s.after.output.faults

abbrev pub Counted : Exit → Streams → Type 0
Counted ReadFault s = InputFailed s
Counted WriteFault s = OutputFailed s
Counted _ s = Calm s
