-- A stream at one moment.
use Rattle.std.specs.Prelude.{ℕ, List, Option}
use Rattle.nsc_outside.specs.declared.stream.Source as source
use Rattle.nsc_outside.specs.declared.stream.Sink as sink

-- what a stream has left or took, where it tells that, and the count of its faults
pub record StreamAt : Type 0 where
  pub bytes : Option (List ℕ)
  pub faults : ℕ

abbrev pub stream_in : {R : Type 0} → source.Ghosts R → R → StreamAt
stream_in g input = record { bytes = g.left input; faults = g.faults input }

abbrev pub stream_out : {K : Type 0} → sink.Ghosts K → K → StreamAt
stream_out g output = record { bytes = g.taken output; faults = g.faults output }
