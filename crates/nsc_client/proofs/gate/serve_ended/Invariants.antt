use Rattle.std.proofs.Common.{◌≡◌, ◌≤◌, length, drop}
use Rattle.nsc_outside.specs.StreamAt.{stream_in, stream_out}
use Rattle.nsc_client.specs.Gate.{ArePasses}
use Rattle.nsc_client.specs.Gathered.{HasGathered}
use Rattle.nsc_client.specs.Serving.{gate_at}
use Rattle.nsc_client.proofs.gate.serve_ended.Given as goal

abbrev pub invariant-loop : goal.invariant-loop
invariant-loop g l = record {
  passes : ArePasses g.S.Store l.stores l.passes;
  limit : l.out.limit ≡ l.initial.out.limit;
  within : l.at ≤ length l.held.items;
  has : HasGathered g.S.Store (gate_at l.initial.passes (stream_in g.R.Source l.initial.conn_in) (stream_out g.K.Sink l.initial.conn_out)) (gate_at l.passes (stream_in g.R.Source l.conn_in) (stream_out g.K.Sink l.conn_out)) l.lines (drop l.at l.held.items) l.pending;
}
