use Rattle.std.proofs.Common.{ℕ, List, Option, inr, refl, subst}
use Rattle.nsc_outside.specs.StreamAt.{stream_out}
use Rattle.nsc_sockets.specs.Connections.{Connection}
use Rattle.nsc_daemon.specs.Ends.{DaemonAt, StopsSo}
use Rattle.nsc_daemon.proofs.Ends.{ready_so}
use Rattle.nsc_daemon.proofs.service.serve_in.Goals as goal

pub returns-in-Ok-save_all-clause-ends : goal.returns-in-Ok-save_all-clause-ends
returns-in-Ok-save_all-clause-ends g c faults =
    let given = g.N.Listener.given in
    let before : DaemonAt = record { output = stream_out g.K.Sink c.args.output.now; source_faults = faults; given = given c.args.net.now; net_faults = g.N.Listener.faults c.args.net.now } in
    let after : DaemonAt = record { output = stream_out g.K.Sink c.write_all.new.output; source_faults = faults; given = given c.run-exit.new.net; net_faults = g.N.Listener.faults c.run-exit.new.net } in
    let stops = subst (λ (x : Option (List Connection) × ℕ). StopsSo c.run-exit.result x.0 after.given x.1 after.net_faults) (λ i. (c.in-Ok-bind.ensures.given i, c.in-Ok-bind.ensures.calm i)) c.run-exit.ensures.stops in
    ready_so c.run-exit.result before after (record { grown = c.in-Ok-write_all.ensures.grown; calm = c.in-Ok-write_all.ensures.calm }) refl stops

pub returns-clause-ends : goal.returns-clause-ends
returns-clause-ends g c faults = inr (record { grown = c.in-Ok-write_all.ensures.grown; calm = c.in-Ok-write_all.ensures.calm })
