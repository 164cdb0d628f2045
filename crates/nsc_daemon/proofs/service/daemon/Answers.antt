use Rattle.std.proofs.Common.{◌∙◌, refl, subst, sym}
use Rattle.nsc_outside.specs.StreamAt.{stream_out}
use Rattle.nsc_model.specs.declared.exit.Exit.{Exit}
use Rattle.nsc_daemon.specs.Ends.{DaemonAt, EndsSo, TellsHeldLength, daemon_at}
use Rattle.nsc_daemon.proofs.Bound.{not_opened}
use Rattle.nsc_daemon.proofs.Ends.{calm_so, length_held, unopened}
use Rattle.nsc_daemon.proofs.service.daemon.Goals as goal

pub returns-in-Ok-open-clause-length : goal.returns-in-Ok-open-clause-length
returns-in-Ok-open-clause-length g c =
    let given = g.N.Listener.given in
    let before : DaemonAt = record { output = stream_out g.K.Sink c.args.output.now; source_faults = 0; given = given c.args.net.now; net_faults = g.N.Listener.faults c.args.net.now } in
    let after : DaemonAt = record { output = stream_out g.K.Sink c.in_room.new.output; source_faults = 0; given = given c.in_room.new.net; net_faults = g.N.Listener.faults c.in_room.new.net } in
    calm_so c.in_room.result (g.F.FileSet.held c.args.files.now) before after refl refl (c.in_room.ensures.ends 0)

pub returns-in-Err-open-clause-ends : goal.returns-in-Err-open-clause-ends
returns-in-Err-open-clause-ends g c =
    let before = daemon_at g.K.Sink g.F.FileSet g.N.Listener c.args.output.now c.args.files.now c.args.net.now in
    let after = daemon_at g.K.Sink g.F.FileSet g.N.Listener c.args.output.now c.open.new.files c.args.net.now in
    subst (λ (exit : Exit). EndsSo exit before after) (sym c.opening_exit.ensures.told)
    (unopened c.in-Err-open.fault (g.F.FileSet.held c.args.files.now) before after refl c.in-Err-open.ensures.fault c.in-Err-open.ensures.length)

pub returns-in-Err-open-clause-length : goal.returns-in-Err-open-clause-length
returns-in-Err-open-clause-length g c =
    let held = g.F.FileSet.held c.args.files.now in
    subst (λ (exit : Exit). TellsHeldLength exit held) (sym c.opening_exit.ensures.told) (length_held c.in-Err-open.fault held c.in-Err-open.ensures.length)

pub returns-in-Err-open-clause-bound : goal.returns-in-Err-open-clause-bound
returns-in-Err-open-clause-bound g c = λ ok. absurd (not_opened c.in-Err-open.fault (sym c.opening_exit.ensures.told ∙ ok))
