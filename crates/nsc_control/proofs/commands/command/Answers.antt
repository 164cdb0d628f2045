use Rattle.std.proofs.Common.{List, ℕ, refl, ◌∙◌, subst}
use Rattle.nsc_outside.specs.Stream.{Grows}
use Rattle.nsc_outside.specs.StreamAt.{stream_out}
use Rattle.nsc_control.specs.Commands.{Finishes, command_at}
use Rattle.nsc_control.proofs.Finishing.{finished, unread}
use Rattle.nsc_control.proofs.commands.command.Goals as goal

pub returns-in-Ok-read_reply-clause-commands : goal.returns-in-Ok-read_reply-clause-commands
returns-in-Ok-read_reply-clause-commands g c =
    finished c.args.ask (command_at g.R.Source g.K.Sink g.T.Sink c.args.conn_in.now c.args.conn_out.now c.args.output.now)
    (command_at g.R.Source g.K.Sink g.T.Sink c.read_reply.new.conn_in c.write_all.new.output c.finish.new.output) c.finish.result c.in-Ok-read_reply.reply
    record {
      sent = subst (λ (bytes : List ℕ). Grows (g.K.Sink.taken c.args.conn_out.now) (g.K.Sink.taken c.write_all.new.output) bytes) (c.as_slice.ensures ∙ c.in-Ok.ensures) c.in-Ok-write_all.ensures.grown;
      came = c.in-Ok-read_reply.ensures.came;
      all = c.in-Ok-read_reply.ensures.all;
      limit = c.in-Ok-read_reply.ensures.limit;
    }
    (subst (λ (bytes : List ℕ). Finishes c.args.ask bytes (stream_out g.T.Sink c.args.output.now) (stream_out g.T.Sink c.finish.new.output) c.finish.result) c.as_slice-in-Ok-read_reply.ensures c.finish.ensures.ends)

pub returns-clause-commands : goal.returns-clause-commands
returns-clause-commands g c =
    unread c.args.ask (command_at g.R.Source g.K.Sink g.T.Sink c.args.conn_in.now c.args.conn_out.now c.args.output.now)
    (command_at g.R.Source g.K.Sink g.T.Sink c.read_reply.new.conn_in c.write_all.new.output c.args.output.now) c.in-Err.exit
    (subst (λ (bytes : List ℕ). Grows (g.K.Sink.taken c.args.conn_out.now) (g.K.Sink.taken c.write_all.new.output) bytes) (c.as_slice.ensures ∙ c.in-Ok.ensures) c.in-Ok-write_all.ensures.grown)
    refl c.in-Err.ensures.unread
