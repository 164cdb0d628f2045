-- How a command ends whose request was sent.
use Rattle.std.proofs.Common.{◌≡◌, List, [], ℕ, inl, inr, sym, append-nil}
use Rattle.nsc_outside.specs.Stream.{Grows}
use Rattle.nsc_model.specs.declared.exit.Exit.{Exit}
use Rattle.nsc_model.specs.declared.exit.Exit.TheVariants as exits
use Rattle.nsc_control.specs.declared.ask.AdminAsk.{AdminAsk}
use Rattle.nsc_control.specs.Asks.{request_for}
use Rattle.nsc_control.specs.Commands.{CommandAt, Commands, Exchanged, Finishes, IsUnread}

-- its reply was read
pub finished : (asked : AdminAsk) (before after : CommandAt) (by : Exit) (reply : List ℕ) → Exchanged asked before after reply
    → Finishes asked reply before.output after.output by → Commands asked before after by
finished asked before after exits.Ok reply x e = record { reply = reply; exchanged = x; good = e.0; told = e.1 }
finished asked before after exits.WriteFault reply x e = record { reply = reply; exchanged = x; is_stat = e.0; front = e.1; failed = e.2 }
finished asked before after exits.BadReply reply x e = (e.0, inr (reply, x, e.1))
finished asked before after _ reply x e = absurd e

-- its reply was not read
pub unread : (asked : AdminAsk) (before after : CommandAt) (by : Exit) → Grows before.conn_out.bytes after.conn_out.bytes (request_for asked) → after.output ≡ before.output
    → IsUnread before.conn_in after.conn_in by → Commands asked before after by
unread asked before after exits.NetFault sent silent u = (silent, inl u, (request_for asked, ([], sym (append-nil (request_for asked))), sent))
unread asked before after exits.BadReply sent silent u = (silent, inl (record { sent = sent; long = u }))
unread asked before after exits.NoMemory sent silent u = (silent, u, (request_for asked, ([], sym (append-nil (request_for asked))), sent))
unread asked before after _ sent silent u = absurd u
