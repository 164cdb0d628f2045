-- What came of a command.
use Rattle.std.specs.Prelude.{◌≡◌, ◌⊎◌, ℕ, ◌<◌, ◌≤◌, List, length}
use Rattle.nsc_outside.specs.Stream.{Moves, IsDrained, Grows, GrowsByFront}
use Rattle.nsc_outside.specs.StreamAt.{StreamAt, stream_in, stream_out}
use Rattle.nsc_model.specs.Reads.{Rose}
use Rattle.nsc_outside.specs.declared.stream.Source as source
use Rattle.nsc_outside.specs.declared.stream.Sink as sink
use Rattle.nsc_model.specs.Wire.{field}
use Rattle.nsc_model.specs.declared.exit.Exit.{Exit}
use Rattle.nsc_model.specs.declared.exit.Exit.TheVariants as exits
use Rattle.nsc_control.specs.declared.ask.AdminAsk.{AdminAsk}
use Rattle.nsc_control.specs.declared.ask.AdminAsk.TheVariants as ask
use Rattle.nsc_control.specs.Asks.{request_for}

-- the longest reply, in bytes
abbrev pub admin_reply_limit : ℕ
admin_reply_limit = 65536

-- the three command_at of a command: both ways of the connection, and the output
pub record CommandAt : Type 0 where
  pub conn_in : StreamAt
  pub conn_out : StreamAt
  pub output : StreamAt

-- a reply is good: to a question for counts any is, and to the others four zero bytes
abbrev pub IsGood : AdminAsk → List ℕ → Type 0
IsGood ask.Stat reply = Unit {0}
IsGood (ask.Invalidate which) reply = reply ≡ field 0
IsGood ask.Shutdown reply = reply ≡ field 0

-- what the output takes for a reply: the counts, and else nothing
abbrev pub PutsOut : AdminAsk → StreamAt → StreamAt → List ℕ → Type 0
PutsOut ask.Stat before after reply = Grows before.bytes after.bytes reply
PutsOut (ask.Invalidate which) before after reply = after ≡ before
PutsOut ask.Shutdown before after reply = after ≡ before

-- the request went out, and these bytes came: all that the connection had, and no more than a reply may have
pub record Exchanged (asked : AdminAsk) (before after : CommandAt) (reply : List ℕ) : Type 0 where
  pub sent : Grows before.conn_out.bytes after.conn_out.bytes (request_for asked)
  pub came : Moves before.conn_in.bytes after.conn_in.bytes reply
  pub all : IsDrained after.conn_in.bytes
  pub limit : length reply ≤ admin_reply_limit

-- what was done at the connection and at the output
pub record IsCarriedOut (asked : AdminAsk) (before after : CommandAt) : Type 0 where
  pub reply : List ℕ
  pub exchanged : Exchanged asked before after reply
  pub good : IsGood asked reply
  pub told : PutsOut asked before.output after.output reply

-- the output failed, and took a front of the counts
pub record AreCountsCut (asked : AdminAsk) (before after : CommandAt) : Type 0 where
  pub reply : List ℕ
  pub exchanged : Exchanged asked before after reply
  pub is_stat : asked ≡ ask.Stat
  pub front : GrowsByFront before.output.bytes after.output.bytes reply
  pub failed : Rose before.output.faults after.output.faults

-- the reply is longer than one may be, or it is not good
abbrev pub IsReplyTooLong : StreamAt → StreamAt → Type 0
IsReplyTooLong before after = (front : List ℕ) × Moves before.bytes after.bytes front × (admin_reply_limit < length front)

pub record IsTooMuch (asked : AdminAsk) (before after : CommandAt) : Type 0 where
  pub sent : Grows before.conn_out.bytes after.conn_out.bytes (request_for asked)
  pub long : IsReplyTooLong before.conn_in after.conn_in

abbrev pub IsBad : AdminAsk → CommandAt → CommandAt → Type 0
IsBad asked before after = (reply : List ℕ) × Exchanged asked before after reply × (IsGood asked reply → ⊥)

-- nothing but the request was sent, or a front of it
abbrev pub SendsNoMore : AdminAsk → CommandAt → CommandAt → Type 0
SendsNoMore asked before after = GrowsByFront before.conn_out.bytes after.conn_out.bytes (request_for asked)

-- what came of a command
abbrev pub Commands : AdminAsk → CommandAt → CommandAt → Exit → Type 0
Commands asked before after exits.Ok = IsCarriedOut asked before after
Commands asked before after exits.WriteFault = AreCountsCut asked before after
Commands asked before after exits.NetFault = (after.output ≡ before.output) × (Rose before.conn_in.faults after.conn_in.faults ⊎ Rose before.conn_out.faults after.conn_out.faults) × SendsNoMore asked before after
Commands asked before after exits.BadReply = (after.output ≡ before.output) × (IsTooMuch asked before after ⊎ IsBad asked before after)
Commands asked before after exits.NoMemory = (after.output ≡ before.output) × (after.conn_in ≡ before.conn_in) × SendsNoMore asked before after
Commands asked before after _ = ⊥

-- ---- the parts

-- a reply was not read
abbrev pub IsUnread : StreamAt → StreamAt → Exit → Type 0
IsUnread before after exits.NetFault = Rose before.faults after.faults
IsUnread before after exits.BadReply = IsReplyTooLong before after
IsUnread before after exits.NoMemory = after ≡ before
IsUnread before after _ = ⊥

-- a reply says that what was asked is done, or it is bad
abbrev pub Judges : List ℕ → Exit → Type 0
Judges reply exits.Ok = reply ≡ field 0
Judges reply exits.BadReply = reply ≡ field 0 → ⊥
Judges reply _ = ⊥

-- what came of a reply that was read
abbrev pub Finishes : AdminAsk → List ℕ → StreamAt → StreamAt → Exit → Type 0
Finishes asked reply before after exits.Ok = IsGood asked reply × PutsOut asked before after reply
Finishes asked reply before after exits.WriteFault = (asked ≡ ask.Stat) × GrowsByFront before.bytes after.bytes reply × Rose before.faults after.faults
Finishes asked reply before after exits.BadReply = (after ≡ before) × (IsGood asked reply → ⊥)
Finishes asked reply before after _ = ⊥

abbrev pub command_at : {R K T : Type 0} → source.Ghosts R → sink.Ghosts K → sink.Ghosts T → R → K → T → CommandAt
command_at r k t conn_in conn_out output = record { conn_in = stream_in r conn_in; conn_out = stream_out k conn_out; output = stream_out t output }
