-- How a daemon ends, and what its outside tells of it: the output, the files, and the listener.
use Rattle.std.specs.Prelude.{◌≡◌, ℕ, ◌<◌, ◌⊎◌, List, ◌∷◌, ◌++◌, [], Option, Some, None, IfSome, codes}
use Rattle.nsc_outside.specs.Stream.{Grows, GrowsByFront}
use Rattle.nsc_outside.specs.StreamAt.{StreamAt, stream_out}
use Rattle.nsc_outside.specs.declared.stream.Sink as sink
use Rattle.nsc_outside.specs.declared.files.FileSet as files
use Rattle.nsc_model.specs.Reads.{Rose}
use Rattle.nsc_outside.specs.FileSets.{IsPastLimit, told_of}
use Rattle.nsc_model.specs.Content.{Content}
use Rattle.nsc_model.specs.Files.{file_limit}
use Rattle.nsc_model.specs.declared.exit.Exit.{Exit}
use Rattle.nsc_model.specs.declared.exit.Exit.TheVariants as exits
use Rattle.nsc_model.specs.declared.kind.FileId.{FileId}
use Rattle.nsc_model.specs.Wire.{Shutdown, request_of}
use Rattle.nsc_sourcebook.specs.declared.fault.PollFault.{PollFault}
use Rattle.nsc_sourcebook.specs.declared.fault.PollFault.TheVariants as poll
use Rattle.nsc_sockets.specs.Connections.{Connection, Socket}
use Rattle.nsc_sockets.specs.declared.listener.Listener as listener
use Rattle.nsc_sockets.specs.declared.listener.Accepted.{Accepted}
use Rattle.nsc_sockets.specs.declared.listener.Accepted.TheVariants as accepted
use Rattle.nsc_sockets.specs.declared.role.Role.{Role}
use Rattle.nsc_sockets.specs.declared.role.Role.TheVariants as role

-- the exit where the files of a database could not be read at the start
abbrev pub opening_exit : PollFault → Exit
opening_exit poll.NoMemory = exits.NoMemory
opening_exit (poll.SourceFault file) = exits.SourceFault
opening_exit (poll.TooLong file size) = exits.TooLong size

-- the line that tells that the daemon is ready
abbrev pub ready_line : List ℕ
ready_line = codes "nscd: ready" ++ 10 ∷ []

-- ---- connections

-- bytes are read as the request SHUTDOWN
abbrev pub AsksEnd : List ℕ → Type 0
AsksEnd bytes = request_of bytes ≡ Shutdown

-- a connection of this role, whose peer sends these bytes where that is told, tells the daemon to end
pub record TellsEnd (on : Role) (left : Option (List ℕ)) : Type 0 where
  pub admin : on ≡ role.Admin
  pub asked : IfSome left AsksEnd

abbrev pub IsToldEnd : {R K : Type 0} → (R → Option (List ℕ)) → Accepted R K → Type 0
IsToldEnd left (accepted.Conn on input output) = TellsEnd on (left input)
IsToldEnd left accepted.Quiet = ⊥

-- a listener gave connections after these, where it tells which
abbrev pub GivesMore : Option (List Connection) → Option (List Connection) → Type 0
GivesMore None after = after ≡ None
GivesMore (Some given) after = (more : List Connection) × (after ≡ Some (more ++ given))

-- the newest of them tells the daemon to end
pub record IsLast (given : List Connection) (after : Option (List Connection)) : Type 0 where
  pub last : Connection
  pub more : List Connection
  pub all : after ≡ Some (last ∷ more ++ given)
  pub admin : last.role ≡ role.Admin
  pub asked : AsksEnd last.bytes

abbrev pub LastTellsEnd : Option (List Connection) → Option (List Connection) → Type 0
LastTellsEnd before after = IfSome before (λ given. IsLast given after)

-- how the thread that accepts ends: it was told to, or the listener failed
abbrev pub StopsSo : Exit → Option (List Connection) → Option (List Connection) → ℕ → ℕ → Type 0
StopsSo exits.Ok given given' faults faults' = LastTellsEnd given given' × (faults' ≡ faults)
StopsSo exits.NetFault given given' faults faults' = Rose faults faults'
StopsSo _ given given' faults faults' = ⊥

-- ---- sockets

-- the sockets of a daemon, the newest first: that of every user, that of the administrator, and the gate where there is one
abbrev pub sockets_at : (plain admin : List ℕ) → (gate : Option (List ℕ)) → List Socket
sockets_at plain admin None = record { role = role.Admin; path = admin } ∷ record { role = role.Plain; path = plain } ∷ []
sockets_at plain admin (Some path) = record { role = role.Gate; path = path } ∷ record { role = role.Admin; path = admin } ∷ record { role = role.Plain; path = plain } ∷ []

-- the same by the folder of the first two
abbrev pub sockets_of : (run_dir : List ℕ) → (gate : Option (List ℕ)) → List Socket
sockets_of run_dir gate = sockets_at (run_dir ++ codes "/socket") (run_dir ++ codes "/admin") gate

-- a listener bound these, and no more, where it tells what it bound
abbrev pub IsBound : Option (List Socket) → Option (List Socket) → List Socket → Type 0
IsBound before after sockets = IfSome before (λ bound. after ≡ Some (sockets ++ bound))

-- ---- the whole

-- what the outside of a daemon tells at one moment: of the output, how often files failed, which connections the listener gave and
-- how often it failed
pub record DaemonAt : Type 0 where
  pub output : StreamAt
  pub source_faults : ℕ
  pub given : Option (List Connection)
  pub net_faults : ℕ

abbrev pub daemon_at : {K F N I O D H : Type 0} → sink.Ghosts K → files.Ghosts F → listener.Ghosts N I O D H → K → F → N → DaemonAt
daemon_at k f n output set net = record { output = stream_out k output; source_faults = f.faults set; given = n.given net; net_faults = n.faults net }

-- as `daemon_at`, where the files have failed `faults` times
abbrev pub daemon_of : {K N I O D H : Type 0} → sink.Ghosts K → listener.Ghosts N I O D H → K → N → ℕ → DaemonAt
daemon_of k n output net faults = record { output = stream_out k output; source_faults = faults; given = n.given net; net_faults = n.faults net }

-- nothing was written
abbrev pub IsSilent : DaemonAt → DaemonAt → Type 0
IsSilent before after = after.output ≡ before.output

-- the line was written
pub record IsReady (before after : DaemonAt) : Type 0 where
  pub grown : Grows before.output.bytes after.output.bytes ready_line
  pub calm : after.output.faults ≡ before.output.faults

-- a daemon ends by this exit
abbrev pub EndsSo : Exit → DaemonAt → DaemonAt → Type 0
EndsSo exits.Ok before after = IsReady before after × LastTellsEnd before.given after.given × (after.net_faults ≡ before.net_faults) × (after.source_faults ≡ before.source_faults)
EndsSo exits.WriteFault before after = Rose before.output.faults after.output.faults × GrowsByFront before.output.bytes after.output.bytes ready_line
EndsSo exits.SourceFault before after = Rose before.source_faults after.source_faults × IsSilent before after
EndsSo (exits.TooLong size) before after = Rose before.source_faults after.source_faults × IsSilent before after × (file_limit < size)
EndsSo exits.NetFault before after = Rose before.net_faults after.net_faults × (IsSilent before after ⊎ IsReady before after)
EndsSo exits.NoMemory before after = IsSilent before after ⊎ IsReady before after
EndsSo _ before after = ⊥

-- where a file was too long, the length is that of one of these files, where they are told, and past the limit
abbrev pub TellsHeldLength : Exit → Option Content → Type 0
TellsHeldLength (exits.TooLong size) held = (file : FileId) × IsPastLimit (told_of held file) size
TellsHeldLength _ held = Unit {0}

-- why the databases were not opened: memory was short, or a file failed or was too long, as its set counts it
abbrev pub IsOpeningFault : PollFault → ℕ → ℕ → Type 0
IsOpeningFault poll.NoMemory faults faults' = Unit {0}
IsOpeningFault (poll.SourceFault file) faults faults' = Rose faults faults'
IsOpeningFault (poll.TooLong file size) faults faults' = Rose faults faults'

-- of a file that was too long at the start, the length is told
abbrev pub TellsFileLength : PollFault → Option Content → Type 0
TellsFileLength poll.NoMemory held = Unit {0}
TellsFileLength (poll.SourceFault file) held = Unit {0}
TellsFileLength (poll.TooLong file size) held = IsPastLimit (told_of held file) size
