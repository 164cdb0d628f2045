-- What the program claims of a run, by the form of its words.
use Rattle.std.specs.Prelude.{◌≡◌, ℕ, ◌⊎◌, Bool, false, ◌&&◌, not, is_some, List, Option, Some, None, IfSome, Result, Ok, Err}
use Rattle.nsc_outside.specs.Stream.{Grows}
use Rattle.nsc_outside.specs.StreamAt.{StreamAt, stream_in, stream_out}
use Rattle.nsc_model.specs.Reads.{Rose}
use Rattle.nsc_outside.specs.declared.stream.Source as source
use Rattle.nsc_outside.specs.declared.stream.Sink as sink
use Rattle.nsc_outside.specs.declared.files.FileSet as files
use Rattle.nsc_outside.specs.declared.images.ImageStore as image_store
use Rattle.nsc_sockets.specs.Connections.{Connection, IsPeer, Socket}
use Rattle.nsc_sockets.specs.declared.listener.Listener as listener
use Rattle.nsc_model.specs.declared.conf.Conf.{Conf}
use Rattle.nsc_model.specs.Content.{Content}
use Rattle.nsc_model.specs.declared.exit.ConfFault.{ConfFault}
use Rattle.nsc_model.specs.declared.exit.Exit.{Exit}
use Rattle.nsc_model.specs.declared.exit.Exit.TheVariants as exits
use Rattle.nsc_replay.specs.Streams.{Counted, Streams, StreamsAt, streams_at}
use Rattle.nsc_control.specs.Commands.{Commands}
use Rattle.nsc_control.specs.declared.ask.AdminAsk.{AdminAsk}
use Rattle.nsc_daemon.specs.Images.{ImagesAt, PutsImages, images_at}
use Rattle.nsc_daemon.specs.Ends.{DaemonAt, EndsSo, IsBound, IsReady, LastTellsEnd, TellsHeldLength, sockets_of}
use Rattle.nsc_workload.specs.Runs.{PutsText}
use Rattle.nsc_workload.specs.Workload.{workload_of}
use Rattle.nsc_run.specs.Lists.{has_left}
use Rattle.nsc_run.specs.Forms.{Ask, Daemon, DaemonOptions, Form, Replay, Workload}
use Rattle.nsc_run.specs.Commands.{ConfGives, Course, IsReplayedBy, NotSet, StreamsCalm, TellsAll, TellsFault, conf_path, config_told, settings_by}

-- What the outside tells at one moment: of the input and the output, of the files, of the images, and of the listener.
pub record Outside : Type 0 where
  pub streams : StreamsAt
  pub held : Option Content
  pub conf_held : List ℕ → Option (Option (List ℕ))
  pub source_faults : ℕ
  pub images : ImagesAt
  pub given : Option (List Connection)
  pub peer : Option (List ℕ)
  pub net_faults : ℕ

abbrev pub outside : {R K F S N I O D H : Type 0} → source.Ghosts R → sink.Ghosts K → files.Ghosts F → image_store.Ghosts S → listener.Ghosts N I O D H → R → K → F → S → N → Outside
outside r k f s n input output set images net = record {
  streams = streams_at r k input output;
  held = f.held set;
  conf_held = f.conf_held set;
  source_faults = f.faults set;
  images = images_at s images;
  given = n.given net;
  peer = n.peer net;
  net_faults = n.faults net;
}

-- what a daemon is told of it
abbrev pub daemon_outside : Outside → DaemonAt
daemon_outside o = record { output = o.streams.output; source_faults = o.source_faults; given = o.given; net_faults = o.net_faults }

abbrev pub streams_of : Outside → Outside → Streams
streams_of before after = record { before = before.streams; after = after.streams }

-- nothing was read of the input
abbrev pub InputStays : Outside → Outside → Type 0
InputStays before after = after.streams.input ≡ before.streams.input

-- the images, the listener and the files tell what they told
abbrev pub ImagesStay : Outside → Outside → Type 0
ImagesStay before after = after.images ≡ before.images

pub record NetStays (before after : Outside) : Type 0 where
  pub given_stays : after.given ≡ before.given
  pub peer_stays : after.peer ≡ before.peer
  pub calm : after.net_faults ≡ before.net_faults

pub record FilesStay (before after : Outside) : Type 0 where
  pub held_stays : after.held ≡ before.held
  pub conf_stays : after.conf_held ≡ before.conf_held
  pub calm : after.source_faults ≡ before.source_faults

-- no count of the files, of the output, or of the listener rose
abbrev pub SourcesCalm : Outside → Outside → Type 0
SourcesCalm before after = Rose before.source_faults after.source_faults → ⊥

abbrev pub OutputCalm : Outside → Outside → Type 0
OutputCalm before after = Rose before.streams.output.faults after.streams.output.faults → ⊥

abbrev pub NetCalm : Outside → Outside → Type 0
NetCalm before after = Rose before.net_faults after.net_faults → ⊥

-- ---- a question to a daemon

-- over a connection that was made, to the peer that was told, where one was told, this came of the question
pub record IsAsked {I O : Type 0} (i : source.Ghosts I) (o : sink.Ghosts O) (asked : AdminAsk) (peer : Option (List ℕ)) (before after : StreamAt) (exit : Exit) : Type 0 where
  pub conn_in : I
  pub conn_in' : I
  pub conn_out : O
  pub conn_out' : O
  pub reached : IsPeer peer (i.left conn_in)
  pub commands : Commands asked
      (record { conn_in = stream_in i conn_in; conn_out = stream_out o conn_out; output = before })
      (record { conn_in = stream_in i conn_in'; conn_out = stream_out o conn_out'; output = after })
      exit

-- what came of it: it was asked, or memory was short for a path, or there was no connection
abbrev pub Asks : {I O : Type 0} → source.Ghosts I → sink.Ghosts O → AdminAsk → Option (List ℕ) → StreamAt → StreamAt → ℕ → ℕ → Exit → Type 0
Asks i o asked peer before after faults faults' exit =
    (IsAsked i o asked peer before after exit × (faults' ≡ faults))
    ⊎ ((exit ≡ exits.NoMemory) × (after ≡ before) × (faults' ≡ faults))
    ⊎ ((exit ≡ exits.NetFault) × (after ≡ before) × Rose faults faults')

-- the ends of connections never fail
pub record NeverFail {I O : Type 0} (i : source.Ghosts I) (o : sink.Ghosts O) : Type 0 where
  pub inputs : (x : I) → i.faults x ≡ 0
  pub outputs : (x : O) → o.faults x ≡ 0

-- an answer came, good or bad, unless memory was short
abbrev pub TellsAnswered : Exit → Type 0
TellsAnswered exit = (exit ≡ exits.Ok) ⊎ (exit ≡ exits.NoMemory) ⊎ (exit ≡ exits.BadReply)

-- ---- a workload

-- it was run, unless memory was short
abbrev pub TellsWorked : Exit → Type 0
TellsWorked exit = (exit ≡ exits.Ok) ⊎ (exit ≡ exits.NoMemory)

-- ---- the daemon

-- the files of a database are left: with a gate, which answers all, none are
abbrev pub leaves_files : DaemonOptions → Bool
leaves_files service = not (is_some service.gate) && has_left service.scopes

-- settings were read, and a daemon ended so under them; where no folder is named and no file is left, a length that is told is that of one
-- of the files that were held, where these are told; at Ok an image of each persistent database was put, or that failed
pub record DaemonRan (told : Option (Option (List ℕ))) (service : DaemonOptions) (held : Option Content) (images images' : ImagesAt)
    (before after : DaemonAt) (exit : Exit) : Type 0 where
  pub settings : Conf
  pub of_config : ConfGives told (Ok settings)
  pub ends : EndsSo exit before after
  pub length : service.etc ≡ None → leaves_files service ≡ false → TellsHeldLength exit held
  pub put : exit ≡ exits.Ok → PutsImages settings images images'

-- a daemon ended, or no settings were read and it did not begin
abbrev pub DaemonCourse : Option (Option (List ℕ)) → DaemonOptions → Option Content → ImagesAt → ImagesAt → DaemonAt → DaemonAt → Exit → Type 0
DaemonCourse told service held images images' before after exit =
    DaemonRan told service held images images' before after exit
    ⊎ (NotSet told before.source_faults after.source_faults exit × (after ≡ record before { source_faults = after.source_faults }) × (images' ≡ images))

-- the daemon was told to end, or why a line is refused, unless memory was short
abbrev pub TellsServed : Result Conf ConfFault → Exit → Type 0
TellsServed (Ok settings) exit = (exit ≡ exits.Ok) ⊎ (exit ≡ exits.NoMemory)
TellsServed (Err fault) exit = TellsFault fault exit

-- under settings that were read, an image of each persistent database was put, or that failed
pub record PutsBySettings (told : Option (Option (List ℕ))) (images images' : ImagesAt) : Type 0 where
  pub settings : Conf
  pub of_config : ConfGives told (Ok settings)
  pub put : PutsImages settings images images'

-- ---- by the form

-- the configuration file of a replay, and of a daemon, as it is told
abbrev pub replay_told : Outside → Option (List ℕ) → Option (Option (List ℕ))
replay_told before config = config_told before.conf_held config

abbrev pub daemon_told : Outside → DaemonOptions → Option (Option (List ℕ))
daemon_told before service = before.conf_held (conf_path service.etc service.config)

-- What came of a run. Where the words have no form nothing was done.
abbrev pub RunsByForm : {I O : Type 0} → source.Ghosts I → sink.Ghosts O → Option Form → Outside → Outside → Exit → Type 0
RunsByForm i o None before after exit = ((exit ≡ exits.Usage) ⊎ (exit ≡ exits.NoMemory)) × (after ≡ before)
RunsByForm i o (Some (Replay config)) before after exit =
    Course (replay_told before config) before.source_faults after.source_faults (streams_of before after) exit
    × Counted exit (streams_of before after) × NetStays before after × ImagesStay before after
RunsByForm i o (Some (Ask asked folder)) before after exit =
    Asks i o asked before.peer before.streams.output after.streams.output before.net_faults after.net_faults exit
    × InputStays before after × FilesStay before after × ImagesStay before after
RunsByForm i o (Some (Workload number workers)) before after exit =
    PutsText exit (workload_of number) before.streams.output after.streams.output
    × InputStays before after × FilesStay before after × NetStays before after × ImagesStay before after
RunsByForm i o (Some (Daemon service)) before after exit =
    DaemonCourse (daemon_told before service) service before.held before.images after.images (daemon_outside before) (daemon_outside after) exit
    × InputStays before after

-- The command was done: the input was read to the end of its first E, and the output is that of the replay; or a daemon did what
-- was asked; or the lines of the workload were written; or the daemon was ready, was told to end, and put the images that its settings
-- ask for, or that failed.
abbrev pub IsDone : {I O : Type 0} → source.Ghosts I → sink.Ghosts O → Option Form → Outside → Outside → Type 0
IsDone i o None before after = ⊥
IsDone i o (Some (Replay config)) before after = IsReplayedBy (replay_told before config) (streams_of before after)
IsDone i o (Some (Ask asked folder)) before after = IsAsked i o asked before.peer before.streams.output after.streams.output exits.Ok
IsDone i o (Some (Workload number workers)) before after = Grows before.streams.output.bytes after.streams.output.bytes (workload_of number)
IsDone i o (Some (Daemon service)) before after = IsReady (daemon_outside before) (daemon_outside after) × LastTellsEnd before.given after.given × PutsBySettings (daemon_told before service) before.images after.images

-- What the exit tells where no fault came.
abbrev pub TellsByForm : {I O : Type 0} → source.Ghosts I → sink.Ghosts O → Option Form → Outside → Outside → Exit → Type 0
TellsByForm i o None before after exit = (exit ≡ exits.Usage) ⊎ (exit ≡ exits.NoMemory)
TellsByForm i o (Some (Replay config)) before after exit =
    SourcesCalm before after → StreamsCalm (streams_of before after)
    → IfSome (replay_told before config) (λ text. TellsAll before.streams.input.bytes (settings_by text) exit)
TellsByForm i o (Some (Ask asked folder)) before after exit =
    NeverFail i o → NetCalm before after → OutputCalm before after → TellsAnswered exit
TellsByForm i o (Some (Workload number workers)) before after exit = OutputCalm before after → TellsWorked exit
TellsByForm i o (Some (Daemon service)) before after exit =
    SourcesCalm before after → NetCalm before after → OutputCalm before after
    → IfSome (daemon_told before service) (λ text. TellsServed (settings_by text) exit)

-- ---- sockets

-- a daemon bound the two of its folder and the gate, where one is said, and no more; whoever is none bound nothing
abbrev pub BindsByForm : Option Form → Option (List Socket) → Option (List Socket) → Type 0
BindsByForm None before after = after ≡ before
BindsByForm (Some (Replay config)) before after = after ≡ before
BindsByForm (Some (Ask asked folder)) before after = after ≡ before
BindsByForm (Some (Workload number workers)) before after = after ≡ before
BindsByForm (Some (Daemon service)) before after = IsBound before after (sockets_of service.run_dir service.gate)
