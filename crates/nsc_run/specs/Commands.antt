-- The configuration that words name, and what is claimed of a replay.
use Rattle.std.specs.Prelude.{◌≡◌, ℕ, ◌⊎◌, Bool, false, List, ◌++◌, drop, Option, Some, None, IfSome, Result, Ok, Err, codes, unwrap_or, min, max}
use Rattle.nsc_outside.specs.Stream.{Grows}
use Rattle.nsc_model.specs.Reads.{IsAsTold, Rose}
use Rattle.nsc_outside.specs.FileSets.{IsPastLimit}
use Rattle.nsc_model.specs.Frames.{Finish, Done, Bad, Long, Spent}
use Rattle.nsc_model.specs.declared.conf.Conf.{Conf}
use Rattle.nsc_model.specs.Replay.{first_state, replay}
use Rattle.nsc_model.specs.declared.exit.ConfFault.{ConfFault}
use Rattle.nsc_model.specs.declared.exit.Exit.{Exit}
use Rattle.nsc_model.specs.declared.exit.Exit.TheVariants as exits
use Rattle.nsc_model.specs.Settings.{default_settings}
use Rattle.nsc_daemonconf.specs.Lines.{conf_of}
use Rattle.nsc_model.specs.Sizes.{SizesFit}
use Rattle.nsc_replay.specs.Streams.{Streams}
use Rattle.nsc_replay.specs.Runs.{ReplayRun}

-- why words are refused, by the exit: memory was short, or they are not what they should be
abbrev pub RefusesWords : Bool → Exit → Type 0
RefusesWords good exit = (exit ≡ exits.NoMemory) ⊎ ((exit ≡ exits.Usage) × (good ≡ false))

-- the same of what was made of them
abbrev pub RefusesForm : {A : Type 0} → Option A → Exit → Type 0
RefusesForm made exit = (exit ≡ exits.NoMemory) ⊎ ((exit ≡ exits.Usage) × (made ≡ None))

-- ---- the configuration

-- what is told of the configuration at a path: absent, or its bytes; with no path, it is told to be absent
abbrev pub config_told : (List ℕ → Option (Option (List ℕ))) → Option (List ℕ) → Option (Option (List ℕ))
config_told held None = Some None
config_told held (Some path) = held path

-- the path of the configuration file of a daemon: the one that is named, or else the one beside nsswitch.conf, which is in the
-- folder of the source files where one is named
abbrev pub conf_path : Option (List ℕ) → Option (List ℕ) → List ℕ
conf_path etc (Some path) = path
conf_path (Some folder) None = folder ++ codes "/nscd.conf"
conf_path None None = codes "/etc/nscd.conf"

-- how many workers there are: the number that is named, or else that of the settings, but at least 1 and at most 64
abbrev pub worker_count : Option ℕ → Conf → ℕ
worker_count named settings = unwrap_or named (max 1 (min 64 settings.threads))

-- the settings that a configuration gives, or why it is refused; an absent one gives the defaults
abbrev pub settings_by : Option (List ℕ) → Result Conf ConfFault
settings_by None = Ok default_settings
settings_by (Some text) = conf_of text

-- a configuration was read, the one that is told where one is told, and this is what it gives
pub record ConfGives (told : Option (Option (List ℕ))) (outcome : Result Conf ConfFault) : Type 0 where
  pub config : Option (List ℕ)
  pub as_told : IsAsTold told config
  pub gives : settings_by config ≡ outcome

-- Settings that were read, and the set's count of faults, which stays.
pub record IsSet (told : Option (Option (List ℕ))) (before after : ℕ) (settings : Conf) : Type 0 where
  pub of_config : ConfGives told (Ok settings)
  pub sizes : SizesFit settings
  pub calm : after ≡ before

-- why no settings were read, by the exit, with the set's count of faults
abbrev pub NotSet : Option (Option (List ℕ)) → ℕ → ℕ → Exit → Type 0
NotSet told before after (exits.BadConf fault) = ConfGives told (Err fault) × (after ≡ before)
NotSet told before after exits.SourceFault = Rose before after
NotSet told before after (exits.TooLong size) = IsPastLimit told size × Rose before after
NotSet told before after exits.NoMemory = after ≡ before
NotSet told before after _ = ⊥

-- ---- the whole run

-- The replay of what the source had is done: the source stands right after its first E, and the sink took exactly the
-- output.
pub record IsReplayed (settings : Conf) (bytes : List ℕ) (streams : Streams) : Type 0 where
  pub place : ℕ
  pub done : (replay settings bytes).finish ≡ Done place
  pub left_is : streams.after.input.bytes ≡ Some (drop place bytes)
  pub grown : Grows streams.before.output.bytes streams.after.output.bytes (replay settings bytes).output

-- the exit that tells how a replay ends, unless memory was short
abbrev pub exit_at : Finish → Exit
exit_at (Done place) = exits.Ok
exit_at (Bad place) = exits.BadFrame place
exit_at (Long size) = exits.TooLong size
exit_at (Spent count) = exits.Spent count

abbrev pub TellsFinish : Finish → Exit → Type 0
TellsFinish finish exit = (exit ≡ exit_at finish) ⊎ (exit ≡ exits.NoMemory)

-- no count of faults of the streams rose
pub record StreamsCalm (streams : Streams) : Type 0 where
  pub input : Rose streams.before.input.faults streams.after.input.faults → ⊥
  pub output : Rose streams.before.output.faults streams.after.output.faults → ⊥

-- the exit tells why a line is refused, unless memory was short
abbrev pub TellsFault : ConfFault → Exit → Type 0
TellsFault fault exit = (exit ≡ exits.BadConf fault) ⊎ (exit ≡ exits.NoMemory)

-- the replay began, with settings that were read
pub record Ran (told : Option (Option (List ℕ))) (faults_before faults_after : ℕ) (streams : Streams) (exit : Exit) : Type 0 where
  pub settings : Conf
  pub is_set : IsSet told faults_before faults_after settings
  pub run : ReplayRun settings first_state 0 streams exit

-- the replay ran, or no settings were read, and then it did not begin: nothing was read and nothing written
abbrev pub Course : Option (Option (List ℕ)) → ℕ → ℕ → Streams → Exit → Type 0
Course told faults_before faults_after streams exit =
    Ran told faults_before faults_after streams exit
    ⊎ (NotSet told faults_before faults_after exit × (streams.after ≡ streams.before))

-- the replay of what the source had is done, with settings that were read
pub record IsReplayedBy (told : Option (Option (List ℕ))) (streams : Streams) : Type 0 where
  pub settings : Conf
  pub of_config : ConfGives told (Ok settings)
  pub replayed : IfSome streams.before.input.bytes (λ bytes. IsReplayed settings bytes streams)

-- the exit tells how the replay of the source ends with these settings, or why a line is refused
abbrev pub TellsAll : Option (List ℕ) → Result Conf ConfFault → Exit → Type 0
TellsAll before (Ok settings) exit = IfSome before (λ bytes. TellsFinish (replay settings bytes).finish exit)
TellsAll before (Err fault) exit = TellsFault fault exit
