-- The command words: the options, the forms that they make, and the values in them.
use Rattle.std.specs.Prelude.{ℕ, Bool, true, false, ◌&&◌, nat_lt, not, is_some, if◌then◌else◌, List, map, Option, Some, None, unwrap_or, option_map, option_and_then, codes}
use Rattle.std.specs.Option.{option_map_or}
use Rattle.std.specs.Str.{bytes_eq}
use Rattle.std.specs.String.{string_bytes}
use Rattle.std.specs.declared.string.String.{String}
use Rattle.clap.specs.Walk.{Row, Rule, Text, first_of, is_empty}
use Rattle.clap.specs.Simple.{App, matches_of, new_app, new_rule, on_top, with_rule}
use Rattle.clap.specs.Faults.{fault_of}
use Rattle.clap.specs.declared.builder.action.ArgAction.TheVariants.{Set, SetTrue}
use Rattle.clap.specs.declared.builder.value_parser.ValueParser.TheVariants.{NonEmptyString}
use Rattle.nsc_base.specs.Decimal.{decimal_of}
use Rattle.nsc_model.specs.Kinds.{db_named}
use Rattle.nsc_server.specs.declared.scope.Scopes.{Scopes}
use Rattle.nsc_control.specs.declared.ask.AdminAsk.{AdminAsk}
use Rattle.nsc_control.specs.declared.ask.AdminAsk.TheVariants as ask
use Rattle.nsc_run.specs.Lists.{scopes_of}

-- ---- the options

-- an option with no value, `--NAME`
abbrev pub flag : Text → Rule
flag name = record (new_rule name) { long = Some name; action = Some SetTrue }

-- an option with a value, `--NAME VALUE`, which is a text that is not empty
abbrev pub valued : Text → Rule
valued name = record (new_rule name) { long = Some name; action = Some Set; parser = Some NonEmptyString }

-- the same option by a letter too
abbrev pub lettered : ℕ → Rule → Rule
lettered letter option = record option { short = Some letter }

-- a command that has no options, none for help or the version either, and whose words leave out its own name
abbrev pub bare_app : App
bare_app = on_top (λ s. record s { no_binary_name = true; disable_help_flag = true; disable_version_flag = true }) (new_app (codes "nscd"))

-- the options that say what to do: `--replay`, `-g`, `-K`, `-i DATABASE`, and `--workload NUMBER`
abbrev pub errand_app : App
errand_app = with_rule (with_rule (with_rule (with_rule (with_rule bare_app
    (flag (codes "replay")))
    (lettered 103 (flag (codes "statistics"))))
    (lettered 75 (flag (codes "shutdown"))))
    (lettered 105 (valued (codes "invalidate"))))
    (valued (codes "workload"))

-- and those that say how: `-f FILE`, `-F`, `-t NUMBER`, `--etc FOLDER`, `--run-dir FOLDER`, `--gate PATH`
abbrev pub service_app : App
service_app = with_rule (with_rule (with_rule (with_rule (with_rule (with_rule errand_app
    (lettered 102 (valued (codes "config-file"))))
    (lettered 70 (flag (codes "foreground"))))
    (lettered 116 (valued (codes "nthreads"))))
    (valued (codes "etc")))
    (valued (codes "run-dir")))
    (valued (codes "gate"))

-- and those that name databases: `--found-only LIST`, `--leave LIST`
abbrev pub command_app : App
command_app = with_rule (with_rule service_app
    (valued (codes "found-only")))
    (valued (codes "leave"))

-- the words as bytes
abbrev pub texts : {Z : Type 0} → List (String Z) → List Text
texts words = map (λ w. string_bytes w) words

-- clap refuses the words for no reason, so it takes them, but for want of memory
abbrev pub is_command : List Text → Bool
is_command words = is_empty (fault_of command_app words)

-- the options that occur, and their values
pub record Options : Type 0 where
  pub replay : Bool
  pub statistics : Bool
  pub shutdown : Bool
  pub invalidate : Option Text
  pub workload : Option Text
  pub config : Option Text
  pub foreground : Bool
  pub threads : Option Text
  pub etc : Option Text
  pub run_dir : Option Text
  pub gate : Option Text
  pub found_only : Option Text
  pub leave : Option Text

abbrev pub has_flag : Text → List Row → Bool
has_flag name rows = option_map_or (λ text. bytes_eq text (codes "true")) (first_of name rows) false

abbrev pub options_of : List Row → Options
options_of rows = record {
  replay = has_flag (codes "replay") rows;
  statistics = has_flag (codes "statistics") rows;
  shutdown = has_flag (codes "shutdown") rows;
  invalidate = first_of (codes "invalidate") rows;
  workload = first_of (codes "workload") rows;
  config = first_of (codes "config-file") rows;
  foreground = has_flag (codes "foreground") rows;
  threads = first_of (codes "nthreads") rows;
  etc = first_of (codes "etc") rows;
  run_dir = first_of (codes "run-dir") rows;
  gate = first_of (codes "gate") rows;
  found_only = first_of (codes "found-only") rows;
  leave = first_of (codes "leave") rows;
}

-- ---- the forms

-- how a daemon is to run: under which configuration file, with how many workers, over the files of which folder, where these are
-- said, with its sockets in which folder, with a gate at which path, where one is said, and in which scopes
pub record DaemonOptions : Type 0 where
  pub config : Option Text
  pub workers : Option ℕ
  pub etc : Option Text
  pub run_dir : Text
  pub gate : Option Text
  pub scopes : Scopes

-- what to do: to replay the input under a configuration file, where one is named; to ask something of the daemon whose sockets
-- stand in a folder; to run the workload of a number by as many workers; or to be the daemon
pub data Form : Type 0 where
  Replay : Option Text → Form
  Ask : AdminAsk → Text → Form
  Workload : ℕ → ℕ → Form
  Daemon : DaemonOptions → Form

-- the folder of the sockets
abbrev pub run_dir_of : Option Text → Text
run_dir_of folder = unwrap_or folder (codes "/var/run/nscd")

-- a decimal number above 0 and below a limit
abbrev pub number_below : ℕ → Text → Option ℕ
number_below limit text = option_and_then (λ n. if nat_lt 0 n && nat_lt n limit then Some n else None) (decimal_of text)

-- a number of workers: 1 to 64
abbrev pub workers_in : Text → Option ℕ
workers_in text = number_below 65 text

-- the same where none need be given
abbrev pub workers_of : Option Text → Option (Option ℕ)
workers_of None = Some None
workers_of (Some text) = option_map (λ n. Some n) (workers_in text)

-- no option occurs that is the daemon's alone
abbrev pub is_no_service : Options → Bool
is_no_service o =
    not o.foreground && not (is_some o.threads) && not (is_some o.etc) && not (is_some o.gate) && not (is_some o.found_only) && not (is_some o.leave)

-- a replay may have a configuration file
abbrev pub replay_form : Options → Option Form
replay_form o = if is_no_service o && not (is_some o.run_dir) then Some (Replay o.config) else None

-- a question may have a folder of sockets
abbrev pub ask_form : AdminAsk → Options → Option Form
ask_form asked o = if is_no_service o && not (is_some o.config) then Some (Ask asked (run_dir_of o.run_dir)) else None

-- a workload has a number, 1 to 1,000, and may have a number of workers, 4 where none is said
abbrev pub workload_form : Text → Options → Option Form
workload_form text o =
    if not o.foreground && not (is_some o.config) && not (is_some o.gate) && not (is_some o.found_only) && not (is_some o.leave) && not (is_some o.etc)
    && not (is_some o.run_dir)
    then option_and_then (λ number. option_map (λ workers. Workload number (unwrap_or workers 4)) (workers_of o.threads)) (number_below 1001 text)
    else None

-- a daemon may have all that says how
abbrev pub daemon_with : Options → Option ℕ → Scopes → Form
daemon_with o workers scopes =
    Daemon (record { config = o.config; workers = workers; etc = o.etc; run_dir = run_dir_of o.run_dir; gate = o.gate; scopes = scopes })

abbrev pub daemon_form : Options → Option Form
daemon_form o = option_and_then (λ workers. option_map (λ scopes. daemon_with o workers scopes) (scopes_of o.found_only o.leave)) (workers_of o.threads)

-- At most one option says what to do, and where none does it is the daemon.
abbrev pub form_by : Bool → Bool → Bool → Option Text → Option Text → Options → Option Form
form_by true false false None None o = replay_form o
form_by false true false None None o = ask_form ask.Stat o
form_by false false true None None o = ask_form ask.Shutdown o
form_by false false false (Some name) None o = option_and_then (λ which. ask_form (ask.Invalidate which) o) (db_named name)
form_by false false false None (Some text) o = workload_form text o
form_by false false false None None o = daemon_form o
form_by _ _ _ _ _ o = None

abbrev pub form_with : Options → Option Form
form_with o = form_by o.replay o.statistics o.shutdown o.invalidate o.workload o

-- the form of words, where they have one
abbrev pub form_of : List Text → Option Form
form_of words = if is_command words then form_with (options_of (matches_of command_app words)) else None
