-- How the program ends: its status, what it tells, and which ends a task of it has.
use Rattle.std.specs.Prelude.{ℕ, List, [], ◌∷◌, ◌++◌, codes, decimal}
use Rattle.nsc_model.specs.declared.fault.CacheFault.{CacheFault}
use Rattle.nsc_model.specs.declared.fault.CacheFault.TheVariants as faults
use Rattle.nsc_model.specs.declared.exit.ConfFault.{ConfFault}
use Rattle.nsc_model.specs.declared.exit.ConfFault.TheVariants as lines
use Rattle.nsc_model.specs.declared.exit.Exit.{Exit}
use Rattle.nsc_model.specs.declared.exit.Exit.TheVariants as exits

abbrev pub status_of : Exit → ℕ
status_of exits.Ok = 0
status_of exits.Usage = 2
status_of exits.ReadFault = 3
status_of exits.WriteFault = 4
status_of (exits.BadFrame offset) = 5
status_of (exits.BadConf fault) = 6
status_of exits.SourceFault = 7
status_of exits.NetFault = 8
status_of (exits.Spent count) = 9
status_of exits.NoMemory = 10
status_of (exits.TooLong size) = 11
status_of exits.BadReply = 12
status_of (exits.AuditNo item) = 14

-- the line of a configuration that is refused, and why
abbrev pub conf_text : ConfFault → List ℕ
conf_text (lines.BadLine n) = codes "nscd: configuration line " ++ decimal n ++ codes ": bad line"
conf_text (lines.BadValue n) = codes "nscd: configuration line " ++ decimal n ++ codes ": bad value"
conf_text (lines.UnknownAttribute n) = codes "nscd: configuration line " ++ decimal n ++ codes ": unknown attribute"

-- what is told on standard error, without a newline
abbrev pub text_of : Exit → List ℕ
text_of exits.Ok = []
text_of exits.Usage = codes "nscd: usage"
text_of exits.ReadFault = codes "nscd: input failed"
text_of exits.WriteFault = codes "nscd: output failed"
text_of (exits.BadFrame offset) = codes "nscd: bad frame at " ++ decimal offset
text_of (exits.BadConf fault) = conf_text fault
text_of exits.SourceFault = codes "nscd: source file failed"
text_of exits.NetFault = codes "nscd: socket failed"
text_of (exits.Spent count) = codes "nscd: counter spent"
text_of exits.NoMemory = codes "nscd: no memory"
text_of (exits.TooLong size) = codes "nscd: file of " ++ decimal size ++ codes " bytes is too long"
text_of exits.BadReply = codes "nscd: bad reply from server"
text_of (exits.AuditNo item) = codes "nscd: audit failed at item " ++ decimal item

-- the same with a newline, and nothing at all where the command was done
abbrev pub line_of : Exit → List ℕ
line_of exits.Ok = []
line_of exit = text_of exit ++ 10 ∷ []

-- the exit where a cache gave up
abbrev pub exit_by : CacheFault → Exit
exit_by faults.NoMemory = exits.NoMemory
exit_by (faults.Spent count) = exits.Spent count

-- what the program is at: a replay, a daemon's service, a question to a daemon, a workload, or an audit
pub data Task : Type 0 where
  Replaying : Task
  Serving : Task
  Asking : Task
  Working : Task
  Auditing : Task

-- a task may end so, once its words and its settings were read
abbrev pub IsExitOf : Task → Exit → Type 0
IsExitOf task exits.Ok = Unit {0}
IsExitOf task exits.WriteFault = Unit {0}
IsExitOf task exits.NoMemory = Unit {0}
IsExitOf Replaying exits.ReadFault = Unit {0}
IsExitOf Replaying (exits.BadFrame offset) = Unit {0}
IsExitOf Replaying (exits.Spent count) = Unit {0}
IsExitOf Replaying (exits.TooLong size) = Unit {0}
IsExitOf Serving (exits.TooLong size) = Unit {0}
IsExitOf Serving exits.SourceFault = Unit {0}
IsExitOf Serving exits.NetFault = Unit {0}
IsExitOf Asking exits.NetFault = Unit {0}
IsExitOf Asking exits.BadReply = Unit {0}
IsExitOf Auditing exits.ReadFault = Unit {0}
IsExitOf Auditing (exits.BadFrame offset) = Unit {0}
IsExitOf Auditing (exits.AuditNo item) = Unit {0}
IsExitOf _ _ = ⊥
