-- Sets of files that hold one content may go to other threads, and a workload that is to be done may be shared among them.
use denote.RattleType.{RattleType}
use denote.Param.Send.{IsSend, IsSync, sendable}
use denote.Ref.{NamedLft}
use Rattle.std.proofs.Crossing.{crosses}
use Rattle.nsc_model.proofs.Crossing.{content-send, content-sync}
use Rattle.nsc_index.proofs.Crossing.{ready-send, ready-sync}
use Rattle.nsc_index.specs.contracts.indexed.Indexed as indexed
use Rattle.nsc_database.specs.declared.room.Room as room
use Rattle.nsc_database.proofs.Crossing.{database-sync}
use Rattle.nsc_workload.specs.declared.fixed_files.OfContent as of_content
use Rattle.nsc_workload.specs.contracts.fixed_files.FixedFiles as fixed_files
use Rattle.nsc_workload.specs.contracts.assignment.Assignment as assignment

pub files-send : (C : RattleType) (o : of_content.Ghosts C.Denot) → IsSend C → IsSend (fixed_files.the_row C o)
files-send C o content = search (sendable, crosses, content-send, content-sync) depth 30

indexed-sync : IsSync indexed.the_row
indexed-sync = search sendable

pub assignment-sync : (κ : NamedLft) (C B : RattleType) (o : of_content.Ghosts C.Denot) (r : room.Ghosts B.Denot) → IsSend C → IsSend B → IsSync (assignment.the_row κ C B o r)
assignment-sync κ C B o r content asked = search (sendable, crosses, indexed-sync, files-send, database-sync, ready-send, ready-sync) depth 40
