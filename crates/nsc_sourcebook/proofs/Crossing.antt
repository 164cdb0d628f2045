-- A source book may go to another thread, where its file set and what is made ready of a content may.
use denote.RattleType.{RattleType}
use denote.Param.Send.{IsSend, IsSync, sendable}
use Rattle.std.proofs.Crossing.{crosses}
use Rattle.nsc_model.specs.declared.answerer.Answerer as answerer
use Rattle.nsc_outside.specs.declared.files.FileSet as file_set
use Rattle.nsc_seats.proofs.Crossing.{seats-send}
use Rattle.nsc_sourcebook.specs.contracts.book.SourceBook as book

pub book-send : (F A R : RattleType) (f : file_set.Ghosts F.Denot) (a : answerer.Ghosts A.Denot R.Denot) → IsSend F → IsSend R → IsSync R → IsSend (book.the_row F A R f a)
book-send F A R f a files ready shared = search (sendable, crosses, seats-send) depth 30
