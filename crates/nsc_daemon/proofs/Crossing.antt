-- A helper may go to another thread, if its databases may be shared, and what it has of them and of connections may go there.
use denote.RattleType.{RattleType}
use denote.Param.Send.{IsSend, IsSync, sendable}
use Rattle.std.proofs.Crossing.{crosses}
use Rattle.nsc_model.specs.declared.store.Store as store
use Rattle.nsc_daemon.specs.contracts.helping.Helping as helping

pub helping-send : (S R K H P : RattleType) (g : store.Ghosts S.Denot P.Denot) → IsSend S → IsSync S → IsSend R → IsSend K → IsSend H → IsSend P
    → IsSend (helping.the_row S R K H P g)
helping-send S R K H P g base shared input output helper pass = search (sendable, crosses) depth 60 fits 60000
