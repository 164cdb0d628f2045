-- What is made ready of a content may go to other threads, and be shared among them.
use denote.Param.Send.{IsSend, IsSync, sendable}
use Rattle.std.proofs.Crossing.{crosses}
use Rattle.nsc_model.proofs.Crossing.{content-send, content-sync}
use Rattle.nsc_answer.proofs.Crossing.{lists-send, lists-sync}
use Rattle.nsc_answer.proofs.Crossing.{ready-send as listed-send, ready-sync as listed-sync}
use Rattle.nsc_index.specs.contracts.chains.Chains as chains
use Rattle.nsc_index.specs.contracts.indexed_content.IndexedContent as prepared
use Rattle.nsc_index.specs.contracts.indexed.ReadyContent as ready

chains-send : IsSend chains.the_row
chains-send = search (sendable, crosses) depth 30

chains-sync : IsSync chains.the_row
chains-sync = search (sendable, crosses) depth 30

prepared-send : IsSend prepared.the_row
prepared-send = search (sendable, crosses, chains-send, lists-send, content-send, content-sync) depth 30

prepared-sync : IsSync prepared.the_row
prepared-sync = search (sendable, crosses, chains-sync, lists-sync, content-send, content-sync) depth 30

pub ready-send : IsSend ready.the_row
ready-send = search (sendable, crosses, listed-send, prepared-send) depth 30

pub ready-sync : IsSync ready.the_row
ready-sync = search (sendable, crosses, listed-sync, prepared-sync) depth 30
