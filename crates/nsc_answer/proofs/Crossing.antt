-- What is made ready of a content may go to other threads, and be shared among them.
use denote.Param.Send.{IsSend, IsSync, sendable}
use Rattle.std.proofs.Crossing.{crosses}
use Rattle.nsc_model.proofs.Crossing.{content-send, content-sync}
use Rattle.nsc_model.specs.contracts.switch.SwitchStep as step
use Rattle.nsc_switch.specs.contracts.lists.Lists as lists
use Rattle.nsc_answer.specs.contracts.listed.Listed as listed

step-send : IsSend step.the_row
step-send = search (sendable, crosses) depth 30

step-sync : IsSync step.the_row
step-sync = search (sendable, crosses) depth 30

pub lists-send : IsSend lists.the_row
lists-send = search (sendable, crosses, step-send) depth 30

pub lists-sync : IsSync lists.the_row
lists-sync = search (sendable, crosses, step-sync) depth 30

pub ready-send : IsSend listed.the_row
ready-send = search (sendable, crosses, lists-send, content-send, content-sync) depth 30

pub ready-sync : IsSync listed.the_row
ready-sync = search (sendable, crosses, lists-sync, content-send, content-sync) depth 30
