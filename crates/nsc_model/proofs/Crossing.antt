-- Contents, entries and what they are made of may go to other threads, and be shared among them.
use denote.Param.Send.{IsSend, IsSync, sendable}
use Rattle.std.proofs.Crossing.{crosses}
use Rattle.nsc_base.specs.contracts.bytes.Bytes as bytes
use Rattle.nsc_model.specs.contracts.content.Held as held
use Rattle.nsc_model.specs.contracts.content.Text as text
use Rattle.nsc_model.specs.contracts.content.Content as content
use Rattle.nsc_model.specs.contracts.answer.Answer as answer
use Rattle.nsc_model.specs.contracts.answer.Request as request
use Rattle.nsc_model.specs.contracts.record.Entry as entry

pub bytes-send : IsSend bytes.the_row
bytes-send = search (sendable, crosses) depth 30

pub bytes-sync : IsSync bytes.the_row
bytes-sync = search (sendable, crosses) depth 30

held-send : IsSend held.the_row
held-send = search (sendable, crosses, bytes-send, bytes-sync) depth 30

held-sync : IsSync held.the_row
held-sync = search (sendable, crosses, bytes-send, bytes-sync) depth 30

text-send : IsSend text.the_row
text-send = search (sendable, crosses, held-send) depth 30

text-sync : IsSync text.the_row
text-sync = search (sendable, crosses, held-sync) depth 30

pub content-send : IsSend content.the_row
content-send = search (sendable, crosses, text-send) depth 30

pub content-sync : IsSync content.the_row
content-sync = search (sendable, crosses, text-sync) depth 30

pub answer-send : IsSend answer.the_row
answer-send = search (sendable, crosses, bytes-send) depth 30

pub request-send : IsSend request.the_row
request-send = search (sendable, crosses, bytes-send) depth 30

pub entry-send : IsSend entry.the_row
entry-send = search (sendable, crosses, answer-send, request-send) depth 30
