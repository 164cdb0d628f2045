-- Ends of connections in memory, and helpers, may go to other threads.
use denote.RattleType.{RattleType}
use denote.Param.Send.{IsSend, IsSync, sendable}
use Rattle.std.proofs.Crossing.{crosses}
use Rattle.nsc_base.specs.contracts.bytes.Bytes as bytes
use Rattle.nsc_closers.proofs.Crossing.{closers-send, closers-sync}
use Rattle.nsc_outside.proofs.Crossing.{release-send}
use Rattle.nsc_sockets.specs.contracts.peer_source.PeerSource as peer_source
use Rattle.nsc_sockets.specs.contracts.calm_listener.CalmSink as calm_sink
use Rattle.nsc_sockets.specs.contracts.shared_sink.Page as page
use Rattle.nsc_sockets.specs.contracts.shared_sink.SharedSink as shared_sink
use Rattle.nsc_sockets.specs.contracts.shared_sink.SinkReader as sink_reader
use Rattle.nsc_sockets.specs.contracts.stream.Stream as stream
use Rattle.nsc_sockets.specs.contracts.departure.Departure as departure
use Rattle.nsc_sockets.specs.contracts.unix_helper.UnixHelper as unix_helper

bytes-send : IsSend bytes.the_row
bytes-send = search (sendable, crosses) depth 30

pub peer_source-send : IsSend peer_source.the_row
peer_source-send = search (sendable, crosses, bytes-send) depth 30

pub calm_sink-send : IsSend calm_sink.the_field.row
calm_sink-send = search sendable

page-send : IsSend page.the_field.row
page-send = search (sendable, crosses) depth 30

page-sync : IsSync page.the_field.row
page-sync = search (sendable, crosses) depth 30

pub shared_sink-send : IsSend shared_sink.the_row
shared_sink-send = search (sendable, crosses, page-send, page-sync, release-send) depth 30

pub sink_reader-send : IsSend sink_reader.the_field.row
sink_reader-send = search (sendable, crosses, page-send, page-sync) depth 30

stream-send : IsSend stream.the_row
stream-send = search (sendable, crosses) depth 30

stream-sync : IsSync stream.the_row
stream-sync = search (sendable, crosses) depth 30

departure-send : IsSend departure.the_row
departure-send = search (sendable, crosses, stream-send, stream-sync) depth 30

pub unix_helper-send : (R : RattleType) → IsSend R → IsSync R → IsSend (unix_helper.the_row R)
unix_helper-send R sends syncs = search (sendable, crosses, stream-send, stream-sync, departure-send, closers-send, closers-sync) depth 60 fits 60000
