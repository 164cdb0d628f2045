use Rattle.std.proofs.Common.{◌≤◌, ◌+◌, length, sym, rules}
use Rattle.nsc_outside.proofs.Memories.{Moves-copied}
use Rattle.nsc_sockets.proofs.peer_source.PeerSourceSource.read.Goals as goal

pub returns-clause-moved : goal.returns-clause-moved
returns-clause-moved c =
    let within : c.self.inside.next + c.min-count.result ≤ length c.self.inside.bytes = search rules in
    let copied = rw c.as_slice-bytes.ensures at c.copy_from_slice.ensures.after in
    Moves-copied c.self.inside.next c.min-count.result c.self.inside.bytes c.args.buf.now c.copy_from_slice.new.self c.args.self.now within (sym c.self.view_is) copied
