use Rattle.std.proofs.Common.{◌≤◌, ◌+◌, length, sym, ap, rules}
use Rattle.nsc_outside.specs.MemSource.{MemSource}
use Rattle.nsc_outside.proofs.Memories.{Moves-copied}
use Rattle.nsc_outside.proofs.mem_source.MemSourceSource.read.Goals as goal

pub returns-clause-moved : goal.returns-clause-moved
returns-clause-moved c =
    let within : c.self.inside.next + c.min-count.result ≤ length c.self.inside.bytes.items = search rules in
    let copied = rw c.as_slice-bytes.ensures.value at c.copy_from_slice.ensures.after in
    Moves-copied c.self.inside.next c.min-count.result c.self.inside.bytes.items c.args.buf.now c.copy_from_slice.new.self c.args.self.now.left within (sym (ap (λ (v : MemSource). v.left) c.self.view_is)) copied
