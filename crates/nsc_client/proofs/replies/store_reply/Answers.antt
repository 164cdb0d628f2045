use Rattle.nsc_client.proofs.FallenBack.{fallen_fault, fallen_replies, fault_seen, seen_on}
use Rattle.nsc_client.proofs.replies.store_reply.Goals as goal

pub returns-in-Err-clause-seen : goal.returns-in-Err-clause-seen
returns-in-Err-clause-seen g c =
    let asked = c.in-Err.ensures.asked in
    fault_seen g.S.Store c.args.store.now c.args.pass.now asked.1.between c.ask.new.pass (record { kind = c.args.kind; key = c.args.key.now }) c.args.now c.ask.new.out.content asked.0 c.in-Err.fault asked.1.searched asked.1.called

pub returns-in-Err-clause-refused : goal.returns-in-Err-clause-refused
returns-in-Err-clause-refused g c =
    let asked = c.in-Err.ensures.asked in
    fallen_fault g.S.Store c.args.store.now c.args.pass.now asked.1.between c.ask.new.pass (record { kind = c.args.kind; key = c.args.key.now }) c.args.now c.ask.new.out.content asked.0 c.in-Err.fault asked.1.searched asked.1.called

pub returns-in-Ok-Linked-clause-seen : goal.returns-in-Ok-Linked-clause-seen
returns-in-Ok-Linked-clause-seen g c =
    let asked = rw c.in-Ok-Linked.field-0-is at c.in-Ok-Linked.ensures.asked in
    seen_on (g.S.Store.at c.args.pass.now).seen (g.S.Store.at asked.between).seen (g.S.Store.at c.ask.new.pass).seen asked.searched.seen asked.called.left.seen

pub returns-in-Ok-Linked-clause-replied : goal.returns-in-Ok-Linked-clause-replied
returns-in-Ok-Linked-clause-replied g c =
    let asked = rw c.in-Ok-Linked.field-0-is at c.in-Ok-Linked.ensures.asked in
    fallen_replies g.S.Store c.args.store.now c.args.pass.now asked.between c.ask.new.pass (record { kind = c.args.kind; key = c.args.key.now }) c.args.now c.ask.new.out.content c.in-Ok-Linked.bytes c.as_slice.result.now
    c.in-Ok-Linked.field-0-0 c.read_back-in-Ok-Linked.result asked.searched asked.called c.as_slice.ensures c.read_back-in-Ok-Linked.ensures.spelled
