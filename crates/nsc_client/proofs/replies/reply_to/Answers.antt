use Rattle.nsc_client.proofs.Passes.{refused_of}
use Rattle.nsc_client.proofs.replies.reply_to.Goals as goal

pub returns-clause-refused : goal.returns-clause-refused
returns-clause-refused g c =
    refused_of g.S.Store c.args.stores.now c.args.passes.now c.of-db.result c.store_of-store.result.now c.of_mut.result.now c.store_reply.new.pass (record { kind = c.args.kind; key = c.args.key.now }) c.store_reply.result
    c.of-db.ensures c.store_of-store.ensures c.of_mut.ensures.value c.store_reply.ensures.refused
