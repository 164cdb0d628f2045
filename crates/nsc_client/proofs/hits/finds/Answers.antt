use Rattle.nsc_client.proofs.FoundInPlace.{finds_with, searches_with}
use Rattle.nsc_client.proofs.hits.finds.Goals as goal

pub returns-clause-searched : goal.returns-clause-searched
returns-clause-searched g c =
    searches_with g.S.Store c.args.passes.now c.of-db.result c.of_mut.result.now c.store_finds.new.pass c.of_mut.ensures.value c.store_finds.ensures.searches c.store_finds.ensures.no_fault

pub returns-clause-found : goal.returns-clause-found
returns-clause-found g c =
    finds_with g.S.Store c.args.passes.now c.of-db.result c.of_mut.result.now c.store_finds.new.pass (record { kind = c.args.kind; key = c.args.key.now }) c.store_finds.new.out.content c.store_finds.result
    c.of-db.ensures c.of_mut.ensures.value c.store_finds.ensures.searches c.store_finds.ensures.no_fault c.store_finds.ensures.seen c.store_finds.ensures.found
