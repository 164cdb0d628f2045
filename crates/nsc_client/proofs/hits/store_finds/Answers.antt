use Rattle.nsc_client.proofs.FoundInPlace.{found_at}
use Rattle.nsc_client.proofs.hits.store_finds.Goals as goal

pub returns-in-Hit-clause-found : goal.returns-in-Hit-clause-found
returns-in-Hit-clause-found g c =
    let hit = c.in-Hit in
    found_at (g.S.Store.at c.args.pass.now).seen (g.S.Store.at c.in_place.new.pass).seen (record { kind = c.args.kind; key = c.args.key.now }) (g.S.Store.at c.in_place.new.pass).first (g.S.Store.at c.in_place.new.pass).last
    c.in_place.new.out.content hit.number hit.version hit.not_found hit.ensures.seen hit.ensures.answer
