use Rattle.nsc_client.proofs.Spelling.{found_spells}
use Rattle.nsc_client.proofs.asking.ask.Goals as goal

pub returns-in-Hit-clause-spelled : goal.returns-in-Hit-clause-spelled
returns-in-Hit-clause-spelled g c =
    let after = c.in_place-after.new.pass in
    found_spells (g.S.Store.at c.args.pass.now).seen (g.S.Store.at after).seen (record { kind = c.args.kind; key = c.args.key.now }) (g.S.Store.at after).first (g.S.Store.at after).last c.in_place-after.new.out.content
    c.in-Hit.number c.in-Hit.version c.in-Hit.not_found c.in-Hit.ensures.seen c.in-Hit.ensures.answer
