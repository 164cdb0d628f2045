use Rattle.std.proofs.Common.{sym, subst}
use Rattle.nsc_reader.specs.declared.stage.Progress.{Progress}
use Rattle.nsc_reader.specs.declared.stage.Progress.TheVariants.{Under}
use Rattle.nsc_reader.specs.Stages.{HasCome, Nears, asked, left_at}
use Rattle.nsc_reader.proofs.Runs.{comes_then, nears_by}
use Rattle.nsc_reader.proofs.walk.Walk.past_node.Goals as goal

pub returns-in-Under-clause-nears : goal.returns-in-Under-clause-nears
returns-in-Under-clause-nears g c =
    let layout = c.args.map.now.layout in
    let request = asked c.args.self.now.kind c.args.key.now in
    let p = c.args.pass.now in
    let was = c.in-Under.stage in
    let key = c.past_key-stage in
    let reloads = c.past_reloads-is_reloaded in
    let answer = c.past_answer-stage in
    let content = answer.new.out.content in
    let stands = subst (λ (q : Progress). HasCome layout request g.content p q) c.in-Under.is c.requires.1.1.1.1 in
    let looked = comes_then layout p key.new.pass reloads.new.pass g.content g.content (left_at layout was) key.result key.result key.ensures.comes reloads.ensures.comes in
    let comes = comes_then layout p reloads.new.pass answer.new.pass g.content content (left_at layout was) key.result answer.result looked answer.ensures.comes in
    subst (λ (q : Progress). Nears layout request q p answer.new.pass content (Under c.in-Under.first answer.result)) (sym c.in-Under.is)
    (nears_by layout request c.in-Under.first was p answer.new.pass content answer.result stands.0 stands.1 comes)
