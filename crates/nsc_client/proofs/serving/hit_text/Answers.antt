use Rattle.std.proofs.Common.{ℕ, List, subst}
use Rattle.nsc_client.specs.Hits.{SaysHit}
use Rattle.nsc_client.proofs.Gathering.{hit_answered}
use Rattle.nsc_client.proofs.serving.hit_text.Goals as goal

pub returns-in-Ok-write_hit-clause-answered : goal.returns-in-Ok-write_hit-clause-answered
returns-in-Ok-write_hit-clause-answered g c =
    let text = c.write_hit.new.text.items in
    let says = subst (λ (b : List ℕ). SaysHit c.in-Some.hit b text) c.bytes.ensures.content c.in-Ok-write_hit.ensures in
    hit_answered g.S.Store c.args.passes.now c.find_hit.new.passes c.args.line.now text c.in-Ok.asking c.find_hit.new.out.content c.in-Some.hit c.requires.fits c.in-Ok.ensures.asks c.in-Some.ensures.hit says
