use Rattle.std.proofs.Common.{◌≡◌, ◌∙◌, ℕ, ◌+◌, ◌*◌, ◌<◌, sym, ap, subst, arith}
use Rattle.nsc_words.specs.declared.layout.Layout.{Layout}
use Rattle.nsc_rule.specs.declared.view.Search.{Search}
use Rattle.nsc_rule.specs.Searches.{IsSteady}
use Rattle.nsc_reader.specs.Stages.{Arrives, AtStage, left_at}
use Rattle.nsc_reader.proofs.Chains.{arrives, keeps_went, next_wrong}
use Rattle.nsc_reader.proofs.chain.load_next.Goals as goal

pub returns-then-found-place : goal.returns-then-found-place
returns-then-found-place c =
    let p = c.args.pass.now in
    let layout = c.args.map.now.layout in
    let new = c.next-found.new.self in
    let told = c.next-found.ensures in
    let at = arrives layout p new c.next-found.result told.seen told.lands c.requires.at.node.begun in
    record {
      goes = λ content. record {
        keeps = keeps_went layout p new c.next-found.result told.table told.seen told.lands;
        steps = ap (λ (w : Search). w.steps) told.lands.searching;
        at = next_wrong layout content p new c.args.place c.next-found.result at (subst (λ (n : ℕ). IsSteady new.searching → c.next-found.result < n) c.requires.at.node.place_is told.lower) c.if-found-place.true;
        fewer = omega arith;
      };
    }

pub returns : goal.returns
returns c =
    let p = c.args.pass.now in
    let layout = c.args.map.now.layout in
    let new = c.next-found.new.self in
    let told = c.next-found.ensures in
    let same : c.layout-layout.result ≡ layout = c.layout-layout.ensures.layout in
    let at = arrives layout p new c.next-found.result told.seen told.lands c.requires.at.node.begun in
    let key : new.searching.request.key ≡ c.args.key.now = ap (λ (w : Search). w.request.key) told.lands.searching ∙ c.requires.key in
    record {
      goes = λ content. record {
        keeps = keeps_went layout p new c.next-found.result told.table told.seen told.lands;
        steps = ap (λ (w : Search). w.steps) told.lands.searching;
        at = subst (λ (l : Layout). AtStage l content c.arrive.result new) same (c.arrive.ensures.at content new key (subst (λ (l : Layout). Arrives l c.next-found.result new) (sym same) at));
        fewer = subst (λ (l : Layout). left_at l c.arrive.result < 20000 * c.args.place + 2) same (c.arrive.ensures.lower c.args.place c.if-found-place.false);
      };
    }
