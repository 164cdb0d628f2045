use Rattle.std.proofs.Common.{◌≡◌, ◌∙◌, ◌*◌, ◌<◌, sym, ap, subst}
use Rattle.nsc_words.specs.declared.layout.Layout.{Layout}
use Rattle.nsc_words.specs.Layout.{table_words}
use Rattle.nsc_rule.specs.declared.view.Search.{Search}
use Rattle.nsc_reader.specs.Stages.{Arrives, AtStage, left_at}
use Rattle.nsc_reader.proofs.Chains.{arrives, keeps_went}
use Rattle.nsc_reader.proofs.chain.load_bucket.Goals as goal

pub returns : goal.returns
returns c =
    let p = c.args.pass.now in
    let layout = c.args.map.now.layout in
    let new = c.bucket-found.new.self in
    let told = c.bucket-found.ensures in
    let same : c.layout-layout.result ≡ layout = c.layout-layout.ensures.layout in
    let at = arrives layout p new c.bucket-found.result told.seen told.lands c.requires.at.begun in
    let key : new.searching.request.key ≡ c.args.key.now = ap (λ (w : Search). w.request.key) told.lands.searching ∙ c.requires.key in
    record {
      goes = λ content. record {
        keeps = keeps_went layout p new c.bucket-found.result told.table told.seen told.lands;
        steps = ap (λ (w : Search). w.steps) told.lands.searching;
        at = subst (λ (l : Layout). AtStage l content c.arrive.result new) same (c.arrive.ensures.at content new key (subst (λ (l : Layout). Arrives l c.bucket-found.result new) (sym same) at));
        fewer = subst (λ (l : Layout). left_at l c.arrive.result < 20000 * table_words l) same c.arrive.ensures.fewer;
      };
    }
