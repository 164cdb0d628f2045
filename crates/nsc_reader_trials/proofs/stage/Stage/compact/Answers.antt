use Rattle.std.proofs.Common.{◌≡◌, ◌∙◌, ap, subst, rules}
use Rattle.nsc_rule.specs.Map.{Map}
use Rattle.nsc_writer.specs.Slide.{IsSlid}
use Rattle.nsc_writer.specs.Writer.{Writer}
use Rattle.nsc_compactor.proofs.Compacted.{slid_ends}
use Rattle.nsc_reader_trials.proofs.stage.Stage.compact.Goals as goal

pub end_slide-requires : goal.end_slide-requires
end_slide-requires c =
    let before = c.self-2.inside.writer in
    let begun = c.begin_slide.new.self in
    let slid = c.slide.new.table in
    let layout = c.layout-map.ensures.layout ∙ ap (λ (m : Map). m.layout) c.map.ensures in
    let was = c.self.view_is in
    let still = c.look.ensures in
    let now = c.self-2.view_is in
    let same : c.layout-map.result ≡ before.layout = cc in
    let stays = c.look-in-Ok.ensures in
    let last = c.self-in-Ok.view_is in
    let after : slid ≡ c.self-in-Ok.inside.writer = cc in
    let b = c.in-Ok.ensures.begun in
    subst (λ (w : Writer). IsSlid w) after (slid_ends before begun slid c.layout-map.result same b c.slide.ensures.rest (c.slide.ensures.laid b.nodes (search rules)))
