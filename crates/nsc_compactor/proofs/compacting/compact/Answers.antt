use Rattle.std.proofs.Common.{◌≡◌, ap, ◌∙◌, rules}
use Rattle.nsc_rule.specs.Map.{Map}
use Rattle.nsc_compactor.proofs.Compacted.{compacted, freed_words, slid_ends}
use Rattle.nsc_compactor.proofs.compacting.compact.Goals as goal

pub end_slide-requires : goal.end_slide-requires
end_slide-requires c =
    let b = c.in-Ok.ensures.begun in
    let map : c.layout-map.result ≡ c.args.writer.now.layout = c.layout-map.ensures.layout ∙ ap (λ (m : Map). m.layout) c.map.ensures in
    slid_ends c.args.writer.now c.begin_slide.new.self c.slide-freed.new.table c.layout-map.result map b c.slide-freed.ensures.rest (c.slide-freed.ensures.laid b.nodes (search rules))

pub returns-in-Ok-clause-done : goal.returns-in-Ok-clause-done
returns-in-Ok-clause-done c =
    let b = c.in-Ok.ensures.begun in
    let map : c.layout-map.result ≡ c.args.writer.now.layout = c.layout-map.ensures.layout ∙ ap (λ (m : Map). m.layout) c.map.ensures in (
      b.counted,
      freed_words c.args.writer.now c.begin_slide.new.self _ c.layout-map.result c.slide-freed.result map b (c.slide-freed.ensures.laid b.nodes (search rules)) c.slide-freed.ensures.freed,
      compacted c.args.writer.now c.begin_slide.new.self c.slide-freed.new.table c.end_slide.new.self c.requires b c.slide-freed.ensures.rest c.end_slide.ensures,
    )
