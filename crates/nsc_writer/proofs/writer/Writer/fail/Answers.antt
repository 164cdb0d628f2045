use Rattle.std.proofs.Common.{◌≡◌, None, slice_index, refl, ap, ◌∙◌}
use Rattle.std.specs.Arc.{arc_value}
use Rattle.nsc_laws.proofs.MachineLawSteps.{retells}
use Rattle.nsc_model.specs.Machine.{next_count}
use Rattle.nsc_rule.specs.Strokes.{stored}
use Rattle.nsc_shelf.specs.Shelf.{Shelf, shelf_in, slide_of}
use Rattle.nsc_shelf.proofs.HeadWords.{failure_counted}
use Rattle.nsc_shelf.proofs.Still.{Moved, counted_moved, still}
use Rattle.nsc_writer.specs.Writer.{Writer, cache_of, with_failed}
use Rattle.nsc_writer.proofs.Moved.{moved_still, moved_view}
use Rattle.nsc_writer.proofs.writer.Writer.fail.Goals as goal
use Rattle.nsc_writer.proofs.writer.Writer.fail.Goals.{After-count}

counts : (c : After-count) → Moved c.self.inside.sheet.plan (stored 9 (next_count (slice_index c.self.inside.sheet.plan.words 9)) c.self.inside.sheet.plan) c.self.inside.layout c.self.inside.live c.self.inside.mark c.self.inside.hints.items (λ s. record s { add_failed = next_count s.add_failed })
counts c =
    let w = c.self.inside in
    let none : slide_of w.sheet.plan.words ≡ None = ap (λ (v : Writer). v.slide) c.self.view_is ∙ c.requires in
    let rests = still none c.self.invariant.held in
    counted_moved 9 _ (λ (s : Shelf). record s { add_failed = next_count s.add_failed }) rests (failure_counted w.sheet.plan.words _ w.layout w.live w.mark refl rests.shelf)

pub invariant_of-self : goal.invariant_of-self
invariant_of-self c =
    let w = c.self.inside in
    let s : Shelf = shelf_in w.sheet.plan.nodes w.sheet.plan.words w.layout in
    moved_still w.sheet w.sheet.plan.seen c.count.ensures refl (counts (goal.at.invariant_of-self c).After-count) (retells w.sheet.plan.seen (cache_of (arc_value w.content) (slice_index w.sheet.plan.words 2) (slice_index w.sheet.plan.words 1) s) s.entries s.used s.cycle (next_count s.add_failed) refl c.self.invariant.tells)

pub returns : goal.returns
returns c =
    let w = c.self.inside in
    moved_view w.sheet (arc_value w.content) w.sheet.plan.seen c.count.ensures refl (counts (goal.at.returns c).After-count) ∙ ap with_failed c.self.view_is
