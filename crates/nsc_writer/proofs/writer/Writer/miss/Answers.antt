use Rattle.std.proofs.Common.{◌≡◌, None, cond, slice_index, refl, ap, ◌∙◌}
use Rattle.std.specs.Arc.{arc_value}
use Rattle.nsc_model.specs.Machine.{next_count}
use Rattle.nsc_rule.specs.Strokes.{stored}
use Rattle.nsc_shelf.specs.Shelf.{Shelf, slide_of}
use Rattle.nsc_shelf.specs.Uses.{counted}
use Rattle.nsc_shelf.proofs.HeadWords.{miss_counted}
use Rattle.nsc_shelf.proofs.Still.{Moved, counted_moved, still}
use Rattle.nsc_writer.specs.Writer.{Writer}
use Rattle.nsc_writer.proofs.Moved.{moved_still, moved_view}
use Rattle.nsc_writer.proofs.writer.Writer.miss.Goals as goal
use Rattle.nsc_writer.proofs.writer.Writer.miss.Goals.{After-count_use}

counts : (c : After-count_use) → Moved c.self.inside.sheet.plan (stored (cond c.args.not_found 8 7) (next_count (slice_index c.self.inside.sheet.plan.words (cond c.args.not_found 8 7))) c.self.inside.sheet.plan) c.self.inside.layout c.self.inside.live c.self.inside.mark c.self.inside.hints.items (λ s. record s { misses = counted c.args.not_found s.misses })
counts c =
    let w = c.self.inside in
    let none : slide_of w.sheet.plan.words ≡ None = ap (λ (v : Writer). v.slide) c.self.view_is ∙ c.requires in
    let rests = still none c.self.invariant.held in
    counted_moved (cond c.args.not_found 8 7) _ (λ (s : Shelf). record s { misses = counted c.args.not_found s.misses }) rests (miss_counted w.sheet.plan.words _ w.layout w.live w.mark c.args.not_found refl rests.shelf)

pub invariant_of-self : goal.invariant_of-self
invariant_of-self c =
    let w = c.self.inside in
    moved_still w.sheet w.sheet.plan.seen c.count_use.ensures refl (counts (goal.at.invariant_of-self c).After-count_use) c.self.invariant.tells

pub returns : goal.returns
returns c =
    let w = c.self.inside in
    moved_view w.sheet (arc_value w.content) w.sheet.plan.seen c.count_use.ensures refl (counts (goal.at.returns c).After-count_use) ∙ ap (λ (v : Writer). record v { misses = counted c.args.not_found v.misses }) c.self.view_is
