use Rattle.std.proofs.Common.{◌≡◌, ◌+◌, ℕ, None, slice_index, refl, ap, ◌∙◌}
use Rattle.std.specs.Arc.{arc_value}
use Rattle.std.specs.Prelude.{min}
use Rattle.nsc_model.specs.Machine.{last_count}
use Rattle.nsc_rule.specs.Pen.{Pen}
use Rattle.nsc_rule.specs.Strokes.{stored}
use Rattle.nsc_shelf.specs.Shelf.{slide_of}
use Rattle.nsc_writer.specs.Raised.{raised}
use Rattle.nsc_writer.specs.Writer.{Writer}
use Rattle.nsc_writer.proofs.Moved.{moved_still, moved_view}
use Rattle.nsc_writer.proofs.Raised.{both_moved}
use Rattle.nsc_writer.proofs.writer.Writer.note_hits.Goals as goal

-- the second count is raised in what the first one left
abbrev with_not_found : ℕ → Pen → Pen
with_not_found more p = record p { plan = stored 6 (min (slice_index p.plan.words 6 + more) last_count) p.plan }

pub invariant_of-self : goal.invariant_of-self
invariant_of-self c =
    let w = c.self.inside in
    let none : slide_of w.sheet.plan.words ≡ None = ap (λ (v : Writer). v.slide) c.self.view_is ∙ c.requires in
    moved_still w.sheet w.sheet.plan.seen (c.raise-2.ensures ∙ ap (with_not_found c.args.not_found) c.raise.ensures) refl (both_moved c.args.found c.args.not_found none c.self.invariant.held) c.self.invariant.tells

pub returns : goal.returns
returns c =
    let w = c.self.inside in
    let none : slide_of w.sheet.plan.words ≡ None = ap (λ (v : Writer). v.slide) c.self.view_is ∙ c.requires in
    moved_view w.sheet (arc_value w.content) w.sheet.plan.seen (c.raise-2.ensures ∙ ap (with_not_found c.args.not_found) c.raise.ensures) refl (both_moved c.args.found c.args.not_found none c.self.invariant.held) ∙ ap (λ (v : Writer). record v { hits = raised c.args.found c.args.not_found v.hits }) c.self.view_is
