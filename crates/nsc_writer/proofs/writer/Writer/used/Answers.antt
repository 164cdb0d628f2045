use Rattle.std.proofs.Common.{◌≡◌, None, ap, ◌∙◌, arith}
use Rattle.nsc_words.specs.Layout.{arena_start}
use Rattle.nsc_arena.proofs.Rows.{end_after}
use Rattle.nsc_shelf.specs.Shelf.{slide_of}
use Rattle.nsc_shelf.proofs.Still.{still}
use Rattle.nsc_writer.specs.Writer.{Writer}
use Rattle.nsc_writer.proofs.writer.Writer.used.Goals as goal

pub overflow_sub-result : goal.overflow_sub-result
overflow_sub-result c =
    let w = c.self.inside in
    let none : slide_of w.sheet.plan.words ≡ None = ap (λ (v : Writer). v.slide) c.self.view_is ∙ c.requires in
    let laid = (still none c.self.invariant.held).laid in
    let low = end_after (arena_start w.layout) w.sheet.plan.nodes laid.row in
    let first = laid.first_free in
    let value = c.head.ensures in
    let start = c.arena_start.ensures in
    omega arith
