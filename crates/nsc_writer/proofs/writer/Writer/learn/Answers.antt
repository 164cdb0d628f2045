use Rattle.std.proofs.Common.{◌≡◌, ◌≤◌, None, length, ap, subst, ◌∙◌, arith}
use Rattle.nsc_words.specs.Layout.{arena_start}
use Rattle.nsc_rule.specs.Entries.{entries_in}
use Rattle.nsc_shelf.specs.Shelf.{slide_of}
use Rattle.nsc_shelf.proofs.Still.{still}
use Rattle.nsc_writer.specs.Writer.{Writer}
use Rattle.nsc_writer.proofs.Few.{entries_few}
use Rattle.nsc_writer.proofs.writer.Writer.learn.Goals as goal

pub returns-clause-few : goal.returns-clause-few
returns-clause-few c is =
    let w = c.self.inside in
    let none : slide_of w.sheet.plan.words ≡ None = ap (λ (v : Writer). v.slide) c.self.view_is ∙ is in
    let laid = (still none c.self.invariant.held).laid in
    let few = entries_few (arena_start w.layout) w.sheet.plan.nodes laid.row in
    let room = laid.room in
    let bound : length (entries_in w.sheet.plan.nodes) ≤ w.layout.arena = omega arith in
    subst (λ (v : Writer). length v.cache.entries ≤ v.layout.arena) c.self.view_is bound
