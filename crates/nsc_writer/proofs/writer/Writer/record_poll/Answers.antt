use Rattle.std.proofs.Common.{ℕ, slice_index, get_or-set_same, get_or-set_other, List, ◌∷◌, false, None, ◌≡◌, ◌≤◌, ◌+◌, arith, ap, subst, sym, ◌∙◌}
use Rattle.nsc_model.specs.declared.record.Record.TheVariants.{Change}
use Rattle.std.specs.Arc.{arc_value}
use Rattle.nsc_model.proofs.Contents.{one_content}
use Rattle.nsc_writer.specs.declared.loaded.Stamp.{Stamp}
use Rattle.nsc_rule.specs.Pen.{Pen}
use Rattle.nsc_rule.specs.Strokes.{changed}
use Rattle.nsc_model.specs.Content.{Content}
use Rattle.nsc_model.specs.declared.record.Record.{Record}
use Rattle.nsc_laws.specs.Calls.{Tells}
use Rattle.nsc_laws.proofs.MachineLawParts.{turns}
use Rattle.nsc_model.specs.Files.{same_files}
use Rattle.nsc_shelf.specs.Shelf.{Shelf, shelf_in, slide_of}
use Rattle.nsc_shelf.proofs.Still.{numbered, still}
use Rattle.nsc_writer.specs.Writer.{IsWriter, Writer, cache_of}
use Rattle.nsc_writer.proofs.Moved.{written}
use Rattle.nsc_writer.proofs.Told.{polled_now}
use Rattle.nsc_writer.proofs.writer.Writer.record_poll.Goals as goal

pub returns-clause-polled : goal.returns-clause-polled
returns-clause-polled c =
    let w = c.self.inside in
    let epochs = c.self.invariant.tells.epochs_are in
    let low = subst (λ (v : Writer). c.args.epoch ≤ v.cache.epoch) (sym c.self.view_is) c.requires.epoch in
    let version : slice_index w.sheet.plan.words 2 + 1 ≡ c.version-before.result + 1 = ap (λ (v : Writer). v.cache.newest_version + 1) c.self.view_is ∙ ap (λ (n : ℕ). n + 1) (sym c.version-before.ensures) in
    polled_now w.sheet.plan.seen c.change.new.self.plan.seen (Change (slice_index w.sheet.plan.words 2 + 1) c.deref-3.result.now) (c.version-before.result + 1) c.args.epoch (ap (λ (p : Pen). p.plan.seen) c.change.ensures) version (omega arith)

pub returns-then-is_same-clause-newest : goal.returns-then-is_same-clause-newest
returns-then-is_same-clause-newest c =
    let same : arc_value c.args.content ≡ arc_value c.self.inside.content =
    sym c.deref.ensures ∙ one_content c.deref.result.now c.deref-2.result.now (sym c.is_same.ensures ∙ c.if-is_same.true) ∙ c.deref-2.ensures in
    record {
      sources = ap (λ (w : Writer). w.cache.sources) c.confirm.ensures.history ∙ sym (ap (λ (w : Writer). w.cache.sources) c.self.view_is) ∙ sym same;
      number = ap (λ (w : Writer). w.cache.newest_version) c.confirm.ensures.history ∙ sym (ap (λ (s : Stamp). s.version) c.confirm.ensures.stamp);
    }

pub invariant_of-self : goal.invariant_of-self
invariant_of-self c =
    let w = c.self.inside in
    let words : List ℕ = w.sheet.plan.words in
    let content : Content = arc_value c.args.content in
    let s : Shelf = shelf_in w.sheet.plan.nodes words w.layout in
    let none : slide_of words ≡ None = ap (λ (v : Writer). v.slide) c.self.view_is ∙ c.requires.still in
    let rests = still none c.self.invariant.held in
    let table = rests.laid.table in
    let seen : List Record = Change (slice_index words 2 + 1) c.deref-3.result.now ∷ w.sheet.plan.seen in
    let n = numbered 2 (slice_index words 2 + 1) seen (omega arith) (omega arith) rests c.self.invariant.held in
    let other : same_files content (arc_value w.content) ≡ false = (λ i. same_files (sym c.deref.ensures i) (sym c.deref-2.ensures i)) ∙ sym c.is_same.ensures ∙ c.if-is_same.false in
    let told : Tells (Change (slice_index words 2 + 1) content ∷ w.sheet.plan.seen) (cache_of content (slice_index words 2 + 1) (slice_index words 1) s) = (turns w.sheet.plan.seen content (cache_of (arc_value w.content) (slice_index words 2) (slice_index words 1) s) c.self.invariant.tells other).tells in
    let now : IsWriter (record w.sheet { plan = changed c.deref-3.result.now w.sheet.plan }) w.layout content w.live w.mark w.hints.items =
    written (Change (slice_index words 2 + 1) content ∷ w.sheet.plan.seen) (slice_index words 2 + 1) (slice_index words 1) s n.held (ap (λ (x : Content). Change (slice_index words 2 + 1) x ∷ w.sheet.plan.seen) c.deref-3.ensures) (get_or-set_same words 2 (slice_index words 2 + 1) 0 (omega arith)) (get_or-set_other words 2 1 (slice_index words 2 + 1) 0 (omega arith)) n.view told in
    subst (λ (p : Pen). IsWriter p w.layout content w.live w.mark w.hints.items) (sym c.change.ensures) now
