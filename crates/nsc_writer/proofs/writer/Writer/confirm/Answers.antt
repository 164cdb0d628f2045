use Rattle.std.proofs.Common.{◌≡◌, ◌≤◌, slice_index, arith, ap, subst, sym, ◌∙◌}
use Rattle.nsc_model.specs.declared.record.Record.TheVariants.{Poll}
use Rattle.nsc_rule.specs.Pen.{Pen}
use Rattle.nsc_writer.specs.Writer.{Writer}
use Rattle.nsc_writer.proofs.Told.{polled_now}
use Rattle.nsc_writer.proofs.writer.Writer.confirm.Goals as goal

pub returns-clause-polled : goal.returns-clause-polled
returns-clause-polled c =
    let w = c.self.inside in
    let epochs = c.self.invariant.tells.epochs_are in
    let low = subst (λ (v : Writer). c.args.epoch ≤ v.cache.epoch) (sym c.self.view_is) c.requires.epoch in
    let version : slice_index w.sheet.plan.words 2 ≡ c.version-version.result = ap (λ (v : Writer). v.cache.newest_version) c.self.view_is ∙ sym c.version-version.ensures in
    polled_now w.sheet.plan.seen c.poll.new.self.plan.seen (Poll (slice_index w.sheet.plan.words 2)) c.version-version.result c.args.epoch (ap (λ (p : Pen). p.plan.seen) c.poll.ensures) version (omega arith)
