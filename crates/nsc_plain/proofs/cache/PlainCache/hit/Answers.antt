use Rattle.std.specs.Arc.{arc_value}
use Rattle.std.proofs.lemmas.Result.{IfOk-weaker}
use Rattle.nsc_model.specs.declared.answer.Request.{Request}
use Rattle.nsc_plain.specs.EntryList.{over}
use Rattle.nsc_plain.proofs.Events.{bare, searched}
use Rattle.nsc_plain.proofs.cache.PlainCache.hit.Goals as goal

pub returns-then-self-clause-hit : goal.returns-then-self-clause-hit
returns-then-self-clause-hit c =
    let request : Request = record { kind = c.args.kind; key = c.args.key.now } in
    let base = bare (arc_value c.self.inside.content) c.self.inside.newest_version c.self.inside.epoch in
    rw (← c.self.view_is)
    (IfOk-weaker c.hit.result _ _ (λ hit h. searched c.self.inside.conf request (over base c.self.inside.table) (over base c.hit.new.self) hit c.if-self.true (h base)) c.hit.ensures.hit)
