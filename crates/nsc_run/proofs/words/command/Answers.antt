use Rattle.std.proofs.Common.{rules, codes}
use Rattle.std.proofs.lemmas.Result.{IfOk-weaker}
use Rattle.nsc_run.specs.Forms.{valued}
use Rattle.nsc_run.proofs.Added.{added}
use Rattle.nsc_run.proofs.words.command.Goals as goal

pub returns : goal.returns
returns c =
    let found_only = added _ _ _ _ (valued (codes "found-only")) c.in_ok-arg.ensures (search rules) c.in_ok-service.ensures (search rules) in
    IfOk-weaker c.arg-2.result _ _ (λ r adds. added _ _ r _ (valued (codes "leave")) adds (search rules) found_only (search rules)) c.arg-2.ensures
