use Rattle.std.proofs.Common.{◌≡◌, ◌∙◌, rules, ap, true, codes}
use Rattle.std.proofs.lemmas.Result.{IfOk-weaker}
use Rattle.clap.specs.Simple.{app_of, app_of_fields, on_top}
use Rattle.clap.specs.declared.builder.command.Command.{Command}
use Rattle.clap.specs.declared.builder.command.Command.TheOpen.{Command-F}
use Rattle.nsc_run.specs.Forms.{bare_app, flag, lettered, valued}
use Rattle.nsc_run.proofs.Added.{added}
use Rattle.nsc_run.proofs.words.errands.Goals as goal

pub returns : goal.returns
returns c =
    let fields = c.disable_version_flag.ensures
    ∙ ap (λ (f : Command-F Command). record f { disable_version_flag = true }) (c.disable_help_flag.ensures
    ∙ ap (λ (f : Command-F Command). record f { disable_help_flag = true }) c.no_binary_name.ensures) in
    let bare : app_of c.disable_version_flag.result ≡ bare_app =
    ap app_of_fields fields ∙ ap (on_top (λ s. record s { no_binary_name = true; disable_help_flag = true; disable_version_flag = true })) c.new.ensures.app in
    let replay = added _ _ _ _ _ c.in_ok-arg.ensures (search rules) bare c.flag.ensures.rule in
    let statistics = added _ _ _ _ (lettered 103 (flag (codes "statistics"))) c.in_ok-arg-2.ensures (search rules) replay (search rules) in
    let shutdown = added _ _ _ _ (lettered 75 (flag (codes "shutdown"))) c.in_ok-arg-3.ensures (search rules) statistics (search rules) in
    let invalidate = added _ _ _ _ (lettered 105 (valued (codes "invalidate"))) c.in_ok-arg-4.ensures (search rules) shutdown (search rules) in
    IfOk-weaker c.arg-5.result _ _ (λ r adds. added _ _ r _ (valued (codes "workload")) adds (search rules) invalidate (search rules)) c.arg-5.ensures
