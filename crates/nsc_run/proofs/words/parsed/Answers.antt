use Rattle.std.proofs.Common.{[], ap, subst, sym, true, ◌≡◌}
use Rattle.clap.specs.Faults.{fault_of, is_simple_and_free}
use Rattle.clap.specs.Kinds.{HasKind}
use Rattle.clap.specs.Simple.{App, HasMatchesOf}
use Rattle.clap.specs.Values.{kind_of}
use Rattle.clap.specs.Walk.{is_empty}
use Rattle.nsc_model.specs.declared.exit.Exit.{Exit}
use Rattle.nsc_run.specs.Commands.{RefusesWords}
use Rattle.nsc_run.specs.Forms.{command_app, is_command, texts}
use Rattle.nsc_run.proofs.Refusals.{refused_by, simple, simple_and_free}
use Rattle.nsc_run.proofs.words.parsed.Goals as goal

pub returns-in-Ok-clause-matches : goal.returns-in-Ok-clause-matches
returns-in-Ok-clause-matches c =
    (subst (λ (app : App). HasMatchesOf app (texts c.args.words.now) c.in-Ok.matches) c.in_ok-command.ensures c.in-Ok.ensures.matches simple).0

pub returns-in-Err-clause-err : goal.returns-in-Err-clause-err
returns-in-Err-clause-err c =
    let words = texts c.args.words.now in
    let kinds = subst (λ (app : App). is_simple_and_free app ≡ true → HasKind (fault_of app words) c.in-Err.error) c.in_ok-command.ensures c.in-Err.ensures.kinds simple_and_free in
    subst (λ (exit : Exit). RefusesWords (is_command words) exit) (sym c.refusal.ensures) (refused_by (fault_of command_app words) (kind_of c.in-Err.error) kinds)

pub returns-in-Ok-clause-command : goal.returns-in-Ok-clause-command
returns-in-Ok-clause-command c =
    let words = texts c.args.words.now in
    ap is_empty (subst (λ (app : App). is_simple_and_free app ≡ true → fault_of app words ≡ []) c.in_ok-command.ensures c.in-Ok.ensures.kinds simple_and_free)
