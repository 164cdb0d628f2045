use Rattle.std.proofs.Common.{◌≡◌, ◌+◌, ◌++◌, drop, ap, ◌∙◌, append_assoc}
use Rattle.std.proofs.lemmas.Result.{IfOk-weaker}
use Rattle.nsc_model.specs.Answers.{joined, row_in}
use Rattle.nsc_switch.proofs.Turns.{left, step_decides, step_takes, takers_left}
use Rattle.nsc_switch.proofs.decided.decide.Goals as goal
use Rattle.nsc_switch.proofs.decided.decide.Goals.{in-Merge+in_ok-join_outcome-in-Merge+in_ok-push-in-Merge, in-Continue}

pub returns-in-Return-clause-outcome : goal.returns-in-Return-clause-outcome
returns-in-Return-clause-outcome g c =
    let look = g.V.ServiceLook.outcome c.args.services.now (record { kind = c.args.kind; key = c.args.key.now }) in
    let decides = step_decides c.args.kind look c.in-Some.last.now c.loop-step.held c.in-Some.earlier.now c.loop-step.step-index _ _ _ c.loop-step-test.true c.loop-step.invariant.outcome c.in_ok-outcome.ensures _ c.in-Return.ensures in
    IfOk-weaker c.end_at.result (λ decided. decided.outcome ≡ joined c.loop-step.held c.in_ok-outcome.outcome) _ (λ decided is. is ∙ decides) c.end_at.ensures.outcome

pub returns-in-Return-clause-takers : goal.returns-in-Return-clause-takers
returns-in-Return-clause-takers g c =
    let look = g.V.ServiceLook.outcome c.args.services.now (record { kind = c.args.kind; key = c.args.key.now }) in
    let takes = step_takes c.args.kind look c.in-Some.last.now c.loop-step.merged.items c.in-Some.earlier.now c.loop-step.step-index _ _ _ c.loop-step-test.true c.loop-step.invariant.takers c.in_ok-outcome.ensures _ c.in-Return.ensures in
    IfOk-weaker c.end_at.result _ _ (λ decided is. is ∙ takes) c.end_at.ensures.takers

pub loop-step-preserved : goal.loop-step-preserved
loop-step-preserved g c =
    let look = g.V.ServiceLook.outcome c.args.services.now (record { kind = c.args.kind; key = c.args.key.now }) in
    let last = c.in-Some.last.now in
    let earlier = c.in-Some.earlier.now in
    let n = c.loop-step.step-index in
    let rest = drop (n + 1) earlier in
    let services = takers_left c.args.kind look last rest in
    let decides = step_decides c.args.kind look last c.loop-step.held earlier n _ _ _ c.loop-step-test.true c.loop-step.invariant.outcome c.in_ok-outcome.ensures in
    let takes = step_takes c.args.kind look last c.loop-step.merged.items earlier n _ _ _ c.loop-step-test.true c.loop-step.invariant.takers c.in_ok-outcome.ensures in
    elim c.match-action_taken.branch [
      | in-Merge+in_ok-join_outcome-in-Merge+in_ok-push-in-Merge w ↦ record {
        outcome = ap (λ held. left c.args.kind look last held rest) (w.held-is ∙ w.row_in-held.ensures ∙ ap row_in w.in_ok-join_outcome-in-Merge.ensures) ∙ decides _ w.in-Merge.ensures;
        takers = ap (λ merged. merged.items ++ services) w.merged-is ∙ ap (λ merged. merged ++ services) w.in_ok-push-in-Merge.ensures.items
            ∙ append_assoc c.loop-step.merged.items _ services ∙ takes _ w.in-Merge.ensures;
      }
      | in-Continue w ↦ record {
        outcome = ap (λ held. left c.args.kind look last held rest) w.held-is ∙ decides _ w.in-Continue.ensures;
        takers = ap (λ merged. merged.items ++ services) w.merged-is ∙ takes _ w.in-Continue.ensures;
      }
    ]
