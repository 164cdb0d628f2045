use Rattle.std.proofs.Common.{◌≡◌, ◌++◌, drop}
use Rattle.nsc_model.specs.Answers.{switched, takers}
use Rattle.nsc_switch.proofs.Turns.{left, takers_left}
use Rattle.nsc_switch.proofs.decided.decide.Given as goal

-- the steps that are left decide, with the row that is held
abbrev pub invariant-loop-step : goal.invariant-loop-step
invariant-loop-step g l =
    let look = g.V.ServiceLook.outcome l.services (record { kind = l.kind; key = l.key }) in
    record {
      outcome : left l.kind look l.last l.held (drop l.step-index l.earlier) ≡ switched l.kind look l.steps;
      takers : l.merged.items ++ takers_left l.kind look l.last (drop l.step-index l.earlier) ≡ takers l.kind look l.steps;
    }
