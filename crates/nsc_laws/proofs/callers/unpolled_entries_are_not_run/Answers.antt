use Rattle.std.proofs.Common.{List, subst}
use Rattle.nsc_model.specs.declared.record.Record.{Record}
use Rattle.nsc_model.specs.History.{Legal}
use Rattle.nsc_laws.proofs.CoreLaw.{legal_law}
use Rattle.nsc_laws.proofs.callers.unpolled_entries_are_not_run.Goals as goal

pub returns-clause-sourced : goal.returns-clause-sourced
returns-clause-sourced c db e epoch before later sourced = (sourced, λ first. absurd (later first))

pub returns-clause-refuted : goal.returns-clause-refuted
returns-clause-refuted c db e epoch before run =
    let legal = subst (λ (h : List Record). Legal h) run.history_is (legal_law db run.first run.moves run.core run.runs) in
    legal.4
