use Rattle.std.proofs.Common.{◌≡◌, ◌==◌, ℕ, false, sym, subst}
use Rattle.nsc_plain.proofs.Ends.{some_first}
use Rattle.nsc_plain.proofs.table.EntryList.end_all.Goals as goal

pub returns-clause-fault : goal.returns-clause-fault
returns-clause-fault c =
    let full = some_first c.self.inside.entries.items (subst (λ (n : ℕ). (n == 0) ≡ false) c.self.inside.entries.ok.0 (sym c.if-is_empty.ensures)) in
    rw (← c.self.view_is, full.2) (rw c.clear.ensures.items at c.compact.ensures.fault)
