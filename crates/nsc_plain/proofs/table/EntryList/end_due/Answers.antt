use Rattle.std.proofs.Common.{List, sym, subst, arith}
use Rattle.nsc_model.specs.Machine.{Kept}
use Rattle.nsc_plain.specs.EntryList.{IsTable}
use Rattle.nsc_plain.proofs.Apart.{apart_due, apart_others}
use Rattle.nsc_plain.proofs.Ends.{others_words, all_length}
use Rattle.nsc_plain.proofs.table.EntryList.end_due.Goals as goal

pub invariant_of-self : goal.invariant_of-self
invariant_of-self c =
    let words = others_words c.args.now c.self.inside.entries.items in
    let kept = c.self.invariant.words in
    subst (λ (ks : List Kept). IsTable ks c.self.inside.used c.self.inside.inserted) (sym c.drop_due.ensures.items)
    (record { words = omega arith; counted = c.self.invariant.counted; apart = apart_others c.args.now c.self.inside.entries.items c.self.invariant.apart })

pub returns-clause-apart : goal.returns-clause-apart
returns-clause-apart c = rw (c.compact.ensures.entries, c.drop_due.ensures.items, ← c.self.view_is) (apart_due c.args.now c.self.inside.entries.items c.self.invariant.apart)

pub returns-clause-fault : goal.returns-clause-fault
returns-clause-fault c = rw (← c.self.view_is, ← c.drop_due.ensures.items) c.compact.ensures.fault

pub returns-clause-memory : goal.returns-clause-memory
returns-clause-memory c =
    let both = all_length c.args.now c.self.inside.entries.items in
    rw (c.compact.ensures.entries, ← c.self.view_is, c.drop_due.ensures.items, c.compact.ensures.capacity, c.drop_due.ensures.capacity) (omega arith)
