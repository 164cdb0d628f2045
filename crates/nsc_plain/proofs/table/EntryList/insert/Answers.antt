use Rattle.std.proofs.Common.{◌≡◌, ◌+◌, find, None, subst, sym}
use Rattle.nsc_model.specs.Machine.{Kept, life_of}
use Rattle.nsc_plain.specs.EntryList.{EntryList}
use Rattle.nsc_plain.proofs.Apart.{asks, insert_keeps}
use Rattle.nsc_plain.proofs.table.EntryList.insert.Goals as goal

pub invariant_of-self-2 : goal.invariant_of-self-2
invariant_of-self-2 c =
    let k : Kept = record { entry = record { number = c.self.inside.inserted; request = c.args.fresh.request; version = c.args.version; answer = c.args.fresh.answer; timeout = c.args.now + life_of c.args.conf.now c.args.fresh.answer }; reloads = c.args.fresh.reloads } in
    let none = subst (λ (t : EntryList). find (asks c.args.fresh.request) t.entries ≡ None) (sym c.self.view_is) c.requires.new in
    rw (c.in-Ok.ensures.items, c.words-words.ensures, c.into_kept-kept.ensures) (insert_keeps c.self.inside.entries.items k c.self.inside.used c.self.inside.inserted c.self.invariant c.if-self-eq-LAST_COUNT.false none)
