use Rattle.std.proofs.Common.{◌≡◌, List, sym, ◌∙◌, ap, subst, arith}
use Rattle.std.specs.Arc.{arc_value}
use Rattle.std.proofs.lemmas.Result.{err_from_is_err_and}
use Rattle.nsc_model.specs.Machine.{due_of, reloaded_of, reloaded}
use Rattle.nsc_plain.specs.PlainCache.{PlainCache}
use Rattle.nsc_plain.specs.Insertion.{Insertion}
use Rattle.nsc_plain.specs.EntryList.{over, put_all}
use Rattle.nsc_plain.proofs.Events.{bare, put_is_reloaded, prunes, prunes_nothing, prune_faults}
use Rattle.nsc_plain.proofs.Apart.{reloads_stay_apart}
use Rattle.nsc_plain.proofs.Ends.{anew_length}
use Rattle.nsc_plain.proofs.cache.PlainCache.prune.Goals as goal

pub returns-in_default-clause-turn : goal.returns-in_default-clause-turn
returns-in_default-clause-turn g c =
    let base = bare (arc_value c.self.inside.content) c.self.inside.newest_version c.self.inside.epoch in
    let none = rw c.in_default.is at c.in_ok-due.ensures.due in
    rw (← c.self.view_is)
    (prunes_nothing c.self.inside.conf c.self.inside.reloads c.args.now (over base c.self.inside.table) (rw c.entries-entries.ensures at none))

pub insert_all-requires-clause-memory : goal.insert_all-requires-clause-memory
insert_all-requires-clause-memory g c =
    let anew_of = rw (c.in-Some.is, c.entries-entries.ensures) at c.in_ok-due.ensures.all in
    let few = anew_length c.args.files.now.files c.self.inside.reloads (due_of c.args.now c.self.inside.table.entries) in
    let memory = c.in_ok-end_due.ensures.memory in
    rw anew_of (omega (arith, few, memory))

pub insert_all-requires-clause-apart : goal.insert_all-requires-clause-apart
insert_all-requires-clause-apart g c =
    let anew_of = rw (c.in-Some.is, c.entries-entries.ensures) at c.in_ok-due.ensures.all in
    rw anew_of (reloads_stay_apart c.args.files.now.files c.self.inside.reloads c.end_due.new.self.entries (due_of c.args.now c.self.inside.table.entries) c.in_ok-end_due.ensures.apart)

pub returns-in_err-end_due-clause-fault : goal.returns-in_err-end_due-clause-fault
returns-in_err-end_due-clause-fault g c =
    let base = bare (arc_value c.self.inside.content) c.self.inside.newest_version c.self.inside.epoch in
    let some = rw (c.in-Some.is, c.entries-entries.ensures) at c.in_ok-due.ensures.due in
    let p = err_from_is_err_and c.from_residual-in_err-end_due.result c.from_residual-in_err-end_due.ensures.1 in
    rw (← c.self.view_is, p.1, p.2)
    (prune_faults c.self.inside.conf c.self.inside.reloads c.args.now (over base c.self.inside.table) (over base c.self.inside.table) (over base c.end_due.new.self) c.in_err-end_due.field-0.0 some (c.in_err-end_due.ensures.fault base))

pub returns-clause-turn : goal.returns-clause-turn
returns-clause-turn g c =
    let base = bare (arc_value c.self.inside.content) c.self.inside.newest_version c.self.inside.epoch in
    let settings = c.self.inside.conf in
    let again = reloaded_of c.self.inside.reloads (due_of c.args.now c.self.inside.table.entries) in
    let some = rw (c.in-Some.is, c.entries-entries.ensures) at c.in_ok-due.ensures.due in
    let sources : c.args.files.now.files ≡ arc_value c.self.inside.content = sym c.requires.sources ∙ sym (ap (λ (s : PlainCache). s.cache.sources) c.self.view_is) in
    let anew_of = rw (c.in-Some.is, c.entries-entries.ensures, sources) at c.in_ok-due.ensures.all in
    let put = subst (λ (all : List Insertion). put_all settings c.args.now c.self.inside.newest_version all (over base c.end_due.new.self) ≡ over base c.insert_all.new.self) anew_of (c.insert_all.ensures base) in
    let done : (reloaded settings c.args.now again (over base c.end_due.new.self)).cache ≡ over base c.insert_all.new.self = sym (put_is_reloaded settings c.args.now again (over base c.end_due.new.self)) ∙ put in
    rw (← c.self.view_is)
    (prunes settings c.self.inside.reloads c.args.now (over base c.self.inside.table) (over base c.end_due.new.self) (over base c.insert_all.new.self) some (c.in_ok-end_due.ensures.turn base) done)
