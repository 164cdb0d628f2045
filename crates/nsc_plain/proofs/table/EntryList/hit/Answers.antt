use Rattle.std.proofs.Common.{◌≡◌, ℕ, List, get_or, set, find, Some, None, sym, ◌∙◌, ap, subst, refl, Option}
use Rattle.std.specs.Prelude.{position}
use Rattle.std.proofs.lemmas.List.Quantifiers.{position-Some}
use Rattle.nsc_model.specs.declared.answer.Request.{Request}
use Rattle.nsc_model.specs.Entry.{Entry}
use Rattle.nsc_model.specs.Answer.{Answer}
use Rattle.nsc_model.specs.Machine.{Kept}
use Rattle.nsc_plain.specs.PlainCache.{HitsBy}
use Rattle.nsc_plain.specs.EntryList.{EntryList, over}
use Rattle.nsc_plain.proofs.Apart.{asks, restarted, found_at, found_none, hit_keeps, used_at}
use Rattle.nsc_plain.proofs.table.EntryList.hit.Goals as goal

pub returns-in_default-clause-hit : goal.returns-in_default-clause-hit
returns-in_default-clause-hit c = λ cache.
    let request : Request = record { kind = c.args.kind; key = c.args.key.now } in
    let none = found_none (asks request) c.self.inside.entries.items (rw c.deref.ensures.value at (sym c.in_default.ensures)) in
    let none_here = subst (λ (t : EntryList). find (asks request) t.entries ≡ None) c.self.view_is none in
    subst (λ (o : Option Kept). HitsBy o request (over cache c.args.self.now) (over cache c.args.self.now) None) (sym none_here) (refl, refl)

-- the entry at the place that was found, and the entries once it was used
pub invariant_of-self-2 : goal.invariant_of-self-2
invariant_of-self-2 c =
    let request : Request = record { kind = c.args.kind; key = c.args.key.now } in
    let items = c.self.inside.entries.items in
    let kept : Kept = c.index_mut-kept.result.now in
    let at = position-Some (asks request) items c.in-Some.at kept (rw c.deref.ensures.value at (sym c.in-Some.ensures)) in
    let new : c.restart.new.self ≡ restarted (get_or items c.in-Some.at kept) = c.restart.ensures ∙ ap restarted c.index_mut-kept.ensures.value in
    rw new (hit_keeps items c.in-Some.at kept c.self.inside.used c.self.inside.inserted at.0 c.self.invariant)

pub returns-clause-hit : goal.returns-clause-hit
returns-clause-hit c = λ cache.
    let request : Request = record { kind = c.args.kind; key = c.args.key.now } in
    let items : List Kept = c.self.inside.entries.items in
    let kept : Kept = c.index_mut-kept.result.now in
    let first : position (asks request) items ≡ Some c.in-Some.at = rw c.deref.ensures.value at (sym c.in-Some.ensures) in
    let at = position-Some (asks request) items c.in-Some.at kept first in
    let found = found_at (asks request) items c.in-Some.at kept first in
    let new : c.restart.new.self ≡ restarted (get_or items c.in-Some.at kept) = c.restart.ensures ∙ ap restarted c.index_mut-kept.ensures.value in
    let used = ap (set items c.in-Some.at) new ∙ sym (used_at request items c.in-Some.at kept at.0 at.1 (c.self.invariant.apart request)) in
    let reply : c.in_ok-reply.reply ≡ (get_or items c.in-Some.at kept).entry.answer.bytes =
    c.in_ok-reply.ensures
    ∙ (c.bytes.ensures.value
    ∙ (ap (λ (a : Answer). a.bytes) c.answer.ensures.value ∙ (ap (λ (e : Entry). e.answer.bytes) c.entry.ensures ∙ ap (λ (k : Kept). k.entry.answer.bytes) c.index_mut-kept.ensures.value))) in
    let with = λ (entries : List Kept). let t : EntryList = record { entries = entries; used = c.self.inside.used; inserted = c.self.inside.inserted; cycle = c.self.inside.cycle; add_failed = c.self.inside.add_failed; capacity = 0 } in t in
    subst (λ (t : EntryList). HitsBy (find (asks request) t.entries) request (over cache t) (over cache (with (set items c.in-Some.at c.restart.new.self))) (Some c.in_ok-reply.reply)) c.self.view_is
    (subst (λ (o : Option Kept). HitsBy o request (over cache (with items)) (over cache (with (set items c.in-Some.at c.restart.new.self))) (Some c.in_ok-reply.reply)) (sym found)
    (ap (λ (bytes : List ℕ). Some bytes) reply, ap (λ (entries : List Kept). over cache (with entries)) used))
