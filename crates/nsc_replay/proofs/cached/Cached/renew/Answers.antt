use Rattle.std.proofs.Common.{◌≡◌, ◌∙◌, All, List, Option, ap, map, subst, sym}
use Rattle.std.specs.Bool.{OnTrue}
use Rattle.std.specs.Prelude.{IfSome}
use Rattle.nsc_model.specs.Content.{Content}
use Rattle.nsc_model.specs.Machine.{due_of, pruned, room_of}
use Rattle.nsc_pruner.specs.Due.{Due, IsOver, due_from, marked_by, pruned_by}
use Rattle.nsc_writer.specs.Loaded.{Loaded}
use Rattle.nsc_writer.specs.Writer.{IsAnswered}
use Rattle.nsc_turns.specs.declared.answering.Answering.{Answering}
use Rattle.nsc_turns.specs.Loads.{anew_of}
use Rattle.nsc_turns.specs.Ticks.{compacted_for, ended_of}
use Rattle.nsc_turns.specs.Turns.{Completes, Stops}
use Rattle.nsc_turns.proofs.Machines.{all_answered, all_over, renewal_stops}
use Rattle.nsc_replay.specs.Cached.{Cached, IsFresh}
use Rattle.nsc_replay.proofs.Cacheds.{IsMade, alone_fresh, kept_renewed, kept_spent, renewed_completes, version_fresh}
use Rattle.nsc_replay.proofs.cached.Cached.renew.Goals as goal

pub renew-requires-clause-over : goal.renew-requires-clause-over
renew-requires-clause-over g c =
    let d = c.self.inside in
    let due : c.deref_mut.result.now ≡ map (due_from d.reloads) (due_of c.args.now d.writer.cache.entries) = c.deref_mut.ensures.value ∙ c.requires.due ∙ ap (λ (x : Cached). map (due_from x.reloads) (due_of c.args.now x.writer.cache.entries)) (sym c.self.view_is) in
    subst (λ (ds : List Due). All (IsOver d.writer.seen c.args.now) ds) (sym due) (all_over d.reloads c.args.now d.writer.seen d.writer.cache.entries c.learn.ensures.told.entries_are.live)

pub renew-requires-clause-answered : goal.renew-requires-clause-answered
renew-requires-clause-answered g c =
    let d = c.self.inside in
    let a : Answering = record { settings = d.settings; stamp = c.args.stamp; moment = c.args.now } in
    let fresh = subst (λ (x : Cached). IsFresh x.files c.args.stamp x.writer) (sym c.self.view_is) c.requires.fresh in
    let loads : c.deref-2.result.now ≡ map (anew_of a d.files) c.deref.result.now = c.deref-2.ensures.value ∙ c.in_ok-anew.ensures ∙ ap (λ (f : Content). map (anew_of a f) c.deref.result.now) c.in_ok-ready.ensures.ready in
    subst (λ (ls : List (Option Loaded)). All (λ load. IfSome load (IsAnswered d.writer.seen)) ls) (sym loads) (all_answered a d.files d.writer.seen c.deref.result.now (version_fresh d.files c.args.stamp d.writer fresh c.learn.ensures.told) fresh.polled)

pub invariant_of-self-in-Ok : goal.invariant_of-self-in-Ok
invariant_of-self-in-Ok g c =
    let d = c.self.inside in
    let inv = c.self.invariant in
    let k = kept_renewed c.args.now c.deref_mut.result.now c.deref-2.result.now d.is_polled d.files (room_of d.settings) d.writer c.renew.new.writer c.in-Ok.ensures.renews (inv.0, inv.1, inv.2) in
    (subst (λ (f : Content). OnTrue d.is_polled (c.renew.new.writer.cache.sources ≡ f)) (sym (c.keep.ensures ∙ c.lend.ensures.same)) k.0, k.1, k.2, inv.3)

pub returns-in-Ok-clause-turn : goal.returns-in-Ok-clause-turn
returns-in-Ok-clause-turn g c =
    let d = c.self.inside in
    let w = d.writer in
    let a : Answering = record { settings = d.settings; stamp = c.args.stamp; moment = c.args.now } in
    let due : c.deref_mut.result.now ≡ map (due_from d.reloads) (due_of c.args.now w.cache.entries) = c.deref_mut.ensures.value ∙ c.requires.due ∙ ap (λ (x : Cached). map (due_from x.reloads) (due_of c.args.now x.writer.cache.entries)) (sym c.self.view_is) in
    let loads : c.deref-2.result.now ≡ map (anew_of a d.files) c.deref_mut.result.now = c.deref-2.ensures.value ∙ c.in_ok-anew.ensures ∙ ap (λ (f : Content). map (anew_of a f) c.deref.result.now) c.in_ok-ready.ensures.ready ∙ ap (map (anew_of a d.files)) (c.deref.ensures.value ∙ sym c.deref_mut.ensures.value) in
    let made : IsMade a d.files d.reloads c.deref_mut.result.now c.deref-2.result.now w = record { due_are = due; loads_are = loads } in
    let fresh = subst (λ (x : Cached). IsFresh x.files c.args.stamp x.writer) (sym c.self.view_is) c.requires.fresh in
    subst (λ (x : Cached). Completes (pruned x.settings x.reloads c.args.now x.writer.cache) x.writer c.renew.new.writer) c.self.view_is
    (renewed_completes a d.files d.reloads c.deref_mut.result.now c.deref-2.result.now w c.renew.new.writer made c.learn.ensures.told (alone_fresh a d.files w fresh c.self.invariant.1) c.in-Ok.ensures.renews)

pub invariant_of-self-2 : goal.invariant_of-self-2
invariant_of-self-2 g c =
    let d = c.self.inside in
    let inv = c.self.invariant in
    let k = kept_spent c.args.now c.in-Err.spent.count c.deref_mut.result.now d.is_polled d.files (room_of d.settings) d.writer c.renew.new.writer c.in-Err.ensures.stops (inv.0, inv.1, inv.2) in
    (subst (λ (f : Content). OnTrue d.is_polled (c.renew.new.writer.cache.sources ≡ f)) (sym (c.keep.ensures ∙ c.lend.ensures.same)) k.0, k.1, k.2, inv.3)

pub returns-clause-fault : goal.returns-clause-fault
returns-clause-fault g c =
    let d = c.self.inside in
    let w = d.writer in
    let a : Answering = record { settings = d.settings; stamp = c.args.stamp; moment = c.args.now } in
    let due : c.deref_mut.result.now ≡ map (due_from d.reloads) (due_of c.args.now w.cache.entries) = c.deref_mut.ensures.value ∙ c.requires.due ∙ ap (λ (x : Cached). map (due_from x.reloads) (due_of c.args.now x.writer.cache.entries)) (sym c.self.view_is) in
    let stops = subst (λ (ds : List Due). Stops (compacted_for (ended_of (marked_by c.args.now ds w)) (pruned_by c.args.now ds w).cache) c.in-Err.spent.count (pruned_by c.args.now ds w) c.renew.new.writer) due c.in-Err.ensures.stops in
    subst (λ (x : Cached). Stops (pruned x.settings x.reloads c.args.now x.writer.cache) c.in-Err.spent.count x.writer c.renew.new.writer) c.self.view_is
    (renewal_stops a d.reloads c.in-Err.spent.count w c.renew.new.writer c.learn.ensures.told stops)
