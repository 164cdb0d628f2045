use Rattle.std.proofs.Common.{◌≡◌, ◌∙◌, List, Option, Some, None, IfSome, ap, refl, subst, sym}
use Rattle.nsc_model.specs.declared.answer.Request.{Request}
use Rattle.nsc_model.specs.Content.{Content}
use Rattle.nsc_model.specs.declared.record.Record.{Record}
use Rattle.nsc_model.specs.History.{IsPrefix, Legal}
use Rattle.nsc_turns.proofs.Renewed.{answered_on, leaves_inserted}
use Rattle.nsc_model.specs.Machine.{lookup, polled, room_of}
use Rattle.nsc_laws.specs.Calls.{Tells}
use Rattle.nsc_turns.specs.declared.answering.Answering.{Answering}
use Rattle.nsc_turns.specs.Turns.{Completes, CompletesWith, InsertsBeside, missed}
use Rattle.nsc_writer.specs.Loaded.{Loaded}
use Rattle.nsc_writer.specs.Writer.{Inserts, IsAnswered, Writer}
use Rattle.nsc_replay.specs.Cached.{Cached, GivesUp, IsFresh}
use Rattle.nsc_replay.proofs.Cacheds.{IsMissed, answered_fresh, beside_fresh, lookup_faults, lookup_kept, lookup_lone}
use Rattle.nsc_replay.proofs.cached.Cached.lookup.Goals as goal

some_on : (seen h : List Record) (o : Option Loaded) → Legal h → Legal seen → IsPrefix seen h → IfSome o (IsAnswered seen) → IfSome o (IsAnswered h)
some_on seen h None legal legal_seen on a = a
some_on seen h (Some l) legal legal_seen on a = answered_on seen h l legal legal_seen on a

pub returns-in-Err-clause-fault : goal.returns-in-Err-clause-fault
returns-in-Err-clause-fault g c =
    let s = c.args.self.now in
    let request : Request = record { kind = c.args.kind; key = c.args.key.now } in
    let none = rw c.in_default.is at c.in_ok-reply.ensures.none in
    let same : c.hit.new.self ≡ s = rw c.in_default.is at c.in_ok-reply.ensures.same in
    lookup_faults c.in-Err.fault s.settings c.args.now s.files request s.writer c.poll.new.self.writer none
    (subst (λ (x : Cached). GivesUp (polled x.files x.writer.cache) x.writer c.poll.new.self.writer c.in-Err.fault) same c.in-Err.ensures.fault)

pub insert-said-requires-clause-answered : goal.insert-said-requires-clause-answered
insert-said-requires-clause-answered g c =
    let p = c.poll.new.self in
    let request : Request = record { kind = c.args.kind; key = c.args.key.now } in
    let a : Answering = record { settings = p.settings; stamp = c.in-Ok.stamp; moment = c.args.now } in
    let writer : c.self.inside.writer ≡ p.writer = ap (λ (x : Cached). x.writer) (c.self.view_is ∙ c.load.ensures.same) in
    let fresh = subst (λ (f : Content). IsFresh f c.in-Ok.stamp p.writer) (sym (ap (λ (x : Cached). x.files) c.poll.ensures.rest)) c.in-Ok.ensures.fresh in
    subst (λ (w : Writer). IsAnswered w.seen c.in_ok-loaded.loaded) (sym writer)
    (answered_fresh a p.files request 0 c.in_ok-loaded.loaded p.writer c.in_ok-loaded.ensures.loaded fresh (subst (λ (w : Writer). Tells w.seen w.cache) writer c.learn.ensures.told))

pub insert_beside-requires-clause-answered : goal.insert_beside-requires-clause-answered
insert_beside-requires-clause-answered g c =
    let p = c.poll.new.self in
    let request : Request = record { kind = c.args.kind; key = c.args.key.now } in
    let a : Answering = record { settings = p.settings; stamp = c.in-Ok.stamp; moment = c.args.now } in
    let l = c.in_ok-loaded.loaded in
    let after = c.insert-said.new.writer in
    let writer : c.self.inside.writer ≡ p.writer = ap (λ (x : Cached). x.writer) (c.self.view_is ∙ c.load.ensures.same) in
    let fresh = subst (λ (f : Content). IsFresh f c.in-Ok.stamp p.writer) (sym (ap (λ (x : Cached). x.files) c.poll.ensures.rest)) c.in-Ok.ensures.fresh in
    let told = subst (λ (w : Writer). Tells w.seen w.cache) writer c.learn.ensures.told in
    let answered = beside_fresh a p.files request c.in_ok-loaded.beside p.writer c.in_ok-loaded.ensures.beside fresh told in
    let on = subst (λ (w : Writer). IsPrefix w.seen after.seen) writer (leaves_inserted c.insert-said.result.0 l (missed l c.self.inside.writer) after c.insert-said.ensures.inserted).on in
    subst (λ (o : Option Loaded). IfSome o (IsAnswered after.seen)) (sym c.as_ref.ensures.value) (some_on p.writer.seen after.seen c.in_ok-loaded.beside c.learn-then-self.ensures.told.legal told.legal on answered)

pub returns-then-self-clause-turn : goal.returns-then-self-clause-turn
returns-then-self-clause-turn g c =
    let s = c.args.self.now in
    let p = c.poll.new.self in
    let request : Request = record { kind = c.args.kind; key = c.args.key.now } in
    let a : Answering = record { settings = p.settings; stamp = c.in-Ok.stamp; moment = c.args.now } in
    let same : c.hit.new.self ≡ s = rw c.in_default.is at c.in_ok-reply.ensures.same in
    let view = c.self.view_is ∙ c.load.ensures.same in
    let missed_all : IsMissed a request c.in_ok-loaded.loaded s p = record {
      none = rw c.in_default.is at c.in_ok-reply.ensures.none;
      completes = subst (λ (x : Cached). Completes (polled x.files x.writer.cache) x.writer p.writer) same c.in-Ok.ensures.polled;
      fresh = subst (λ (x : Cached). IsFresh x.files c.in-Ok.stamp p.writer) same c.in-Ok.ensures.fresh;
      rest = c.poll.ensures.rest ∙ ap (λ (x : Cached). let y : Cached = record x { writer = p.writer } in y) same;
      settings = refl;
      loaded = c.in_ok-loaded.ensures.loaded;
    } in
    lookup_kept a request c.insert-said.result.0 c.in_ok-loaded.loaded s p c.insert-said.new.writer c.insert_beside.new.writer c.into_reply.result missed_all (sym (ap (λ (x : Cached). x.settings.enabled) view) ∙ c.if-self.true) (subst (λ (x : Cached). x.writer.layout.arena ≡ room_of x.settings) view c.self.invariant.1)
    (subst (λ (x : Cached). Inserts c.insert-said.result.0 c.in_ok-loaded.loaded (missed c.in_ok-loaded.loaded x.writer) c.insert-said.new.writer) view c.insert-said.ensures.inserted)
    (subst (λ (o : Option Loaded). InsertsBeside c.insert-said.result.0 o c.insert-said.new.writer c.insert_beside.new.writer) (c.as_ref.ensures.value ∙ c.in_ok-loaded.ensures.beside) c.insert_beside.ensures) (c.into_reply.ensures ∙ ap (λ (l : Loaded). l.answer.bytes) c.insert-said.ensures.back)

pub returns-clause-turn : goal.returns-clause-turn
returns-clause-turn g c =
    let s = c.args.self.now in
    let p = c.poll.new.self in
    let request : Request = record { kind = c.args.kind; key = c.args.key.now } in
    let a : Answering = record { settings = p.settings; stamp = c.in-Ok.stamp; moment = c.args.now } in
    let same : c.hit.new.self ≡ s = rw c.in_default.is at c.in_ok-reply.ensures.same in
    let view = c.self.view_is ∙ c.load.ensures.same in
    let missed_all : IsMissed a request c.in_ok-loaded.loaded s p = record {
      none = rw c.in_default.is at c.in_ok-reply.ensures.none;
      completes = subst (λ (x : Cached). Completes (polled x.files x.writer.cache) x.writer p.writer) same c.in-Ok.ensures.polled;
      fresh = subst (λ (x : Cached). IsFresh x.files c.in-Ok.stamp p.writer) same c.in-Ok.ensures.fresh;
      rest = c.poll.ensures.rest ∙ ap (λ (x : Cached). let y : Cached = record x { writer = p.writer } in y) same;
      settings = refl;
      loaded = c.in_ok-loaded.ensures.loaded;
    } in
    subst (λ (x : Cached). CompletesWith (lookup s.settings c.args.now s.files request s.writer.cache) s.writer x.writer c.into_reply-2.result) (sym c.load.ensures.same)
    (lookup_lone a request c.in_ok-loaded.loaded s p c.into_reply-2.result missed_all (sym (ap (λ (x : Cached). x.settings.enabled) view) ∙ c.if-self.false) c.into_reply-2.ensures)
