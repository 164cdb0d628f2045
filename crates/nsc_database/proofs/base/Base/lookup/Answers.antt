use Rattle.std.proofs.Common.{◌∙◌, ℕ, List, [], Option, ap, inl, refl, rules, sym, subst}
use Rattle.std.specs.Prelude.{IfSome}
use Rattle.std.proofs.lemmas.Bool.{OnFalse_from, false≢true}
use Rattle.nsc_model.specs.declared.answer.Request.{Request}
use Rattle.nsc_model.specs.History.{PolledSince}
use Rattle.nsc_model.specs.Reads.{IsLookedUp}
use Rattle.nsc_model.specs.Stores.{IsHit, reply_of}
use Rattle.nsc_turns.specs.declared.answering.Answering.{Answering}
use Rattle.nsc_writer.specs.Loaded.{Loaded}
use Rattle.nsc_writer.specs.Writer.{IsAnswered}
use Rattle.nsc_database.specs.Frames.{LoadedLastCycle, pass_at}
use Rattle.nsc_turns.specs.declared.entries.HitOrMiss.TheVariants as looked
use Rattle.nsc_database.specs.Lookups.{IsFoundIfCached, IsTried}
use Rattle.nsc_database.specs.Rests.{IsFirstLoad, IsLoadedOf}
use Rattle.nsc_database.proofs.Beside.{beside_first}
use Rattle.nsc_database.proofs.Lookups.{Anew, anew_answers, anew_given, answered_before, found_none, given_before, hit_answer, is_missed, kept_reply, loaded_of, made_anew, missed_at, poll_answered, tried_to}
use Rattle.nsc_database.proofs.Standing.{goes_after, goes_on, loaded_before}
use Rattle.nsc_database.proofs.Steady.{is_of_held}
use Rattle.nsc_database.proofs.Ticked.{files_kept}
use Rattle.nsc_writer.proofs.Later.{version_on}
use Rattle.nsc_database.proofs.Added.{adds_after, look_at_most, looked_and_kept, refused_lookup}
use Rattle.nsc_database.proofs.base.Base.lookup.Goals as goal

-- ---- a hit

pub returns-in-Ok-copy-clause-answer : goal.returns-in-Ok-copy-clause-answer
returns-in-Ok-copy-clause-answer g c =
    let request : Request = record { kind = c.args.kind; key = c.args.key.now } in
    let seen = c.find.new.pass.pass.seen in
    let found : IsFoundIfCached c.args.self.now.settings (looked.Hit c.in-Hit.hit) c.find.new.pass.pass.seen request c.find.new.pass.reply.content = rw c.in-Hit.is at c.in-Ok.ensures.found in
    let hit = subst (λ (bytes : List ℕ). IsHit seen request bytes c.in-Hit.hit.number) (sym (c.in-Ok-copy.ensures ∙ c.bytes.ensures.content)) found.1 in
    hit_answer c.args.self.now.settings _ c.args.now c.args.pass.now.pass.seen seen _ request c.in-Ok-copy.bytes c.in-Hit.hit.number c.find.ensures.frame.before found.0 hit

pub returns-in-Ok-copy-clause-files : goal.returns-in-Ok-copy-clause-files
returns-in-Ok-copy-clause-files g c =
    let request : Request = record { kind = c.args.kind; key = c.args.key.now } in
    let seen = c.find.new.pass.pass.seen in
    record {
      made = ap g.F.FileSet.reads c.find.ensures.frame.files;
      of_held = is_of_held g.B.Room.held g.D.OfDb.db c.args.pass.now.pass.seen seen request _ c.find.ensures.frame.legal c.find.ensures.steady (returns-in-Ok-copy-clause-answer g c).answered;
    }

-- ---- files that could not be read

pub returns-in-Err-poll-clause-frame : goal.returns-in-Err-poll-clause-frame
returns-in-Err-poll-clause-frame g c = goes_after _ _ _ c.find.ensures.frame c.poll.ensures.frame

pub returns-in-Err-poll-clause-steady : goal.returns-in-Err-poll-clause-steady
returns-in-Err-poll-clause-steady g c = c.poll.ensures.steady c.find.ensures.steady

pub returns-in-Err-poll-clause-fault : goal.returns-in-Err-poll-clause-fault
returns-in-Err-poll-clause-fault g c =
    let request : Request = record { kind = c.args.kind; key = c.args.key.now } in
    let found_is : IsFoundIfCached c.args.self.now.settings (looked.Missed c.in-Missed.epoch) c.find.new.pass.pass.seen request c.find.new.pass.reply.content = rw c.in-Missed.is at c.in-Ok.ensures.found in
    record {
      missed = missed_at _ c.args.self.now.settings c.args.pass.now.pass.seen c.poll.new.pass.pass.seen request
          (is_missed c.args.self.now.settings c.args.pass.now.pass.seen c.find.new.pass.pass.seen c.poll.new.pass.pass.seen request c.in-Missed.epoch c.find.new.pass.reply.content c.find.ensures.frame.before c.poll.ensures.frame.before found_is);
      fault = search rules;
    }

-- ---- a database that is not cached

pub returns-in-Err-reply-clause-frame : goal.returns-in-Err-reply-clause-frame
returns-in-Err-reply-clause-frame g c = goes_after _ _ _ c.find.ensures.frame c.poll.ensures.frame

pub returns-then-not-self-clause-frame : goal.returns-then-not-self-clause-frame
returns-then-not-self-clause-frame g c = goes_after _ _ _ c.find.ensures.frame c.poll.ensures.frame

pub returns-then-not-self-clause-answer : goal.returns-then-not-self-clause-answer
returns-then-not-self-clause-answer g c =
    let request : Request = record { kind = c.args.kind; key = c.args.key.now } in
    let found = c.find.new.pass.pass.seen in
    let mid = c.poll.new.pass.pass.seen in
    record {
      answered = answered_before c.args.pass.now.pass.seen found mid request c.in-Ok-reply.bytes c.find.ensures.frame.before
          (poll_answered found mid mid request c.in-Missed.epoch c.in-Ok-poll.polled _ c.poll.ensures.frame.legal c.poll.ensures.frame.legal c.poll.ensures.frame.before ([], refl) c.in-Ok-poll.ensures.polled (sym c.in-Ok-reply.ensures));
      source = (search rules, inl (search rules));
      uncached = OnFalse_from c.args.self.now.settings.enabled _ (λ off. refl);
    }

-- ---- an answer that may be kept

pub keep-requires-clause-first : goal.keep-requires-clause-first
keep-requires-clause-first g c =
    let request : Request = record { kind = c.args.kind; key = c.args.key.now } in
    let made : Loaded = loaded_of c.args.self.now.settings c.args.now request c.in-Ok-poll.polled in
    let answered = anew_answers c.find.new.pass.pass.seen c.poll.new.pass.pass.seen request c.in-Missed.epoch c.in-Ok-poll.polled c.args.self.now.settings c.args.now c.in-Ok-poll.ensures.polled in
    record {
      answered = subst (IsAnswered c.poll.new.pass.pass.seen) (sym c.in-Ok-load.ensures.loaded) answered;
      new = ap (λ (l : Loaded). l.reloads) c.in-Ok-load.ensures.loaded;
      own = c.in-Ok-load.ensures.own;
    }

pub keep-requires-clause-beside : goal.keep-requires-clause-beside
keep-requires-clause-beside g c =
    let request : Request = record { kind = c.args.kind; key = c.args.key.now } in
    let polled = c.in-Ok-poll.ensures.polled in
    let a : Answering = record { settings = c.args.self.now.settings; stamp = c.in-Ok-poll.polled.stamp; moment = c.args.now } in
    let since = subst (PolledSince c.poll.new.pass.pass.seen c.in-Ok-poll.polled.stamp.version) (sym polled.epoch_is) polled.since in
    let which = g.D.OfDb.db in
    let own = subst (λ (o : Option Loaded). IfSome o (IsLoadedOf which)) c.in-Ok-load.ensures.beside c.in-Ok-load.ensures.beside_own in
    subst (λ (o : Option Loaded). IfSome o (IsFirstLoad which c.poll.new.pass.pass.seen)) (sym c.in-Ok-load.ensures.beside) (beside_first which a c.in-Ok-poll.polled.content request c.poll.new.pass.pass.seen polled.version since own)

pub returns-in-Err-load-clause-frame : goal.returns-in-Err-load-clause-frame
returns-in-Err-load-clause-frame g c = goes_after _ _ _ c.find.ensures.frame c.poll.ensures.frame

pub returns-in-Ok-keep-clause-frame : goal.returns-in-Ok-keep-clause-frame
returns-in-Ok-keep-clause-frame g c = goes_on _ _ _ (goes_after _ _ _ c.find.ensures.frame c.poll.ensures.frame) c.keep.ensures.frame

pub returns-clause-frame : goal.returns-clause-frame
returns-clause-frame g c = goes_on _ _ _ (goes_after _ _ _ c.find.ensures.frame c.poll.ensures.frame) c.keep.ensures.frame

pub returns-in-Ok-keep-clause-answer : goal.returns-in-Ok-keep-clause-answer
returns-in-Ok-keep-clause-answer g c =
    let request : Request = record { kind = c.args.kind; key = c.args.key.now } in
    let found_is : IsFoundIfCached c.args.self.now.settings (looked.Missed c.in-Missed.epoch) c.find.new.pass.pass.seen request c.find.new.pass.reply.content = rw c.in-Missed.is at c.in-Ok.ensures.found in
    let settings = c.args.self.now.settings in
    let found = c.find.new.pass.pass.seen in
    let mid = c.poll.new.pass.pass.seen in
    let after = c.keep.new.pass.pass.seen in
    let last_cycle : Type 0 = LoadedLastCycle c.args.pass.now c.keep.new.pass in
    let begun = (goes_after _ _ _ c.find.ensures.frame c.poll.ensures.frame).searches in
    let words = c.keep.new.pass.pass.present.words in
    let tried = tried_to settings words _ last_cycle c.in-Ok-load.insertions.loaded mid after c.in-Ok-keep.given (loaded_before c.args.pass.now c.poll.new.pass c.keep.new.pass begun) c.in-Ok-keep.ensures.kept in
    let reply = kept_reply settings words last_cycle c.in-Ok-load.insertions.loaded mid after c.in-Ok-keep.given tried ∙ ap (λ (l : Loaded). l.answer.bytes) c.in-Ok-load.ensures.loaded in
    let none = found_none settings found request c.in-Missed.epoch c.find.new.pass.reply.content c.if-not-self.false found_is in
    let anew : Anew found mid request c.in-Missed.epoch c.in-Ok-poll.polled = record { legal = c.find.ensures.frame.legal; legal_mid = c.poll.ensures.frame.legal; on = c.poll.ensures.frame.before; none = none.1; noted = none.0; is_polled = c.in-Ok-poll.ensures.polled } in
    record {
      answered = answered_before c.args.pass.now.pass.seen found after request (reply_of c.in-Ok-keep.given) c.find.ensures.frame.before
          (poll_answered found mid after request c.in-Missed.epoch c.in-Ok-poll.polled _ c.keep.ensures.frame.legal c.poll.ensures.frame.legal c.poll.ensures.frame.before c.keep.ensures.frame.before c.in-Ok-poll.ensures.polled (sym reply));
      source = given_before c.in-Ok-keep.given settings words c.args.now c.args.pass.now.pass.seen found after last_cycle request c.find.ensures.frame.before
          (anew_given c.in-Ok-keep.given found mid after last_cycle request c.in-Missed.epoch c.in-Ok-poll.polled settings words c.args.now anew c.keep.ensures.frame.before
          (subst (λ (l : Loaded). IsTried settings words last_cycle l mid after c.in-Ok-keep.given) c.in-Ok-load.ensures.loaded tried));
      uncached = OnFalse_from settings.enabled _ (λ off. absurd (false≢true (sym off ∙ c.if-not-self.false)));
    }

pub returns-in-Ok-keep-clause-files : goal.returns-in-Ok-keep-clause-files
returns-in-Ok-keep-clause-files g c =
    let request : Request = record { kind = c.args.kind; key = c.args.key.now } in
    let content = c.in-Ok-poll.polled.content in
    let tried = c.in-Ok-keep.ensures.kept in
    record {
      made = made_anew g.D.OfDb.db tried.said _ c.in-Ok-keep.given _ _ _ request content tried.gives
          (files_kept (λ a b. IsLookedUp g.D.OfDb.db (g.F.FileSet.reads a) (g.F.FileSet.reads b) (g.F.FileSet.latest b) content) _ _ _ _ c.find.ensures.frame.files c.keep.ensures.frame.files c.in-Ok-poll.ensures.files)
          (sym (ap (λ (l : Loaded). l.answer.bytes) c.in-Ok-load.ensures.loaded));
      of_held = is_of_held g.B.Room.held g.D.OfDb.db c.args.pass.now.pass.seen c.keep.new.pass.pass.seen request _ c.keep.ensures.frame.legal c.keep.ensures.steady (returns-in-Ok-keep-clause-answer g c).answered;
    }

-- ---- what it adds

pub returns-in-Err-poll-clause-refused : goal.returns-in-Err-poll-clause-refused
returns-in-Err-poll-clause-refused g c = refused_lookup c.in-Err-poll.fault (pass_at c.args.pass.now) (pass_at c.poll.new.pass) (c.in-Err-poll.ensures.refused ∙ c.in-Ok.ensures.made)

pub returns-in-Ok-keep-clause-made : goal.returns-in-Ok-keep-clause-made
returns-in-Ok-keep-clause-made g c =
    let request : Request = record { kind = c.args.kind; key = c.args.key.now } in
    looked_and_kept c.in-Ok-keep.given c.args.self.now.settings g.D.OfDb.db c.in-Ok-poll.polled c.args.now request c.in-Ok-load.insertions (pass_at c.args.pass.now) (pass_at c.poll.new.pass) (pass_at c.keep.new.pass)
    (adds_after (pass_at c.args.pass.now) (pass_at c.find.new.pass) (pass_at c.poll.new.pass) c.find.ensures.made c.in-Ok-poll.ensures.made) c.in-Ok-keep.ensures.made c.in-Ok-load.ensures
    (version_on c.poll.new.pass.pass.seen c.keep.new.pass.pass.seen c.in-Ok-poll.polled.stamp.version c.in-Ok-poll.polled.content c.keep.ensures.frame.legal c.poll.ensures.frame.legal c.keep.ensures.frame.before c.in-Ok-poll.ensures.polled.version)
