-- What a caller may get as a reply is an answer, also over the history as a run leaves it later.
use Rattle.std.proofs.Common.{◌≡◌, ◌≢◌, ℕ, ◌+◌, ◌<◌, ◌≤◌, List, [], ◌∷◌, ◌++◌, length, refl, sym, ap, subst, ◌∙◌, arith, inl, inr}
use Rattle.std.specs.Prelude.{◌⊎◌, Some, None}
use Rattle.std.proofs.lemmas.Option.{same_Some}
use Rattle.nsc_model.specs.declared.kind.Db.{Db}
use Rattle.nsc_model.specs.declared.answer.Request.{Request}
use Rattle.nsc_model.specs.declared.record.Ending.TheVariants.{Invalidated}
use Rattle.nsc_model.specs.declared.record.Record.{Record}
use Rattle.nsc_model.specs.declared.record.Record.TheVariants.{Load, End, Invalid}
use Rattle.nsc_model.specs.Entry.{Entry}
use Rattle.nsc_model.specs.History.{changes, invalidations, HasLoad, Legal, IsPrefix, LooksAt, FromEntry, FromPoll}
use Rattle.nsc_laws.specs.Core.{Core, opening, ended_all, Move, Files, Begin, Look, Note, Fetch, PollStep, Insert, Finish, Empty, Compact, Reply, IsMove, AreMoves}
use Rattle.nsc_laws.specs.Origins.{IsOfCallers, IsAnswer, IsRunReply}
use Rattle.nsc_laws.proofs.Prefixes.{prefix_legal}
use Rattle.nsc_laws.proofs.CoreLaw.{legal_law, replies_law}
use Rattle.nsc_laws.proofs.CoreLawRecords.{prefix_more, load_more}
use Rattle.nsc_laws.proofs.MachineLawSteps.{both_prefix, runs_append, same_prefix}
use Rattle.nsc_laws.proofs.RunReplies.{changes_grow, version_stays, looked_below}

-- ---- histories go on

ended_on : (entries : List Entry) (h : List Record) → IsPrefix h (ended_all entries h)
ended_on [] h = same_prefix h
ended_on (e ∷ entries) h = both_prefix h (End e.number Invalidated ∷ h) (ended_all entries (End e.number Invalidated ∷ h)) (End e.number Invalidated ∷ [], refl) (ended_on entries (End e.number Invalidated ∷ h))

move_goes_on : (db : Db) (move : Move) (old new : Core) → IsMove db move old new → IsPrefix old.history new.history
move_goes_on db (Files content) old new m = ([], ap (λ (c : Core). c.history) m)
move_goes_on db (Begin a request seen) old new m = ([], ap (λ (c : Core). c.history) m.2)
move_goes_on db (Look a None) old new m = ([], ap (λ (c : Core). c.history) m)
move_goes_on db (Look a (Some e)) old new m = ([], ap (λ (c : Core). c.history) m.2)
move_goes_on db (Note a) old new m = ([], ap (λ (c : Core). c.history) m)
move_goes_on db (Fetch a) old new m = ([], ap (λ (c : Core). c.history) m.1)
move_goes_on db (PollStep a) old new m = (m.1 ∷ [], ap (λ (c : Core). c.history) m.5)
move_goes_on db (Insert a request timeout) old new (inl m) = (Load m.0 ∷ [], ap (λ (c : Core). c.history) m.2)
move_goes_on db (Insert a request timeout) old new (inr m) = ([], ap (λ (c : Core). c.history) m.1)
move_goes_on db (Finish number cause) old new m = (End number cause ∷ [], ap (λ (c : Core). c.history) m.4)
move_goes_on db Empty old new m =
    let is = ap (λ (c : Core). c.history) m.2 in
    subst (λ (h : List Record). IsPrefix old.history h) (sym is) (prefix_more (Invalid (invalidations old.history + 1)) old.history (ended_all m.0 old.history) (ended_on m.0 old.history))
move_goes_on db Compact old new m = ([], ap (λ (c : Core). c.history) m)
move_goes_on db (Reply a bytes) old new m = ([], ap (λ (c : Core). c.history) m.1)

run_goes_on : (db : Db) (moves : List Move) (old new : Core) → AreMoves db moves old new → IsPrefix old.history new.history
run_goes_on db [] old new r = ([], ap (λ (c : Core). c.history) r)
run_goes_on db (move ∷ moves) old new r = both_prefix old.history r.0.history new.history (move_goes_on db move old r.0 r.1) (run_goes_on db moves r.0 new r.2)

-- ---- answers stay answers

load_stays : (more h : List Record) (e : Entry) → HasLoad h e → HasLoad (more ++ h) e
load_stays [] h e a = a
load_stays (r ∷ more) h e a = load_more r (more ++ h) e (load_stays more h e a)

-- a version that was looked at is counted
looked_counted : (moment h : List Record) (n : ℕ) → 1 < length moment → IsPrefix moment h → Legal h → LooksAt moment n → n < changes h
looked_counted [] h n second p l at = absurd at
looked_counted (r ∷ before) h n second p l at =
    let some : before ≢ [] = λ none. (let size : length before ≡ 0 = ap (λ (x : List Record). length x) none in omega arith) in
    let low : n < changes (r ∷ before) = looked_below r before n some (prefix_legal p.0 (r ∷ before) (λ none. cc) (subst Legal p.1 l)) at in
    let grown : changes (r ∷ before) ≤ changes (p.0 ++ (r ∷ before)) = changes_grow p.0 (r ∷ before) in
    let is : changes h ≡ changes (p.0 ++ (r ∷ before)) = ap (λ (x : List Record). changes x) p.1 in
    omega arith

later_answer : (seen h more : List Record) (request : Request) (bytes : List ℕ) → h ≢ [] → Legal (more ++ h) → IsAnswer seen h request bytes → IsAnswer seen (more ++ h) request bytes
later_answer seen h more request bytes some l answer = by_source answer.answered.source answer.of_callers where
  onward : IsPrefix seen (more ++ h)
  onward = both_prefix seen h (more ++ h) answer.answered.seen_before (more, refl)

  by_source : (source : FromEntry seen h request bytes ⊎ FromPoll seen h request bytes) → IsOfCallers source → IsAnswer seen (more ++ h) request bytes
  by_source (inl from) own = record {
    answered = record {
      seen_before = onward;
      source = inl (record { entry_is = from.entry_is; inserted = load_stays more h from.entry_is from.inserted; answers = from.answers; said = from.said; not_seen_to_end = from.not_seen_to_end });
    };
    of_callers = tt;
  }
  by_source (inr from) own = record {
    answered = record {
      seen_before = onward;
      source = inr (record {
        version_is = from.version_is;
        files_are = from.files_are;
        moment = from.moment;
        is_moment = both_prefix from.moment h (more ++ h) from.is_moment (more, refl);
        later = from.later;
        looks = from.looks;
        holds = version_stays more h from.version_is some l (looked_counted from.moment h from.version_is own from.is_moment (prefix_legal more h some l) from.looks) ∙ from.holds;
        said = from.said;
      });
    };
    of_callers = own;
  }

-- ---- the law

some_history : (h : List Record) → Legal h → h ≢ []
some_history [] l none = absurd l
some_history (r ∷ h) l none = absurd cc

pub reply_answered : (db : Db) (seen history : List Record) (request : Request) (bytes : List ℕ) → IsRunReply db seen history request bytes → IsAnswer seen history request bytes
reply_answered db seen history request bytes r =
    let h = r.core.history in
    let asked : r.replies.request ≡ request = same_Some r.replies.request request (sym r.replies.request_is ∙ r.requested) in
    let answer = replies_law db r.first r.moves r.core r.runs r.caller bytes r.replies in
    let here : IsAnswer seen h request bytes = subst (λ (x : List Record). IsAnswer x h request bytes) r.seen_is (subst (λ (x : Request). IsAnswer (r.core.callers r.caller).seen h x bytes) asked answer) in
    let on = run_goes_on db r.later r.core r.new r.runs_on in
    let is = sym on.1 ∙ r.history_is in
    let legal = legal_law db r.first (r.moves ++ r.later) r.new (runs_append db r.moves r.later (opening db r.first) r.core r.new r.runs r.runs_on) in
    let some = some_history h (legal_law db r.first r.moves r.core r.runs) in
    subst (λ (x : List Record). IsAnswer seen x request bytes) is (later_answer seen h on.0 request bytes some (subst Legal on.1 legal) here)
