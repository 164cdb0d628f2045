-- Each answer over a legal history whose records have their origins is a reply that some caller of the core may get.
use Rattle.std.proofs.Common.{◌≡◌, ◌≢◌, ℕ, ◌+◌, ◌<◌, ◌≤◌, false, cond, eqb, List, [], ◌∷◌, ◌++◌, length, refl, sym, ap, subst, ◌∙◌, arith, append_assoc, length-append, inl, inr}
use Rattle.std.specs.Prelude.{◌⊎◌, Option, Some}
use Rattle.std.proofs.lemmas.Bool.{ne_eqb}
use Rattle.nsc_model.specs.declared.kind.Db.{Db}
use Rattle.nsc_model.specs.declared.answer.Request.{Request}
use Rattle.nsc_model.specs.declared.record.Record.{Record}
use Rattle.nsc_model.specs.declared.record.Record.TheVariants.{Change, Poll, Load, End, Invalid}
use Rattle.nsc_model.specs.Content.{Content}
use Rattle.nsc_model.specs.Entry.{Entry}
use Rattle.nsc_model.specs.Answers.{answer_of}
use Rattle.nsc_model.specs.History.{changes, version_in, HasLoad, IsLive, Legal, IsPrefix, LooksAt, FromEntry, FromPoll, Answered}
use Rattle.nsc_laws.specs.Core.{Caller, Core, new_caller, opening, Begin, Look}
use Rattle.nsc_laws.specs.Moments.{WasLive}
use Rattle.nsc_laws.specs.Origins.{IsSourced, IsOfCallers, IsAnswer, IsRunReply}
use Rattle.nsc_laws.proofs.Prefixes.{more_after, prefix_legal}
use Rattle.nsc_laws.proofs.CoreLaw.{changed, begun, taking}
use Rattle.nsc_laws.proofs.CoreLawRecords.{changes_rise}
use Rattle.nsc_laws.proofs.LiveFronts.{reply_was_live}
use Rattle.nsc_laws.proofs.MachineLawSteps.{at_own, runs_append}
use Rattle.nsc_laws.proofs.RunSteps.{Holder, WasAsked, Ready, other_callers, begins}
use Rattle.nsc_laws.proofs.RunRecords.{nothing_seen, change_differs, looks_at, sourced_before, reaches_on, begins_with}

-- ---- prefixes

tails : (x y : Record) (xs ys : List Record) → x ∷ xs ≡ y ∷ ys → xs ≡ ys
tails x y xs ys e = cc

-- of two histories that one began with, the shorter is where the longer began
shorter : (m a n b : List Record) → m ++ a ≡ n ++ b → length a ≤ length b → IsPrefix a b
shorter m a [] b e low = (m, sym e)
shorter [] a (y ∷ n) b e low = let long : length a ≡ length (y ∷ (n ++ b)) = ap (λ (x : List Record). length x) e in absurd (omega (arith, length-append n b))
shorter (x ∷ m) a (y ∷ n) b e low = shorter m a n b (tails x y (m ++ a) (n ++ b) e) low

-- ---- versions

pub changes_grow : (more h : List Record) → changes h ≤ changes (more ++ h)
changes_grow [] h = omega arith
changes_grow (r ∷ more) h = let first : changes h ≤ changes (more ++ h) = changes_grow more h in let next : changes (more ++ h) ≤ changes (r ∷ (more ++ h)) = changes_rise r (more ++ h) in omega arith

-- a version keeps its content
pub version_stays : (more h : List Record) (n : ℕ) → h ≢ [] → Legal (more ++ h) → n < changes h → version_in (more ++ h) n ≡ version_in h n
version_stays [] h n some l low = refl
version_stays (Change v c ∷ more) h n some l low =
    let holds = more_after more h some in
    let is : v ≡ changes (more ++ h) = (change_differs v c (more ++ h) holds l).0 in
    let grown : changes h ≤ changes (more ++ h) = changes_grow more h in
    let other : eqb v n ≡ false = ne_eqb v n (λ same. omega arith) in
    ap (λ b. cond b (Some c) (version_in (more ++ h) n)) other ∙ version_stays more h n some (prefix_legal (Change v c ∷ []) (more ++ h) holds l) low
version_stays (Poll v ∷ more) h n some l low = version_stays more h n some l.0 low
version_stays (Load e ∷ more) h n some l low = version_stays more h n some l.0 low
version_stays (End k cause ∷ more) h n some l low = version_stays more h n some l.0 low
version_stays (Invalid k ∷ more) h n some l low = version_stays more h n some l.0 low

pub looked_below : (r : Record) (h : List Record) (n : ℕ) → h ≢ [] → Legal (r ∷ h) → LooksAt (r ∷ h) n → n < changes (r ∷ h)
looked_below (Change v c) h n some l at = let is : v ≡ changes h = (change_differs v c h some l).0 in let same : v ≡ n = at in omega arith
looked_below (Poll v) h n some l at = let next : v + 1 ≡ changes h = l.1 in let same : v ≡ n = at in omega arith
looked_below (Load e) h n some l at = absurd at
looked_below (End k cause) h n some l at = absurd at
looked_below (Invalid k) h n some l at = absurd at

-- ---- replies from a poll

legal_in : (history : List Record) (more h : List Record) → history ≡ more ++ h → Legal history → Legal (more ++ h)
legal_in history more h is l = subst Legal is l

sourced_in : (db : Db) (history : List Record) (more h : List Record) → history ≡ more ++ h → IsSourced db history → IsSourced db (more ++ h)
sourced_in db history more h is s = subst (λ (x : List Record). IsSourced db x) is s

by_moment : (db : Db) (seen history : List Record) (request : Request) (bytes : List ℕ) (moment : List Record) (n : ℕ) (content : Content) → Legal history → IsSourced db history → IsPrefix seen history → IsPrefix moment history
    → length seen < length moment → 1 < length moment → LooksAt moment n → version_in history n ≡ Some content → (answer_of content request).bytes ≡ bytes → IsRunReply db seen history request bytes
by_moment db seen history request bytes [] n content l s p q later second at holds said = absurd at
by_moment db seen history request bytes (r ∷ h) n content l s p q later second at holds said =
    let some : h ≢ [] = λ none. (let size : length h ≡ 0 = ap (λ (x : List Record). length x) none in omega arith) in
    let filled : r ∷ h ≢ [] = λ none. cc in
    let all = legal_in history q.0 (r ∷ h) q.1 l in
    let sources = sourced_in db history q.0 (r ∷ h) q.1 s in
    let legal = prefix_legal q.0 (r ∷ h) filled all in
    let sourced = sourced_before db q.0 (r ∷ h) sources in
    let w = begins_with db h (prefix_legal (r ∷ []) h some legal) (sourced_before db (r ∷ []) h sourced) in
    let core = w.reaches.new in
    let is = sym w.reaches.history_is in
    let split : p.0 ++ seen ≡ (q.0 ++ (r ∷ [])) ++ h = sym p.1 ∙ (q.1 ∙ sym (append_assoc q.0 (r ∷ []) h)) in
    let seen_before : IsPrefix seen h = shorter p.0 seen (q.0 ++ (r ∷ [])) h split (omega arith) in
    let x = looks_at db core (Some request) seen r n w.reaches.ready (λ none. some (is ∙ none)) (subst (λ (y : List Record). LooksAt (r ∷ y) n) is at) (subst (λ (y : List Record). Legal (r ∷ y)) is legal)
    (subst (λ (y : List Record). IsSourced db (r ∷ y)) is sourced) (subst (λ (y : List Record). IsPrefix seen y) is seen_before) in
    let front = x.history_is ∙ ap (λ (y : List Record). r ∷ y) w.reaches.history_is in
    let stays = version_stays q.0 (r ∷ h) n filled all (looked_below r h n some legal at) in
    let held : version_in x.new.history n ≡ Some content = ap (λ (y : List Record). version_in y n) front ∙ (sym stays ∙ (sym (ap (λ (y : List Record). version_in y n) q.1) ∙ holds)) in
    let on = reaches_on db q.0 x.new x.ready (λ none. filled (sym front ∙ none)) (subst (λ (y : List Record). Legal (q.0 ++ y)) (sym front) all) (subst (λ (y : List Record). IsSourced db (q.0 ++ y)) (sym front) sources) in
    record {
      first = w.first;
      moves = w.reaches.moves ++ x.moves;
      core = x.new;
      runs = runs_append db w.reaches.moves x.moves (opening db w.first) core x.new w.reaches.runs x.runs;
      caller = x.caller;
      requested = x.request_is;
      seen_is = x.seen_is;
      replies = record { request = request; request_is = x.request_is; source = inr (n, content, x.asked_is, held, said) };
      later = on.moves;
      new = on.new;
      runs_on = on.runs;
      history_is = on.history_is ∙ (ap (λ (y : List Record). q.0 ++ y) front ∙ sym q.1);
    }

reply_from_poll : (db : Db) (seen history : List Record) (request : Request) (bytes : List ℕ) → Legal history → IsSourced db history → IsPrefix seen history → (from : FromPoll seen history request bytes) → 1 < length from.moment → IsRunReply db seen history request bytes
reply_from_poll db seen history request bytes l s p from second =
    by_moment db seen history request bytes from.moment from.version_is from.files_are l s p from.is_moment from.later second from.looks from.holds from.said

-- ---- replies from an entry

-- the callers after this one are new, and those before it have the versions
record Spares (core : Core) (a : ℕ) : Type 0 where
  unused : (b : ℕ) → a < b → core.callers b ≡ new_caller
  holders : (n : ℕ) → WasAsked core.history n → Holder core a n

spares : (core : Core) (ready : Ready core) → Spares core ready.fresh
spares core ready = record { unused = λ b high. ready.unused b (omega arith); holders = ready.holders }

spares_changed : (core : Core) (a : ℕ) (c : Caller) → Spares core a → Spares (changed core a c) a
spares_changed core a c s = record {
  unused = λ b high. other_callers core.callers a b c (λ same. omega arith) ∙ s.unused b high;
  holders = λ n was. let h = s.holders n was in let low : h.caller < a = h.known in let is = other_callers core.callers a h.caller c (λ same. omega arith) in record {
    caller = h.caller;
    known = h.known;
    version_is = ap (λ (x : Caller). x.version) is ∙ h.version_is;
    noted_is = ap (λ (x : Caller). x.noted) is ∙ h.noted_is;
    seen_before = subst (λ (x : Caller). IsPrefix x.seen core.history) (sym is) h.seen_before;
  };
}

spares_ready : (core : Core) (a : ℕ) → Spares core a → Ready core
spares_ready core a s = record {
  fresh = a + 1;
  unused = λ b high. s.unused b (omega arith);
  holders = λ n was. let h = s.holders n was in let low : h.caller < a = h.known in record { caller = h.caller; known = omega arith; version_is = h.version_is; noted_is = h.noted_is; seen_before = h.seen_before };
}

abbrev asking : Request → Option Request
asking r = Some r

by_front : (db : Db) (seen history : List Record) (request : Request) (bytes : List ℕ) (e : Entry) → Legal history → IsSourced db history → WasLive seen history e → e.request ≡ request → e.answer.bytes ≡ bytes → IsRunReply db seen history request bytes
by_front db seen history request bytes e l s live asks said =
    let front = live.front in
    let q = live.in_history in
    let some : front ≢ [] = λ none. subst (λ (y : List Record). HasLoad y e) none live.live.inserted in
    let all = legal_in history q.0 front q.1 l in
    let sources = sourced_in db history q.0 front q.1 s in
    let w = begins_with db front (prefix_legal q.0 front some all) (sourced_before db q.0 front sources) in
    let core = w.reaches.new in
    let a = w.reaches.ready.fresh in
    let is = sym w.reaches.history_is in
    let c1 = begins core a (Some request) seen in
    let c2 = changed c1 a (taking (c1.callers a) e) in
    let own1 = at_own core.callers a (begun (core.callers a) (Some request) seen) in
    let own2 = at_own c1.callers a (taking (c1.callers a) e) in
    let requested : (c2.callers a).request ≡ Some request = ap (λ (c : Caller). c.request) own2 ∙ ap (λ (c : Caller). c.request) own1 in
    let ready = spares_ready c2 a (spares_changed c1 a (taking (c1.callers a) e) (spares_changed core a (begun (core.callers a) (Some request) seen) (spares core w.reaches.ready))) in
    let unseen : IsPrefix (core.callers a).seen seen = subst (λ (c : Caller). IsPrefix c.seen seen) (sym (w.reaches.ready.unused a (omega arith))) (nothing_seen seen) in
    let on = reaches_on db q.0 c2 ready (λ none. some (is ∙ none)) (subst (λ (y : List Record). Legal (q.0 ++ y)) is all) (subst (λ (y : List Record). IsSourced db (q.0 ++ y)) is sources) in
    record {
      first = w.first;
      moves = w.reaches.moves ++ (Begin a (Some request) seen ∷ Look a (Some e) ∷ []);
      core = c2;
      runs = runs_append db w.reaches.moves (Begin a (Some request) seen ∷ Look a (Some e) ∷ []) (opening db w.first) core c2 w.reaches.runs
          (c1, (unseen, subst (λ (y : List Record). IsPrefix seen y) is live.after_seen, refl), (c2, (subst (λ (y : List Record). IsLive y e) is live.live, ap (λ (c : Caller). c.request) own1 ∙ ap (λ (r : Request). asking r) (sym asks), refl), refl));
      caller = a;
      requested = requested;
      seen_is = ap (λ (c : Caller). c.seen) own2 ∙ ap (λ (c : Caller). c.seen) own1;
      replies = record { request = request; request_is = requested; source = inl (e, ap (λ (c : Caller). c.taken) own2, said) };
      later = on.moves;
      new = on.new;
      runs_on = on.runs;
      history_is = on.history_is ∙ (ap (λ (y : List Record). q.0 ++ y) (sym is) ∙ sym q.1);
    }

reply_from_entry : (db : Db) (seen history : List Record) (request : Request) (bytes : List ℕ) → Legal history → IsSourced db history → IsPrefix seen history → FromEntry seen history request bytes → IsRunReply db seen history request bytes
reply_from_entry db seen history request bytes l s p from =
    by_front db seen history request bytes from.entry_is l s (reply_was_live seen history request bytes l p from) from.answers from.said

-- ---- any answer

pub answer_replied : (db : Db) (seen history : List Record) (request : Request) (bytes : List ℕ) → Legal history → IsSourced db history → IsAnswer seen history request bytes → IsRunReply db seen history request bytes
answer_replied db seen history request bytes l s answer = by_source answer.answered.source answer.of_callers where
  by_source : (source : FromEntry seen history request bytes ⊎ FromPoll seen history request bytes) → IsOfCallers source → IsRunReply db seen history request bytes
  by_source (inl from) own = reply_from_entry db seen history request bytes l s answer.answered.seen_before from
  by_source (inr from) own = reply_from_poll db seen history request bytes l s answer.answered.seen_before from own

some_seen : (seen : List Record) → seen ≢ [] → 0 < length seen
some_seen [] some = absurd (some refl)
some_seen (r ∷ seen) some = omega arith

-- a look after something that the caller had seen is a caller's
pub seen_answer : (seen history : List Record) (request : Request) (bytes : List ℕ) → seen ≢ [] → Answered seen history request bytes → IsAnswer seen history request bytes
seen_answer seen history request bytes some answered = record { answered = answered; of_callers = by_source answered.source } where
  by_source : (source : FromEntry seen history request bytes ⊎ FromPoll seen history request bytes) → IsOfCallers source
  by_source (inl from) = tt
  by_source (inr from) = let first : 0 < length seen = some_seen seen some in let more : length seen < length from.moment = from.later in omega arith
