-- The law of the core: in every run the history is legal, and each reply that a caller may get is an answer.
use Rattle.std.proofs.Common.{◌≡◌, ◌≢◌, ℕ, ◌+◌, ◌<◌, ◌≤◌, Bool, true, false, cond, eqb, List, [], ◌∷◌, length, Option, Some, None, refl, sym, ap, subst, ◌∙◌, arith, inl, inr}
use Rattle.std.specs.Prelude.{◌⊎◌}
use Rattle.std.proofs.lemmas.List.{append-nil}
use Rattle.std.proofs.lemmas.Option.{none-some, same_Some}
use Rattle.nsc_model.specs.declared.kind.Db.{Db}
use Rattle.nsc_model.specs.declared.answer.Request.{Request}
use Rattle.nsc_model.specs.declared.record.Ending.TheVariants.{Invalidated}
use Rattle.nsc_model.specs.declared.record.Record.{Record}
use Rattle.nsc_model.specs.declared.record.Record.TheVariants.{Change, Load, End, Invalid}
use Rattle.nsc_model.specs.Content.{Content}
use Rattle.nsc_model.specs.Files.{part_of}
use Rattle.nsc_model.specs.Entry.{Entry}
use Rattle.nsc_model.specs.Answers.{answer_of}
use Rattle.nsc_model.specs.History.{changes, invalidations, newest, version_in, HasLoad, HasEnd, IsLive, WasPolled, Legal, IsPrefix, FromEntry, FromPoll, LooksAt}
use Rattle.nsc_laws.specs.Origins.{IsOfCallers, IsAnswer}
use Rattle.nsc_laws.specs.Core.{Caller, Core, new_caller, opening, with_caller, Move, Files, Begin, Look, Note, Fetch, PollStep, Insert, Finish, Empty, Compact, Reply, IsPoll, IsInsertion, Replies, ended_all, IsMove, AreMoves, RepliesAnswer}
use Rattle.nsc_model.specs.Live.{AreLive}
use Rattle.nsc_laws.proofs.CoreLawRecords.{prefix_more, prefix_length, not_ended_before, load_more, invalidations_rise, changes_rise, poll_more, version_held, all_ended, none_left, same_invalidations}

-- of the version that a caller polled in its call: a moment of the call at which it was looked at
record Asks (seen history : List Record) (n : ℕ) : Type 0 where
  moment : List Record
  is_moment : IsPrefix moment history
  later : length seen < length moment
  past_first : 1 < length moment
  looks : LooksAt moment n

-- what a caller knows is true of the history
record Told (history : List Record) (c : Caller) : Type 0 where
  seen_before : IsPrefix c.seen history
  noted_before : (k : ℕ) → c.noted ≡ Some k → k ≤ invalidations history
  polled_since : (k n : ℕ) → c.noted ≡ Some k → c.version ≡ Some n → k ≡ invalidations history → WasPolled history n
  version_before : (n : ℕ) → c.version ≡ Some n → n < changes history
  asked_before : (n : ℕ) → c.asked ≡ Some n → n < changes history
  taken_was : (e : Entry) → c.taken ≡ Some e → HasLoad history e
  taken_is : (e : Entry) → c.taken ≡ Some e → c.request ≡ Some e.request
  taken_lives : (e : Entry) → c.taken ≡ Some e → HasEnd c.seen e.number → ⊥
  asks : (n : ℕ) → c.asked ≡ Some n → Asks c.seen history n

record Sound (core : Core) : Type 0 where
  legal : Legal core.history
  told : (a : ℕ) → Told core.history (core.callers a)

-- ---- more records

told_more : (r : Record) (h : List Record) (c : Caller) → Told h c → Told (r ∷ h) c
told_more r h c t = record {
  seen_before = prefix_more r c.seen h t.seen_before;
  noted_before = λ k e. let low : k ≤ invalidations h = t.noted_before k e in let rise : invalidations h ≤ invalidations (r ∷ h) = invalidations_rise r h in omega arith;
  polled_since = λ k n e v. poll_more r h k n (t.noted_before k e) (t.polled_since k n e v);
  version_before = λ n e. let low : n < changes h = t.version_before n e in let rise : changes h ≤ changes (r ∷ h) = changes_rise r h in omega arith;
  asked_before = λ n e. let low : n < changes h = t.asked_before n e in let rise : changes h ≤ changes (r ∷ h) = changes_rise r h in omega arith;
  taken_was = λ e is. load_more r h e (t.taken_was e is);
  taken_is = t.taken_is;
  taken_lives = t.taken_lives;
  asks = λ n is. let a = t.asks n is in record { moment = a.moment; is_moment = prefix_more r a.moment h a.is_moment; later = a.later; past_first = a.past_first; looks = a.looks };
}

told_ended : (entries : List Entry) (h : List Record) (c : Caller) → Told h c → Told (ended_all entries h) c
told_ended [] h c t = t
told_ended (e ∷ entries) h c t = told_ended entries (End e.number Invalidated ∷ h) c (told_more (End e.number Invalidated) h c t)

-- ---- one caller

told_with : (h : List Record) (callers : ℕ → Caller) (a : ℕ) (c : Caller) → Told h c → ((b : ℕ) → Told h (callers b)) → (b : ℕ) → Told h (with_caller callers a c b)
told_with h callers a c t others b = by_test (eqb a b) where
  by_test : (same : Bool) → Told h (cond same c (callers b))
  by_test true = t
  by_test false = others b

abbrev pub changed : Core → ℕ → Caller → Core
changed core a c = record core { callers = with_caller core.callers a c }

becomes : (core : Core) (a : ℕ) (c : Caller) → Sound core → Told core.history c → Sound (changed core a c)
becomes core a c s t = record { legal = s.legal; told = told_with core.history core.callers a c t s.told }

abbrev pub begun : Caller → Option Request → List Record → Caller
begun c request seen = record c { request = request; seen = seen; taken = None; asked = None }

begins : (h : List Record) (c : Caller) (request : Option Request) (seen : List Record) → IsPrefix seen h → Told h c → Told h (begun c request seen)
begins h c request seen p t = record {
  seen_before = p;
  noted_before = t.noted_before;
  polled_since = t.polled_since;
  version_before = t.version_before;
  asked_before = λ n is. absurd (none-some n is);
  taken_was = λ e is. absurd (none-some e is);
  taken_is = λ e is. absurd (none-some e is);
  taken_lives = λ e is. absurd (none-some e is);
  asks = λ n is. absurd (none-some n is);
}

abbrev missing : Caller → Caller
missing c = record c { taken = None }

misses : (h : List Record) (c : Caller) → Told h c → Told h (missing c)
misses h c t = record {
  seen_before = t.seen_before;
  noted_before = t.noted_before;
  polled_since = t.polled_since;
  version_before = t.version_before;
  asked_before = t.asked_before;
  taken_was = λ e is. absurd (none-some e is);
  taken_is = λ e is. absurd (none-some e is);
  taken_lives = λ e is. absurd (none-some e is);
  asks = t.asks;
}

abbrev pub taking : Caller → Entry → Caller
taking c e = record c { taken = Some e }

takes : (h : List Record) (c : Caller) (e : Entry) → IsLive h e → c.request ≡ Some e.request → Told h c → Told h (taking c e)
takes h c e live request t = record {
  seen_before = t.seen_before;
  noted_before = t.noted_before;
  polled_since = t.polled_since;
  version_before = t.version_before;
  asked_before = t.asked_before;
  taken_was = λ f is. subst (HasLoad h) (same_Some e f is) live.inserted;
  taken_is = λ f is. subst (λ (x : Entry). c.request ≡ Some x.request) (same_Some e f is) request;
  taken_lives = λ f is. subst (λ (x : Entry). HasEnd c.seen x.number → ⊥) (same_Some e f is) (not_ended_before c.seen h e.number t.seen_before live.not_ended);
  asks = t.asks;
}

abbrev pub noting : Caller → ℕ → Caller
noting c k = record c { noted = Some k; fetched = None; version = None }

notes : (h : List Record) (c : Caller) → Told h c → Told h (noting c (invalidations h))
notes h c t = record {
  seen_before = t.seen_before;
  noted_before = λ k is. let same : invalidations h ≡ k = same_Some (invalidations h) k is in omega arith;
  polled_since = λ k n is v. absurd (none-some n v);
  version_before = λ n is. absurd (none-some n is);
  asked_before = t.asked_before;
  taken_was = t.taken_was;
  taken_is = t.taken_is;
  taken_lives = t.taken_lives;
  asks = t.asks;
}

abbrev pub fetching : Caller → Content → Caller
fetching c content = record c { fetched = Some content }

fetches : (h : List Record) (c : Caller) (content : Content) → Told h c → Told h (fetching c content)
fetches h c content t = record {
  seen_before = t.seen_before;
  noted_before = t.noted_before;
  polled_since = t.polled_since;
  version_before = t.version_before;
  asked_before = t.asked_before;
  taken_was = t.taken_was;
  taken_is = t.taken_is;
  taken_lives = t.taken_lives;
  asks = t.asks;
}

-- ---- a poll

abbrev pub polling : Caller → ℕ → Caller
polling c n = record c { version = Some n; asked = Some n }

polls : (h : List Record) (c : Caller) (poll : Record) (n : ℕ) → 0 < length h → n < changes (poll ∷ h) → WasPolled (poll ∷ h) n → LooksAt (poll ∷ h) n → Told h c → Told (poll ∷ h) (polling c n)
polls h c poll n some below was looks t = record {
  seen_before = more.seen_before;
  noted_before = more.noted_before;
  polled_since = λ k m e v same. subst (WasPolled (poll ∷ h)) (same_Some n m v) was;
  version_before = λ m is. let same : n ≡ m = same_Some n m is in omega arith;
  asked_before = λ m is. let same : n ≡ m = same_Some n m is in omega arith;
  taken_was = more.taken_was;
  taken_is = more.taken_is;
  taken_lives = more.taken_lives;
  asks = λ m is. subst (Asks c.seen (poll ∷ h)) (same_Some n m is) asked;
} where
  more : Told (poll ∷ h) c
  more = told_more poll h c t

  asked : Asks c.seen (poll ∷ h) n
  asked = record { moment = poll ∷ h; is_moment = ([], refl); later = let low : length c.seen ≤ length h = prefix_length c.seen h t.seen_before in omega arith; past_first = omega arith; looks = looks }

-- what is known after a poll
record IsLook (h : List Record) (poll : Record) (n : ℕ) : Type 0 where
  legal : Legal (poll ∷ h)
  below : n < changes (poll ∷ h)
  was : WasPolled (poll ∷ h) n
  looks : LooksAt (poll ∷ h) n

pub change_legal : (h : List Record) (n : ℕ) (content : Content) → Legal h → n ≡ changes h → newest h ≢ Some content → Legal (Change n content ∷ h)
change_legal [] n content l e d = absurd l
change_legal (r ∷ h) n content l e d = (l, e, d)

is_look : (h : List Record) (content : Content) (poll : Record) (n : ℕ) → Legal h → IsPoll h content poll n → IsLook h poll n
is_look h content poll n l (inl same) = subst (λ (r : Record). IsLook h r n) (sym same.2) (record { legal = (l, same.1); below = let next : n + 1 ≡ changes h = same.1 in omega arith; was = inl refl; looks = refl })
is_look h content poll n l (inr other) = subst (λ (r : Record). IsLook h r n) (sym other.2) (record { legal = change_legal h n content l other.1 other.0; below = let new : n ≡ changes h = other.1 in omega arith; was = inl refl; looks = refl })

some_record : (h : List Record) → Legal h → 0 < length h
some_record [] l = absurd l
some_record (r ∷ h) l = omega arith

abbrev pub after_poll : Core → ℕ → Record → ℕ → Core
after_poll core a poll n = record core { history = poll ∷ core.history; callers = with_caller core.callers a (polling (core.callers a) n) }

poll_sound : (core : Core) (a : ℕ) (content : Content) (poll : Record) (n : ℕ) → Sound core → IsPoll core.history content poll n → Sound (after_poll core a poll n)
poll_sound core a content poll n s is =
    let look = is_look core.history content poll n s.legal is in
    record {
      legal = look.legal;
      told = told_with (poll ∷ core.history) core.callers a (polling (core.callers a) n) (polls core.history (core.callers a) poll n (some_record core.history s.legal) look.below look.was look.looks (s.told a)) (λ b. told_more poll core.history (core.callers b) (s.told b));
    }

-- ---- loads and ends

abbrev gaining : Core → Record → Core
gaining core r = record core { history = r ∷ core.history }

gains : (core : Core) (r : Record) → Sound core → Legal (r ∷ core.history) → Sound (gaining core r)
gains core r s l = record { legal = l; told = λ a. told_more r core.history (core.callers a) (s.told a) }

load_legal : (h : List Record) (c : Caller) (request : Request) (timeout : ℕ) (e : Entry) → Legal h → Told h c → IsInsertion h c request timeout e → Legal (Load e ∷ h)
load_legal h c request timeout e l t i = (l, i.number_is, i.none_live, (i.content, i.held, i.answer_is), t.polled_since (invalidations h) e.version i.noted_is i.version_is refl)

-- ---- an invalidation

abbrev emptied : Core → List Entry → Core
emptied core entries = record core { history = Invalid (invalidations core.history + 1) ∷ ended_all entries core.history }

empty_sound : (core : Core) (entries : List Entry) → Sound core → AreLive core.history entries → Sound (emptied core entries)
empty_sound core entries s are =
    let h = core.history in
    let same : invalidations (ended_all entries h) ≡ invalidations h = same_invalidations entries h in
    record {
      legal = (all_ended entries h s.legal are.live are.rising, ap (λ (k : ℕ). k + 1) (sym same), none_left entries h are);
      told = λ a. told_more (Invalid (invalidations h + 1)) (ended_all entries h) (core.callers a) (told_ended entries h (core.callers a) (s.told a));
    }

-- ---- moves and runs

kept : (db : Db) (move : Move) (old new : Core) → Sound old → IsMove db move old new → Sound new
kept db (Files content) old new s m = subst Sound (sym m) (record { legal = s.legal; told = s.told })
kept db (Begin a request seen) old new s m =
    subst Sound (sym m.2) (becomes old a (begun (old.callers a) request seen) s (begins old.history (old.callers a) request seen m.1 (s.told a)))
kept db (Look a None) old new s m = subst Sound (sym m) (becomes old a (missing (old.callers a)) s (misses old.history (old.callers a) (s.told a)))
kept db (Look a (Some e)) old new s m = subst Sound (sym m.2) (becomes old a (taking (old.callers a) e) s (takes old.history (old.callers a) e m.0 m.1 (s.told a)))
kept db (Note a) old new s m = subst Sound (sym m) (becomes old a (noting (old.callers a) (invalidations old.history)) s (notes old.history (old.callers a) (s.told a)))
kept db (Fetch a) old new s m = subst Sound (sym m.1) (becomes old a (fetching (old.callers a) (part_of db old.sources)) s (fetches old.history (old.callers a) (part_of db old.sources) (s.told a)))
kept db (PollStep a) old new s m = subst Sound (sym m.5) (poll_sound old a m.0 m.1 m.2 s m.4)
kept db (Insert a request timeout) old new s (inl m) =
    subst Sound (sym m.2) (gains old (Load m.0) s (load_legal old.history (old.callers a) request timeout m.0 s.legal (s.told a) m.1))
kept db (Insert a request timeout) old new s (inr m) = subst Sound (sym m.1) s
kept db (Finish number cause) old new s m = subst Sound (sym m.4) (gains old (End number cause) s (s.legal, m.0, m.1, m.2, m.3))
kept db Empty old new s m = subst Sound (sym m.2) (empty_sound old m.0 s m.1)
kept db Compact old new s m = subst Sound (sym m) s
kept db (Reply a bytes) old new s m = subst Sound (sym m.1) s

run_kept : (db : Db) (moves : List Move) (old new : Core) → Sound old → AreMoves db moves old new → Sound new
run_kept db [] old new s r = subst Sound (sym r) s
run_kept db (move ∷ moves) old new s r = run_kept db moves r.0 new (kept db move old r.0 s r.1) r.2

new_told : (h : List Record) → Told h new_caller
new_told h = record {
  seen_before = (h, sym (append-nil h));
  noted_before = λ k is. absurd (none-some k is);
  polled_since = λ k n is v same. absurd (none-some k is);
  version_before = λ n is. absurd (none-some n is);
  asked_before = λ n is. absurd (none-some n is);
  taken_was = λ e is. absurd (none-some e is);
  taken_is = λ e is. absurd (none-some e is);
  taken_lives = λ e is. absurd (none-some e is);
  asks = λ n is. absurd (none-some n is);
}

opening_sound : (db : Db) (sources : Content) → Sound (opening db sources)
opening_sound db sources = record { legal = refl; told = λ a. new_told (Change 0 (part_of db sources) ∷ []) }

-- ---- replies

abbrev Source : Core → ℕ → Request → List ℕ → Type 0
Source core a request bytes = FromEntry (core.callers a).seen core.history request bytes ⊎ FromPoll (core.callers a).seen core.history request bytes

answers_by : (core : Core) (a : ℕ) (bytes : List ℕ) → Told core.history (core.callers a) → (request : Request) → (core.callers a).request ≡ Some request
    → ((e : Entry) × ((core.callers a).taken ≡ Some e) × (e.answer.bytes ≡ bytes)) ⊎ ((n : ℕ) × (content : Content) × ((core.callers a).asked ≡ Some n) × (version_in core.history n ≡ Some content) × ((answer_of content request).bytes ≡ bytes))
    → (source : Source core a request bytes) × IsOfCallers source
answers_by core a bytes t request is (inl took) = (
  inl (record {
    entry_is = took.0;
    inserted = t.taken_was took.0 took.1;
    answers = same_Some took.0.request request (sym (t.taken_is took.0 took.1) ∙ is);
    said = took.2;
    not_seen_to_end = t.taken_lives took.0 took.1;
  }),
  tt,
)
answers_by core a bytes t request is (inr asked) =
    let asks = t.asks asked.0 asked.2 in (
      inr (record {
        version_is = asked.0;
        files_are = asked.1;
        moment = asks.moment;
        is_moment = asks.is_moment;
        later = asks.later;
        looks = asks.looks;
        holds = asked.3;
        said = asked.4;
      }),
      asks.past_first,
    )

replies_answer : (core : Core) → Sound core → (a : ℕ) (bytes : List ℕ) (reply : Replies core a bytes) → IsAnswer (core.callers a).seen core.history reply.request bytes
replies_answer core s a bytes reply =
    let by = answers_by core a bytes (s.told a) reply.request reply.request_is reply.source in
    record { answered = record { seen_before = (s.told a).seen_before; source = by.0 }; of_callers = by.1 }

-- ---- the law

pub legal_law : (db : Db) (sources : Content) (moves : List Move) (new : Core) → AreMoves db moves (opening db sources) new → Legal new.history
legal_law db sources moves new r = (run_kept db moves (opening db sources) new (opening_sound db sources) r).legal

pub replies_law : (db : Db) (sources : Content) (moves : List Move) (new : Core) → AreMoves db moves (opening db sources) new → (a : ℕ) (bytes : List ℕ) (reply : Replies new a bytes) → IsAnswer (new.callers a).seen new.history reply.request bytes
replies_law db sources moves new r = replies_answer new (run_kept db moves (opening db sources) new (opening_sound db sources) r)

pub answered_law : (db : Db) (sources : Content) (moves : List Move) (new : Core) → AreMoves db moves (opening db sources) new → RepliesAnswer new
answered_law db sources moves new r a bytes reply = (replies_law db sources moves new r a bytes reply).answered

pub polled_law : (db : Db) (sources : Content) (moves : List Move) (new : Core) → AreMoves db moves (opening db sources) new → (a n : ℕ) → (new.callers a).asked ≡ Some n → (content : Content) × (version_in new.history n ≡ Some content)
polled_law db sources moves new r a n is =
    let s = run_kept db moves (opening db sources) new (opening_sound db sources) r in
    version_held new.history n s.legal ((s.told a).asked_before n is)

pub version_law : (db : Db) (sources : Content) (moves : List Move) (new : Core) → AreMoves db moves (opening db sources) new → (a n : ℕ) → (new.callers a).version ≡ Some n → (content : Content) × (version_in new.history n ≡ Some content)
version_law db sources moves new r a n is =
    let s = run_kept db moves (opening db sources) new (opening_sound db sources) r in
    version_held new.history n s.legal ((s.told a).version_before n is)
