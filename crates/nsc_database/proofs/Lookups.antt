-- What lookups come to, hold after hold.
use Rattle.std.proofs.Common.{◌≡◌, ◌∙◌, ℕ, ◌+◌, ◌≤◌, true, List, [], refl, sym, ap, subst, arith, inl, inr, Option}
use Rattle.std.proofs.lemmas.Bool.{OnFalse_from, false≢true}
use Rattle.nsc_model.specs.declared.answer.Request.{Request}
use Rattle.nsc_model.specs.declared.record.Record.{Record}
use Rattle.nsc_model.specs.declared.conf.DbConf.{DbConf}
use Rattle.nsc_model.specs.declared.kind.Db.{Db}
use Rattle.nsc_model.specs.declared.kind.FileId.{FileId}
use Rattle.nsc_model.specs.declared.store.Given.{Given}
use Rattle.nsc_model.specs.declared.store.Given.TheVariants as given
use Rattle.nsc_model.specs.declared.store.LookupFault.{LookupFault}
use Rattle.nsc_model.specs.declared.store.LookupFault.TheVariants as fault
use Rattle.nsc_model.specs.declared.store.Why.{Why}
use Rattle.nsc_model.specs.declared.store.Why.TheVariants as why
use Rattle.nsc_model.specs.Entry.{Entry}
use Rattle.nsc_model.specs.Answers.{answer_of}
use Rattle.nsc_model.specs.History.{Answered, EndedAfter, HasLoad, IsPrefix, Legal, NoneLiveOf, PolledSince, invalidations, loads}
use Rattle.nsc_model.specs.Content.{Content}
use Rattle.nsc_model.specs.Machine.{life_of}
use Rattle.nsc_model.specs.Reads.{IsLookedUp, IsMade}
use Rattle.nsc_model.specs.Stores.{GivesAnswer, IsGiven, IsHit, IsMissed, IsMissedAt, IsWhy, reply_of}
use Rattle.nsc_laws.proofs.Prefixes.{load_below}
use Rattle.nsc_writer.specs.declared.loaded.Inserted.{Inserted}
use Rattle.nsc_writer.specs.declared.loaded.Inserted.TheVariants as inserted
use Rattle.nsc_writer.specs.Loaded.{Loaded, kept_of}
use Rattle.nsc_writer.specs.Writer.{IsAnswered}
use Rattle.nsc_writer.proofs.Later.{prefix_through, version_on, load_on, end_on}
use Rattle.nsc_sourcebook.specs.Book.{Polled}
use Rattle.nsc_database.specs.Holds.{IsKept, IsPolled}
use Rattle.nsc_turns.specs.declared.entries.HitOrMiss.TheVariants as looked
use Rattle.nsc_database.specs.Lookups.{IsFoundIfCached, IsTried, given_by}
use Rattle.nsc_database.proofs.Shown.{inserted_since, invalidations_on, loads_on, prefix_length}

-- ---- hits

hit_answered : (seen after : List Record) (request : Request) (bytes : List ℕ) (number : ℕ) → IsPrefix seen after → IsHit after request bytes number → Answered seen after request bytes
hit_answered seen after request bytes number p hit = record {
  seen_before = p;
  source = inl (record {
    entry_is = hit.entry;
    inserted = hit.live.inserted;
    answers = hit.answers;
    said = hit.said;
    not_seen_to_end = λ ended. hit.live.not_ended (end_on seen after hit.entry.number p ended);
  });
}

pub hit_answer : (settings : DbConf) (words now : ℕ) (seen after : List Record) (last_cycle : Type 0) (request : Request) (bytes : List ℕ) (number : ℕ) → IsPrefix seen after → settings.enabled ≡ true → IsHit after request bytes number → GivesAnswer settings words now seen after last_cycle request (given.Hit bytes number)
hit_answer settings words now seen after last_cycle request bytes number p on hit = record {
  answered = hit_answered seen after request bytes number p hit;
  source = hit;
  uncached = OnFalse_from settings.enabled _ (λ off. absurd (false≢true (sym off ∙ on)));
}

-- ---- replies from a poll

pub poll_answered : (seen mid after : List Record) (request : Request) (epoch : ℕ) (polled : Polled) (bytes : List ℕ) → Legal after → Legal mid → IsPrefix seen mid → IsPrefix mid after → IsPolled seen mid epoch polled
    → (answer_of polled.content request).bytes ≡ bytes → Answered seen after request bytes
poll_answered seen mid after request epoch polled bytes legal legal_mid p q is said = record {
  seen_before = prefix_through seen mid after p q;
  source = inr (record {
    version_is = polled.stamp.version;
    files_are = polled.content;
    moment = is.looked.0;
    is_moment = prefix_through is.looked.0 mid after is.looked.1 q;
    later = is.looked.2;
    looks = is.looked.3;
    holds = version_on mid after polled.stamp.version polled.content legal legal_mid q is.version;
    said = said;
  });
}

-- ---- a caller who had seen less

pub answered_before : (less seen after : List Record) (request : Request) (bytes : List ℕ) → IsPrefix less seen → Answered seen after request bytes → Answered less after request bytes
answered_before less seen after request bytes p a = record {
  seen_before = prefix_through less seen after p a.seen_before;
  source = elim a.source [
    | inl e ↦ inl (record { entry_is = e.entry_is; inserted = e.inserted; answers = e.answers; said = e.said; not_seen_to_end = λ ended. e.not_seen_to_end (end_on less seen e.entry_is.number p ended) })
    | inr f ↦ inr (record {
      version_is = f.version_is;
      files_are = f.files_are;
      moment = f.moment;
      is_moment = f.is_moment;
      later = (let low = prefix_length less seen p in let more = f.later in omega arith);
      looks = f.looks;
      holds = f.holds;
      said = f.said;
    })
  ];
}

ended_before : (less seen after : List Record) (request : Request) → IsPrefix less seen → EndedAfter seen after request → EndedAfter less after request
ended_before less seen after request p ended e loaded same = ended e (load_on less seen e p loaded) same

why_before : (why_is : Why) (settings : DbConf) (words : ℕ) (less seen after : List Record) (last_cycle : Type 0) (request : Request) (bytes : List ℕ) → IsPrefix less seen → IsWhy why_is settings words seen after last_cycle request bytes → IsWhy why_is settings words less after last_cycle request bytes
why_before why.Disabled settings words less seen after last_cycle request bytes p w = w
why_before (why.TooLarge size) settings words less seen after last_cycle request bytes p w = w
why_before (why.Discarded loaded epoch) settings words less seen after last_cycle request bytes p w = let low = invalidations_on less seen p in let from = w.0 in (omega arith, w.1, w.2)
why_before (why.Present number) settings words less seen after last_cycle request bytes p w = (w.0, w.1, w.2, w.3, λ loaded. w.4 (load_on less seen w.0 p loaded))
why_before (why.Spent count) settings words less seen after last_cycle request bytes p w = w
why_before (why.Full need free) settings words less seen after last_cycle request bytes p w = w

pub given_before : (g : Given) (settings : DbConf) (words now : ℕ) (less seen after : List Record) (last_cycle : Type 0) (request : Request) → IsPrefix less seen → IsGiven g settings words now seen after last_cycle request → IsGiven g settings words now less after last_cycle request
given_before (given.Hit bytes number) settings words now less seen after last_cycle request p g = g
given_before (given.Loaded bytes number) settings words now less seen after last_cycle request p g = (
  record {
    entry = g.0.entry;
    inserted = g.0.inserted;
    numbered = g.0.numbered;
    answers = g.0.answers;
    said = g.0.said;
    timeout = g.0.timeout;
    new = λ loaded. g.0.new (load_on less seen g.0.entry p loaded);
  },
  ended_before less seen after request p g.1,
)
given_before (given.Fresh bytes why_is) settings words now less seen after last_cycle request p g =
    (why_before why_is settings words less seen after last_cycle request bytes p g.0, elim g.1 [ inl off ↦ inl off | inr ended ↦ inr (ended_before less seen after request p ended) ])

-- ---- a lookup that found no live entry

none_on : (seen after : List Record) (request : Request) → IsPrefix seen after → NoneLiveOf seen request → EndedAfter seen after request
none_on seen after request p none e loaded same = end_on seen after e.number p (none e loaded same)

pub found_none : (settings : DbConf) (seen : List Record) (request : Request) (epoch : ℕ) (reply : List ℕ) → settings.enabled ≡ true → IsFoundIfCached settings (looked.Missed epoch) seen request reply → (epoch ≡ invalidations seen) × NoneLiveOf seen request
found_none settings seen request epoch reply on (inl off) = absurd (false≢true (sym off.0 ∙ on))
found_none settings seen request epoch reply on (inr none) = none

-- it found none, or the database is not cached
pub is_missed : (settings : DbConf) (less seen after : List Record) (request : Request) (epoch : ℕ) (reply : List ℕ) → IsPrefix less seen → IsPrefix seen after → IsFoundIfCached settings (looked.Missed epoch) seen request reply → IsMissed settings less after request
is_missed settings less seen after request epoch reply p q (inl off) = inl off.0
is_missed settings less seen after request epoch reply p q (inr none) = inr (ended_before less seen after request p (none_on seen after request q none.1))

pub missed_at : (cause : LookupFault) (settings : DbConf) (seen after : List Record) (request : Request) → IsMissed settings seen after request → IsMissedAt cause settings seen after request
missed_at fault.NoMemory settings seen after request m = tt
missed_at (fault.Spent count) settings seen after request m = m
missed_at (fault.SourceFault file) settings seen after request m = m
missed_at (fault.TooLong file size) settings seen after request m = m

-- ---- a lookup that makes its answer anew

-- what it knows before its insertion: no entry of the request was live, and the content was polled since `epoch` invalidations
pub record Anew (seen mid : List Record) (request : Request) (epoch : ℕ) (polled : Polled) : Type 0 where
  pub legal : Legal seen
  pub legal_mid : Legal mid
  pub on : IsPrefix seen mid
  pub none : NoneLiveOf seen request
  pub noted : epoch ≡ invalidations seen
  pub is_polled : IsPolled seen mid epoch polled

abbrev pub loaded_of : DbConf → ℕ → Request → Polled → Loaded
loaded_of settings now request polled =
    record { request = request; answer = answer_of polled.content request; stamp = polled.stamp; timeout = now + life_of settings (answer_of polled.content request); reloads = 0 }

pub anew_answers : (seen mid : List Record) (request : Request) (epoch : ℕ) (polled : Polled) (settings : DbConf) (now : ℕ) → IsPolled seen mid epoch polled → IsAnswered mid (loaded_of settings now request polled)
anew_answers seen mid request epoch polled settings now is = record { files = polled.content; version = is.version; answer = refl; polled = subst (PolledSince mid polled.stamp.version) (sym is.epoch_is) is.since }

not_seen : (seen mid : List Record) (e : Entry) → Legal seen → IsPrefix seen mid → loads mid ≤ e.number → HasLoad seen e → ⊥
not_seen seen mid e legal p low loaded = let below = load_below seen e legal loaded in let few = loads_on seen mid p in omega arith

by_said : (said : Inserted) (g : Given) (seen mid after : List Record) (last_cycle : Type 0) (request : Request) (epoch : ℕ) (polled : Polled) (settings : DbConf) (words now : ℕ) → Anew seen mid request epoch polled → IsPrefix mid after
    → IsKept settings words last_cycle said (loaded_of settings now request polled) mid after → g ≡ given_by said (answer_of polled.content request).bytes → IsGiven g settings words now seen after last_cycle request
by_said (inserted.Done number) g seen mid after last_cycle request epoch polled settings words now a p i is =
    let l = loaded_of settings now request polled in
    let e = (kept_of l number).entry in
    subst (λ (x : Given). IsGiven x settings words now seen after last_cycle request) (sym is)
    (record { entry = e; inserted = i.0; numbered = refl; answers = refl; said = refl; timeout = refl; new = not_seen seen mid e a.legal a.on i.1 }, none_on seen after request (prefix_through seen mid after a.on p) a.none)
by_said (inserted.TooLarge size) g seen mid after last_cycle request epoch polled settings words now a p i is =
    subst (λ (x : Given). IsGiven x settings words now seen after last_cycle request) (sym is) (i, inr (none_on seen after request (prefix_through seen mid after a.on p) a.none))
by_said (inserted.Discarded noted now_epoch) g seen mid after last_cycle request epoch polled settings words now a p i is =
    let at : noted ≡ invalidations seen = i.0 ∙ a.is_polled.epoch_is ∙ a.noted in
    let to = i.1 in
    let low = i.2 in
    subst (λ (x : Given). IsGiven x settings words now seen after last_cycle request) (sym is) ((omega arith, low, omega arith), inr (none_on seen after request (prefix_through seen mid after a.on p) a.none))
by_said (inserted.Present number) g seen mid after last_cycle request epoch polled settings words now a p i is =
    let ended = none_on seen after request (prefix_through seen mid after a.on p) a.none in
    subst (λ (x : Given). IsGiven x settings words now seen after last_cycle request) (sym is) ((i.0, i.1, i.2, i.3, λ loaded. i.1.not_ended (ended i.0 loaded i.3)), inr ended)
by_said (inserted.Spent count) g seen mid after last_cycle request epoch polled settings words now a p i is =
    subst (λ (x : Given). IsGiven x settings words now seen after last_cycle request) (sym is) (i, inr (none_on seen after request (prefix_through seen mid after a.on p) a.none))
by_said (inserted.Full need free) g seen mid after last_cycle request epoch polled settings words now a p i is =
    subst (λ (x : Given). IsGiven x settings words now seen after last_cycle request) (sym is) (i, inr (none_on seen after request (prefix_through seen mid after a.on p) a.none))

pub anew_given : (g : Given) (seen mid after : List Record) (last_cycle : Type 0) (request : Request) (epoch : ℕ) (polled : Polled) (settings : DbConf) (words now : ℕ) → Anew seen mid request epoch polled → IsPrefix mid after
    → IsTried settings words last_cycle (loaded_of settings now request polled) mid after g → IsGiven g settings words now seen after last_cycle request
anew_given g seen mid after last_cycle request epoch polled settings words now a p k = by_said k.said g seen mid after last_cycle request epoch polled settings words now a p k.inserted k.gives

-- the reply of what is given after an insertion
said_reply : (said : Inserted) (bytes : List ℕ) → reply_of (given_by said bytes) ≡ bytes
said_reply (inserted.Done number) bytes = refl
said_reply (inserted.TooLarge size) bytes = refl
said_reply (inserted.Discarded noted epoch) bytes = refl
said_reply (inserted.Present number) bytes = refl
said_reply (inserted.Spent count) bytes = refl
said_reply (inserted.Full need free) bytes = refl

pub kept_reply : (settings : DbConf) (words : ℕ) (last_cycle : Type 0) (l : Loaded) (seen after : List Record) (g : Given) → IsTried settings words last_cycle l seen after g → reply_of g ≡ l.answer.bytes
kept_reply settings words last_cycle l seen after g k = ap reply_of k.gives ∙ said_reply k.said l.answer.bytes

-- by a call that began earlier
pub tried_to : (settings : DbConf) (words : ℕ) (lesser last_cycle : Type 0) (l : Loaded) (seen after : List Record) (g : Given) → (lesser → last_cycle) → IsTried settings words lesser l seen after g → IsTried settings words last_cycle l seen after g
tried_to settings words lesser last_cycle l seen after g to k = record { said = k.said; inserted = inserted_since settings words lesser last_cycle k.said l seen seen after ([], refl) to k.inserted; gives = k.gives }

-- ---- what was read

-- an answer that was made anew, over files that were looked at
pub made_anew : (which : Db) (said : Inserted) (bytes : List ℕ) (g : Given) (before_reads after_reads : FileId → ℕ) (latest : FileId → Option (Option (List ℕ))) (request : Request) (content : Content) → g ≡ given_by said bytes → IsLookedUp which before_reads after_reads latest content → (answer_of content request).bytes ≡ bytes
    → IsMade which before_reads after_reads latest request g
made_anew which said bytes g before_reads after_reads latest request content gives looked same = subst (IsMade which before_reads after_reads latest request) (sym gives) (by_said said) where
  by_said : (s : Inserted) → IsMade which before_reads after_reads latest request (given_by s bytes)
  by_said (inserted.Done number) = (content, looked, same)
  by_said (inserted.TooLarge size) = (content, looked, same)
  by_said (inserted.Discarded noted epoch) = (content, looked, same)
  by_said (inserted.Present number) = (content, looked, same)
  by_said (inserted.Spent count) = (content, looked, same)
  by_said (inserted.Full need free) = (content, looked, same)
