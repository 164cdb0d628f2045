-- The outcome of a tick, hold after hold.
use Rattle.std.proofs.Common.{◌≡◌, ◌≢◌, ℕ, ◌+◌, ◌<◌, ◌≤◌, ◌⊎◌, List, [], ◌∷◌, ◌++◌, Option, Some, refl, sym, ap, subst, arith, inl, inr}
use Rattle.std.specs.Bool.{OnTrue}
use Rattle.std.proofs.lemmas.Bool.{OnTrue_at, OnTrue_from}
use Rattle.nsc_model.specs.declared.answer.Request.{Request}
use Rattle.nsc_model.specs.declared.conf.DbConf.{DbConf}
use Rattle.nsc_model.specs.declared.kind.Db.{Db}
use Rattle.nsc_model.specs.declared.kind.FileId.{FileId}
use Rattle.nsc_model.specs.declared.record.Record.{Record}
use Rattle.nsc_model.specs.declared.record.Record.TheVariants.{Change, Poll, Load, End, Invalid}
use Rattle.nsc_model.specs.declared.store.LookupFault.{LookupFault}
use Rattle.nsc_model.specs.declared.store.LookupFault.TheVariants as fault
use Rattle.nsc_model.specs.Entry.{Entry}
use Rattle.nsc_model.specs.History.{HasEnd, HasLoad, IsPrefix, Legal, LookedBetween, NoneLive, PolledSince, changes, invalidations, version_in}
use Rattle.nsc_model.specs.Reloads.{Reloaded}
use Rattle.nsc_model.specs.Reads.{FaultsStay, IsLookedUp}
use Rattle.nsc_model.specs.Stores.{AreLoadedAgain, EndsStale, IsTickFault, IsTicked}
use Rattle.nsc_model.specs.Machine.{room_of}
use Rattle.nsc_laws.proofs.CoreLawRecords.{ended_or_not}
use Rattle.nsc_laws.proofs.Prefixes.{more_after, prefix_legal}
use Rattle.nsc_pruner.specs.Due.{Due}
use Rattle.nsc_writer.proofs.Later.{end_on, load_on, polled_on, prefix_through, version_on}
use Rattle.nsc_outside.specs.declared.files.FileSet as file_set
use Rattle.nsc_sourcebook.specs.Book.{Polled}
use Rattle.nsc_database.specs.declared.pass.DbPass.{DbPass}
use Rattle.nsc_database.specs.declared.room.Room as room
use Rattle.nsc_database.specs.Frames.{Goes, Held}
use Rattle.nsc_database.specs.Holds.{IsPolled, IsPolledVersion}
use Rattle.nsc_database.specs.Ticks.{AreListed, AreOver, IsHoldFault}
use Rattle.nsc_database.proofs.Shown.{invalidations_on, prefix_length, unmoved_to}
use Rattle.nsc_database.proofs.Rests.{version_within}

not_empty : (h : List Record) (e : Entry) → HasLoad h e → h ≢ []
not_empty [] e a same = a
not_empty (r ∷ h) e a same = absurd cc

-- each entry that was inserted before an invalidation ended
ended_since : (more h : List Record) (e : Entry) → Legal (more ++ h) → invalidations h < invalidations (more ++ h) → HasLoad h e → HasEnd (more ++ h) e.number
ended_since [] h e l low a = absurd (omega arith)
ended_since (Change v c ∷ more) h e l low a = ended_since more h e (prefix_legal (Change v c ∷ []) (more ++ h) (more_after more h (not_empty h e a)) l) low a
ended_since (Poll v ∷ more) h e l low a = ended_since more h e l.0 low a
ended_since (Load f ∷ more) h e l low a = ended_since more h e l.0 low a
ended_since (End n cause ∷ more) h e l low a = inr (ended_since more h e l.0 low a)
ended_since (Invalid n ∷ more) h e l low a = l.2 e (load_on h (more ++ h) e (more, refl) a)

ended_by : (h after : List Record) (e : Entry) → Legal after → IsPrefix h after → invalidations h < invalidations after → HasLoad h e → HasEnd after e.number
ended_by h after e l p low a = subst (λ (x : List Record). HasEnd x e.number) (sym p.1) (ended_since p.0 h e (subst Legal p.1 l) (subst (λ (x : List Record). invalidations h < invalidations x) p.1 low) a)

changes_rise : (more h : List Record) → changes h ≤ changes (more ++ h)
changes_rise [] h = omega arith
changes_rise (Change v c ∷ more) h = let low = changes_rise more h in omega arith
changes_rise (Poll v ∷ more) h = changes_rise more h
changes_rise (Load e ∷ more) h = changes_rise more h
changes_rise (End n cause ∷ more) h = changes_rise more h
changes_rise (Invalid n ∷ more) h = changes_rise more h

changes_on : (a b : List Record) → IsPrefix a b → changes a ≤ changes b
changes_on a b p = let low = changes_rise p.0 a in let same : changes b ≡ changes (p.0 ++ a) = ap changes p.1 in omega arith

-- what a tick knows once the versions were compared: what it had seen, what it saw when it noted the number of invalidations, and
-- what it had seen after its poll
pub record Ticking (seen noted mid after : List Record) (epoch : ℕ) (polled : Polled) : Type 0 where
  pub before : IsPrefix seen noted
  pub legal : Legal noted
  pub epoch_is : epoch ≡ invalidations noted
  pub to_mid : IsPrefix noted mid
  pub legal_mid : Legal mid
  pub is_polled : IsPolled noted mid epoch polled
  pub to_after : IsPrefix mid after
  pub legal_after : Legal after

pub ticking : {F B : Type 0} {G : file_set.Ghosts F} {R : room.Ghosts B} (p noted mid after : DbPass F B G R) (epoch : ℕ) (polled : Polled) → Held p noted → epoch ≡ invalidations noted.pass.seen → Goes noted mid → IsPolled noted.pass.seen mid.pass.seen epoch polled → Held mid after
    → Ticking p.pass.seen noted.pass.seen mid.pass.seen after.pass.seen epoch polled
ticking p noted mid after epoch polled note is poll is_polled check =
    record { before = note.before; legal = note.legal; epoch_is = is; to_mid = poll.before; legal_mid = poll.legal; is_polled = is_polled; to_after = check.before; legal_after = check.legal }

pub looked_at : (seen noted mid after last : List Record) (epoch : ℕ) (polled : Polled) → Ticking seen noted mid after epoch polled → IsPrefix after last → LookedBetween seen last polled.stamp.version
looked_at seen noted mid after last epoch polled t p =
    let l = t.is_polled.looked in
    let low = prefix_length seen noted t.before in
    let more = l.2 in
    (l.0, prefix_through l.0 mid last l.1 (prefix_through mid after last t.to_after p), omega arith, l.3)

seen_on : (seen noted mid after : List Record) (epoch : ℕ) (polled : Polled) → Ticking seen noted mid after epoch polled → IsPrefix seen after
seen_on seen noted mid after epoch polled t = prefix_through seen noted after t.before (prefix_through noted mid after t.to_mid t.to_after)

-- what was polled is the content of its version still
polled_still : (seen noted mid after last : List Record) (epoch : ℕ) (polled : Polled) → Ticking seen noted mid after epoch polled → IsPrefix after last → Legal last → version_in last polled.stamp.version ≡ Some polled.content
polled_still seen noted mid after last epoch polled t p legal = version_on mid last polled.stamp.version polled.content legal t.legal_mid (prefix_through mid after last t.to_after p) t.is_polled.version

-- a call before and after which no file was read
pub files_kept : {Files : Type 0} (P : Files → Files → Type 0) (f0 f1 f2 f3 : Files) → f1 ≡ f0 → f3 ≡ f2 → P f1 f2 → P f0 f3
files_kept {Files} P f0 f1 f2 f3 first same l = subst (λ (x : Files × Files). P x.0 x.1) (λ i. (first i, sym same i)) l

-- where no entry is live, the stale ones are ended
pub emptied_stale : (settings : DbConf) (now : ℕ) (seen noted mid after : List Record) (epoch : ℕ) (polled : Polled) → Ticking seen noted mid after epoch polled → NoneLive after → EndsStale settings now seen after
emptied_stale settings now seen noted mid after epoch polled t none =
    let on = seen_on seen noted mid after epoch polled t in
    record {
      version = polled.stamp.version;
      looked = looked_at seen noted mid after after epoch polled t ([], refl);
      over = λ e a low. none e (load_on seen after e on a);
      outdated = OnTrue_from settings.check_files _ (λ on' e a other. none e (load_on seen after e on a));
    }

pub emptied_ticked : (which : Db) (m n : FileId → ℕ) (latest : FileId → Option (Option (List ℕ))) (settings : DbConf) (brought : Request → ℕ) (limit : Option ℕ) (now : ℕ) (seen noted mid after : List Record) (last_cycle : Type 0) (epoch : ℕ) (polled : Polled) → Ticking seen noted mid after epoch polled → IsLookedUp which m n latest polled.content → NoneLive after → Reloaded brought limit after
    → AreLoadedAgain (room_of settings) after ⊎ last_cycle → IsTicked which m n latest settings brought limit now seen after last_cycle
unfolding emptied_stale
emptied_ticked which m n latest settings brought limit now seen noted mid after last_cycle epoch polled t files none r l = record {
  ends = emptied_stale settings now seen noted mid after epoch polled t none;
  content = polled.content;
  version_is = polled_still seen noted mid after after epoch polled t ([], refl) t.legal_after;
  files = files;
  reloaded = r;
  again = l;
}

-- an entry that had been seen is over the version that was polled, where it is live and each live entry is over the newest version
over_polled : (seen noted mid after : List Record) (epoch : ℕ) (polled : Polled) (e : Entry) → Ticking seen noted mid after epoch polled → HasLoad seen e → changes after ≤ e.version + 1 → e.version ≡ polled.stamp.version
over_polled seen noted mid after epoch polled e t a high =
    let on = load_on seen noted e t.before a in
    let within = version_within noted e t.legal on in
    let first = changes_on noted mid t.to_mid in
    let newest = t.is_polled.newest in
    let last = changes_on mid after t.to_after in
    omega arith

-- after an invalidation since it was noted how many there were, each entry that had been seen is ended
ended_all : (seen noted mid after last : List Record) (epoch : ℕ) (polled : Polled) → Ticking seen noted mid after epoch polled → IsPrefix after last → Legal last → epoch < invalidations last → (e : Entry) → HasLoad seen e → HasEnd last e.number
ended_all seen noted mid after last epoch polled t p legal more e a =
    let to_last = prefix_through noted mid last t.to_mid (prefix_through mid after last t.to_after p) in
    let rose : invalidations noted < invalidations last = (let same = t.epoch_is in omega arith) in
    ended_by noted last e legal to_last rose (load_on seen noted e t.before a)

listed_over : (settings : DbConf) (brought : Request → ℕ) (limit : Option ℕ) (now : ℕ) (seen noted mid after last : List Record) (epoch : ℕ) (polled : Polled) (due : List Due) → Ticking seen noted mid after epoch polled → AreListed settings brought limit now after due → IsPrefix after last → Legal last → AreOver epoch last due
    → (e : Entry) → HasLoad seen e → e.timeout < now → HasEnd last e.number
listed_over settings brought limit now seen noted mid after last epoch polled due t listed p legal (inl more) e a low = ended_all seen noted mid after last epoch polled t p legal more e a
listed_over settings brought limit now seen noted mid after last epoch polled due t listed p legal (inr gone) e a low =
    elim (listed.all e (load_on seen after e (seen_on seen noted mid after epoch polled t) a) low) [ inl ended ↦ end_on after last e.number p ended | inr has ↦ gone e.number has ]

listed_outdated : (settings : DbConf) (brought : Request → ℕ) (limit : Option ℕ) (now : ℕ) (seen noted mid after last : List Record) (epoch : ℕ) (polled : Polled) (due : List Due) → Ticking seen noted mid after epoch polled → AreListed settings brought limit now after due → IsPrefix after last → Legal last → AreOver epoch last due
    → OnTrue settings.check_files ((e : Entry) → HasLoad seen e → e.version ≢ polled.stamp.version → HasEnd last e.number)
listed_outdated settings brought limit now seen noted mid after last epoch polled due t listed p legal (inl more) = OnTrue_from settings.check_files _ (λ on e a other. ended_all seen noted mid after last epoch polled t p legal more e a)
listed_outdated settings brought limit now seen noted mid after last epoch polled due t listed p legal (inr gone) = OnTrue_from settings.check_files _ (λ on e a other. elim (ended_or_not after e.number) [
  | inl ended ↦ end_on after last e.number p ended
  | inr lives ↦ absurd (other (over_polled seen noted mid after epoch polled e t a (OnTrue_at on listed.current e (record { inserted = load_on seen after e (seen_on seen noted mid after epoch polled t) a; not_ended = lives }))))
])

pub listed_stale : (settings : DbConf) (brought : Request → ℕ) (limit : Option ℕ) (now : ℕ) (seen noted mid after last : List Record) (epoch : ℕ) (polled : Polled) (due : List Due) → Ticking seen noted mid after epoch polled → AreListed settings brought limit now after due → IsPrefix after last → Legal last → AreOver epoch last due → EndsStale settings now seen last
listed_stale settings brought limit now seen noted mid after last epoch polled due t listed p legal over = record {
  version = polled.stamp.version;
  looked = looked_at seen noted mid after last epoch polled t p;
  over = listed_over settings brought limit now seen noted mid after last epoch polled due t listed p legal over;
  outdated = listed_outdated settings brought limit now seen noted mid after last epoch polled due t listed p legal over;
}

pub listed_ticked : (which : Db) (m n : FileId → ℕ) (latest : FileId → Option (Option (List ℕ))) (settings : DbConf) (brought : Request → ℕ) (limit : Option ℕ) (now : ℕ) (seen noted mid after last : List Record) (last_cycle : Type 0) (epoch : ℕ) (polled : Polled) (due : List Due) → Ticking seen noted mid after epoch polled → IsLookedUp which m n latest polled.content
    → AreListed settings brought limit now after due → IsPrefix after last → Legal last → AreOver epoch last due → Reloaded brought limit last → AreLoadedAgain (room_of settings) last ⊎ last_cycle → IsTicked which m n latest settings brought limit now seen last last_cycle
unfolding listed_stale
listed_ticked which m n latest settings brought limit now seen noted mid after last last_cycle epoch polled due t files listed p legal over r l = record {
  ends = listed_stale settings brought limit now seen noted mid after last epoch polled due t listed p legal over;
  content = polled.content;
  version_is = polled_still seen noted mid after last epoch polled t p legal;
  files = files;
  reloaded = r;
  again = l;
}

-- ---- faults

-- a hold gave up, and the stale entries are ended where its ends were made
pub hold_fault : (cause : LookupFault) (settings : DbConf) (now : ℕ) (seen after : List Record) (lesser last_cycle : Type 0) (before_faults after_faults : ℕ) (before_each after_each : FileId → ℕ) (ended : Type 0) → (lesser → last_cycle) → (ended → EndsStale settings now seen after) → FaultsStay before_faults after_faults before_each after_each → IsHoldFault cause after lesser ended
    → IsTickFault cause settings now seen after last_cycle before_faults after_faults before_each after_each
hold_fault fault.NoMemory settings now seen after lesser last_cycle m n m' n' ended found to same f = same
hold_fault (fault.Spent count) settings now seen after lesser last_cycle m n m' n' ended found to same f = (inr (record { last = f.last; cause = elim f.cause [ inl last ↦ inl last | inr unmoved ↦ inr (found unmoved.0, to unmoved.1) ] }), same)
hold_fault (fault.SourceFault file) settings now seen after lesser last_cycle m n m' n' ended found to same f = absurd f
hold_fault (fault.TooLong file size) settings now seen after lesser last_cycle m n m' n' ended found to same f = absurd f

-- by a pass that loads CYCLE as 2^62 where it stands there
pub held_to : (cause : LookupFault) (after : List Record) (lesser last_cycle : Type 0) (ended : Type 0) → (lesser → last_cycle) → IsHoldFault cause after lesser ended → IsHoldFault cause after last_cycle ended
held_to fault.NoMemory after lesser last_cycle ended to f = f
held_to (fault.Spent count) after lesser last_cycle ended to f = unmoved_to after lesser last_cycle count ended to f
held_to (fault.SourceFault file) after lesser last_cycle ended to f = f
held_to (fault.TooLong file size) after lesser last_cycle ended to f = f

-- ---- before the last hold

pub noted_low : (seen noted mid after : List Record) (epoch : ℕ) (polled : Polled) → Ticking seen noted mid after epoch polled → epoch ≤ invalidations after
noted_low seen noted mid after epoch polled t = let same = t.epoch_is in let rise = invalidations_on noted after (prefix_through noted mid after t.to_mid t.to_after) in omega arith

pub was_polled : (seen noted mid after : List Record) (epoch : ℕ) (polled : Polled) → Ticking seen noted mid after epoch polled → IsPolledVersion after epoch polled
was_polled seen noted mid after epoch polled t = record {
  epoch_is = t.is_polled.epoch_is;
  version = version_on mid after polled.stamp.version polled.content t.legal_after t.legal_mid t.to_after t.is_polled.version;
  since = polled_on mid after polled.stamp.version polled.stamp.epoch t.to_after (subst (PolledSince mid polled.stamp.version) (sym t.is_polled.epoch_is) t.is_polled.since);
}
