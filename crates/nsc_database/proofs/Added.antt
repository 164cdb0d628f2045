-- What calls of a database add, hold after hold.
use Rattle.std.proofs.Common.{◌≡◌, ◌∙◌, ℕ, ◌+◌, ◌⊎◌, Bool, true, false, cond, ◌≤◌, All, List, [], ◌∷◌, ◌++◌, Option, Some, None, refl, sym, ap, subst, arith, inl, inr}
use Rattle.std.proofs.lemmas.List.{append_assoc}
use Rattle.std.proofs.lemmas.List.Elements.{All-head, All-tail}
use Rattle.nsc_model.specs.declared.answer.Request.{Request}
use Rattle.nsc_model.specs.declared.conf.DbConf.{DbConf}
use Rattle.nsc_model.specs.declared.fault.CacheFault.TheVariants as cache_fault
use Rattle.nsc_model.specs.declared.kind.Db.{Db}
use Rattle.nsc_model.specs.declared.kind.FileId.{FileId}
use Rattle.nsc_model.specs.declared.record.Record.{Record}
use Rattle.nsc_model.specs.declared.record.Record.TheVariants.{Change, End, Invalid, Load, Poll}
use Rattle.nsc_model.specs.declared.store.Given.{Given}
use Rattle.nsc_model.specs.declared.store.Given.TheVariants as given
use Rattle.nsc_model.specs.declared.store.LookupFault.{LookupFault}
use Rattle.nsc_model.specs.declared.store.LookupFault.TheVariants as fault
use Rattle.nsc_model.specs.Answers.{request_beside}
use Rattle.nsc_model.specs.Content.{Content}
use Rattle.nsc_model.specs.Entry.{Entry}
use Rattle.nsc_model.specs.History.{invalidations, loads, version_in}
use Rattle.nsc_model.specs.Machine.{last_count}
use Rattle.nsc_model.specs.Made.{Adds, AddsByLookup, AddsByRefusedInvalidation, AddsByRefusedLookup, AddsByRefusedTick, AddsBySpentTick, AddsNothing, IsEnd, IsInvalidation, IsLook, IsLookAtMost, IsOneLook}
use Rattle.nsc_model.specs.Reads.{FaultsStay}
use Rattle.nsc_model.specs.Stores.{IsFault, IsSpent, LoadedLastCycle, PassAt}
use Rattle.nsc_writer.specs.declared.loaded.Inserted.{Inserted}
use Rattle.nsc_writer.specs.declared.loaded.Inserted.TheVariants as inserted
use Rattle.nsc_writer.specs.Loaded.{Loaded, kept_of}
use Rattle.nsc_sourcebook.specs.Book.{Polled}
use Rattle.nsc_turns.specs.declared.answering.Answering.{Answering}
use Rattle.nsc_turns.specs.Loads.{beside_of, loaded_id, loaded_of}
use Rattle.nsc_database.specs.declared.base.Insertions.{Insertions}
use Rattle.nsc_database.specs.Lookups.{AreMade, answering_over, given_by}
use Rattle.nsc_writer.specs.Writer.{Writer}
use Rattle.nsc_database.specs.Made.{AddsByRefusedHold, EmptiesOrStays, EndsAlone, Enters, InsertsBehind, InsertsFor, InsertsOne, IsNone, StopsBy}
use Rattle.nsc_database.proofs.Gained.{loads_sum}

-- a hold adds what its call of the writer adds
pub adds : {are : List Record → Type 0} {seen history : List Record} (before after : PassAt) (m m' : List Record) → m ≡ before.made → Enters are seen history m m' → after.made ≡ m' → Adds are before after
adds before after m m' first e last = record { added = e.added; made = last ∙ e.made ∙ ap (λ (l : List Record). e.added ++ l) first; holds = e.holds }

-- a hold that added nothing before, and one behind
pub adds_after : {are : List Record → Type 0} (a b c : PassAt) → AddsNothing a b → Adds are b c → Adds are a c
adds_after a b c same x = record { added = x.added; made = x.made ∙ ap (λ (l : List Record). x.added ++ l) same; holds = x.holds }

pub adds_before : {are : List Record → Type 0} (a b c : PassAt) → Adds are a b → AddsNothing b c → Adds are a c
adds_before a b c x same = record { added = x.added; made = same ∙ x.made; holds = x.holds }

pub adds_nothing : {are : List Record → Type 0} (a b : PassAt) → AddsNothing a b → are [] → Adds are a b
adds_nothing a b same holds = record { added = []; made = same; holds = holds }

adds_weaker : {are be : List Record → Type 0} (a b : PassAt) → ((added : List Record) → are added → be added) → Adds are a b → Adds be a b
adds_weaker a b weaker x = record { added = x.added; made = x.made; holds = weaker x.added x.holds }

-- two calls add the records of both
joins : {are be : List Record → Type 0} (a b c : PassAt) (x : Adds are a b) (y : Adds be b c) → c.made ≡ (y.added ++ x.added) ++ a.made
joins a b c x y = y.made ∙ ap (λ (l : List Record). y.added ++ l) x.made ∙ sym (append_assoc y.added x.added a.made)

-- a hold whose call of the writer adds nothing
pub adds_none : {seen history : List Record} (before after : PassAt) (m m' : List Record) → m ≡ before.made → Enters IsNone seen history m m' → after.made ≡ m' → AddsNothing before after
adds_none before after m m' first e last = last ∙ e.made ∙ ap (λ (l : List Record). l ++ m) e.holds ∙ first

-- ---- insertions

both_added : (said : Inserted) (i : Insertions) (bytes : List ℕ) (one behind : List Record) → InsertsOne said i.loaded one → InsertsBehind said i.beside behind → InsertsFor i (given_by said bytes) (behind ++ one)
both_added (inserted.Done number) i bytes one behind is more = elim more [
  | inl none ↦ inl (ap (λ (l : List Record). l ++ one) none ∙ is)
  | inr (l, e, n, added) ↦ inr (l, e, n, ap (λ (x : List Record). x ++ one) added ∙ ap (λ (x : List Record). Load (kept_of l n).entry ∷ x) is)
]
both_added (inserted.TooLarge size) i bytes one behind is more = ap (λ (l : List Record). l ++ one) more ∙ is
both_added (inserted.Discarded noted epoch) i bytes one behind is more = ap (λ (l : List Record). l ++ one) more ∙ is
both_added (inserted.Present number) i bytes one behind is more = ap (λ (l : List Record). l ++ one) more ∙ is
both_added (inserted.Spent count) i bytes one behind is more = ap (λ (l : List Record). l ++ one) more ∙ is
both_added (inserted.Full need free) i bytes one behind is more = ap (λ (l : List Record). l ++ one) more ∙ is

-- what the hold of both insertions adds
pub adds_both : (said : Inserted) (i : Insertions) (bytes : List ℕ) (g : Given) {seen history seen' history' : List Record} (before after : PassAt) (m1 m2 m3 m4 : List Record) → g ≡ given_by said bytes → m1 ≡ before.made → Enters (InsertsOne said i.loaded) seen history m1 m2 → m3 ≡ m2
    → Enters (InsertsBehind said i.beside) seen' history' m3 m4 → after.made ≡ m4 → Adds (InsertsFor i g) before after
adds_both said i bytes g before after m1 m2 m3 m4 gives first one shown behind last = record {
  added = behind.added ++ one.added;
  made = last ∙ behind.made ∙ ap (λ (l : List Record). behind.added ++ l) (shown ∙ one.made ∙ ap (λ (l : List Record). one.added ++ l) first) ∙ sym (append_assoc behind.added one.added before.made);
  holds = subst (λ (x : Given). InsertsFor i x (behind.added ++ one.added)) (sym gives) (both_added said i bytes one.added behind.added one.holds behind.holds);
}

-- ---- lookups

-- what goes beside an insertion is asked by id, with `auto-propagate`
loaded_is : (a b : Loaded) → Some a ≡ Some b → a ≡ b
loaded_is a b e = cc

no_loaded : (l : Loaded) → Some l ≡ None → ⊥
no_loaded l e = absurd cc

asked_beside : (propagate : Bool) (a : Answering) (files : Content) (request : Request) (l : Loaded) → Some l ≡ cond propagate (loaded_id a files (request_beside files request)) None → (propagate ≡ true) × (request_beside files request ≡ Some l.request)
asked_beside true a files request l e = (refl, by_id (request_beside files request) refl e) where
  by_id : (o : Option Request) → request_beside files request ≡ o → Some l ≡ loaded_id a files o → request_beside files request ≡ Some l.request
  by_id None is e = absurd (no_loaded l e)
  by_id (Some id) is e = is ∙ ap (λ (x : Loaded). Some x.request) (sym (loaded_is l (loaded_of a files id 0) e))
asked_beside false a files request l e = absurd (no_loaded l e)

inserted_for : (settings : DbConf) (which : Db) (polled : Polled) (now : ℕ) (request : Request) (i : Insertions) (bytes : List ℕ) (number : ℕ) (a b c : PassAt) → Adds IsOneLook a b → (x : Adds (InsertsFor i (given.Loaded bytes number)) b c) → AreMade which settings polled now request i
    → version_in c.seen polled.stamp.version ≡ Some polled.content → AddsByLookup settings request a c (given.Loaded bytes number)
inserted_for settings which polled now request i bytes number a b c look x made version =
    let entry : Entry = (kept_of i.loaded number).entry in
    let asked : entry.request ≡ request = ap (λ (l : Loaded). l.request) made.loaded in
    let of_version : version_in c.seen entry.version ≡ Some polled.content = ap (λ (l : Loaded). version_in c.seen l.stamp.version) made.loaded ∙ version in
    let behind_look : (added : List Record) → x.added ≡ added → c.made ≡ (added ++ look.holds.0 ∷ []) ++ a.made = λ added is.
    joins a b c look x ∙ (λ j. (is j ++ look.holds.2 j) ++ a.made) in
    elim x.holds [
      | inl one ↦ record {
        added = Load entry ∷ look.holds.0 ∷ [];
        made = behind_look (Load entry ∷ []) one;
        holds = record { look = look.holds.0; looks = look.holds.1; entry = entry; numbered = refl; asked = asked; are = inl refl };
      }
      | inr (l, e, n, two) ↦
          (let id : Entry = (kept_of l n).entry in
          let beside = asked_beside settings.propagate (answering_over settings polled now) polled.content request l (sym e ∙ made.beside) in
          record {
            added = Load id ∷ Load entry ∷ look.holds.0 ∷ [];
            made = behind_look (Load id ∷ Load entry ∷ []) two;
            holds = record { look = look.holds.0; looks = look.holds.1; entry = entry; numbered = refl; asked = asked; are = inr (beside.0, id, record { files = polled.content; version = of_version; asked = beside.1 }, refl) };
          })
    ]

pub looked_and_kept : (g : Given) (settings : DbConf) (which : Db) (polled : Polled) (now : ℕ) (request : Request) (i : Insertions) (a b c : PassAt) → Adds IsOneLook a b → Adds (InsertsFor i g) b c → AreMade which settings polled now request i → version_in c.seen polled.stamp.version ≡ Some polled.content → AddsByLookup settings request a c g
looked_and_kept (given.Hit bytes number) settings which polled now request i a b c look x made version = absurd x.holds
looked_and_kept (given.Loaded bytes number) settings which polled now request i a b c look x made version = inserted_for settings which polled now request i bytes number a b c look x made version
looked_and_kept (given.Fresh bytes why) settings which polled now request i a b c look x made version =
    record { added = look.added; made = x.made ∙ ap (λ (l : List Record). l ++ b.made) x.holds ∙ look.made; holds = look.holds }

pub look_at_most : (a b : PassAt) → Adds IsOneLook a b → Adds IsLookAtMost a b
look_at_most a b x = adds_weaker a b (λ added is. inr is) x

pub refused_lookup : (f : LookupFault) (a b : PassAt) → AddsNothing a b → AddsByRefusedLookup a b f
refused_lookup fault.NoMemory a b same = adds_nothing a b same (inl refl)
refused_lookup (fault.Spent count) a b same = same
refused_lookup (fault.SourceFault file) a b same = same
refused_lookup (fault.TooLong file size) a b same = same

-- ---- ticks

-- a tick whose poll gave up
pub refused_poll : (f : LookupFault) (a b : PassAt) (before_faults after_faults : ℕ) (before_each after_each : FileId → ℕ) → AddsNothing a b → IsFault f b.seen before_faults after_faults before_each after_each → AddsByRefusedTick a b f
refused_poll fault.NoMemory a b before_faults after_faults before_each after_each same is = adds_nothing a b same (inl refl)
refused_poll (fault.Spent count) a b before_faults after_faults before_each after_each same is = inl (is.0, same)
refused_poll (fault.SourceFault file) a b before_faults after_faults before_each after_each same is = same
refused_poll (fault.TooLong file size) a b before_faults after_faults before_each after_each same is = same

-- a look inserts nothing
look_loads : (look : Record) → IsLook look → loads (look ∷ []) ≡ 0
look_loads (Change version content) is = refl
look_loads (Poll version) is = refl
look_loads (Load entry) is = absurd is
look_loads (End number cause) is = absurd is
look_loads (Invalid epoch) is = absurd is

none_inserted : (a b c : PassAt) → Adds IsOneLook a b → Adds (λ added. loads added ≡ 0) b c → Adds (λ added. loads added ≡ 0) a c
none_inserted a b c look x = record {
  added = x.added ++ look.added;
  made = joins a b c look x;
  holds = loads_sum x.added look.added ∙ (let none = x.holds in let one = ap loads look.holds.2 ∙ look_loads look.holds.0 look.holds.1 in omega (arith, none, one));
}

-- a tick that gave up in a hold behind its poll
pub refused_hold : (f : LookupFault) (a b c : PassAt) → (LoadedLastCycle b c → LoadedLastCycle a c) → Adds IsOneLook a b → AddsByRefusedHold b c f → AddsByRefusedTick a c f
refused_hold fault.NoMemory a b c later look same = adds_before a b c (look_at_most a b look) same
refused_hold (fault.Spent count) a b c later look x = elim x [
  | inl (at, same) ↦ inr (inl (at, adds_before a b c look same))
  | inr (found, none) ↦ inr (inr (later found, none_inserted a b c look none))
]
refused_hold (fault.SourceFault file) a b c later look x = absurd x
refused_hold (fault.TooLong file size) a b c later look x = absurd x

-- ends insert nothing, and an invalidation does not
ends_load_nothing : (ends : List Record) → All IsEnd ends → loads ends ≡ 0
ends_load_nothing [] all = refl
ends_load_nothing (Change version content ∷ ends) all = absurd (All-head IsEnd (Change version content) ends all)
ends_load_nothing (Poll version ∷ ends) all = absurd (All-head IsEnd (Poll version) ends all)
ends_load_nothing (Load entry ∷ ends) all = absurd (All-head IsEnd (Load entry) ends all)
ends_load_nothing (End number cause ∷ ends) all = ends_load_nothing ends (All-tail IsEnd (End number cause) ends all)
ends_load_nothing (Invalid epoch ∷ ends) all = absurd (All-head IsEnd (Invalid epoch) ends all)

invalidation_loads : (epoch : ℕ) (added : List Record) → IsInvalidation epoch added → loads added ≡ 0
invalidation_loads epoch added is = ap loads is.2 ∙ ends_load_nothing is.0 is.1

-- an invalidation that gave up
pub refused_invalidation : (count : ℕ) (w : Writer) {seen history : List Record} (before after : PassAt) (m m' : List Record) → m ≡ before.made → Enters (EmptiesOrStays count w) seen history m m' → after.made ≡ m' → after.seen ≡ w.seen → (last_count ≤ w.cache.cycle → LoadedLastCycle before after)
    → AddsByRefusedInvalidation before after (cache_fault.Spent count)
refused_invalidation count w before after m m' first e last same found =
    let made = last ∙ e.made ∙ ap (λ (l : List Record). e.added ++ l) first in
    elim e.holds [
      | inl (at, none) ↦ inl (ap invalidations same ∙ at, made ∙ ap (λ (l : List Record). l ++ before.made) none)
      | inr (high, is) ↦ inr (found high, record { added = e.added; made = made; holds = subst (λ (n : ℕ). IsInvalidation n e.added) (sym (ap invalidations same)) is })
    ]

-- a look at what is due that gave up
pub refused_check : (f : LookupFault) (w : Writer) {seen history : List Record} (before after : PassAt) (m m' : List Record) → m ≡ before.made → Enters (StopsBy f w) seen history m m' → after.made ≡ m' → after.seen ≡ w.seen → (last_count ≤ w.cache.cycle → LoadedLastCycle before after) → AddsByRefusedHold before after f
refused_check fault.NoMemory w before after m m' first e last same found = adds_none before after m m' first e last
refused_check (fault.Spent count) w before after m m' first e last same found =
    let made = last ∙ e.made ∙ ap (λ (l : List Record). e.added ++ l) first in
    elim e.holds [
      | inl (at, none) ↦ inl (ap invalidations same ∙ at, made ∙ ap (λ (l : List Record). l ++ before.made) none)
      | inr (high, is) ↦ inr (found high, record { added = e.added; made = made; holds = invalidation_loads (invalidations w.seen) e.added is })
    ]
refused_check (fault.SourceFault file) w before after m m' first e last same found = absurd e.holds
refused_check (fault.TooLong file size) w before after m m' first e last same found = absurd e.holds

-- what ends what is due, and gave up
pub refused_renewal : (count : ℕ) (w : Writer) {seen history : List Record} (before after : PassAt) (m m' : List Record) → m ≡ before.made → Enters (EndsAlone w) seen history m m' → after.made ≡ m' → (last_count ≤ w.cache.cycle → LoadedLastCycle before after) → AddsByRefusedHold before after (fault.Spent count)
refused_renewal count w before after m m' first e last found =
    inr (found e.holds.0, record { added = e.added; made = last ∙ e.made ∙ ap (λ (l : List Record). e.added ++ l) first; holds = e.holds.1 })
