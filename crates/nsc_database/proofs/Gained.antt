-- The records that calls of the writer add are those that they say.
use Rattle.std.proofs.Common.{◌≡◌, ◌∙◌, ℕ, ◌+◌, ◌-◌, ◌<◌, ◌≤◌, ◌⊎◌, Bool, true, false, cond, eqb, All, List, [], ◌∷◌, ◌++◌, length, length-append, Option, Some, None, Result, Ok, Err, refl, sym, ap, subst, arith, inl, inr}
use Rattle.std.specs.Prelude.{IfErr, IfOk, OnErr, OnOk, take}
use Rattle.std.proofs.Math.Seq.{take-append_seam}
use Rattle.std.proofs.lemmas.List.{append_assoc}
use Rattle.std.proofs.lemmas.List.Elements.{All-append, All-cons, All-nil}
use Rattle.nsc_model.specs.declared.answer.Request.{Request}
use Rattle.nsc_model.specs.declared.fault.CacheFault.{CacheFault}
use Rattle.nsc_model.specs.declared.fault.CacheFault.TheVariants as cache_fault
use Rattle.nsc_model.specs.declared.record.Record.{Record}
use Rattle.nsc_model.specs.declared.record.Record.TheVariants.{Change, End, Invalid, Load, Poll}
use Rattle.nsc_model.specs.declared.store.Spent.{Spent}
use Rattle.nsc_model.specs.Content.{Content}
use Rattle.nsc_model.specs.Files.{same_files}
use Rattle.nsc_model.specs.History.{IsPrefix, invalidations, loads}
use Rattle.nsc_model.specs.Machine.{Cache, Kept, Passed, Stopped, by_invalidation, ends_of, invalidated, last_count, polled, stopped}
use Rattle.nsc_model.specs.Made.{IsEnd, IsInvalidation, IsLook, IsOneLook}
use Rattle.nsc_laws.specs.Calls.{Tells}
use Rattle.nsc_shelf.specs.Shelf.{has_number}
use Rattle.nsc_writer.specs.declared.loaded.Inserted.{Inserted}
use Rattle.nsc_writer.specs.declared.loaded.Inserted.TheVariants as inserted
use Rattle.nsc_writer.specs.declared.loaded.Stamp.{Stamp}
use Rattle.nsc_writer.specs.Loaded.{Loaded, kept_of}
use Rattle.nsc_writer.specs.Writer.{Inserts, Polls, Writer, emptied_by, ending_of, without_entry}
use Rattle.nsc_sourcebook.specs.Book.{Fetched, Polled, PollsBook, SourceBook}
use Rattle.nsc_pruner.specs.Due.{Due, due_cause_of, pruned_by, pruned_one}
use Rattle.nsc_turns.specs.declared.ticks.Checked.{Checked}
use Rattle.nsc_turns.specs.declared.ticks.Checked.TheVariants as checked
use Rattle.nsc_turns.specs.Ticks.{Checks}
use Rattle.nsc_turns.specs.declared.entries.HitOrMiss.{HitOrMiss}
use Rattle.nsc_turns.specs.declared.entries.HitOrMiss.TheVariants as looked
use Rattle.nsc_turns.specs.Turns.{Completes, InsertsBeside, Looks, Stops}
use Rattle.nsc_turns.proofs.Emptied.{completes_left, stops_left}
use Rattle.nsc_database.specs.Ticks.{fault_from}
use Rattle.nsc_database.specs.Made.{ChecksBy, EmptiesOrStays, EndsAlone, Enters, InsertsBehind, InsertsOne, IsAny, IsNone, StopsBy, gained}

-- ---- what was gained

gained_is : (seen added : List Record) → gained seen (added ++ seen) ≡ added
gained_is seen added =
    let long : length (added ++ seen) - length seen ≡ length added = (let sum = length-append added seen in omega (arith, sum)) in
    ap (λ (n : ℕ). take n (added ++ seen)) long ∙ take-append_seam added seen

-- the records of a call, by how it leaves the history
pub enters : {are : List Record → Type 0} (added seen history before after : List Record) → history ≡ added ++ seen → are added → after ≡ gained seen history ++ before → Enters are seen history before after
enters added seen history before after gains holds made = record {
  added = added;
  gains = gains;
  made = made ∙ ap (λ (l : List Record). l ++ before) (ap (gained seen) gains ∙ gained_is seen added);
  holds = holds;
}

-- ---- polls

looks_once : (same last : Bool) (files : Content) (cache : Cache) (epoch : ℕ) (w w' : Writer) (stamp : Stamp)
    → Polls (cond same (Ok (record { cache = cache; adds = Poll cache.newest_version ∷ [] })) (cond last (Err (stopped cache)) (Ok (record { cache = record cache { sources = files; newest_version = cache.newest_version + 1 }; adds = Change (cache.newest_version + 1) files ∷ [] })))) epoch w w' (Ok stamp)
    → (look : Record) × IsLook look × (w'.seen ≡ look ∷ w.seen)
looks_once true last files cache epoch w w' stamp p = (Poll cache.newest_version, tt, ap (λ (x : Writer). x.seen) p.1)
looks_once false true files cache epoch w w' stamp p = absurd p
looks_once false false files cache epoch w w' stamp p = (Change (cache.newest_version + 1) files, tt, ap (λ (x : Writer). x.seen) p.1)

stays_put : (r : Result Passed Stopped) (epoch : ℕ) (w w' : Writer) (spent : Spent) → Polls r epoch w w' (Err spent) → w'.seen ≡ w.seen
stays_put (Ok passed) epoch w w' spent p = absurd p
stays_put (Err stop) epoch w w' spent p = ap (λ (x : Writer). x.seen) p.1

pub enters_poll : (fetched : Fetched) (epoch : ℕ) (b b' : SourceBook) (w w' : Writer) (r : Result Polled Spent) (before after : List Record) → PollsBook fetched epoch b b' w w' r → after ≡ gained w.seen w'.seen ++ before → OnOk r (Enters IsOneLook w.seen w'.seen before after)
enters_poll fetched epoch b b' w w' (Ok p) before after polls made =
    let look = looks_once (same_files fetched.content w.cache.sources) (eqb w.cache.newest_version last_count) fetched.content w.cache epoch w w' p.stamp polls.0 in
    enters (look.0 ∷ []) w.seen w'.seen before after look.2 (look.0, look.1, refl) made
enters_poll fetched epoch b b' w w' (Err spent) before after polls made = tt

pub enters_no_poll : (fetched : Fetched) (epoch : ℕ) (b b' : SourceBook) (w w' : Writer) (r : Result Polled Spent) (before after : List Record) → PollsBook fetched epoch b b' w w' r → after ≡ gained w.seen w'.seen ++ before → OnErr r (Enters IsNone w.seen w'.seen before after)
enters_no_poll fetched epoch b b' w w' (Ok p) before after polls made = tt
enters_no_poll fetched epoch b b' w w' (Err spent) before after polls made =
    enters [] w.seen w'.seen before after (stays_put (polled fetched.content w.cache) epoch w w' spent polls.0) refl made

-- ---- insertions

inserts_one : (said : Inserted) (loaded : Loaded) (w w' : Writer) → Inserts said loaded w w' → (added : List Record) × (w'.seen ≡ added ++ w.seen) × InsertsOne said loaded added
inserts_one (inserted.Done number) loaded w w' i = (Load (kept_of loaded number).entry ∷ [], ap (λ (x : Writer). x.seen) i.2 ∙ ap (λ (n : ℕ). Load (kept_of loaded n).entry ∷ w.seen) (sym i.1), refl)
inserts_one (inserted.TooLarge size) loaded w w' i = ([], ap (λ (x : Writer). x.seen) i.1, refl)
inserts_one (inserted.Discarded noted epoch) loaded w w' i = ([], ap (λ (x : Writer). x.seen) i.1, refl)
inserts_one (inserted.Present number) loaded w w' i = ([], ap (λ (x : Writer). x.seen) i.1, refl)
inserts_one (inserted.Spent count) loaded w w' i = ([], ap (λ (x : Writer). x.seen) i.1, refl)
inserts_one (inserted.Full need free) loaded w w' i = ([], ap (λ (x : Writer). x.seen) i.1, refl)

pub enters_one : (said : Inserted) (loaded : Loaded) (w w' : Writer) (seen before after : List Record) → w.seen ≡ seen → Inserts said loaded w w' → after ≡ gained seen w'.seen ++ before → Enters (InsertsOne said loaded) seen w'.seen before after
enters_one said loaded w w' seen before after same i made =
    let one = inserts_one said loaded w w' i in
    enters one.0 seen w'.seen before after (one.1 ∙ ap (λ (h : List Record). one.0 ++ h) same) one.2 made

one_or_none : (said : Inserted) (l : Loaded) (added : List Record) → InsertsOne said l added → (added ≡ []) ⊎ ((n : ℕ) × (added ≡ Load (kept_of l n).entry ∷ []))
one_or_none (inserted.Done number) l added is = inr (number, is)
one_or_none (inserted.TooLarge size) l added is = inl is
one_or_none (inserted.Discarded noted epoch) l added is = inl is
one_or_none (inserted.Present number) l added is = inl is
one_or_none (inserted.Spent count) l added is = inl is
one_or_none (inserted.Full need free) l added is = inl is

inserts_behind : (said : Inserted) (behind : Option Loaded) (w w' : Writer) → InsertsBeside said behind w w' → (added : List Record) × (w'.seen ≡ added ++ w.seen) × InsertsBehind said behind added
inserts_behind (inserted.Done number) (Some l) w w' i =
    let one = inserts_one i.0 l w w' i.1 in
    (one.0, one.1, elim (one_or_none i.0 l one.0 one.2) [ inl none ↦ inl none | inr (n, is) ↦ inr (l, refl, n, is) ])
inserts_behind (inserted.Done number) None w w' i = ([], ap (λ (x : Writer). x.seen) i, inl refl)
inserts_behind (inserted.TooLarge size) behind w w' i = ([], ap (λ (x : Writer). x.seen) i, refl)
inserts_behind (inserted.Discarded noted epoch) behind w w' i = ([], ap (λ (x : Writer). x.seen) i, refl)
inserts_behind (inserted.Present number) behind w w' i = ([], ap (λ (x : Writer). x.seen) i, refl)
inserts_behind (inserted.Spent count) behind w w' i = ([], ap (λ (x : Writer). x.seen) i, refl)
inserts_behind (inserted.Full need free) behind w w' i = ([], ap (λ (x : Writer). x.seen) i, refl)

pub enters_behind : (said : Inserted) (behind : Option Loaded) (w w' : Writer) (seen before after : List Record) → w.seen ≡ seen → InsertsBeside said behind w w' → after ≡ gained seen w'.seen ++ before → Enters (InsertsBehind said behind) seen w'.seen before after
enters_behind said behind w w' seen before after same i made =
    let one = inserts_behind said behind w w' i in
    enters one.0 seen w'.seen before after (one.1 ∙ ap (λ (h : List Record). one.0 ++ h) same) one.2 made

-- ---- invalidations

ends_split : (ks : List Kept) (seen : List Record) → (ends : List Record) × All IsEnd ends × (ends_of by_invalidation ks seen ≡ ends ++ seen)
ends_split [] seen = ([], All-nil IsEnd, refl)
ends_split (k ∷ ks) seen =
    let one : Record = End k.entry.number (by_invalidation k) in
    let more = ends_split ks (one ∷ seen) in
    (more.0 ++ (one ∷ []), All-append IsEnd more.0 (one ∷ []) more.1 (All-cons IsEnd one [] tt (All-nil IsEnd)), more.2 ∙ sym (append_assoc more.0 (one ∷ []) seen))

ends_keep : (ks : List Kept) (h : List Record) → invalidations (ends_of by_invalidation ks h) ≡ invalidations h
ends_keep [] h = refl
ends_keep (k ∷ ks) h = ends_keep ks (End k.entry.number (by_invalidation k) ∷ h)

emptied_adds : (w w' : Writer) → w'.seen ≡ (emptied_by w).seen → (added : List Record) × (w'.seen ≡ added ++ w.seen) × IsInvalidation (w.cache.epoch + 1) added
emptied_adds w w' is =
    let split = ends_split w.cache.entries w.seen in
    (Invalid (w.cache.epoch + 1) ∷ split.0, is ∙ ap (λ (h : List Record). Invalid (w.cache.epoch + 1) ∷ h) split.2, (split.0, split.1, refl))

completes_adds : (w w' : Writer) → Completes (invalidated w.cache) w w' → (added : List Record) × (w'.seen ≡ added ++ w.seen) × IsInvalidation (w.cache.epoch + 1) added × (w'.cache.epoch ≡ w.cache.epoch + 1)
completes_adds w w' p =
    let left : (w'.seen ≡ (emptied_by w).seen) × (w'.cache.epoch ≡ w.cache.epoch + 1) = elim (completes_left w w' p) [ inl (none, is) ↦ (ap (λ (x : Writer). x.seen) is, ap (λ (x : Writer). x.cache.epoch) is) | inr (some, is) ↦ (ap (λ (x : Writer). x.seen) is, ap (λ (x : Writer). x.cache.epoch) is) ] in
    let adds = emptied_adds w w' left.0 in
    (adds.0, adds.1, adds.2, left.1)

stops_adds : (w w' : Writer) (count : ℕ) → Stops (invalidated w.cache) count w w' → Tells w.seen w.cache → (added : List Record) × (w'.seen ≡ added ++ w.seen) × EmptiesOrStays count w' added
stops_adds w w' count s t = elim (stops_left w w' count s).1 [
  | inl (last, is) ↦ ([], ap (λ (x : Writer). x.seen) is, inl (ap (λ (x : Writer). invalidations x.seen) is ∙ t.epochs_are ∙ last ∙ sym (stops_left w w' count s).0, refl))
  | inr (high, is) ↦
      (let adds = emptied_adds w w' (ap (λ (x : Writer). x.seen) is) in
      let epoch : invalidations w'.seen ≡ w.cache.epoch + 1 = ap (λ (x : Writer). invalidations x.seen) is ∙ ap (λ (n : ℕ). n + 1) (ends_keep w.cache.entries w.seen ∙ t.epochs_are) in
      (adds.0, adds.1, inr (subst (λ (x : Writer). last_count ≤ x.cache.cycle) (sym is) high, subst (λ (n : ℕ). IsInvalidation n adds.0) (sym epoch) adds.2)))
]

pub enters_emptied : (r : Result ℕ Spent) (w w' : Writer) (seen before after : List Record) → w.seen ≡ seen → IfOk r (λ epoch. Completes (invalidated w.cache) w w') → IfOk r (λ epoch. epoch ≡ w'.cache.epoch) → after ≡ gained seen w'.seen ++ before
    → IfOk r (λ epoch. Enters (IsInvalidation epoch) seen w'.seen before after)
enters_emptied (Ok epoch) w w' seen before after same p counted made =
    let adds = completes_adds w w' p in
    enters adds.0 seen w'.seen before after (adds.1 ∙ ap (λ (h : List Record). adds.0 ++ h) same) (subst (λ (n : ℕ). IsInvalidation n adds.0) (sym (counted ∙ adds.3)) adds.2) made
enters_emptied (Err spent) w w' seen before after same p counted made = tt

enters_stopped : (count : ℕ) (w w' : Writer) (seen before after : List Record) → w.seen ≡ seen → Stops (invalidated w.cache) count w w' → Tells w.seen w.cache → after ≡ gained seen w'.seen ++ before → Enters (EmptiesOrStays count w') seen w'.seen before after
enters_stopped count w w' seen before after same s t made =
    let adds = stops_adds w w' count s t in
    enters adds.0 seen w'.seen before after (adds.1 ∙ ap (λ (h : List Record). adds.0 ++ h) same) adds.2 made

pub enters_unemptied : (r : Result ℕ Spent) (w w' : Writer) (seen before after : List Record) → w.seen ≡ seen → IfErr r (λ spent. Stops (invalidated w.cache) spent.count w w') → Tells w.seen w.cache → after ≡ gained seen w'.seen ++ before
    → IfErr r (λ spent. Enters (EmptiesOrStays spent.count w') seen w'.seen before after)
enters_unemptied (Ok epoch) w w' seen before after same s t made = tt
enters_unemptied (Err spent) w w' seen before after same s t made = enters_stopped spent.count w w' seen before after same s t made

-- ---- ticks

pub enters_checked : (said : Checked) (outdated : Bool) (limit : Option ℕ) (now : ℕ) (w w' : Writer) (seen before after : List Record) → w.seen ≡ seen → Checks outdated limit now w w' (Ok said) → after ≡ gained seen w'.seen ++ before → Enters (ChecksBy said) seen w'.seen before after
enters_checked checked.Emptied outdated limit now w w' seen before after same is made =
    let adds = completes_adds w w' is.1 in
    enters adds.0 seen w'.seen before after (adds.1 ∙ ap (λ (h : List Record). adds.0 ++ h) same) tt made
enters_checked (checked.Listed due) outdated limit now w w' seen before after same is made =
    enters [] seen w'.seen before after (ap (λ (x : Writer). x.seen) is.2 ∙ same) refl made

pub enters_unchecked : (f : CacheFault) (outdated : Bool) (limit : Option ℕ) (now : ℕ) (w w' : Writer) (seen before after : List Record) → w.seen ≡ seen → Checks outdated limit now w w' (Err f) → Tells w.seen w.cache → after ≡ gained seen w'.seen ++ before
    → Enters (StopsBy (fault_from f) w') seen w'.seen before after
enters_unchecked cache_fault.NoMemory outdated limit now w w' seen before after same is t made = enters [] seen w'.seen before after (ap (λ (x : Writer). x.seen) is.1 ∙ same) refl made
enters_unchecked (cache_fault.Spent count) outdated limit now w w' seen before after same is t made = enters_stopped count w w' seen before after same is.1 t made

-- the ends of what is due insert nothing
pub pruned_loads : (now : ℕ) (due : List Due) (w : Writer) → loads (pruned_by now due w).seen ≡ loads w.seen
pruned_loads now [] w = refl
pruned_loads now (d ∷ due) w = pruned_loads now due (pruned_one now d w) ∙ one (has_number d.number w.cache.entries) where
  one : (b : Bool) → loads (cond b (without_entry d.number (ending_of (due_cause_of now d)) w) w).seen ≡ loads w.seen
  one true = refl
  one false = refl

pub loads_sum : (more h : List Record) → loads (more ++ h) ≡ loads more + loads h
loads_sum [] h = omega arith
loads_sum (Change version content ∷ more) h = loads_sum more h
loads_sum (Poll version ∷ more) h = loads_sum more h
loads_sum (Load entry ∷ more) h = let rest = loads_sum more h in omega (arith, rest)
loads_sum (End number cause ∷ more) h = loads_sum more h
loads_sum (Invalid epoch ∷ more) h = loads_sum more h

-- a history that has no more loads than its beginning gained none
pub none_loaded : (seen history : List Record) (on : IsPrefix seen history) → loads history ≡ loads seen → loads on.0 ≡ 0
none_loaded seen history on same = let sum = loads_sum on.0 seen in let is = ap loads on.1 in omega (arith, sum, is, same)

pub enters_renewed : (r : Result (Unit {0}) Spent) (added seen history before after : List Record) → history ≡ added ++ seen → after ≡ gained seen history ++ before → OnOk r (Enters IsAny seen history before after)
enters_renewed (Ok done) added seen history before after gains made = enters added seen history before after gains tt made
enters_renewed (Err spent) added seen history before after gains made = tt

pub enters_unrenewed : (r : Result (Unit {0}) Spent) (w' : Writer) (added seen before after : List Record) → w'.seen ≡ added ++ seen → OnErr r (EndsAlone w' added) → after ≡ gained seen w'.seen ++ before → OnErr r (Enters (EndsAlone w') seen w'.seen before after)
enters_unrenewed (Ok done) w' added seen before after gains alone made = tt
enters_unrenewed (Err spent) w' added seen before after gains alone made = enters added seen w'.seen before after gains alone made

pub none_pruned : (now : ℕ) (due : List Due) (w w' : Writer) → w' ≡ pruned_by now due w → (on : IsPrefix w.seen w'.seen) → loads on.0 ≡ 0
none_pruned now due w w' same on = none_loaded w.seen w'.seen on (ap (λ (x : Writer). loads x.seen) same ∙ pruned_loads now due w)

-- a look for a live entry adds nothing
pub looked_stays : (found : Option Kept) (request : Request) (said : HitOrMiss) (w w' : Writer) (reply : List ℕ) → Looks found request said w w' reply → w'.seen ≡ w.seen
looked_stays found request (looked.Hit hit) w w' reply l = ap (λ (x : Writer). x.seen) l.1
looked_stays found request (looked.Missed epoch) w w' reply l = ap (λ (x : Writer). x.seen) l.2
