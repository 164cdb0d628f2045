-- The ends of entries, one after the other: what stays of the history, which entries are left, and the moves that they are.
use Rattle.std.proofs.Common.{◌≡◌, ℕ, ◌<◌, Bool, true, false, cond, ltb, List, [], ◌∷◌, ◌++◌, refl, sym, ap, subst, ◌∙◌, arith, inl, inr}
use Rattle.std.specs.Prelude.{◌⊎◌, not, All, Option}
use Rattle.std.proofs.lemmas.Bool.{ltb-true, not-true}
use Rattle.std.proofs.lemmas.List.Elements.{All-nil, All-cons}
use Rattle.nsc_model.specs.declared.kind.Db.{Db}
use Rattle.nsc_model.specs.declared.record.Ending.{Ending}
use Rattle.nsc_model.specs.declared.record.Ending.TheVariants.{Expired, Replaced}
use Rattle.nsc_model.specs.declared.record.Record.{Record}
use Rattle.nsc_model.specs.declared.record.Record.TheVariants.{End}
use Rattle.nsc_model.specs.Entry.{Entry}
use Rattle.nsc_model.specs.History.{changes, loads, invalidations, newest, version_in, HasLoad, HasEnd, IsLive, WasPolled, Allows, Legal}
use Rattle.nsc_laws.specs.Core.{Core, ended_all, Move, Finish, AreMoves}
use Rattle.nsc_model.specs.Live.{HasEntry, Rise, AreLive}
use Rattle.nsc_model.specs.Machine.{Kept, Cache, ends_of, by_invalidation, is_dropped, due_cause, due_of, others_of}
use Rattle.nsc_laws.specs.Calls.{entries_of, Tells, IsOwn}
use Rattle.nsc_laws.proofs.CoreLawRecords.{rise_tail, first_least}
use Rattle.nsc_laws.proofs.MachineLawLists.{filter_from, filter_to, rise_filter, same_load}

-- ends after records, and the history after both
pub ends_after : (cause : Kept → Ending) (ks : List Kept) (before h : List Record) → ends_of cause ks before ++ h ≡ ends_of cause ks (before ++ h)
ends_after cause [] before h = refl
ends_after cause (k ∷ ks) before h = ends_after cause ks (End k.entry.number (cause k) ∷ before) h

pub ended_same : (ks : List Kept) (h : List Record) → ended_all (entries_of ks) h ≡ ends_of by_invalidation ks h
ended_same [] h = refl
ended_same (k ∷ ks) h = ended_same ks (End k.entry.number (by_invalidation k) ∷ h)

-- ---- what stays

pub changes_ends : (cause : Kept → Ending) (ks : List Kept) (h : List Record) → changes (ends_of cause ks h) ≡ changes h
changes_ends cause [] h = refl
changes_ends cause (k ∷ ks) h = changes_ends cause ks (End k.entry.number (cause k) ∷ h)

pub loads_ends : (cause : Kept → Ending) (ks : List Kept) (h : List Record) → loads (ends_of cause ks h) ≡ loads h
loads_ends cause [] h = refl
loads_ends cause (k ∷ ks) h = loads_ends cause ks (End k.entry.number (cause k) ∷ h)

pub invalidations_ends : (cause : Kept → Ending) (ks : List Kept) (h : List Record) → invalidations (ends_of cause ks h) ≡ invalidations h
invalidations_ends cause [] h = refl
invalidations_ends cause (k ∷ ks) h = invalidations_ends cause ks (End k.entry.number (cause k) ∷ h)

pub newest_ends : (cause : Kept → Ending) (ks : List Kept) (h : List Record) → newest (ends_of cause ks h) ≡ newest h
newest_ends cause [] h = refl
newest_ends cause (k ∷ ks) h = newest_ends cause ks (End k.entry.number (cause k) ∷ h)

pub version_ends : (cause : Kept → Ending) (ks : List Kept) (h : List Record) (n : ℕ) → version_in (ends_of cause ks h) n ≡ version_in h n
version_ends cause [] h n = refl
version_ends cause (k ∷ ks) h n = version_ends cause ks (End k.entry.number (cause k) ∷ h) n

pub polled_ends : (cause : Kept → Ending) (ks : List Kept) (h : List Record) (n : ℕ) → WasPolled h n → WasPolled (ends_of cause ks h) n
polled_ends cause [] h n p = p
polled_ends cause (k ∷ ks) h n p = polled_ends cause ks (End k.entry.number (cause k) ∷ h) n p

-- ---- which entries ended

load_to : (cause : Kept → Ending) (ks : List Kept) (h : List Record) (e : Entry) → HasLoad h e → HasLoad (ends_of cause ks h) e
load_to cause [] h e a = a
load_to cause (k ∷ ks) h e a = load_to cause ks (End k.entry.number (cause k) ∷ h) e a

load_from : (cause : Kept → Ending) (ks : List Kept) (h : List Record) (e : Entry) → HasLoad (ends_of cause ks h) e → HasLoad h e
load_from cause [] h e a = a
load_from cause (k ∷ ks) h e a = load_from cause ks (End k.entry.number (cause k) ∷ h) e a

end_to : (cause : Kept → Ending) (ks : List Kept) (h : List Record) (n : ℕ) → HasEnd h n → HasEnd (ends_of cause ks h) n
end_to cause [] h n a = a
end_to cause (k ∷ ks) h n a = end_to cause ks (End k.entry.number (cause k) ∷ h) n (inr a)

each_ends : (cause : Kept → Ending) (ks : List Kept) (h : List Record) (e : Entry) → HasEntry (entries_of ks) e → HasEnd (ends_of cause ks h) e.number
each_ends cause [] h e a = absurd a
each_ends cause (k ∷ ks) h e (inl same) = end_to cause ks (End k.entry.number (cause k) ∷ h) e.number (inl (ap (λ (y : Entry). y.number) same))
each_ends cause (k ∷ ks) h e (inr a) = each_ends cause ks (End k.entry.number (cause k) ∷ h) e a

-- what ended had ended before, or is one of these
end_from : (cause : Kept → Ending) (ks : List Kept) (h : List Record) (n : ℕ) → HasEnd (ends_of cause ks h) n → HasEnd h n ⊎ ((e : Entry) × HasEntry (entries_of ks) e × (e.number ≡ n))
end_from cause [] h n a = inl a
end_from cause (k ∷ ks) h n a = elim (end_from cause ks (End k.entry.number (cause k) ∷ h) n a) [
  | inl before ↦ elim before [ inl same ↦ inr (k.entry, inl refl, same) | inr old ↦ inl old ]
  | inr other ↦ inr (other.0, inr other.1, other.2)
]

-- ---- the moves

-- each cause lets its entry end
abbrev pub Allowed : (Kept → Ending) → List Kept → Type 0
Allowed cause [] = Unit {0}
Allowed cause (k ∷ ks) = Allows (cause k) k.entry × Allowed cause ks

pub finishes : (Kept → Ending) → List Kept → List Move
finishes cause [] = []
finishes cause (k ∷ ks) = Finish k.entry.number (cause k) ∷ finishes cause ks

pub finishes_own : (a : ℕ) (event : List Record) (cause : Kept → Ending) (ks : List Kept) → All (IsOwn a event) (finishes cause ks)
unfolding finishes
finishes_own a event cause [] = All-nil (IsOwn a event)
finishes_own a event cause (k ∷ ks) = All-cons (IsOwn a event) _ (finishes cause ks) tt (finishes_own a event cause ks)

abbrev pub ended : Core → (Kept → Ending) → List Kept → Core
ended core cause ks = record core { history = ends_of cause ks core.history }

-- another entry that lives still lives
pub lives_on : (h : List Record) (e f : Entry) (cause : Ending) → e.number < f.number → IsLive h f → IsLive (End e.number cause ∷ h) f
lives_on h e f cause low live = record {
  inserted = live.inserted;
  not_ended = λ gone. elim gone [ inl same ↦ (let n : e.number ≡ f.number = same in omega arith) | inr before ↦ live.not_ended before ];
}

pub ends_run : (db : Db) (cause : Kept → Ending) (ks : List Kept) (core : Core) → ((e : Entry) → HasEntry (entries_of ks) e → IsLive core.history e) → Allowed cause ks → Rise (entries_of ks) → AreMoves db (finishes cause ks) core (ended core cause ks)
unfolding finishes
ends_run db cause [] core live allowed r = refl
ends_run db cause (k ∷ ks) core live allowed r =
    let next = record core { history = End k.entry.number (cause k) ∷ core.history } in (
      next,
      (k.entry, live k.entry (inl refl), refl, allowed.0, refl),
      ends_run db cause ks next (λ f a. lives_on core.history k.entry f (cause k) (first_least k.entry (entries_of ks) f r a) (live f (inr a))) allowed.1 (rise_tail k.entry (entries_of ks) r),
    )

ends_legal : (cause : Kept → Ending) (ks : List Kept) (h : List Record) → Legal h → ((e : Entry) → HasEntry (entries_of ks) e → IsLive h e) → Allowed cause ks → Rise (entries_of ks) → Legal (ends_of cause ks h)
ends_legal cause [] h l live allowed r = l
ends_legal cause (k ∷ ks) h l live allowed r =
    ends_legal cause ks (End k.entry.number (cause k) ∷ h) (l, k.entry, live k.entry (inl refl), refl, allowed.0)
    (λ f a. lives_on h k.entry f (cause k) (first_least k.entry (entries_of ks) f r a) (live f (inr a))) allowed.1 (rise_tail k.entry (entries_of ks) r)

-- ---- the ends of a tick

allows_by : (dropped : Bool) (now : ℕ) (e : Entry) → e.timeout < now → Allows (cond dropped (Expired now) Replaced) e
allows_by true now e low = low
allows_by false now e low = tt

pub due_allowed : (reloads : Option ℕ) (now : ℕ) (ks : List Kept) → Allowed (due_cause reloads now) (due_of now ks)
due_allowed reloads now [] = tt
due_allowed reloads now (k ∷ ks) = by_test (ltb k.entry.timeout now) refl (due_allowed reloads now ks) where
  by_test : (b : Bool) → ltb k.entry.timeout now ≡ b → Allowed (due_cause reloads now) (due_of now ks) → Allowed (due_cause reloads now) (cond b (k ∷ due_of now ks) (due_of now ks))
  by_test true t rest = (allows_by (is_dropped reloads k) now k.entry (ltb-true k.entry.timeout now t), rest)
  by_test false t rest = rest

-- an entry is due, and one of the others is not
pub due_is : (now : ℕ) (ks : List Kept) (e : Entry) → HasEntry (entries_of (due_of now ks)) e → HasEntry (entries_of ks) e × (ltb e.timeout now ≡ true)
due_is now ks e a = let f = filter_from (λ k. ltb k.entry.timeout now) ks e a in (f.0, subst (λ (y : Entry). ltb y.timeout now ≡ true) f.1.1 f.1.2)

pub other_is : (now : ℕ) (ks : List Kept) (e : Entry) → HasEntry (entries_of (others_of now ks)) e → HasEntry (entries_of ks) e × (ltb e.timeout now ≡ false)
other_is now ks e a = let f = filter_from (λ k. not (ltb k.entry.timeout now)) ks e a in (f.0, subst (λ (y : Entry). ltb y.timeout now ≡ false) f.1.1 (not-true (ltb f.1.0.entry.timeout now) f.1.2))

-- after the ends of what is due, the others are the live entries
others_live : (cause : Kept → Ending) (now : ℕ) (ks : List Kept) (h : List Record) → Legal h → AreLive h (entries_of ks) → AreLive (ends_of cause (due_of now ks) h) (entries_of (others_of now ks))
others_live cause now ks h l are = record { live = live; all = all; rising = rise_filter (λ k. not (ltb k.entry.timeout now)) ks are.rising } where
  live : (e : Entry) → HasEntry (entries_of (others_of now ks)) e → IsLive (ends_of cause (due_of now ks) h) e
  live e a =
      let other = other_is now ks e a in
      let was = are.live e other.0 in
      record {
        inserted = load_to cause (due_of now ks) h e was.inserted;
        not_ended = λ gone. elim (end_from cause (due_of now ks) h e.number gone) [
          | inl before ↦ was.not_ended before
          | inr one ↦ (
              let due = due_is now ks one.0 one.1 in
              let same : one.0 ≡ e = same_load h one.0 e l (are.live one.0 due.0).inserted was.inserted one.2 in
              let both : true ≡ false = sym due.1 ∙ (ap (λ (y : Entry). ltb y.timeout now) same ∙ other.1) in
              absurd cc)
        ];
      }

  by_due : (e : Entry) → IsLive (ends_of cause (due_of now ks) h) e → HasEntry (entries_of ks) e → (b : Bool) → ltb e.timeout now ≡ b → HasEntry (entries_of (others_of now ks)) e
  by_due e lives a true t = absurd (lives.not_ended (each_ends cause (due_of now ks) h e (filter_to (λ y. ltb y.timeout now) ks e a t)))
  by_due e lives a false t = filter_to (λ y. not (ltb y.timeout now)) ks e a (ap not t)

  all : (e : Entry) → IsLive (ends_of cause (due_of now ks) h) e → HasEntry (entries_of (others_of now ks)) e
  all e lives =
      by_due e lives (are.all e (record { inserted = load_from cause (due_of now ks) h e lives.inserted; not_ended = λ gone. lives.not_ended (end_to cause (due_of now ks) h e.number gone) })) (ltb e.timeout now) refl

pub due_live : (now : ℕ) (ks : List Kept) (h : List Record) → AreLive h (entries_of ks) → (e : Entry) → HasEntry (entries_of (due_of now ks)) e → IsLive h e
due_live now ks h are e a = are.live e (due_is now ks e a).0

pub due_rise : (now : ℕ) (ks : List Kept) (h : List Record) → AreLive h (entries_of ks) → Rise (entries_of (due_of now ks))
due_rise now ks h are = rise_filter (λ k. ltb k.entry.timeout now) ks are.rising

-- what the cache says after the ends of what is due
pub pruned_tells : (reloads : Option ℕ) (now : ℕ) (h : List Record) (cache : Cache) → Tells h cache → Tells (ends_of (due_cause reloads now) (due_of now cache.entries) h) (record cache { entries = others_of now cache.entries })
pruned_tells reloads now h cache t =
    let cause = due_cause reloads now in
    let due = due_of now cache.entries in
    record {
      legal = ends_legal cause due h t.legal (due_live now cache.entries h t.entries_are) (due_allowed reloads now cache.entries) (due_rise now cache.entries h t.entries_are);
      newest_is = newest_ends cause due h ∙ t.newest_is;
      counted = changes_ends cause due h ∙ t.counted;
      held = version_ends cause due h cache.newest_version ∙ t.held;
      loads_are = loads_ends cause due h ∙ t.loads_are;
      epochs_are = invalidations_ends cause due h ∙ t.epochs_are;
      entries_are = others_live cause now cache.entries h t.legal t.entries_are;
    }
