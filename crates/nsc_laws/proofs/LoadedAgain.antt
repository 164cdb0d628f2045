-- What becomes of entries that ended to be loaded again, in a history that goes on.
use Rattle.std.proofs.Common.{◌≡◌, ℕ, ◌≤◌, ◌⊎◌, inl, inr, Bool, true, false, cond, eqb, List, [], ◌∷◌, ◌++◌, Some, refl, sym, ap, subst, ◌∙◌, arith}
use Rattle.std.proofs.lemmas.Bool.{eqb-true, eqb-false}
use Rattle.nsc_model.specs.declared.answer.Request.{Request}
use Rattle.nsc_model.specs.declared.record.Ending.TheVariants.{Expired, Invalidated, Replaced}
use Rattle.nsc_model.specs.declared.record.Record.{Record}
use Rattle.nsc_model.specs.declared.record.Record.TheVariants.{Change, Poll, Load, End, Invalid}
use Rattle.nsc_model.specs.Content.{Content}
use Rattle.nsc_model.specs.Entry.{Entry}
use Rattle.nsc_model.specs.History.{HasEnd, HasLoad, IsLive, IsPrefix, Legal, load_of, loads, version_in}
use Rattle.nsc_model.specs.Machine.{Kept, by_invalidation, ends_of}
use Rattle.nsc_model.specs.Stores.{AreLoadedAgain, HasContent, IsLoadedAfter, IsLoadedAgain}
use Rattle.nsc_laws.proofs.CoreLawRecords.{not_ended_before, prefix_more}
use Rattle.nsc_laws.proofs.MachineLawLists.{one_live, same_load}
use Rattle.nsc_laws.proofs.MachineLawSteps.{both_prefix, same_prefix}
use Rattle.nsc_laws.proofs.Prefixes.{prefix_legal}

-- ---- a history that goes on

pub content_on : (files : Content) (a b : List Record) → IsPrefix a b → HasContent files a → HasContent files b
content_on files a b p c = (c.0, c.1, both_prefix (Change c.0 files ∷ c.1) a b c.2 p)

content_more : (files : Content) (r : Record) (h : List Record) → HasContent files h → HasContent files (r ∷ h)
content_more files r h c = content_on files h (r ∷ h) (prefix_more r h h (same_prefix h)) c

-- the content of a version
pub version_has : (h : List Record) (n : ℕ) (files : Content) → version_in h n ≡ Some files → HasContent files h
version_has [] n files is = absurd cc
version_has (Change v c ∷ h) n files is = by_version (eqb v n) is (version_has h n files) where
  by_version : (b : Bool) → cond b (Some c) (version_in h n) ≡ Some files → (version_in h n ≡ Some files → HasContent files h) → HasContent files (Change v c ∷ h)
  by_version true e rest = let same : c ≡ files = cc in (v, h, subst (λ (f : Content). IsPrefix (Change v f ∷ h) (Change v c ∷ h)) same (same_prefix (Change v c ∷ h)))
  by_version false e rest = content_more files (Change v c) h (rest e)
version_has (Poll v ∷ h) n files is = content_more files (Poll v) h (version_has h n files is)
version_has (Load e ∷ h) n files is = content_more files (Load e) h (version_has h n files is)
version_has (End k cause ∷ h) n files is = content_more files (End k cause) h (version_has h n files is)
version_has (Invalid k ∷ h) n files is = content_more files (Invalid k) h (version_has h n files is)

loads_rise : (more h : List Record) → loads h ≤ loads (more ++ h)
loads_rise [] h = omega arith
loads_rise (Change v c ∷ more) h = loads_rise more h
loads_rise (Poll v ∷ more) h = loads_rise more h
loads_rise (Load e ∷ more) h = let low = loads_rise more h in omega arith
loads_rise (End n cause ∷ more) h = loads_rise more h
loads_rise (Invalid n ∷ more) h = loads_rise more h

loads_on : (a b : List Record) → IsPrefix a b → loads a ≤ loads b
loads_on a b p = let P : List Record → Type 0 = λ l. loads a ≤ loads l in subst P (sym p.1) (loads_rise p.0 a)

pub again_on : (arena : ℕ) (ended : List Record) (request : Request) (a b : List Record) → IsPrefix a b → IsLoadedAgain arena ended request a → IsLoadedAgain arena ended request b
again_on arena ended request a b p (inl after) = inl (after.0, after.1, after.2, both_prefix (Load after.0 ∷ after.1) a b after.3 p, after.4)
again_on arena ended request a b p (inr (inl many)) = inr (inl (let more = loads_on a b p in omega arith))
again_on arena ended request a b p (inr (inr (inl long))) = inr (inr (inl (long.0, content_on long.0 a b p long.1, long.2)))
again_on arena ended request a b p (inr (inr (inr full))) = inr (inr (inr (record {
  moment = full.moment;
  since = full.since;
  until = both_prefix full.moment a b full.until p;
  files = full.files;
  known = content_on full.files a b p full.known;
  entries = full.entries;
  live = full.live;
  full = full.full;
})))

-- ---- one more record

-- this is known of each entry that ended to be loaded again, or its request is one of these
abbrev pub AreLoadedBut : ℕ → (Request → Type 0) → List Record → Type 0
AreLoadedBut arena those h = (number : ℕ) (before : List Record) (e : Entry) → IsPrefix (End number Replaced ∷ before) h → load_of before number ≡ Some e → IsLoadedAgain arena (End number Replaced ∷ before) e.request h ⊎ those e.request

-- a record that is no end of an entry that is to be loaded again
abbrev pub IsOther : Record → Type 0
IsOther (Change v c) = Unit {0}
IsOther (Poll v) = Unit {0}
IsOther (Load e) = Unit {0}
IsOther (End n (Expired now)) = Unit {0}
IsOther (End n Invalidated) = Unit {0}
IsOther (End n Replaced) = ⊥
IsOther (Invalid n) = Unit {0}

-- such an end stands before it
pub end_before : (r : Record) (h : List Record) (number : ℕ) (before : List Record) → IsOther r → IsPrefix (End number Replaced ∷ before) (r ∷ h) → IsPrefix (End number Replaced ∷ before) h
end_before r h number before other p = by_more p.0 p.1 where
  by_more : (more : List Record) → r ∷ h ≡ more ++ (End number Replaced ∷ before) → IsPrefix (End number Replaced ∷ before) h
  by_more [] is = let same : r ≡ End number Replaced = cc in absurd (subst IsOther same other)
  by_more (m ∷ more) is = (more, (let rest : h ≡ more ++ (End number Replaced ∷ before) = cc in rest))

pub but_more : (arena : ℕ) (those : Request → Type 0) (r : Record) (h : List Record) → IsOther r → AreLoadedBut arena those h → AreLoadedBut arena those (r ∷ h)
but_more arena those r h other all number before e p is = elim (all number before e (end_before r h number before other p) is) [
  | inl again ↦ inl (again_on arena (End number Replaced ∷ before) e.request h (r ∷ h) (prefix_more r h h (same_prefix h)) again)
  | inr waits ↦ inr waits
]

-- an entry of one of these requests ends to be loaded again
pub but_ended : (arena : ℕ) (those : Request → Type 0) (x : Entry) (h : List Record) → load_of h x.number ≡ Some x → those x.request → AreLoadedBut arena those h → AreLoadedBut arena those (End x.number Replaced ∷ h)
but_ended arena those x h loaded waits all number before e p is = by_more p.0 p.1 where
  by_more : (more : List Record) → End x.number Replaced ∷ h ≡ more ++ (End number Replaced ∷ before) → IsLoadedAgain arena (End number Replaced ∷ before) e.request (End x.number Replaced ∷ h) ⊎ those e.request
  by_more [] at =
      let same_number : x.number ≡ number = cc in
      let same_before : h ≡ before = cc in
      let entry : Some x ≡ Some e = sym loaded ∙ (λ i. load_of (same_before i) (same_number i)) ∙ is in
      let same : x ≡ e = cc in
      inr (subst (λ (y : Entry). those y.request) same waits)
  by_more (m ∷ more) at =
      let rest : h ≡ more ++ (End number Replaced ∷ before) = cc in
      elim (all number before e (more, rest) is) [
        | inl again ↦ inl (again_on arena (End number Replaced ∷ before) e.request h (End x.number Replaced ∷ h) (prefix_more (End x.number Replaced) h h (same_prefix h)) again)
        | inr waits ↦ inr waits
      ]

pub but_wider : (arena : ℕ) (those these : Request → Type 0) (h : List Record) → ((r : Request) → those r → these r) → AreLoadedBut arena those h → AreLoadedBut arena these h
but_wider arena those these h wider all number before e p is = elim (all number before e p is) [ inl again ↦ inl again | inr waits ↦ inr (wider e.request waits) ]

pub none_but : (arena : ℕ) (those : Request → Type 0) (h : List Record) → ((r : Request) → those r → ⊥) → AreLoadedBut arena those h → AreLoadedAgain arena h
none_but arena those h none all number before e p is = elim (all number before e p is) [ inl again ↦ again | inr waits ↦ absurd (none e.request waits) ]

-- a history that begins
pub but_first : (arena : ℕ) (those : Request → Type 0) (files : Content) → AreLoadedBut arena those (Change 0 files ∷ [])
but_first arena those files number before e p is = absurd (by_more (end_before (Change 0 files) [] number before tt p).0 (end_before (Change 0 files) [] number before tt p).1) where
  by_more : (more : List Record) → [] ≡ more ++ (End number Replaced ∷ before) → ⊥
  by_more [] at = absurd cc
  by_more (m ∷ more) at = absurd cc

-- entries end as invalidated, one after the other
pub but_emptied : (arena : ℕ) (those : Request → Type 0) (ks : List Kept) (h : List Record) → AreLoadedBut arena those h → AreLoadedBut arena those (ends_of by_invalidation ks h)
but_emptied arena those [] h all = all
but_emptied arena those (k ∷ ks) h all = but_emptied arena those ks (End k.entry.number Invalidated ∷ h) (but_more arena those (End k.entry.number Invalidated) h tt all)

-- ---- a live entry of the request was inserted later

-- the entry of a number is the one that was inserted with it
pub load_of_is : (h : List Record) (e : Entry) → Legal h → HasLoad h e → load_of h e.number ≡ Some e
load_of_is [] e l a = absurd a
load_of_is (Change v c ∷ []) e l a = absurd a
load_of_is (Change v c ∷ s ∷ before) e l a = load_of_is (s ∷ before) e l.0 a
load_of_is (Poll v ∷ before) e l a = load_of_is before e l.0 a
load_of_is (Load entry ∷ before) e l a = by_test (eqb entry.number e.number) refl a (λ at. load_of_is before e l.0 at) where
  by_test : (b : Bool) → eqb entry.number e.number ≡ b → HasLoad (Load entry ∷ before) e → (HasLoad before e → load_of before e.number ≡ Some e) → cond b (Some entry) (load_of before e.number) ≡ Some e
  by_test true same at rest = ap Some (same_load (Load entry ∷ before) entry e l (inl refl) at (eqb-true entry.number e.number same))
  by_test false apart (inl is) rest = absurd (eqb-false entry.number e.number apart (ap (λ (x : Entry). x.number) is))
  by_test false apart (inr at) rest = rest at
load_of_is (End n cause ∷ before) e l a = load_of_is before e l.0 a
load_of_is (Invalid n ∷ before) e l a = load_of_is before e l.0 a

-- an entry was inserted in the first records, or after them
abbrev IsEarlyOrLate : List Record → Entry → List Record → Type 0
IsEarlyOrLate seen e h = HasLoad seen e ⊎ ((before : List Record) × IsPrefix seen before × IsPrefix (Load e ∷ before) h)

late_more : (r : Record) (seen h : List Record) (e : Entry) → IsEarlyOrLate seen e h → IsEarlyOrLate seen e (r ∷ h)
late_more r seen h e (inl first) = inl first
late_more r seen h e (inr w) = inr (w.0, w.1, prefix_more r (Load e ∷ w.0) h w.2)

early_or_late : (more seen : List Record) (e : Entry) → HasLoad (more ++ seen) e → IsEarlyOrLate seen e (more ++ seen)
early_or_late [] seen e a = inl a
early_or_late (Change v c ∷ more) seen e a = late_more (Change v c) seen (more ++ seen) e (early_or_late more seen e a)
early_or_late (Poll v ∷ more) seen e a = late_more (Poll v) seen (more ++ seen) e (early_or_late more seen e a)
early_or_late (Load f ∷ more) seen e (inl same) = inr (more ++ seen, (more, refl), subst (λ (x : Entry). IsPrefix (Load x ∷ (more ++ seen)) (Load f ∷ (more ++ seen))) same (same_prefix (Load f ∷ (more ++ seen))))
early_or_late (Load f ∷ more) seen e (inr a) = late_more (Load f) seen (more ++ seen) e (early_or_late more seen e a)
early_or_late (End n cause ∷ more) seen e a = late_more (End n cause) seen (more ++ seen) e (early_or_late more seen e a)
early_or_late (Invalid n ∷ more) seen e a = late_more (Invalid n) seen (more ++ seen) e (early_or_late more seen e a)

pub live_later : (h : List Record) (number : ℕ) (before : List Record) (e k : Entry) → Legal h → IsPrefix (End number Replaced ∷ before) h → load_of before number ≡ Some e → IsLive h k → k.request ≡ e.request → IsLoadedAfter (End number Replaced ∷ before) e.request h
live_later h number before e k legal p is live asked =
    let seen : List Record = End number Replaced ∷ before in
    let first : Legal seen = prefix_legal p.0 seen (λ none. cc) (subst Legal p.1 legal) in
    let was = first.2 in
    let same : first.1 ≡ e = (let found : Some first.1 ≡ Some e = sym (load_of_is before first.1 first.0 was.inserted) ∙ ap (load_of before) first.3 ∙ is in cc) in
    let stays : HasEnd seen k.number → ⊥ = not_ended_before seen h k.number p live.not_ended in
    elim (early_or_late p.0 seen k (subst (λ (l : List Record). HasLoad l k) p.1 live.inserted)) [
      | inl early ↦
          let lives : IsLive before k = record { inserted = early; not_ended = λ gone. stays (inr gone) } in
          let one : k ≡ first.1 = one_live before k first.1 first.0 lives was (asked ∙ ap (λ (x : Entry). x.request) (sym same)) in
          absurd (stays (inl (sym first.3 ∙ ap (λ (x : Entry). x.number) (sym one))))
      | inr later ↦ (k, later.0, later.1, subst (IsPrefix (Load k ∷ later.0)) (sym p.1) later.2, asked)
    ]
