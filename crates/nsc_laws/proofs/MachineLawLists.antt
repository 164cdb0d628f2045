-- Lists of kept entries: what a filter keeps of them, and the requests of live entries.
use Rattle.std.proofs.Common.{◌≡◌, ◌<◌, Bool, true, false, cond, List, [], ◌∷◌, refl, sym, ap, subst, ◌∙◌, arith, inl, inr}
use Rattle.std.specs.Prelude.{filter, find, Option, Some, None}
use Rattle.nsc_model.specs.declared.answer.Request.{Request}
use Rattle.nsc_model.specs.declared.record.Record.{Record}
use Rattle.nsc_model.specs.declared.record.Record.TheVariants.{Change, Poll, Load, End, Invalid}
use Rattle.nsc_model.specs.Kinds.{is_request}
use Rattle.nsc_model.specs.Entry.{Entry}
use Rattle.nsc_model.specs.History.{loads, HasLoad, HasEnd, IsLive, Legal}
use Rattle.nsc_model.specs.Live.{HasEntry, Rise}
use Rattle.nsc_model.specs.Machine.{Kept, used_now}
use Rattle.nsc_laws.specs.Calls.{entries_of}
use Rattle.nsc_laws.proofs.Prefixes.{load_below}
use Rattle.nsc_laws.proofs.CoreLawRecords.{rise_tail, first_least}
use Rattle.nsc_laws.proofs.CoreLawLive.{rise_first}

-- ---- filters

-- what a filter keeps was there, and passes the test
pub filter_from : (test : Kept → Bool) (ks : List Kept) (e : Entry) → HasEntry (entries_of (filter test ks)) e → HasEntry (entries_of ks) e × ((k : Kept) × (k.entry ≡ e) × (test k ≡ true))
filter_from test [] e a = absurd a
filter_from test (x ∷ ks) e a = by_test (test x) refl a (filter_from test ks e) where
  by_test : (b : Bool) → test x ≡ b → HasEntry (entries_of (cond b (x ∷ filter test ks) (filter test ks))) e → (HasEntry (entries_of (filter test ks)) e → HasEntry (entries_of ks) e × ((k : Kept) × (k.entry ≡ e) × (test k ≡ true)))
      → HasEntry (entries_of (x ∷ ks)) e × ((k : Kept) × (k.entry ≡ e) × (test k ≡ true))
  by_test true t (inl same) others = (inl same, (x, same, t))
  by_test true t (inr a) others = let f = others a in (inr f.0, f.1)
  by_test false t a others = let f = others a in (inr f.0, f.1)

-- a filter by a test of the entries keeps what passes it
pub filter_to : (test : Entry → Bool) (ks : List Kept) (e : Entry) → HasEntry (entries_of ks) e → test e ≡ true → HasEntry (entries_of (filter (λ k. test k.entry) ks)) e
filter_to test [] e a t = absurd a
filter_to test (x ∷ ks) e a t = by_test (test x.entry) refl a (λ among. filter_to test ks e among t) where
  by_test : (b : Bool) → test x.entry ≡ b → HasEntry (entries_of (x ∷ ks)) e → (HasEntry (entries_of ks) e → HasEntry (entries_of (filter (λ k. test k.entry) ks)) e)
      → HasEntry (entries_of (cond b (x ∷ filter (λ k. test k.entry) ks) (filter (λ k. test k.entry) ks))) e
  by_test true u (inl same) others = inl same
  by_test true u (inr a) others = inr (others a)
  by_test false u (inl same) others = let both : true ≡ false = sym t ∙ (sym (ap test same) ∙ u) in absurd cc
  by_test false u (inr a) others = others a

pub rise_filter : (test : Kept → Bool) (ks : List Kept) → Rise (entries_of ks) → Rise (entries_of (filter test ks))
rise_filter test [] r = tt
rise_filter test (k ∷ ks) r = by_test (test k) (rise_filter test ks (rise_tail k.entry (entries_of ks) r)) where
  by_test : (b : Bool) → Rise (entries_of (filter test ks)) → Rise (entries_of (cond b (k ∷ filter test ks) (filter test ks)))
  by_test true rest = rise_first k.entry (entries_of (filter test ks)) (λ f a. first_least k.entry (entries_of ks) f r (filter_from test ks f a).0) rest
  by_test false rest = rest

-- ---- searches

abbrev some : Kept → Option Kept
some k = Some k

some_is : (a b : Kept) → some a ≡ some b → a ≡ b
some_is a b e = cc

pub found : (test : Kept → Bool) (ks : List Kept) (k : Kept) → find test ks ≡ Some k → HasEntry (entries_of ks) k.entry × (test k ≡ true)
found test [] k h = absurd cc
found test (x ∷ ks) k h = by_test (test x) refl h (found test ks k) where
  by_test : (b : Bool) → test x ≡ b → cond b (Some x) (find test ks) ≡ Some k → (find test ks ≡ Some k → HasEntry (entries_of ks) k.entry × (test k ≡ true)) → HasEntry (entries_of (x ∷ ks)) k.entry × (test k ≡ true)
  by_test true t h others = let same : x ≡ k = some_is x k h in (inl (ap (λ (y : Kept). y.entry) same), subst (λ y. test y ≡ true) same t)
  by_test false t h others = let f = others h in (inr f.0, f.1)

pub missed : (test : Entry → Bool) (ks : List Kept) (e : Entry) → find (λ k. test k.entry) ks ≡ None → HasEntry (entries_of ks) e → test e ≡ false
missed test [] e h a = absurd a
missed test (x ∷ ks) e h a = by_test (test x.entry) refl h a (missed test ks e) where
  by_test : (b : Bool) → test x.entry ≡ b → cond b (Some x) (find (λ k. test k.entry) ks) ≡ None → HasEntry (entries_of (x ∷ ks)) e → (find (λ k. test k.entry) ks ≡ None → HasEntry (entries_of ks) e → test e ≡ false) → test e ≡ false
  by_test true t h a others = absurd cc
  by_test false t h (inl same) others = subst (λ y. test y ≡ false) same t
  by_test false t h (inr a) others = others h a

-- a use changes no entry
pub used_entries : (request : Request) (ks : List Kept) → entries_of (used_now request ks) ≡ entries_of ks
used_entries request [] = refl
used_entries request (k ∷ ks) = by_test (is_request request k.entry.request) (used_entries request ks) where
  by_test : (b : Bool) → entries_of (used_now request ks) ≡ entries_of ks → entries_of (cond b (record k { reloads = 0 }) k ∷ used_now request ks) ≡ entries_of (k ∷ ks)
  by_test true rest = ap (λ (es : List Entry). k.entry ∷ es) rest
  by_test false rest = ap (λ (es : List Entry). k.entry ∷ es) rest

-- ---- entries of a history

-- two entries of one number that were inserted are one
pub same_load : (h : List Record) (e f : Entry) → Legal h → HasLoad h e → HasLoad h f → e.number ≡ f.number → e ≡ f
same_load [] e f l a b n = absurd l
same_load (Change v c ∷ []) e f l a b n = absurd a
same_load (Change v c ∷ r ∷ h) e f l a b n = same_load (r ∷ h) e f l.0 a b n
same_load (Poll v ∷ h) e f l a b n = same_load h e f l.0 a b n
same_load (Load x ∷ h) e f l (inl p) (inl q) n = sym p ∙ q
same_load (Load x ∷ h) e f l (inl p) (inr b) n = let low : f.number < loads h = load_below h f l.0 b in let is : x.number ≡ loads h = l.1 in let same : x.number ≡ e.number = ap (λ (y : Entry). y.number) p in absurd (omega arith)
same_load (Load x ∷ h) e f l (inr a) (inl q) n = let low : e.number < loads h = load_below h e l.0 a in let is : x.number ≡ loads h = l.1 in let same : x.number ≡ f.number = ap (λ (y : Entry). y.number) q in absurd (omega arith)
same_load (Load x ∷ h) e f l (inr a) (inr b) n = same_load h e f l.0 a b n
same_load (End k cause ∷ h) e f l a b n = same_load h e f l.0 a b n
same_load (Invalid k ∷ h) e f l a b n = same_load h e f l.0 a b n

-- two live entries of one request are one
one_live_of : (h : List Record) (e f : Entry) → Legal h → HasLoad h e → (HasEnd h e.number → ⊥) → HasLoad h f → (HasEnd h f.number → ⊥) → e.request ≡ f.request → e ≡ f
one_live_of [] e f l a lives b stays r = absurd l
one_live_of (Change v c ∷ []) e f l a lives b stays r = absurd a
one_live_of (Change v c ∷ s ∷ h) e f l a lives b stays r = one_live_of (s ∷ h) e f l.0 a lives b stays r
one_live_of (Poll v ∷ h) e f l a lives b stays r = one_live_of h e f l.0 a lives b stays r
one_live_of (Load x ∷ h) e f l (inl p) lives (inl q) stays r = sym p ∙ q
one_live_of (Load x ∷ h) e f l (inl p) lives (inr b) stays r = absurd (stays (l.2 f b (sym r ∙ sym (ap (λ (y : Entry). y.request) p))))
one_live_of (Load x ∷ h) e f l (inr a) lives (inl q) stays r = absurd (lives (l.2 e a (r ∙ sym (ap (λ (y : Entry). y.request) q))))
one_live_of (Load x ∷ h) e f l (inr a) lives (inr b) stays r = one_live_of h e f l.0 a lives b stays r
one_live_of (End k cause ∷ h) e f l a lives b stays r = one_live_of h e f l.0 a (λ ended. lives (inr ended)) b (λ ended. stays (inr ended)) r
one_live_of (Invalid k ∷ h) e f l a lives b stays r = one_live_of h e f l.0 a lives b stays r

pub one_live : (h : List Record) (e f : Entry) → Legal h → IsLive h e → IsLive h f → e.request ≡ f.request → e ≡ f
one_live h e f l a b r = one_live_of h e f l a.inserted a.not_ended b.inserted b.not_ended r
