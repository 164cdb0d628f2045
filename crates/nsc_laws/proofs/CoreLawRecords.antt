-- Facts on histories that gain records: what stays so, and what the ends of all live entries leave.
use Rattle.std.proofs.Common.{◌≡◌, ◌≢◌, ℕ, ◌+◌, ◌<◌, ◌≤◌, Bool, true, false, cond, eqb, List, [], ◌∷◌, ◌++◌, length, length-append, Some, refl, sym, ap, subst, arith, inl, inr}
use Rattle.std.specs.Prelude.{◌⊎◌}
use Rattle.std.proofs.lemmas.Bool.{eqb-true, eqb-false}
use Rattle.nsc_model.specs.declared.record.Ending.TheVariants.{Invalidated}
use Rattle.nsc_model.specs.declared.record.Record.{Record}
use Rattle.nsc_model.specs.declared.record.Record.TheVariants.{Change, Poll, Load, End, Invalid}
use Rattle.nsc_model.specs.Content.{Content}
use Rattle.nsc_model.specs.Entry.{Entry}
use Rattle.nsc_model.specs.History.{changes, invalidations, version_in, HasLoad, HasEnd, IsLive, NoneLive, WasPolled, Legal, IsPrefix}
use Rattle.nsc_laws.specs.Core.{ended_all}
use Rattle.nsc_model.specs.Live.{HasEntry, Rise, AreLive}

-- ---- one more record

pub prefix_more : (r : Record) (seen h : List Record) → IsPrefix seen h → IsPrefix seen (r ∷ h)
prefix_more r seen h p = (r ∷ p.0, ap (λ (x : List Record). r ∷ x) p.1)

pub prefix_length : (seen h : List Record) → IsPrefix seen h → length seen ≤ length h
prefix_length seen h p = let e : length h ≡ length (p.0 ++ seen) = ap (λ (x : List Record). length x) p.1 in let both : length (p.0 ++ seen) ≡ length p.0 + length seen = length-append p.0 seen in omega arith

pub load_more : (r : Record) (h : List Record) (e : Entry) → HasLoad h e → HasLoad (r ∷ h) e
load_more (Change v c) h e a = a
load_more (Poll v) h e a = a
load_more (Load f) h e a = inr a
load_more (End n cause) h e a = a
load_more (Invalid n) h e a = a

end_more : (r : Record) (h : List Record) (n : ℕ) → HasEnd h n → HasEnd (r ∷ h) n
end_more (Change v c) h n a = a
end_more (Poll v) h n a = a
end_more (Load f) h n a = a
end_more (End k cause) h n a = inr a
end_more (Invalid k) h n a = a

end_before : (more seen : List Record) (n : ℕ) → HasEnd seen n → HasEnd (more ++ seen) n
end_before [] seen n a = a
end_before (r ∷ more) seen n a = end_more r (more ++ seen) n (end_before more seen n a)

-- what has not ended had not ended before
pub not_ended_before : (seen h : List Record) (n : ℕ) → IsPrefix seen h → (HasEnd h n → ⊥) → HasEnd seen n → ⊥
not_ended_before seen h n p never a = never (subst (λ (x : List Record). HasEnd x n) (sym p.1) (end_before p.0 seen n a))

pub invalidations_rise : (r : Record) (h : List Record) → invalidations h ≤ invalidations (r ∷ h)
invalidations_rise (Change v c) h = omega arith
invalidations_rise (Poll v) h = omega arith
invalidations_rise (Load f) h = omega arith
invalidations_rise (End n cause) h = omega arith
invalidations_rise (Invalid n) h = omega arith

pub changes_rise : (r : Record) (h : List Record) → changes h ≤ changes (r ∷ h)
changes_rise (Change v c) h = omega arith
changes_rise (Poll v) h = omega arith
changes_rise (Load f) h = omega arith
changes_rise (End n cause) h = omega arith
changes_rise (Invalid n) h = omega arith

-- the content of a version is the one of its change, or of a change before
held_at : (v n : ℕ) (c : Content) (h : List Record) → v ≡ changes h → n < changes h + 1 → (n < changes h → (content : Content) × (version_in h n ≡ Some content)) → (content : Content) × (version_in (Change v c ∷ h) n ≡ Some content)
held_at v n c h is low before = by_test (eqb v n) refl where
  by_test : (same : Bool) → eqb v n ≡ same → (content : Content) × (cond same (Some c) (version_in h n) ≡ Some content)
  by_test true e = (c, refl)
  by_test false e = before (let other : v ≢ n = eqb-false v n e in omega arith)

-- each version that a legal history counts has a content
pub version_held : (h : List Record) (n : ℕ) → Legal h → n < changes h → (content : Content) × (version_in h n ≡ Some content)
version_held [] n l low = absurd l
version_held (Change v c ∷ []) n l low = held_at v n c [] l low (λ none. absurd (omega arith))
version_held (Change v c ∷ r ∷ h) n l low = held_at v n c (r ∷ h) l.1 low (version_held (r ∷ h) n l.0)
version_held (Poll v ∷ h) n l low = version_held h n l.0 low
version_held (Load f ∷ h) n l low = version_held h n l.0 low
version_held (End k cause ∷ h) n l low = version_held h n l.0 low
version_held (Invalid k ∷ h) n l low = version_held h n l.0 low

-- a version that was polled since the k-th invalidation still is so, while no other came
pub poll_more : (r : Record) (h : List Record) (k n : ℕ) → k ≤ invalidations h → (k ≡ invalidations h → WasPolled h n) → k ≡ invalidations (r ∷ h) → WasPolled (r ∷ h) n
poll_more (Change v c) h k n low polled same = inr (polled same)
poll_more (Poll v) h k n low polled same = inr (polled same)
poll_more (Load f) h k n low polled same = polled same
poll_more (End m cause) h k n low polled same = polled same
poll_more (Invalid m) h k n low polled same = let more : k ≡ invalidations h + 1 = same in omega arith

-- ---- the ends of all live entries

pub same_invalidations : (entries : List Entry) (h : List Record) → invalidations (ended_all entries h) ≡ invalidations h
same_invalidations [] h = refl
same_invalidations (e ∷ entries) h = same_invalidations entries (End e.number Invalidated ∷ h)

load_stays : (entries : List Entry) (h : List Record) (e : Entry) → HasLoad (ended_all entries h) e → HasLoad h e
load_stays [] h e a = a
load_stays (x ∷ entries) h e a = load_stays entries (End x.number Invalidated ∷ h) e a

end_stays : (entries : List Entry) (h : List Record) (n : ℕ) → HasEnd h n → HasEnd (ended_all entries h) n
end_stays [] h n a = a
end_stays (x ∷ entries) h n a = end_stays entries (End x.number Invalidated ∷ h) n (inr a)

each_ends : (entries : List Entry) (h : List Record) (e : Entry) → HasEntry entries e → HasEnd (ended_all entries h) e.number
each_ends [] h e a = absurd a
each_ends (x ∷ entries) h e (inl same) = end_stays entries (End x.number Invalidated ∷ h) e.number (inl (ap (λ (y : Entry). y.number) same))
each_ends (x ∷ entries) h e (inr a) = each_ends entries (End x.number Invalidated ∷ h) e a

pub rise_tail : (e : Entry) (entries : List Entry) → Rise (e ∷ entries) → Rise entries
rise_tail e [] r = tt
rise_tail e (f ∷ entries) r = r.1

pub first_least : (e : Entry) (entries : List Entry) (f : Entry) → Rise (e ∷ entries) → HasEntry entries f → e.number < f.number
first_least e [] f r a = absurd a
first_least e (g ∷ entries) f r (inl same) = let n : g.number ≡ f.number = ap (λ (y : Entry). y.number) same in let low : e.number < g.number = r.0 in omega arith
first_least e (g ∷ entries) f r (inr a) = let low : e.number < g.number = r.0 in let more : g.number < f.number = first_least g entries f r.1 a in omega arith

-- another entry that lives still lives
lives_on : (h : List Record) (e f : Entry) → e.number < f.number → IsLive h f → IsLive (End e.number Invalidated ∷ h) f
lives_on h e f low live = record {
  inserted = live.inserted;
  not_ended = λ ended. elim ended [ inl same ↦ (let n : e.number ≡ f.number = same in omega arith) | inr before ↦ live.not_ended before ];
}

pub all_ended : (entries : List Entry) (h : List Record) → Legal h → ((e : Entry) → HasEntry entries e → IsLive h e) → Rise entries → Legal (ended_all entries h)
all_ended [] h l live r = l
all_ended (e ∷ entries) h l live r =
    all_ended entries (End e.number Invalidated ∷ h) (l, e, live e (inl refl), refl, tt) (λ f a. lives_on h e f (first_least e entries f r a) (live f (inr a))) (rise_tail e entries r)

-- an entry of a number ended, or it did not
pub ended_or_not : (h : List Record) (n : ℕ) → HasEnd h n ⊎ (HasEnd h n → ⊥)
ended_or_not [] n = inr (λ a. a)
ended_or_not (Change v c ∷ h) n = ended_or_not h n
ended_or_not (Poll v ∷ h) n = ended_or_not h n
ended_or_not (Load f ∷ h) n = ended_or_not h n
ended_or_not (End k cause ∷ h) n = by_test (eqb k n) refl (ended_or_not h n) where
  by_test : (b : Bool) → eqb k n ≡ b → HasEnd h n ⊎ (HasEnd h n → ⊥) → ((k ≡ n) ⊎ HasEnd h n) ⊎ ((k ≡ n) ⊎ HasEnd h n → ⊥)
  by_test true e before = inl (inl (eqb-true k n e))
  by_test false e (inl before) = inl (inr before)
  by_test false e (inr never) = inr (λ a. elim a [ inl same ↦ eqb-false k n e same | inr before ↦ never before ])
ended_or_not (Invalid k ∷ h) n = ended_or_not h n

pub none_left : (entries : List Entry) (h : List Record) → AreLive h entries → NoneLive (ended_all entries h)
none_left entries h are e loaded = by_end (ended_or_not h e.number) where
  by_end : HasEnd h e.number ⊎ (HasEnd h e.number → ⊥) → HasEnd (ended_all entries h) e.number
  by_end (inl ended) = end_stays entries h e.number ended
  by_end (inr never) = each_ends entries h e (are.all e (record { inserted = load_stays entries h e loaded; not_ended = never }))
