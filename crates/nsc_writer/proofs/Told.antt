-- What the history tells of the writer's cache after each of its calls.
use Rattle.std.proofs.Common.{◌≡◌, ◌≢◌, ℕ, ◌≤◌, ◌+◌, Bool, true, false, not, ◌||◌, eqb, List, [], ◌∷◌, ◌++◌, None, refl, sym, ap, subst, ◌∙◌, arith, inl, inr}
use Rattle.std.proofs.lemmas.Bool.{eqb-true, eqb-false}
use Rattle.nsc_model.specs.declared.answer.Request.{Request}
use Rattle.nsc_model.specs.declared.record.Ending.{Ending}
use Rattle.nsc_model.specs.declared.record.Record.{Record}
use Rattle.nsc_model.specs.declared.record.Record.TheVariants.{Change, Poll, Load, End, Invalid}
use Rattle.nsc_model.specs.Kinds.{is_request}
use Rattle.nsc_model.specs.Entry.{Entry}
use Rattle.nsc_model.specs.History.{invalidations, IsLive, NoneLiveOf, WasPolled, Allows, LooksAt, PolledSince}
use Rattle.nsc_model.specs.Machine.{Kept, Cache, by_invalidation, emptied, ends_of, live_entry, used_now}
use Rattle.nsc_model.specs.Live.{HasEntry, AreLive}
use Rattle.nsc_laws.specs.Calls.{Tells, entries_of}
use Rattle.nsc_laws.proofs.Requests.{request_same}
use Rattle.nsc_laws.proofs.MachineLawLists.{filter_from, filter_to, rise_filter, missed, used_entries}
use Rattle.nsc_laws.proofs.MachineLawEnds.{ended_same}
use Rattle.nsc_laws.proofs.MachineLawSteps.{retells}
use Rattle.nsc_laws.proofs.MachineLawParts.{none_of, kept_tells, inserted_by, invalid_tells}
use Rattle.nsc_writer.specs.Loaded.{Loaded, kept_of}
use Rattle.nsc_shelf.specs.Shelf.{has_number, is_numbered, others_than}
use Rattle.nsc_writer.specs.Writer.{IsAnswered}

-- ---- polls

-- a poll that the newest record of a history is, after at least `epoch` invalidations
pub polled_last : (r : Record) (h : List Record) (n epoch : ℕ) → LooksAt (r ∷ h) n → epoch ≤ invalidations (r ∷ h) → PolledSince (r ∷ h) n epoch
polled_last r h n epoch looks low = (r ∷ h, ([], refl), looks, low)

pub polled_now : (h now : List Record) (r : Record) (n epoch : ℕ) → now ≡ r ∷ h → LooksAt (r ∷ h) n → epoch ≤ invalidations (r ∷ h) → PolledSince now n epoch
polled_now h now r n epoch is looks low = subst (λ (l : List Record). PolledSince l n epoch) (sym is) (polled_last r h n epoch looks low)

pub invalidations_rise : (more h : List Record) → invalidations h ≤ invalidations (more ++ h)
invalidations_rise [] h = omega arith
invalidations_rise (Change v c ∷ more) h = invalidations_rise more h
invalidations_rise (Poll v ∷ more) h = invalidations_rise more h
invalidations_rise (Load e ∷ more) h = invalidations_rise more h
invalidations_rise (End n cause ∷ more) h = invalidations_rise more h
invalidations_rise (Invalid n ∷ more) h = let low = invalidations_rise more h in omega arith

was_looked : (h : List Record) (n : ℕ) → LooksAt h n → WasPolled h n
was_looked [] n looks = absurd looks
was_looked (Change v c ∷ h) n looks = inl looks
was_looked (Poll v ∷ h) n looks = inl looks
was_looked (Load e ∷ h) n looks = absurd looks
was_looked (End m cause ∷ h) n looks = absurd looks
was_looked (Invalid m ∷ h) n looks = absurd looks

-- no invalidation came after the poll
polled_after : (more h : List Record) (n : ℕ) → LooksAt h n → invalidations (more ++ h) ≤ invalidations h → WasPolled (more ++ h) n
polled_after [] h n looks few = was_looked h n looks
polled_after (Change v c ∷ more) h n looks few = inr (polled_after more h n looks few)
polled_after (Poll v ∷ more) h n looks few = inr (polled_after more h n looks few)
polled_after (Load e ∷ more) h n looks few = polled_after more h n looks few
polled_after (End m cause ∷ more) h n looks few = polled_after more h n looks few
polled_after (Invalid m ∷ more) h n looks few = let low = invalidations_rise more h in let one : invalidations (more ++ h) + 1 ≤ invalidations h = few in absurd (omega arith)

pub was_polled : (h : List Record) (n epoch : ℕ) → PolledSince h n epoch → invalidations h ≤ epoch → WasPolled h n
was_polled h n epoch p few = subst (λ (l : List Record). WasPolled l n) (sym p.1.1)
    (polled_after p.1.0 p.0 n p.2 (let all : invalidations h ≡ invalidations (p.1.0 ++ p.0) = ap invalidations p.1.1 in let since : epoch ≤ invalidations p.0 = p.3 in omega arith))

-- ---- insertions

pub asked_none : (h : List Record) (cache : Cache) (request : Request) → Tells h cache → live_entry request cache.entries ≡ None → NoneLiveOf h request
asked_none h cache request t none = none_of h (entries_of cache.entries) request t.entries_are
    (λ e a same. let off : is_request request e.request ≡ false = missed (λ (x : Entry). is_request request x.request) cache.entries e none a in
    let on : is_request request e.request ≡ true = ap (is_request request) same ∙ request_same request in
    let both : true ≡ false = sym on ∙ off in
    absurd cc)

pub loaded_tells : (h : List Record) (cache : Cache) (loaded : Loaded) → Tells h cache → cache.epoch ≤ loaded.stamp.epoch → live_entry loaded.request cache.entries ≡ None → IsAnswered h loaded
    → Tells (Load (kept_of loaded cache.inserted).entry ∷ h) (inserted_by (kept_of loaded cache.inserted) cache)
loaded_tells h cache loaded t noted none answered =
    let epochs = t.epochs_are in
    kept_tells h cache (kept_of loaded cache.inserted) t refl (asked_none h cache loaded.request t none) (answered.files, answered.version, answered.answer)
    (was_polled h loaded.stamp.version loaded.stamp.epoch answered.polled (omega arith))

-- ---- ends

any_entry : (n : ℕ) (ks : List Kept) → has_number n ks ≡ true → (e : Entry) × HasEntry (entries_of ks) e × (e.number ≡ n)
any_entry n [] e = absurd cc
any_entry n (k ∷ ks) e = by_test (eqb k.entry.number n) refl e (any_entry n ks) where
  by_test : (b : Bool) → eqb k.entry.number n ≡ b → (b || has_number n ks) ≡ true → (has_number n ks ≡ true → (x : Entry) × HasEntry (entries_of ks) x × (x.number ≡ n)) → (x : Entry) × HasEntry (entries_of (k ∷ ks)) x × (x.number ≡ n)
  by_test true t h rest = (k.entry, inl refl, eqb-true k.entry.number n t)
  by_test false t h rest = let r = rest h in (r.0, inr r.1, r.2)

-- the live entry of a number
pub live_numbered : (h : List Record) (cache : Cache) (n : ℕ) → Tells h cache → has_number n cache.entries ≡ true → (e : Entry) × IsLive h e × (e.number ≡ n)
live_numbered h cache n t is = let a = any_entry n cache.entries is in (a.0, t.entries_are.live a.0 a.1, a.2)

not_same : (m n : ℕ) → not (eqb m n) ≡ true → m ≢ n
not_same m n e same = by_test (eqb m n) refl e where
  by_test : (b : Bool) → eqb m n ≡ b → not b ≡ true → ⊥
  by_test true t neg = absurd cc
  by_test false t neg = eqb-false m n t same

same_not : (m n : ℕ) → m ≢ n → not (eqb m n) ≡ true
same_not m n apart = by_test (eqb m n) refl where
  by_test : (b : Bool) → eqb m n ≡ b → not b ≡ true
  by_test true t = absurd (apart (eqb-true m n t))
  by_test false t = refl

others_live : (h : List Record) (ks : List Kept) (n : ℕ) (cause : Ending) → AreLive h (entries_of ks) → AreLive (End n cause ∷ h) (entries_of (others_than n ks))
others_live h ks n cause are = record { live = live; all = all; rising = rise_filter (λ k. not (is_numbered n k)) ks are.rising } where
  live : (e : Entry) → HasEntry (entries_of (others_than n ks)) e → IsLive (End n cause ∷ h) e
  live e a =
      let f = filter_from (λ k. not (is_numbered n k)) ks e a in
      let was = are.live e f.0 in
      let other : not (eqb e.number n) ≡ true = subst (λ (x : Entry). not (eqb x.number n) ≡ true) f.1.1 f.1.2 in
      record { inserted = was.inserted; not_ended = λ gone. elim gone [ inl same ↦ not_same e.number n other (sym same) | inr before ↦ was.not_ended before ] }

  all : (e : Entry) → IsLive (End n cause ∷ h) e → HasEntry (entries_of (others_than n ks)) e
  all e lives =
      filter_to (λ (x : Entry). not (eqb x.number n)) ks e (are.all e (record { inserted = lives.inserted; not_ended = λ before. lives.not_ended (inr before) }))
      (same_not e.number n (λ same. lives.not_ended (inl (sym same))))

pub ended_tells : (h : List Record) (cache : Cache) (n : ℕ) (cause : Ending) → Tells h cache → has_number n cache.entries ≡ true → ((e : Entry) → IsLive h e → e.number ≡ n → Allows cause e)
    → Tells (End n cause ∷ h) (record cache { entries = others_than n cache.entries })
ended_tells h cache n cause t is allows =
    let e = live_numbered h cache n t is in
    record {
      legal = (t.legal, e.0, e.1, e.2, allows e.0 e.1 e.2);
      newest_is = t.newest_is;
      counted = t.counted;
      held = t.held;
      loads_are = t.loads_are;
      epochs_are = t.epochs_are;
      entries_are = others_live h cache.entries n cause t.entries_are;
    }

-- ---- uses, and an invalidation

pub used_tells : (h : List Record) (cache : Cache) (request : Request) → Tells h cache → Tells h (record cache { entries = used_now request cache.entries })
used_tells h cache request t = retells h cache (used_now request cache.entries) cache.used cache.cycle cache.add_failed (used_entries request cache.entries) t

pub emptied_tells : (h : List Record) (cache : Cache) → Tells h cache → Tells (Invalid (cache.epoch + 1) ∷ ends_of by_invalidation cache.entries h) (emptied cache).cache
emptied_tells h cache t = subst (λ (l : List Record). Tells l (emptied cache).cache)
    (ap (λ (n : ℕ). Invalid (n + 1) ∷ ends_of by_invalidation cache.entries h) t.epochs_are) (subst (λ (l : List Record). Tells (Invalid (invalidations h + 1) ∷ l) (emptied cache).cache) (ended_same cache.entries h) (invalid_tells h cache t))
