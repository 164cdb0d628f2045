-- The entries whose time is over, as a tick lists them.
use Rattle.std.proofs.Common.{◌≡◌, ℕ, suc, ◌+◌, ◌<◌, ◌≤◌, ◌⊎◌, ◌&&◌, ◌||◌, ◌==◌, Bool, true, false, cond, eqb, not, All, List, [], ◌∷◌, map, Option, Some, None, refl, sym, ap, subst, arith, inl, inr}
use Rattle.std.proofs.lemmas.Bool.{OnTrue_at, OnTrue_from, eqb-true, leb-true, ltb-false, ltb-true}
use Rattle.std.specs.Bool.{OnTrue}
use Rattle.nsc_model.specs.declared.answer.Request.{Request}
use Rattle.nsc_model.specs.declared.conf.DbConf.{DbConf}
use Rattle.nsc_model.specs.declared.record.Record.{Record}
use Rattle.nsc_model.specs.Entry.{Entry}
use Rattle.nsc_model.specs.Live.{HasEntry}
use Rattle.nsc_model.specs.History.{HasEnd, IsLive, changes}
use Rattle.nsc_model.specs.Machine.{Kept, Cache, due_of, is_due, is_dropped, is_outdated, reached}
use Rattle.nsc_laws.specs.Calls.{Tells, entries_of}
use Rattle.nsc_laws.proofs.CoreLawRecords.{ended_or_not}
use Rattle.nsc_pruner.specs.Due.{due_from}
use Rattle.nsc_writer.specs.Writer.{Writer}
use Rattle.nsc_database.specs.Rests.{IsCurrent, IsReloaded, Keeps}
use Rattle.nsc_database.specs.Ticks.{AreAllDue, AreListed, HasNumber, IsDue}
use Rattle.nsc_database.proofs.Pruning.{all_cons}
use Rattle.nsc_database.proofs.Rests.{live_since}

-- where the newest version is the one that the last tick found, each live entry is over it
not_outdated : (check : Bool) (newest ticked : ℕ) → check && not (newest == ticked) ≡ false → check ≡ true → newest ≡ ticked
not_outdated check newest ticked off on = by_test (eqb newest ticked) refl (subst (λ (b : Bool). b && not (newest == ticked) ≡ false) on off) where
  by_test : (b : Bool) → eqb newest ticked ≡ b → not b ≡ false → newest ≡ ticked
  by_test true same off' = eqb-true newest ticked same
  by_test false apart off' = absurd cc

pub is_current : (settings : DbConf) (brought : Request → ℕ) (limit : Option ℕ) (ticked : ℕ) (w : Writer) → Tells w.seen w.cache → Keeps settings brought limit ticked w → is_outdated settings w.cache.newest_version ticked ≡ false → IsCurrent settings w.seen
is_current settings brought limit ticked w t k off = OnTrue_from settings.check_files ((e : Entry) → IsLive w.seen e → changes w.seen ≤ e.version + 1) (λ on e live.
    let low = OnTrue_at on k.found in
    let same = not_outdated settings.check_files w.cache.newest_version ticked off on in
    let since = live_since w.seen e t.legal live in
    let all = t.counted in
    omega arith)

-- ---- what is due

is_reached : (limit : Option ℕ) (count : ℕ) → reached limit count ≡ true → (most : ℕ) × (limit ≡ Some most) × (most ≤ count)
is_reached None count e = absurd cc
is_reached (Some most) count e = (most, refl, leb-true most count e)

why_dropped : (limit : Option ℕ) (k : Kept) → OnTrue (is_dropped limit k) ((k.entry.answer.not_found ≡ true) ⊎ ((most : ℕ) × (limit ≡ Some most) × (most ≤ k.reloads)))
why_dropped limit k = by_test k.entry.answer.not_found refl where
  by_test : (b : Bool) → k.entry.answer.not_found ≡ b → OnTrue (b || reached limit k.reloads) ((k.entry.answer.not_found ≡ true) ⊎ ((most : ℕ) × (limit ≡ Some most) × (most ≤ k.reloads)))
  by_test true is = inl is
  by_test false is = OnTrue_from (reached limit k.reloads) _ (λ on. inr (is_reached limit k.reloads on))

one_due : (brought : Request → ℕ) (limit : Option ℕ) (now : ℕ) (h : List Record) (k : Kept) → IsLive h k.entry → IsReloaded brought h k → is_due now k ≡ true → IsDue brought limit now h (due_from limit k)
one_due brought limit now h k live counted over = record { entry = k.entry; inserted = live.inserted; numbered = refl; asked = refl; over = ltb-true k.entry.timeout now over; counted = counted; dropped = why_dropped limit k }

due_are : (brought : Request → ℕ) (limit : Option ℕ) (now : ℕ) (h : List Record) (ks : List Kept) → ((e : Entry) → HasEntry (entries_of ks) e → IsLive h e) → All (IsReloaded brought h) ks → All (IsDue brought limit now h) (map (due_from limit) (due_of now ks))
due_are brought limit now h [] live counted = λ i d low. absurd (omega arith)
due_are brought limit now h (k ∷ ks) live counted = by_test (is_due now k) refl (due_are brought limit now h ks (λ e a. live e (inr a)) (λ i d low. counted (suc i) d (omega arith))) where
  by_test : (b : Bool) → is_due now k ≡ b → All (IsDue brought limit now h) (map (due_from limit) (due_of now ks)) → All (IsDue brought limit now h) (map (due_from limit) (cond b (k ∷ due_of now ks) (due_of now ks)))
  by_test true over rest = all_cons (IsDue brought limit now h) (due_from limit k) (map (due_from limit) (due_of now ks)) (one_due brought limit now h k (live k.entry (inl refl)) (counted 0 k (omega arith)) over) rest
  by_test false later rest = rest

due_numbered : (limit : Option ℕ) (now : ℕ) (ks : List Kept) (e : Entry) → HasEntry (entries_of ks) e → e.timeout < now → HasNumber (map (due_from limit) (due_of now ks)) e.number
due_numbered limit now [] e a over = absurd a
due_numbered limit now (k ∷ ks) e a over = by_test (is_due now k) refl a (λ more. due_numbered limit now ks e more over) where
  by_test : (b : Bool) → is_due now k ≡ b → HasEntry (entries_of (k ∷ ks)) e → (HasEntry (entries_of ks) e → HasNumber (map (due_from limit) (due_of now ks)) e.number) → HasNumber (map (due_from limit) (cond b (k ∷ due_of now ks) (due_of now ks))) e.number
  by_test true is (inl same) rest = inl (ap (λ (x : Entry). x.number) same)
  by_test true is (inr more) rest = inr (rest more)
  by_test false is (inl same) rest = absurd (not_due (subst (λ (x : Entry). x.timeout < now) (sym same) over)) where
    not_due : k.entry.timeout < now → ⊥
    not_due low = let high = ltb-false k.entry.timeout now is in absurd (omega arith)
  by_test false is (inr more) rest = rest more

all_due : (limit : Option ℕ) (now : ℕ) (h : List Record) (cache : Cache) → Tells h cache → AreAllDue now h (map (due_from limit) (due_of now cache.entries))
all_due limit now h cache t e a over = by_end (ended_or_not h e.number) where
  by_end : HasEnd h e.number ⊎ (HasEnd h e.number → ⊥) → HasEnd h e.number ⊎ HasNumber (map (due_from limit) (due_of now cache.entries)) e.number
  by_end (inl ended) = inl ended
  by_end (inr lives) = inr (due_numbered limit now cache.entries e (t.entries_are.all e (record { inserted = a; not_ended = lives })) over)

pub are_listed : (settings : DbConf) (brought : Request → ℕ) (limit : Option ℕ) (now ticked : ℕ) (w : Writer) → Tells w.seen w.cache → Keeps settings brought limit ticked w → is_outdated settings w.cache.newest_version ticked ≡ false
    → AreListed settings brought limit now w.seen (map (due_from limit) (due_of now w.cache.entries))
are_listed settings brought limit now ticked w t k off = record {
  current = is_current settings brought limit ticked w t k off;
  each = due_are brought limit now w.seen w.cache.entries t.entries_are.live k.counted;
  all = all_due limit now w.seen w.cache t;
}
