-- What holds of a writer while its lock is free stays so through each of its calls.
use Rattle.std.proofs.Common.{◌≡◌, ℕ, zero, suc, ◌+◌, ◌<◌, ◌≤◌, ◌⊎◌, Bool, true, false, not, ◌&&◌, cond, eqb, All, List, [], ◌∷◌, ◌++◌, get_or, sum_by, add-zero, Option, Ok, Err, refl, sym, ap, subst, ◌∙◌, arith, inl, inr}
use Rattle.std.specs.Bool.{OnTrue}
use Rattle.std.proofs.lemmas.Bool.{eqb-true, false≢true}
use Rattle.std.proofs.lemmas.List.Elements.{All-append}
use Rattle.std.proofs.lemmas.List.Sums.{sum_by-append, sum_by-cons}
use Rattle.nsc_model.specs.declared.answer.Request.{Request}
use Rattle.nsc_model.specs.declared.conf.DbConf.{DbConf}
use Rattle.nsc_model.specs.declared.kind.Db.{Db}
use Rattle.nsc_model.specs.declared.record.Record.{Record}
use Rattle.nsc_model.specs.declared.record.Record.TheVariants.{Change, Poll, Load, End, Invalid}
use Rattle.nsc_model.specs.Content.{Content}
use Rattle.nsc_model.specs.Entry.{Entry}
use Rattle.nsc_model.specs.Files.{same_files}
use Rattle.nsc_model.specs.History.{HasLoad, IsLive, Legal, WasPolled, changes}
use Rattle.nsc_model.specs.Machine.{Kept, all_words, entry_words, is_outdated, last_count, polled, used_by, used_now}
use Rattle.nsc_model.specs.Kinds.{is_request}
use Rattle.nsc_model.specs.Reloads.{Reloaded, invalidated_at, replaced}
use Rattle.nsc_writer.specs.declared.loaded.Inserted.{Inserted}
use Rattle.nsc_writer.specs.declared.loaded.Inserted.TheVariants as inserted
use Rattle.nsc_writer.specs.declared.loaded.Stamp.{Stamp}
use Rattle.nsc_writer.specs.Loaded.{Loaded, kept_of}
use Rattle.nsc_writer.specs.Writer.{Writer, Inserts, Polls, with_entry}
use Rattle.nsc_turns.specs.declared.entries.HitOrMiss.{HitOrMiss}
use Rattle.nsc_turns.specs.declared.entries.HitOrMiss.TheVariants as looked
use Rattle.nsc_turns.specs.Turns.{Looks}
use Rattle.nsc_shelf.specs.Uses.{Uses}
use Rattle.nsc_writer.proofs.Later.{prefix_through}
use Rattle.nsc_image.specs.Saving.{IsEntryOf}
use Rattle.nsc_database.specs.Rests.{IsLoadedOf, IsPacked, IsReloaded, Keeps, LoadsAgain, Rests}
use Rattle.nsc_database.proofs.Again.{again_more}
use Rattle.nsc_turns.proofs.Renewed.{leaves_inserted}
use Rattle.nsc_database.proofs.Steady.{keeps_through}

-- ---- versions of a legal history

-- the newest version is at least the one at the last invalidation
pub invalidated_low : (h : List Record) → Legal h → invalidated_at h + 1 ≤ changes h
invalidated_low [] l = absurd l
invalidated_low (Change v c ∷ []) l = omega arith
invalidated_low (Change v c ∷ s ∷ before) l = let low = invalidated_low (s ∷ before) l.0 in omega arith
invalidated_low (Poll v ∷ before) l = invalidated_low before l.0
invalidated_low (Load e ∷ before) l = invalidated_low before l.0
invalidated_low (End n cause ∷ before) l = invalidated_low before l.0
invalidated_low (Invalid n ∷ before) l = let low = invalidated_low before l.0 in omega arith

-- what was looked at since is at least that version, and is one of the versions
pub polled_within : (h : List Record) (n : ℕ) → Legal h → WasPolled h n → (invalidated_at h ≤ n) × (n + 1 ≤ changes h)
polled_within [] n l p = absurd p
polled_within (Change v c ∷ []) n l (inl same) = let v_is : v ≡ 0 = l in let is : v ≡ n = same in (omega arith, omega arith)
polled_within (Change v c ∷ []) n l (inr p) = absurd p
polled_within (Change v c ∷ s ∷ before) n l (inl same) =
    let low = invalidated_low (s ∷ before) l.0 in
    let v_is : v ≡ changes (s ∷ before) = l.1 in
    let is : v ≡ n = same in
    (omega arith, omega arith)
polled_within (Change v c ∷ s ∷ before) n l (inr p) = let w = polled_within (s ∷ before) n l.0 p in let high = w.1 in (w.0, omega arith)
polled_within (Poll v ∷ before) n l (inl same) =
    let low = invalidated_low before l.0 in
    let v_is : v + 1 ≡ changes before = l.1 in
    let is : v ≡ n = same in
    (omega arith, omega arith)
polled_within (Poll v ∷ before) n l (inr p) = polled_within before n l.0 p
polled_within (Load e ∷ before) n l p = polled_within before n l.0 p
polled_within (End k cause ∷ before) n l p = polled_within before n l.0 p
polled_within (Invalid k ∷ before) n l p = absurd p

-- a live entry is over a version that is at least that one
pub live_since : (h : List Record) (e : Entry) → Legal h → IsLive h e → invalidated_at h ≤ e.version
live_since [] e l live = absurd live.inserted
live_since (Change v c ∷ []) e l live = absurd live.inserted
live_since (Change v c ∷ s ∷ before) e l live = live_since (s ∷ before) e l.0 (record { inserted = live.inserted; not_ended = live.not_ended })
live_since (Poll v ∷ before) e l live = live_since before e l.0 (record { inserted = live.inserted; not_ended = live.not_ended })
live_since (Load entry ∷ before) e l live = elim live.inserted [
  | inl same ↦ subst (λ (x : Entry). invalidated_at before ≤ x.version) same (polled_within before entry.version l.0 l.4).0
  | inr a ↦ live_since before e l.0 (record { inserted = a; not_ended = live.not_ended })
]
live_since (End n cause ∷ before) e l live = live_since before e l.0 (record { inserted = live.inserted; not_ended = λ gone. live.not_ended (inr gone) })
live_since (Invalid n ∷ before) e l live = absurd (live.not_ended (l.2 e live.inserted))

-- an entry is over one of the versions
pub version_within : (h : List Record) (e : Entry) → Legal h → HasLoad h e → e.version + 1 ≤ changes h
version_within [] e l a = absurd a
version_within (Change v c ∷ []) e l a = absurd a
version_within (Change v c ∷ s ∷ before) e l a = let low = version_within (s ∷ before) e l.0 a in omega arith
version_within (Poll v ∷ before) e l a = version_within before e l.0 a
version_within (Load entry ∷ before) e l (inl same) = subst (λ (x : Entry). x.version + 1 ≤ changes before) same (polled_within before entry.version l.0 l.4).1
version_within (Load entry ∷ before) e l (inr a) = version_within before e l.0 a
version_within (End n cause ∷ before) e l a = version_within before e l.0 a
version_within (Invalid n ∷ before) e l a = version_within before e l.0 a

-- ---- one record more that ends nothing

-- what a record adds to these: nothing
pub record AddsNone (h h' : List Record) : Type 0 where
  pub reloaded : (brought : Request → ℕ) (limit : Option ℕ) → Reloaded brought limit h → Reloaded brought limit h'
  pub replaced_is : (request : Request) → replaced h' request ≡ replaced h request
  pub invalidated_is : invalidated_at h' ≡ invalidated_at h
  pub again : (arena cycle : ℕ) → LoadsAgain arena cycle h → LoadsAgain arena cycle h'
  pub loads : (e : Entry) → HasLoad h' e → HasLoad h e

poll_adds_none : (v : ℕ) (h : List Record) → AddsNone h (Poll v ∷ h)
poll_adds_none v h = record { reloaded = λ brought limit r. record { dropped = r.dropped; invalidated = r.invalidated }; replaced_is = λ request. refl; invalidated_is = refl; again = λ arena cycle l. again_more arena cycle (Poll v) h tt l; loads = λ e a. a }

change_adds_none : (v : ℕ) (c : Content) (h : List Record) → AddsNone h (Change v c ∷ h)
change_adds_none v c h = record { reloaded = λ brought limit r. record { dropped = r.dropped; invalidated = r.invalidated }; replaced_is = λ request. refl; invalidated_is = refl; again = λ arena cycle l. again_more arena cycle (Change v c) h tt l; loads = λ e a. a }

-- a writer with such a history, and the same entries in as many words
pub keeps_with : (settings : DbConf) (brought : Request → ℕ) (limit : Option ℕ) (ticked : ℕ) (w w' : Writer) → AddsNone w.seen w'.seen → w'.cache.entries ≡ w.cache.entries → Keeps settings brought limit ticked w → Keeps settings brought limit ticked w'
keeps_with settings brought limit ticked w w' adds same k = record {
  reloaded = adds.reloaded brought limit k.reloaded;
  counted = subst (All (IsReloaded brought w'.seen)) (sym same) (λ i d low. subst (λ (n : ℕ). (get_or w.cache.entries i d).reloads ≤ brought (get_or w.cache.entries i d).entry.request + n) (sym (adds.replaced_is (get_or w.cache.entries i d).entry.request)) (k.counted i d low));
  found = subst (λ (n : ℕ). OnTrue settings.check_files (ticked ≤ n)) (sym adds.invalidated_is) k.found;
}

pub packed_with : (w w' : Writer) → w'.cache.entries ≡ w.cache.entries → w'.cache.used ≡ w.cache.used → w'.cache.cycle ≡ w.cache.cycle → IsPacked w → IsPacked w'
packed_with w w' same used cycle p low = used ∙ p (subst (λ (n : ℕ). n < last_count) cycle low) ∙ sym (ap all_words same)

-- what a call leaves as it was
pub record Stays (w w' : Writer) : Type 0 where
  pub adds : AddsNone w.seen w'.seen
  pub entries : w'.cache.entries ≡ w.cache.entries
  pub used : w'.cache.used ≡ w.cache.used
  pub cycle : w'.cache.cycle ≡ w.cache.cycle
  pub layout : w'.layout ≡ w.layout
  pub slide : w'.slide ≡ w.slide

pub keeps_stays : (settings : DbConf) (brought : Request → ℕ) (limit : Option ℕ) (ticked : ℕ) (w w' : Writer) → Stays w w' → Keeps settings brought limit ticked w → Keeps settings brought limit ticked w'
keeps_stays settings brought limit ticked w w' s k = keeps_with settings brought limit ticked w w' s.adds s.entries k

pub packed_stays : (w w' : Writer) → Stays w w' → IsPacked w → IsPacked w'
packed_stays w w' s p = packed_with w w' s.entries s.used s.cycle p

-- where the newest version is the one that the last tick found, or that does not count, it may stand for that
pub keeps_current : (settings : DbConf) (brought : Request → ℕ) (limit : Option ℕ) (ticked newest : ℕ) (w : Writer) → is_outdated settings newest ticked ≡ false → Keeps settings brought limit ticked w → Keeps settings brought limit newest w
keeps_current settings brought limit ticked newest w current k = record { reloaded = k.reloaded; counted = k.counted; found = by_checks settings.check_files (eqb newest ticked) refl current k.found } where
  by_checks : (b same : Bool) → eqb newest ticked ≡ same → (b && not same) ≡ false → OnTrue b (ticked ≤ invalidated_at w.seen) → OnTrue b (newest ≤ invalidated_at w.seen)
  by_checks true true is off low = let e = eqb-true newest ticked is in omega arith
  by_checks true false is off low = absurd (false≢true (sym off))
  by_checks false same is off low = low

-- ---- polls

pub polls_stay : (files : Content) (epoch : ℕ) (w w' : Writer) (stamp : Stamp) → Polls (polled files w.cache) epoch w w' (Ok stamp) → Stays w w'
polls_stay files epoch w w' stamp p = by_same (same_files files w.cache.sources) p where
  by_count : (b : Bool) → Polls (cond b (Err (record { cache = w.cache; adds = []; count = last_count })) (Ok (record { cache = record w.cache { sources = files; newest_version = w.cache.newest_version + 1 }; adds = Change (w.cache.newest_version + 1) files ∷ [] }))) epoch w w' (Ok stamp)
      → Stays w w'
  by_count true q = absurd q
  by_count false q = subst (Stays w) (sym q.1) (record { adds = change_adds_none (w.cache.newest_version + 1) files w.seen; entries = refl; used = refl; cycle = refl; layout = refl; slide = refl })

  by_same : (b : Bool) → Polls (cond b (Ok (record { cache = w.cache; adds = Poll w.cache.newest_version ∷ [] })) (cond (eqb w.cache.newest_version last_count) (Err (record { cache = w.cache; adds = []; count = last_count }))
      (Ok (record { cache = record w.cache { sources = files; newest_version = w.cache.newest_version + 1 }; adds = Change (w.cache.newest_version + 1) files ∷ [] })))) epoch w w' (Ok stamp) → Stays w w'
  by_same true q = subst (Stays w) (sym q.1) (record { adds = poll_adds_none w.cache.newest_version w.seen; entries = refl; used = refl; cycle = refl; layout = refl; slide = refl })
  by_same false q = by_count (eqb w.cache.newest_version last_count) q

-- ---- a use

reloaded_used : (brought : Request → ℕ) (h : List Record) (request : Request) (ks : List Kept) → All (IsReloaded brought h) ks → All (IsReloaded brought h) (used_now request ks)
reloaded_used brought h request ks all = record_of ks all where
  one : (k : Kept) → IsReloaded brought h k → IsReloaded brought h (used_by request k)
  one k low = by_test (is_request request k.entry.request) where
    by_test : (b : Bool) → IsReloaded brought h (cond b (record k { reloads = 0 }) k)
    by_test true = omega arith
    by_test false = low

  record_of : (xs : List Kept) → All (IsReloaded brought h) xs → All (IsReloaded brought h) (used_now request xs)
  record_of [] a i d low = absurd (omega arith)
  record_of (x ∷ xs) a zero d low = one x (a 0 x (omega arith))
  record_of (x ∷ xs) a (suc i) d low = record_of xs (λ j e l. a (suc j) e (omega arith)) i d (omega arith)

used_words : (request : Request) (k : Kept) → entry_words (used_by request k).entry ≡ entry_words k.entry
used_words request k = by_test (is_request request k.entry.request) where
  by_test : (b : Bool) → entry_words (cond b (record k { reloads = 0 }) k).entry ≡ entry_words k.entry
  by_test true = refl
  by_test false = refl

words_used : (request : Request) (ks : List Kept) → all_words (used_now request ks) ≡ all_words ks
words_used request [] = refl
words_used request (k ∷ ks) =
    let f : Kept → ℕ = λ x. entry_words x.entry in
    sum_by-cons f (used_by request k) (used_now request ks) ∙ (λ i. used_words request k i + words_used request ks i) ∙ sym (sum_by-cons f k ks)

keeps_used : (settings : DbConf) (brought : Request → ℕ) (limit : Option ℕ) (ticked : ℕ) (request : Request) (w : Writer) → Keeps settings brought limit ticked w → Keeps settings brought limit ticked (record w { cache = record w.cache { entries = used_now request w.cache.entries } })
keeps_used settings brought limit ticked request w k = record { reloaded = k.reloaded; counted = reloaded_used brought w.seen request w.cache.entries k.counted; found = k.found }

packed_used : (request : Request) (w : Writer) → IsPacked w → IsPacked (record w { cache = record w.cache { entries = used_now request w.cache.entries } })
packed_used request w p low = p low ∙ sym (words_used request w.cache.entries)

-- ---- insertions

pub words_one : (ks : List Kept) (k : Kept) → all_words (ks ++ k ∷ []) ≡ all_words ks + entry_words k.entry
words_one ks k =
    let f : Kept → ℕ = λ x. entry_words x.entry in
    sum_by-append f ks (k ∷ []) ∙ ap (λ (n : ℕ). sum_by f ks + n) (sum_by-cons f k [] ∙ add-zero (entry_words k.entry))

pub keeps_entry : (settings : DbConf) (brought : Request → ℕ) (limit : Option ℕ) (ticked : ℕ) (k : Kept) (w : Writer) → k.reloads ≤ brought k.entry.request + replaced w.seen k.entry.request → Keeps settings brought limit ticked w → Keeps settings brought limit ticked (with_entry k w)
keeps_entry settings brought limit ticked k w low keeps = record {
  reloaded = record { dropped = keeps.reloaded.dropped; invalidated = keeps.reloaded.invalidated };
  counted = All-append (IsReloaded brought w.seen) w.cache.entries (k ∷ []) keeps.counted one;
  found = keeps.found;
} where
  one : All (IsReloaded brought w.seen) (k ∷ [])
  one zero d l = low
  one (suc i) d l = absurd (omega arith)

pub packed_entry : (k : Kept) (w : Writer) → IsPacked w → IsPacked (with_entry k w)
packed_entry k w p low = ap (λ (n : ℕ). n + entry_words k.entry) (p low) ∙ sym (words_one w.cache.entries k)

pub keeps_insert : (settings : DbConf) (brought : Request → ℕ) (limit : Option ℕ) (ticked : ℕ) (said : Inserted) (loaded : Loaded) (w w' : Writer) → Inserts said loaded w w' → loaded.reloads ≤ brought loaded.request + replaced w.seen loaded.request → Keeps settings brought limit ticked w → Keeps settings brought limit ticked w'
keeps_insert settings brought limit ticked (inserted.Done number) loaded w w' i low k = subst (Keeps settings brought limit ticked) (sym i.2) (keeps_entry settings brought limit ticked (kept_of loaded w.cache.inserted) w low k)
keeps_insert settings brought limit ticked (inserted.TooLarge size) loaded w w' i low k = subst (Keeps settings brought limit ticked) (sym i.1) k
keeps_insert settings brought limit ticked (inserted.Discarded noted epoch) loaded w w' i low k = subst (Keeps settings brought limit ticked) (sym i.1) k
keeps_insert settings brought limit ticked (inserted.Present number) loaded w w' i low k = subst (Keeps settings brought limit ticked) (sym i.1) k
keeps_insert settings brought limit ticked (inserted.Spent count) loaded w w' i low k = subst (Keeps settings brought limit ticked) (sym i.1) k
keeps_insert settings brought limit ticked (inserted.Full need free) loaded w w' i low k = subst (Keeps settings brought limit ticked) (sym i.1) (record { reloaded = k.reloaded; counted = k.counted; found = k.found })

pub packed_insert : (said : Inserted) (loaded : Loaded) (w w' : Writer) → Inserts said loaded w w' → IsPacked w → IsPacked w'
packed_insert (inserted.Done number) loaded w w' i p = subst IsPacked (sym i.2) (packed_entry (kept_of loaded w.cache.inserted) w p)
packed_insert (inserted.TooLarge size) loaded w w' i p = subst IsPacked (sym i.1) p
packed_insert (inserted.Discarded noted epoch) loaded w w' i p = subst IsPacked (sym i.1) p
packed_insert (inserted.Present number) loaded w w' i p = subst IsPacked (sym i.1) p
packed_insert (inserted.Spent count) loaded w w' i p = subst IsPacked (sym i.1) p
packed_insert (inserted.Full need free) loaded w w' i p = subst IsPacked (sym i.1) (λ low. p low)

again_insert : (arena : ℕ) (said : Inserted) (loaded : Loaded) (w w' : Writer) → Inserts said loaded w w' → LoadsAgain arena w.cache.cycle w.seen → LoadsAgain arena w'.cache.cycle w'.seen
again_insert arena (inserted.Done number) loaded w w' i l = subst (λ (x : Writer). LoadsAgain arena x.cache.cycle x.seen) (sym i.2) (again_more arena w.cache.cycle (Load (kept_of loaded w.cache.inserted).entry) w.seen tt l)
again_insert arena (inserted.TooLarge size) loaded w w' i l = subst (λ (x : Writer). LoadsAgain arena x.cache.cycle x.seen) (sym i.1) l
again_insert arena (inserted.Discarded noted epoch) loaded w w' i l = subst (λ (x : Writer). LoadsAgain arena x.cache.cycle x.seen) (sym i.1) l
again_insert arena (inserted.Present number) loaded w w' i l = subst (λ (x : Writer). LoadsAgain arena x.cache.cycle x.seen) (sym i.1) l
again_insert arena (inserted.Spent count) loaded w w' i l = subst (λ (x : Writer). LoadsAgain arena x.cache.cycle x.seen) (sym i.1) l
again_insert arena (inserted.Full need free) loaded w w' i l = subst (λ (x : Writer). LoadsAgain arena x.cache.cycle x.seen) (sym i.1) l

-- ---- whole calls

pub rests_same : {which : Db} {brought : Request → ℕ} (w w' : Writer) → w' ≡ w → Rests which brought w w'
rests_same {which} {brought} w w' is = subst (Rests which brought w) (sym is) (record { on = ([], refl); table = refl; layout = refl; slide = refl; keeps = λ settings limit ticked k. k; packed = λ p. p; again = λ arena l. l; version = record { version = refl; sources = refl }; inserts = λ e a. inl a })

pub rests_through : {which : Db} {brought : Request → ℕ} (a b c : Writer) → Rests which brought a b → Rests which brought b c → Rests which brought a c
rests_through a b c r s = record {
  on = prefix_through a.seen b.seen c.seen r.on s.on;
  table = s.table ∙ r.table;
  layout = s.layout ∙ r.layout;
  slide = s.slide ∙ r.slide;
  keeps = λ settings limit ticked k. s.keeps settings limit ticked (r.keeps settings limit ticked k);
  packed = λ p. s.packed (r.packed p);
  again = λ arena l. s.again arena (r.again arena l);
  version = keeps_through a.cache b.cache c.cache r.version s.version;
  inserts = λ e a. elim (s.inserts e a) [ inl old ↦ r.inserts e old | inr own ↦ inr own ];
}

pub rests_missed : {which : Db} {brought : Request → ℕ} (m : Uses) (w w' : Writer) → w' ≡ record w { misses = m } → Rests which brought w w'
rests_missed {which} {brought} m w w' is = subst (Rests which brought w) (sym is) (record {
  on = ([], refl);
  table = refl;
  layout = refl;
  slide = refl;
  keeps = λ settings limit ticked k. record { reloaded = k.reloaded; counted = k.counted; found = k.found };
  packed = λ p. λ low. p low;
  again = λ arena l. l;
  version = record { version = refl; sources = refl };
  inserts = λ e a. inl a;
})

pub rests_raised : {which : Db} {brought : Request → ℕ} (h : Uses) (w w' : Writer) → w' ≡ record w { hits = h } → Rests which brought w w'
rests_raised {which} {brought} h w w' is = subst (Rests which brought w) (sym is) (record {
  on = ([], refl);
  table = refl;
  layout = refl;
  slide = refl;
  keeps = λ settings limit ticked k. record { reloaded = k.reloaded; counted = k.counted; found = k.found };
  packed = λ p. λ low. p low;
  again = λ arena l. l;
  version = record { version = refl; sources = refl };
  inserts = λ e a. inl a;
})

pub rests_looked : {which : Db} {brought : Request → ℕ} (found : Option Kept) (request : Request) (r : HitOrMiss) (w w' : Writer) (reply : List ℕ) → Looks found request r w w' reply → Rests which brought w w'
rests_looked {which} {brought} found request (looked.Missed epoch) w w' reply l = rests_same w w' l.2
rests_looked {which} {brought} found request (looked.Hit hit) w w' reply l = subst (Rests which brought w) (sym l.1) (record {
  on = ([], refl);
  table = refl;
  layout = refl;
  slide = refl;
  keeps = λ settings limit ticked k. let u = keeps_used settings brought limit ticked request w k in record { reloaded = u.reloaded; counted = u.counted; found = u.found };
  packed = λ p. λ low. packed_used request w p low;
  again = λ arena l. l;
  version = record { version = refl; sources = refl };
  inserts = λ e a. inl a;
})

-- an entry more is of what was to be inserted
insert_own : (which : Db) (said : Inserted) (loaded : Loaded) (w w' : Writer) → Inserts said loaded w w' → ((number : ℕ) → IsEntryOf which (kept_of loaded number).entry) → (e : Entry) → HasLoad w'.seen e → HasLoad w.seen e ⊎ IsEntryOf which e
insert_own which (inserted.Done number) loaded w w' i own e a = elim (subst (λ (x : Writer). HasLoad x.seen e) i.2 a) [ inl same ↦ inr (subst (IsEntryOf which) same (own w.cache.inserted)) | inr old ↦ inl old ]
insert_own which (inserted.TooLarge size) loaded w w' i own e a = inl (subst (λ (x : Writer). HasLoad x.seen e) i.1 a)
insert_own which (inserted.Discarded noted epoch) loaded w w' i own e a = inl (subst (λ (x : Writer). HasLoad x.seen e) i.1 a)
insert_own which (inserted.Present number) loaded w w' i own e a = inl (subst (λ (x : Writer). HasLoad x.seen e) i.1 a)
insert_own which (inserted.Spent count) loaded w w' i own e a = inl (subst (λ (x : Writer). HasLoad x.seen e) i.1 a)
insert_own which (inserted.Full need free) loaded w w' i own e a = inl (subst (λ (x : Writer). HasLoad x.seen e) i.1 a)

pub rests_inserted : {which : Db} {brought : Request → ℕ} (said : Inserted) (loaded : Loaded) (w w' : Writer) → Inserts said loaded w w' → loaded.reloads ≤ brought loaded.request + replaced w.seen loaded.request → IsLoadedOf which loaded → Rests which brought w w'
rests_inserted {which} {brought} said loaded w w' i low own =
    let goes = leaves_inserted said loaded w w' i in
    record {
      on = goes.on;
      table = goes.table;
      layout = goes.layout;
      slide = goes.slide;
      keeps = λ settings limit ticked k. keeps_insert settings brought limit ticked said loaded w w' i low k;
      packed = λ q. packed_insert said loaded w w' i q;
      again = λ arena l. again_insert arena said loaded w w' i l;
      version = record { version = goes.version; sources = goes.sources };
      inserts = insert_own which said loaded w w' i (λ number. record { of_database = own.0; timeout_fits = own.1 });
    }
