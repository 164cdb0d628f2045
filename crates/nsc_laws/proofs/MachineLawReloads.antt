-- In each event of the machine entries end for good only as ticks and invalidations end them.
use Rattle.std.proofs.Common.{◌≡◌, ℕ, ◌+◌, ◌<◌, ◌≤◌, inl, inr, Bool, true, false, cond, eqb, ltb, not, ◌||◌, List, [], ◌∷◌, ◌++◌, append_assoc, filter, map, Option, Some, None, Result, Ok, Err, refl, sym, ap, subst, ◌∙◌, arith}
use Rattle.std.proofs.Math.Nat.{min-le_left}
use Rattle.std.proofs.lemmas.Bool.{eq-eqb, eqb-true, leb-true}
use Rattle.nsc_model.specs.declared.answer.Request.{Request}
use Rattle.nsc_model.specs.declared.conf.DbConf.{DbConf}
use Rattle.nsc_model.specs.declared.record.Ending.{Ending}
use Rattle.nsc_model.specs.declared.record.Ending.TheVariants.{Expired, Replaced}
use Rattle.nsc_model.specs.declared.record.Record.{Record}
use Rattle.nsc_model.specs.declared.record.Record.TheVariants.{Change, Poll, Load, End, Invalid}
use Rattle.nsc_model.specs.Answers.{request_beside}
use Rattle.nsc_model.specs.Content.{Content}
use Rattle.nsc_model.specs.Entry.{Entry}
use Rattle.nsc_model.specs.Files.{same_files}
use Rattle.nsc_model.specs.History.{load_of}
use Rattle.nsc_model.specs.Kinds.{is_request}
use Rattle.nsc_model.specs.Machine.{◌>>=◌, Cache, Candidate, Kept, Passed, Refusal, Stopped, after_adds, all_words, by_invalidation, cached, candidate_again, candidates_beside, candidates_of, made_then, tried_with, checked, compacted_after, due_cause, due_ended, due_of, emptied, ends_of, hit_or_load, invalidated, is_dropped, is_outdated, kept_answer, last_count, loaded, lookup, new_entry, next_count, others_of, polled, pruned, reached, refusal, reloaded, reloaded_of, room_of, stopped, tick, tried, tried_all, tried_by, unchanged, used_now}
use Rattle.nsc_model.specs.Reloads.{IsDropped, Reloaded, one_of, replaced, none_brought}
use Rattle.nsc_laws.specs.Reloading.{PassesThen, TurnsThen}
use Rattle.nsc_laws.proofs.MachineLawEnds.{ends_after}
use Rattle.nsc_laws.proofs.MachineLawPasses.{passes_after, passes_then}
use Rattle.nsc_laws.proofs.Reloads.{IsRight, dropped_through, reloaded_ended, replaced_on}
use Rattle.nsc_laws.proofs.Requests.{request_same}

-- ---- entries with their counts

-- an entry was inserted, and was reloaded at most as often as entries of its request ended for that
pub record IsCounted (h : List Record) (inserted : ℕ) (k : Kept) : Type 0 where
  pub counted : k.reloads ≤ replaced h k.entry.request
  pub loaded_is : load_of h k.entry.number ≡ Some k.entry
  pub numbered : k.entry.number < inserted

abbrev pub AllCounted : List Record → ℕ → List Kept → Type 0
AllCounted h n [] = Unit {0}
AllCounted h n (k ∷ ks) = IsCounted h n k × AllCounted h n ks

-- a history goes on: entries that were inserted are the same, and no count is less
record Onward (h h' : List Record) (n n' : ℕ) : Type 0 where
  counts : (request : Request) → replaced h request ≤ replaced h' request
  loads_are : (m : ℕ) → m < n → load_of h' m ≡ load_of h m
  more : n ≤ n'

counted_on : (h h' : List Record) (n n' : ℕ) (ks : List Kept) → Onward h h' n n' → AllCounted h n ks → AllCounted h' n' ks
counted_on h h' n n' [] on a = tt
counted_on h h' n n' (k ∷ ks) on a = (
  record {
    counted = let low = on.counts k.entry.request in let few = a.0.counted in omega arith;
    loaded_is = on.loads_are k.entry.number a.0.numbered ∙ a.0.loaded_is;
    numbered = let low = a.0.numbered in let more = on.more in omega arith;
  },
  counted_on h h' n n' ks on a.1,
)

counted_filter : (test : Kept → Bool) (h : List Record) (n : ℕ) (ks : List Kept) → AllCounted h n ks → AllCounted h n (filter test ks)
counted_filter test h n [] a = tt
counted_filter test h n (k ∷ ks) a = by_test (test k) (counted_filter test h n ks a.1) where
  by_test : (b : Bool) → AllCounted h n (filter test ks) → AllCounted h n (cond b (k ∷ filter test ks) (filter test ks))
  by_test true rest = (a.0, rest)
  by_test false rest = rest

counted_last : (h : List Record) (n : ℕ) (ks : List Kept) (k : Kept) → AllCounted h n ks → IsCounted h n k → AllCounted h n (ks ++ k ∷ [])
counted_last h n [] k a one = (one, tt)
counted_last h n (x ∷ ks) k a one = (a.0, counted_last h n ks k a.1 one)

counted_used : (request : Request) (h : List Record) (n : ℕ) (ks : List Kept) → AllCounted h n ks → AllCounted h n (used_now request ks)
counted_used request h n [] a = tt
counted_used request h n (k ∷ ks) a = (by_test (is_request request k.entry.request), counted_used request h n ks a.1) where
  by_test : (b : Bool) → IsCounted h n (cond b (record k { reloads = 0 }) k)
  by_test true = record { counted = omega arith; loaded_is = a.0.loaded_is; numbered = a.0.numbered }
  by_test false = a.0

-- ---- caches

-- entries ended for good only as ticks and invalidations end them, and each live one is counted
pub record Meets (limit : Option ℕ) (cache : Cache) (h : List Record) : Type 0 where
  pub ended : Reloaded none_brought limit h
  pub entries_are : AllCounted h cache.inserted cache.entries

-- what is known where an event stops
abbrev pub Ends : Option ℕ → Cache → List Record → Type 0
Ends limit cache h = Reloaded none_brought limit h

meets_polled : (limit : Option ℕ) (files : Content) (cache : Cache) (h : List Record) → Meets limit cache h → PassesThen (Meets limit) (Ends limit) h (polled files cache)
meets_polled limit files cache h m = by_same (same_files files cache.sources) (eqb cache.newest_version last_count) where
  by_same : (same last : Bool) → PassesThen (Meets limit) (Ends limit) h (cond same (Ok (record { cache = cache; adds = Poll cache.newest_version ∷ [] })) (cond last (Err (stopped cache)) (Ok (record { cache = record cache { sources = files; newest_version = cache.newest_version + 1 }; adds = Change (cache.newest_version + 1) files ∷ [] }))))
  by_same true last = record {
    ended = record { dropped = m.ended.dropped; invalidated = m.ended.invalidated };
    entries_are = counted_on h (Poll cache.newest_version ∷ h) cache.inserted cache.inserted cache.entries (record { counts = λ request. omega arith; loads_are = λ n low. refl; more = omega arith }) m.entries_are;
  }
  by_same false true = m.ended
  by_same false false = record {
    ended = record { dropped = m.ended.dropped; invalidated = m.ended.invalidated };
    entries_are = counted_on h (Change (cache.newest_version + 1) files ∷ h) cache.inserted cache.inserted cache.entries (record { counts = λ request. omega arith; loads_are = λ n low. refl; more = omega arith }) m.entries_are;
  }

-- a compaction, where there is one, leaves entries and history
meets_compacted : (others : Cache → List Record → Type 0) (limit : Option ℕ) (ks : List Kept) (cache : Cache) (h : List Record) → Reloaded none_brought limit h → ((used cycle : ℕ) → others (record cache { used = used; cycle = cycle }) h) → PassesThen others (Ends limit) h (compacted_after ks cache)
meets_compacted others limit [] cache h ended on = on cache.used cache.cycle
meets_compacted others limit (k ∷ ks) cache h ended on = by_cycle (ltb cache.cycle last_count) where
  by_cycle : (b : Bool) → PassesThen others (Ends limit) h (cond b (Ok (unchanged (record cache { cycle = cache.cycle + 2; used = all_words cache.entries }))) (Err (stopped cache)))
  by_cycle true = on (all_words cache.entries) (cache.cycle + 2)
  by_cycle false = ended

-- ---- invalidations

reloaded_emptied : (limit : Option ℕ) (cache : Cache) (h : List Record) → Reloaded none_brought limit h → Reloaded none_brought limit ((emptied cache).adds ++ h)
reloaded_emptied limit cache h r =
    subst (λ (l : List Record). Reloaded none_brought limit (Invalid (cache.epoch + 1) ∷ l)) (sym (ends_after by_invalidation cache.entries [] h)) (record { dropped = dropped_through limit cache.entries h r.dropped; invalidated = tt })

pub meets_invalidated : (limit : Option ℕ) (cache : Cache) (h : List Record) → Meets limit cache h → PassesThen (Meets limit) (Ends limit) h (invalidated cache)
unfolding invalidated
meets_invalidated limit cache h m = by_epoch (eqb cache.epoch last_count) where
  by_epoch : (b : Bool) → PassesThen (Meets limit) (Ends limit) h (cond b (Err (stopped cache)) (after_adds (emptied cache).adds (compacted_after cache.entries (emptied cache).cache)))
  by_epoch true = m.ended
  by_epoch false =
      let ended = reloaded_emptied limit cache h m.ended in
      passes_after (Meets limit) (Ends limit) (emptied cache).adds h (compacted_after cache.entries (emptied cache).cache)
      (meets_compacted (Meets limit) limit cache.entries (emptied cache).cache ((emptied cache).adds ++ h) ended (λ used cycle. record { ended = ended; entries_are = tt }))

-- ---- insertions

-- what is inserted was reloaded at most so often
abbrev AllFew : List Record → List Candidate → Type 0
AllFew h [] = Unit {0}
AllFew h (one ∷ others) = (one.reloads ≤ replaced h one.request) × AllFew h others

few_on : (h h' : List Record) (all : List Candidate) → ((request : Request) → replaced h request ≤ replaced h' request) → AllFew h all → AllFew h' all
few_on h h' [] on a = tt
few_on h h' (one ∷ others) on a = ((let low = on one.request in let few = a.0 in omega arith), few_on h h' others on a.1)

-- an insertion that is tried
record Tries (limit : Option ℕ) (h : List Record) (passed : Passed) : Type 0 where
  meets : Meets limit passed.cache (passed.adds ++ h)
  counts : (request : Request) → replaced h request ≤ replaced (passed.adds ++ h) request

load_apart : (h : List Record) (e : Entry) (m : ℕ) → m < e.number → load_of (Load e ∷ h) m ≡ load_of h m
load_apart h e m low = by_test (eqb e.number m) refl where
  by_test : (b : Bool) → eqb e.number m ≡ b → cond b (Some e) (load_of h m) ≡ load_of h m
  by_test true same = let is = eqb-true e.number m same in absurd (omega arith)
  by_test false same = refl

tries : (limit : Option ℕ) (refused : Option Refusal) (k : Kept) (cache : Cache) (h : List Record) → k.entry.number ≡ cache.inserted → k.reloads ≤ replaced h k.entry.request → Meets limit cache h → Tries limit h (tried_by refused k cache)
tries limit None k cache h number few m =
    let low : cache.inserted ≤ k.entry.number = omega arith in
    let h' : List Record = Load k.entry ∷ h in
    let on : Onward h h' cache.inserted (cache.inserted + 1) = record { counts = λ request. omega arith; loads_are = λ n less. load_apart h k.entry n (omega arith); more = omega arith } in
    let own : load_of h' k.entry.number ≡ Some k.entry = ap (λ (b : Bool). cond b (Some k.entry) (load_of h k.entry.number)) (eq-eqb k.entry.number k.entry.number refl) in
    record {
      meets = record {
        ended = record { dropped = m.ended.dropped; invalidated = m.ended.invalidated };
        entries_are = counted_last h' (cache.inserted + 1) cache.entries k (counted_on h h' cache.inserted (cache.inserted + 1) cache.entries on m.entries_are) (record { counted = few; loaded_is = own; numbered = omega arith });
      };
      counts = λ request. omega arith;
    }
tries limit (Some (Refusal.TooLarge size)) k cache h number few m = record { meets = m; counts = λ request. omega arith }
tries limit (Some (Refusal.Discarded noted epoch)) k cache h number few m = record { meets = m; counts = λ request. omega arith }
tries limit (Some (Refusal.Present other)) k cache h number few m = record { meets = m; counts = λ request. omega arith }
tries limit (Some (Refusal.Spent count)) k cache h number few m = record { meets = m; counts = λ request. omega arith }
tries limit (Some (Refusal.Full need free)) k cache h number few m = record { meets = record { ended = m.ended; entries_are = m.entries_are }; counts = λ request. omega arith }

meets_tried : (limit : Option ℕ) (settings : DbConf) (now : ℕ) (all : List Candidate) (cache : Cache) (h : List Record) → AllFew h all → Meets limit cache h → Meets limit (tried_all settings now all cache).cache ((tried_all settings now all cache).adds ++ h)
meets_tried limit settings now [] cache h few m = m
meets_tried limit settings now (one ∷ others) cache h few m =
    let k = new_entry settings now one cache in
    let first = tries limit (refusal (room_of settings) cache.epoch k.entry cache) k cache h refl few.0 m in
    let done = tried settings now one cache in
    subst (Meets limit (tried_all settings now others done.cache).cache) (sym (append_assoc (tried_all settings now others done.cache).adds done.adds h))
    (meets_tried limit settings now others done.cache (done.adds ++ h) (few_on h (done.adds ++ h) others first.counts few.1) first.meets)

-- ---- prunings

why_dropped : (limit : Option ℕ) (h : List Record) (k : Kept) → k.reloads ≤ replaced h k.entry.request → is_dropped limit k ≡ true → IsDropped none_brought limit h (Some k.entry)
why_dropped limit h k few is = by_absent k.entry.answer.not_found refl is where
  by_limit : (l : Option ℕ) → limit ≡ l → reached l k.reloads ≡ true → IsDropped none_brought limit h (Some k.entry)
  by_limit None e on = absurd cc
  by_limit (Some most) e on = inr (most, e, (let low = leb-true most k.reloads on in omega arith))

  by_absent : (b : Bool) → k.entry.answer.not_found ≡ b → (b || reached limit k.reloads) ≡ true → IsDropped none_brought limit h (Some k.entry)
  by_absent true e on = inl e
  by_absent false e on = by_limit limit refl on

right_cause : (limit : Option ℕ) (now : ℕ) (h : List Record) (n : ℕ) (k : Kept) → IsCounted h n k → IsRight limit h k.entry.number (due_cause limit now k)
right_cause limit now h n k c = by_drop (is_dropped limit k) refl where
  by_drop : (b : Bool) → is_dropped limit k ≡ b → IsRight limit h k.entry.number (cond b (Expired now) Replaced)
  by_drop true is = subst (IsDropped none_brought limit h) (sym c.loaded_is) (why_dropped limit h k c.counted is)
  by_drop false is = tt

-- one end goes onward
one_onward : (h : List Record) (n m : ℕ) (cause : Ending) → Onward h (End m cause ∷ h) n n
one_onward h n m cause = record { counts = λ request. replaced_on h (End m cause ∷ h) request (End m cause ∷ [], refl); loads_are = λ i low. refl; more = omega arith }

ends_onward : (cause : Kept → Ending) (ks : List Kept) (h : List Record) (n : ℕ) → Onward h (ends_of cause ks h) n n
ends_onward cause [] h n = record { counts = λ request. omega arith; loads_are = λ i low. refl; more = omega arith }
ends_onward cause (k ∷ ks) h n =
    let first = one_onward h n k.entry.number (cause k) in
    let rest = ends_onward cause ks (End k.entry.number (cause k) ∷ h) n in
    record { counts = λ request. (let a = first.counts request in let b = rest.counts request in omega arith); loads_are = λ i low. rest.loads_are i low ∙ first.loads_are i low; more = omega arith }

reloaded_ends : (limit : Option ℕ) (now n : ℕ) (ks : List Kept) (h : List Record) → AllCounted h n ks → Reloaded none_brought limit h → Reloaded none_brought limit (ends_of (due_cause limit now) ks h)
reloaded_ends limit now n [] h a r = r
reloaded_ends limit now n (k ∷ ks) h a r =
    let h' : List Record = End k.entry.number (due_cause limit now k) ∷ h in
    reloaded_ends limit now n ks h' (counted_on h h' n n ks (one_onward h n k.entry.number (due_cause limit now k)) a.1) (reloaded_ended limit h k.entry.number (due_cause limit now k) (right_cause limit now h n k a.0) r)

-- what is loaded again is counted once more
few_again : (limit : Option ℕ) (now n : ℕ) (ks : List Kept) (h : List Record) → AllCounted h n ks → AllFew (ends_of (due_cause limit now) ks h) (map candidate_again (reloaded_of limit ks))
few_again limit now n [] h a = tt
few_again limit now n (k ∷ ks) h a = by_drop (is_dropped limit k) (λ cause. few_again limit now n ks (End k.entry.number cause ∷ h) (counted_on h (End k.entry.number cause ∷ h) n n ks (one_onward h n k.entry.number cause) a.1)) where
  by_drop : (b : Bool) → ((cause : Ending) → AllFew (ends_of (due_cause limit now) ks (End k.entry.number cause ∷ h)) (map candidate_again (reloaded_of limit ks)))
      → AllFew (ends_of (due_cause limit now) ks (End k.entry.number (cond b (Expired now) Replaced) ∷ h)) (map candidate_again (cond (not b) (k ∷ reloaded_of limit ks) (reloaded_of limit ks)))
  by_drop true rest = rest (Expired now)
  by_drop false rest =
      let h' : List Record = End k.entry.number Replaced ∷ h in
      let one : one_of k.entry.request (load_of h k.entry.number) ≡ 1 = ap (one_of k.entry.request) a.0.loaded_is ∙ ap (λ (b : Bool). cond b 1 0) (request_same k.entry.request) in
      let few = a.0.counted in
      let next : next_count k.reloads ≤ k.reloads + 1 = min-le_left (k.reloads + 1) last_count in
      let on = (ends_onward (due_cause limit now) ks h' n).counts k.entry.request in
      (omega arith, rest Replaced)

meets_pruned : (limit : Option ℕ) (settings : DbConf) (now : ℕ) (cache : Cache) (h : List Record) → Meets limit cache h → PassesThen (Meets limit) (Ends limit) h (pruned settings limit now cache)
meets_pruned limit settings now cache h m =
    let due = due_of now cache.entries in
    let ends = due_ended limit now cache in
    let counted = counted_filter (λ (k : Kept). ltb k.entry.timeout now) h cache.inserted cache.entries m.entries_are in
    let all = reloaded_of limit due in
    let h' : List Record = ends.adds ++ h in
    let seen : h' ≡ ends_of (due_cause limit now) due h = ends_after (due_cause limit now) due [] h in
    let ended = subst (Reloaded none_brought limit) (sym seen) (reloaded_ends limit now cache.inserted due h counted m.ended) in
    let left = subst (λ (l : List Record). AllCounted l cache.inserted (others_of now cache.entries)) (sym seen)
    (counted_on h (ends_of (due_cause limit now) due h) cache.inserted cache.inserted (others_of now cache.entries) (ends_onward (due_cause limit now) due h cache.inserted) (counted_filter (λ (k : Kept). not (ltb k.entry.timeout now)) h cache.inserted cache.entries m.entries_are)) in
    let few = subst (λ (l : List Record). AllFew l (map candidate_again all)) (sym seen) (few_again limit now cache.inserted due h counted) in
    let first : Cache → List Record → Type 0 = λ c l. Meets limit c l × AllFew l (map candidate_again all) in
    passes_after (Meets limit) (Ends limit) ends.adds h (compacted_after due ends.cache >>= λ after. Ok (reloaded settings now all after))
    (passes_then first (Meets limit) (Ends limit) h' (compacted_after due ends.cache) (λ after. Ok (reloaded settings now all after)) (meets_compacted first limit due ends.cache h' ended (λ used cycle. (record { ended = ended; entries_are = left }, few)))
    (λ c l a. meets_tried limit settings now (map candidate_again all) c l a.1 a.0))

-- ---- events

pub meets_ticked : (limit : Option ℕ) (settings : DbConf) (now : ℕ) (files : Content) (ticked : ℕ) (cache : Cache) (h : List Record) → Meets limit cache h → PassesThen (Meets limit) (Ends limit) h (tick settings limit now files ticked cache)
unfolding tick
meets_ticked limit settings now files ticked cache h m = by_enabled settings.enabled where
  by_checks : (c : Cache) (l : List Record) → Meets limit c l → (b : Bool) → PassesThen (Meets limit) (Ends limit) l (cond b (invalidated c) (pruned settings limit now c))
  by_checks c l a true = meets_invalidated limit c l a
  by_checks c l a false = meets_pruned limit settings now c l a

  by_enabled : (b : Bool) → PassesThen (Meets limit) (Ends limit) h (cond b (polled files cache >>= checked settings limit now ticked) (Ok (unchanged cache)))
  by_enabled true = passes_then (Meets limit) (Meets limit) (Ends limit) h (polled files cache) (checked settings limit now ticked) (meets_polled limit files cache h m) (λ c l a. by_checks c l a (is_outdated settings c.newest_version ticked))
  by_enabled false = m

-- what goes with an entry was not reloaded
few_beside : (settings : DbConf) (h : List Record) (o : Option Request) → AllFew h (candidates_beside settings o)
few_beside settings h None = tt
few_beside settings h (Some id) = elim settings.propagate as (λ v. AllFew h (cond v (candidates_of id) [])) [ true ↦ (omega arith, tt) | false ↦ tt ]

meets_with : (limit : Option ℕ) (settings : DbConf) (now : ℕ) (request : Request) (c : Cache) (h : List Record) → Meets limit c h → Meets limit (tried_with settings now request c).cache ((tried_with settings now request c).adds ++ h)
meets_with limit settings now request c h m =
    by_cause (refusal (room_of settings) c.epoch (new_entry settings now (record { request = request; reloads = 0 }) c).entry c)
    (tries limit (refusal (room_of settings) c.epoch (new_entry settings now (record { request = request; reloads = 0 }) c).entry c) (new_entry settings now (record { request = request; reloads = 0 }) c) c h refl (omega arith) m) where
      by_cause : (o : Option Refusal) → Tries limit h (tried_by o (new_entry settings now (record { request = request; reloads = 0 }) c) c)
          → let p = made_then o (tried_by o (new_entry settings now (record { request = request; reloads = 0 }) c) c) (tried_all settings now (candidates_beside settings (request_beside c.sources request))) in Meets limit p.cache (p.adds ++ h)
      by_cause None first =
          let done = tried_by None (new_entry settings now (record { request = request; reloads = 0 }) c) c in
          let all = candidates_beside settings (request_beside c.sources request) in
          subst (Meets limit (tried_all settings now all done.cache).cache) (sym (append_assoc (tried_all settings now all done.cache).adds done.adds h))
          (meets_tried limit settings now all done.cache (done.adds ++ h) (few_beside settings (done.adds ++ h) (request_beside c.sources request)) first.meets)
      by_cause (Some cause) first = first.meets

pub meets_looked : (limit : Option ℕ) (settings : DbConf) (now : ℕ) (files : Content) (request : Request) (cache : Cache) (h : List Record) → Meets limit cache h → TurnsThen (Meets limit) (Ends limit) h (lookup settings now files request cache)
unfolding lookup
meets_looked limit settings now files request cache h m = by_entry (cached settings request cache) where
  by_kept : (c : Cache) (l : List Record) → Meets limit c l → (b : Bool) → let after : Passed = cond b (tried_with settings now request c) (unchanged c) in Meets limit after.cache (after.adds ++ l)
  by_kept c l a true = meets_with limit settings now request c l a
  by_kept c l a false = a

  by_poll : (r : Result Passed Stopped) → PassesThen (Meets limit) (Ends limit) h r → TurnsThen (Meets limit) (Ends limit) h (loaded settings now request r)
  by_poll (Ok poll) p = subst (Meets limit (kept_answer settings now request poll.cache).cache) (sym (append_assoc (kept_answer settings now request poll.cache).adds poll.adds h)) (by_kept poll.cache (poll.adds ++ h) p settings.enabled)
  by_poll (Err stop) p = p

  by_entry : (o : Option Kept) → TurnsThen (Meets limit) (Ends limit) h (hit_or_load o settings now files request cache)
  by_entry (Some k) = record { ended = m.ended; entries_are = counted_used request h cache.inserted cache.entries m.entries_are }
  by_entry None = by_poll (polled files cache) (meets_polled limit files cache h m)
