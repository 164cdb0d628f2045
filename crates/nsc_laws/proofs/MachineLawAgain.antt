-- In each event of the machine each entry that ends to be loaded again is loaded again, or could not be.
use Rattle.std.proofs.Common.{◌≡◌, ℕ, ◌+◌, ◌-◌, ◌≤◌, ◌⊎◌, inl, inr, Bool, true, false, cond, eqb, ltb, not, List, [], ◌∷◌, ◌++◌, append_assoc, length, map, Option, Some, None, Result, Ok, Err, refl, sym, ap, subst, ◌∙◌, arith}
use Rattle.std.proofs.lemmas.Bool.{eqb-true, ltb-true, ltb-false}
use Rattle.std.proofs.lemmas.List.Filters.{sum_by-filter_both}
use Rattle.std.proofs.lemmas.List.Sums.{sum_by-cons, sum_by_push}
use Rattle.nsc_base.specs.Nodes.{node_words}
use Rattle.nsc_model.specs.declared.answer.Request.{Request}
use Rattle.nsc_model.specs.declared.conf.DbConf.{DbConf}
use Rattle.nsc_model.specs.declared.record.Ending.{Ending}
use Rattle.nsc_model.specs.declared.record.Ending.TheVariants.{Expired, Replaced}
use Rattle.nsc_model.specs.declared.record.Record.{Record}
use Rattle.nsc_model.specs.declared.record.Record.TheVariants.{Change, Poll, Load, End, Invalid}
use Rattle.nsc_model.specs.Answers.{answer_of, request_beside}
use Rattle.nsc_model.specs.Content.{Content}
use Rattle.nsc_model.specs.Entry.{Entry, kept_limit}
use Rattle.nsc_model.specs.Files.{same_files}
use Rattle.nsc_model.specs.History.{IsPrefix, WasPolled, load_of}
use Rattle.nsc_model.specs.Kinds.{is_request}
use Rattle.nsc_model.specs.Live.{HasEntry}
use Rattle.nsc_model.specs.Machine.{◌>>=◌, Cache, Candidate, Kept, Passed, Refusal, Discarded, Full, Spent, TooLarge, Stopped, all_words, by_invalidation, cached, candidate_again, candidates_beside, made_then, tried_with, refusal, checked, compacted_after, due_cause, due_ended, due_of, emptied, ends_of, entry_words, hit_or_load, invalidated, is_dropped, is_due, is_outdated, kept_answer, last_count, live_entry, loaded, lookup, new_entry, next_count, or_later, overtaken, polled, present_cause, pruned, reloaded, after_adds, reloaded_of, room_of, stopped, tick, tried, tried_all, tried_by, unchanged, used_now}
use Rattle.nsc_model.specs.Stores.{AreLoadedAgain, IsLoadedAfter, IsLoadedAgain, words_of}
use Rattle.nsc_laws.specs.Calls.{Tells, entries_of}
use Rattle.nsc_laws.specs.Reloading.{PassesThen, TurnsThen}
use Rattle.nsc_laws.proofs.LoadedAgain.{AreLoadedBut, but_emptied, but_ended, but_more, but_wider, end_before, live_later, load_of_is, none_but, version_has}
use Rattle.nsc_laws.proofs.MachineLawEnds.{due_live, ends_after, polled_ends, pruned_tells}
use Rattle.nsc_laws.proofs.MachineLawLists.{found, used_entries}
use Rattle.nsc_laws.proofs.MachineLawParts.{asked_none, confirmed, emptied_is, inserted_by, invalid_tells, kept_tells, turned, turns}
use Rattle.nsc_laws.proofs.MachineLawPasses.{passes_after, passes_then}
use Rattle.nsc_laws.proofs.MachineLawSteps.{retells, same_prefix}
use Rattle.nsc_laws.proofs.Requests.{same_request}

-- ---- caches

-- a request is one of those whose insertions are still to be tried
abbrev pub Waits : List Candidate → Request → Type 0
Waits [] request = ⊥
Waits (one ∷ others) request = (one.request ≡ request) ⊎ Waits others request

-- the used words are those of the live entries, since a run ends where a compaction cannot be counted; and what ended to be loaded again
-- was loaded again, or could not be, or waits
pub record Goes (arena : ℕ) (all : List Candidate) (cache : Cache) (h : List Record) : Type 0 where
  pub tells : Tells h cache
  pub used_is : cache.used ≡ all_words cache.entries
  pub again : AreLoadedBut arena (Waits all) h

-- so after the poll of an event
pub record GoesOn (arena : ℕ) (all : List Candidate) (cache : Cache) (h : List Record) : Type 0 where
  pub goes : Goes arena all cache h
  pub was : WasPolled h cache.newest_version

-- what is known where an event stops
abbrev pub Stays : ℕ → Cache → List Record → Type 0
Stays arena cache h = AreLoadedAgain arena h ⊎ (last_count ≤ cache.cycle)

pub goes_settled : (arena : ℕ) (cache : Cache) (h : List Record) → Goes arena [] cache h → AreLoadedAgain arena h
goes_settled arena cache h g = none_but arena (Waits []) h (λ r none. none) g.again

-- ---- words

-- the words of the live entries
words_live : (ks : List Kept) → words_of (entries_of ks) ≡ all_words ks
words_live [] = refl
words_live (k ∷ ks) =
    let f : Kept → ℕ = λ x. entry_words x.entry in
    sum_by-cons entry_words k.entry (entries_of ks) ∙ ap (λ (n : ℕ). entry_words k.entry + n) (words_live ks) ∙ sym (sum_by-cons f k ks)

words_used : (request : Request) (ks : List Kept) → all_words (used_now request ks) ≡ all_words ks
words_used request ks = sym (words_live (used_now request ks)) ∙ ap words_of (used_entries request ks) ∙ words_live ks

-- ---- polls

pub goes_polled : (arena : ℕ) (files : Content) (cache : Cache) (h : List Record) → Goes arena [] cache h → PassesThen (GoesOn arena []) (Stays arena) h (polled files cache)
goes_polled arena files cache h g = by_same (same_files files cache.sources) refl where
  by_last : (last : Bool) → same_files files cache.sources ≡ false → PassesThen (GoesOn arena []) (Stays arena) h (cond last (Err (stopped cache)) (Ok (record { cache = turned cache files; adds = Change (cache.newest_version + 1) files ∷ [] })))
  by_last true other = inl (goes_settled arena cache h g)
  by_last false other =
      let f = turns h files cache g.tells other in
      record { goes = record { tells = f.tells; used_is = g.used_is; again = but_more arena (Waits []) (Change (cache.newest_version + 1) files) h tt g.again }; was = f.was }

  by_same : (same : Bool) → same_files files cache.sources ≡ same
      → PassesThen (GoesOn arena []) (Stays arena) h (cond same (Ok (record { cache = cache; adds = Poll cache.newest_version ∷ [] })) (cond (eqb cache.newest_version last_count) (Err (stopped cache)) (Ok (record { cache = turned cache files; adds = Change (cache.newest_version + 1) files ∷ [] }))))
  by_same true same =
      let f = confirmed h files cache g.tells same in
      record { goes = record { tells = f.tells; used_is = g.used_is; again = but_more arena (Waits []) (Poll cache.newest_version) h tt g.again }; was = f.was }
  by_same false other = by_last (eqb cache.newest_version last_count) other

-- ---- compactions

-- entries ended, whose words are used until a compaction, where there is any
packs : (others : Cache → List Record → Type 0) (arena : ℕ) (ks : List Kept) (cache : Cache) (h : List Record) → cache.used ≡ all_words ks + all_words cache.entries → ((used cycle : ℕ) → used ≡ all_words cache.entries → others (record cache { used = used; cycle = cycle }) h)
    → PassesThen others (Stays arena) h (compacted_after ks cache)
packs others arena [] cache h used on = on cache.used cache.cycle (let none : all_words [] ≡ 0 = refl in omega arith)
packs others arena (k ∷ ks) cache h used on = by_cycle (ltb cache.cycle last_count) refl where
  by_cycle : (b : Bool) → ltb cache.cycle last_count ≡ b → PassesThen others (Stays arena) h (cond b (Ok (unchanged (record cache { cycle = cache.cycle + 2; used = all_words cache.entries }))) (Err (stopped cache)))
  by_cycle true low = on (all_words cache.entries) (cache.cycle + 2) refl
  by_cycle false high = inr (ltb-false cache.cycle last_count high)

-- ---- invalidations

pub goes_invalidated : (arena : ℕ) (cache : Cache) (h : List Record) → Goes arena [] cache h → PassesThen (Goes arena []) (Stays arena) h (invalidated cache)
unfolding invalidated
goes_invalidated arena cache h g = by_epoch (eqb cache.epoch last_count) where
  told : Tells ((emptied cache).adds ++ h) (emptied cache).cache
  told = subst (λ (l : List Record). Tells l (emptied cache).cache) (emptied_is h cache g.tells) (invalid_tells h cache g.tells)

  all_again : AreLoadedBut arena (Waits []) ((emptied cache).adds ++ h)
  all_again =
      subst (λ (l : List Record). AreLoadedBut arena (Waits []) (Invalid (cache.epoch + 1) ∷ l)) (sym (ends_after by_invalidation cache.entries [] h))
      (but_more arena (Waits []) (Invalid (cache.epoch + 1)) (ends_of by_invalidation cache.entries h) tt (but_emptied arena (Waits []) cache.entries h g.again))

  by_epoch : (b : Bool) → PassesThen (Goes arena []) (Stays arena) h (cond b (Err (stopped cache)) (after_adds (emptied cache).adds (compacted_after cache.entries (emptied cache).cache)))
  by_epoch true = inl (goes_settled arena cache h g)
  by_epoch false =
      passes_after (Goes arena []) (Stays arena) (emptied cache).adds h (compacted_after cache.entries (emptied cache).cache)
      (packs (Goes arena []) arena cache.entries (emptied cache).cache ((emptied cache).adds ++ h) (let used = g.used_is in let none : all_words [] ≡ 0 = refl in omega arith)
      (λ used cycle is. record { tells = retells ((emptied cache).adds ++ h) (emptied cache).cache [] used cycle cache.add_failed refl told; used_is = is; again = all_again }))

-- ---- insertions

-- what is known of a request whose insertion was tried
abbrev IsTriedAgain : ℕ → Request → List Record → Type 0
IsTriedAgain arena request h = (number : ℕ) (before : List Record) (e : Entry) → IsPrefix (End number Replaced ∷ before) h → load_of before number ≡ Some e → request ≡ e.request → IsLoadedAgain arena (End number Replaced ∷ before) request h

-- so it waits no longer
waits_less : (arena : ℕ) (one : Candidate) (others : List Candidate) (h : List Record) → IsTriedAgain arena one.request h → AreLoadedBut arena (Waits (one ∷ others)) h → AreLoadedBut arena (Waits others) h
waits_less arena one others h tried_one all number before e p is = elim (all number before e p is) [
  | inl again ↦ inl again
  | inr (inl same) ↦ inl (subst (λ (r : Request). IsLoadedAgain arena (End number Replaced ∷ before) r h) same (tried_one number before e p is same))
  | inr (inr more) ↦ inr more
]

-- an insertion is refused
refuses : (arena : ℕ) (one : Candidate) (others : List Candidate) (cache : Cache) (h : List Record) (failed : ℕ) → GoesOn arena (one ∷ others) cache h → IsTriedAgain arena one.request h → GoesOn arena others (record cache { add_failed = failed }) h
refuses arena one others cache h failed g tried_one = record {
  goes = record { tells = retells h cache cache.entries cache.used cache.cycle failed refl g.goes.tells; used_is = g.goes.used_is; again = waits_less arena one others h tried_one g.goes.again };
  was = g.was;
}

-- its answer is too long to be kept
too_long : (arena : ℕ) (request : Request) (cache : Cache) (h : List Record) → Tells h cache → ltb kept_limit (length (answer_of cache.sources request).bytes) ≡ true → IsTriedAgain arena request h
too_long arena request cache h t long number before e p is same =
    inr (inr (inl (cache.sources, version_has h cache.newest_version cache.sources t.held, ltb-true kept_limit (length (answer_of cache.sources request).bytes) long)))

-- a live entry of the request was inserted later
lives_again : (arena : ℕ) (request : Request) (cache : Cache) (h : List Record) (k : Kept) → Tells h cache → live_entry request cache.entries ≡ Some k → IsTriedAgain arena request h
lives_again arena request cache h k t lives number before e p is same =
    let at = found (λ x. is_request request x.entry.request) cache.entries k lives in
    let asked : k.entry.request ≡ request = sym (same_request request k.entry.request at.1) in
    inl (subst (λ (r : Request). IsLoadedAfter (End number Replaced ∷ before) r h) (sym same) (live_later h number before e k.entry t.legal p is (t.entries_are.live k.entry at.0) (asked ∙ same)))

-- no more entries can be counted
no_count : (arena : ℕ) (request : Request) (cache : Cache) (h : List Record) → Tells h cache → eqb cache.inserted last_count ≡ true → IsTriedAgain arena request h
no_count arena request cache h t last number before e p is same =
    let at = eqb-true cache.inserted last_count last in
    let counted = t.loads_are in
    inr (inl (omega arith))

-- there is no room
no_room : (arena : ℕ) (request : Request) (cache : Cache) (h : List Record) → Tells h cache → cache.used ≡ all_words cache.entries → ltb (arena - cache.used) (node_words (length request.key) (length (answer_of cache.sources request).bytes)) ≡ true → IsTriedAgain arena request h
no_room arena request cache h t used full number before e p is same =
    let less = ltb-true (arena - cache.used) (node_words (length request.key) (length (answer_of cache.sources request).bytes)) full in
    let words = words_live cache.entries in
    inr (inr (inr (record {
      moment = h;
      since = p;
      until = same_prefix h;
      files = cache.sources;
      known = version_has h cache.newest_version cache.sources t.held;
      entries = entries_of cache.entries;
      live = t.entries_are;
      full = omega arith;
    })))

-- an entry is inserted
inserts : (settings : DbConf) (now : ℕ) (one : Candidate) (others : List Candidate) (cache : Cache) (h : List Record) → GoesOn (room_of settings) (one ∷ others) cache h → live_entry one.request cache.entries ≡ None
    → GoesOn (room_of settings) others (inserted_by (new_entry settings now one cache) cache) (Load (new_entry settings now one cache).entry ∷ h)
inserts settings now one others cache h g absent =
    let t = g.goes.tells in
    let k = new_entry settings now one cache in
    let arena = room_of settings in
    let used = g.goes.used_is in
    let more = sum_by_push (λ (x : Kept). entry_words x.entry) cache.entries k in
    record {
      goes = record {
        tells = kept_tells h cache k t refl (asked_none h cache one.request t absent) (cache.sources, t.held, refl) g.was;
        used_is = ap (λ (n : ℕ). n + entry_words k.entry) used ∙ sym more;
        again = waits_less arena one others (Load k.entry ∷ h) (λ number before e p is same. inl (k.entry, h, end_before (Load k.entry) h number before tt p, same_prefix (Load k.entry ∷ h), refl))
            (but_more arena (Waits (one ∷ others)) (Load k.entry) h tt g.goes.again);
      };
      was = g.was;
    }

-- what is known once an insertion was tried
abbrev GoesPast : ℕ → List Candidate → List Record → Passed → Type 0
GoesPast arena others h p = GoesOn arena others p.cache (p.adds ++ h)

-- the last causes that may refuse an insertion
abbrev room_cause : ℕ → Kept → Cache → Option Refusal
room_cause room k cache = cond (ltb (room - cache.used) (entry_words k.entry)) (Some (Full (entry_words k.entry) (room - cache.used))) None

abbrev count_cause : ℕ → Kept → Cache → Option Refusal
count_cause room k cache = cond (eqb cache.inserted last_count) (Some (Spent last_count)) (room_cause room k cache)

-- one insertion is tried
goes_tried : (settings : DbConf) (now : ℕ) (one : Candidate) (others : List Candidate) (cache : Cache) (h : List Record) → GoesOn (room_of settings) (one ∷ others) cache h → GoesPast (room_of settings) others h (tried settings now one cache)
goes_tried settings now one others cache h g = by_size (ltb kept_limit (length (answer_of cache.sources one.request).bytes)) refl where
  by_room : (b : Bool) → ltb (room_of settings - cache.used) (entry_words (new_entry settings now one cache).entry) ≡ b → live_entry one.request cache.entries ≡ None
      → GoesPast (room_of settings) others h (tried_by (cond b (Some (Full (entry_words (new_entry settings now one cache).entry) (room_of settings - cache.used))) None) (new_entry settings now one cache) cache)
  by_room true full absent = refuses (room_of settings) one others cache h (next_count cache.add_failed) g (no_room (room_of settings) one.request cache h g.goes.tells g.goes.used_is full)
  by_room false fits absent = inserts settings now one others cache h g absent

  by_count : (b : Bool) → eqb cache.inserted last_count ≡ b → live_entry one.request cache.entries ≡ None
      → GoesPast (room_of settings) others h (tried_by (cond b (Some (Spent last_count)) (room_cause (room_of settings) (new_entry settings now one cache) cache)) (new_entry settings now one cache) cache)
  by_count true last absent = refuses (room_of settings) one others cache h cache.add_failed g (no_count (room_of settings) one.request cache h g.goes.tells last)
  by_count false more absent = by_room (ltb (room_of settings - cache.used) (entry_words (new_entry settings now one cache).entry)) refl absent

  by_live : (o : Option Kept) → live_entry one.request cache.entries ≡ o → GoesPast (room_of settings) others h (tried_by (or_later (present_cause o) (count_cause (room_of settings) (new_entry settings now one cache) cache)) (new_entry settings now one cache) cache)
  by_live (Some k) lives = refuses (room_of settings) one others cache h cache.add_failed g (lives_again (room_of settings) one.request cache h k g.goes.tells lives)
  by_live None absent = by_count (eqb cache.inserted last_count) refl absent

  by_epoch : (b : Bool) → ltb cache.epoch cache.epoch ≡ b
      → GoesPast (room_of settings) others h (tried_by (or_later (cond b (Some (Discarded cache.epoch cache.epoch)) (present_cause (live_entry one.request cache.entries))) (count_cause (room_of settings) (new_entry settings now one cache) cache)) (new_entry settings now one cache) cache)
  by_epoch true low = let less = ltb-true cache.epoch cache.epoch low in absurd (omega arith)
  by_epoch false same = by_live (live_entry one.request cache.entries) refl

  by_size : (b : Bool) → ltb kept_limit (length (answer_of cache.sources one.request).bytes) ≡ b
      → GoesPast (room_of settings) others h (tried_by (cond b (Some (TooLarge (length (answer_of cache.sources one.request).bytes))) (or_later (overtaken cache.epoch one.request cache) (count_cause (room_of settings) (new_entry settings now one cache) cache))) (new_entry settings now one cache) cache)
  by_size true long = refuses (room_of settings) one others cache h cache.add_failed g (too_long (room_of settings) one.request cache h g.goes.tells long)
  by_size false short = by_epoch (ltb cache.epoch cache.epoch) refl

-- insertions are tried, one after the other
goes_tried_all : (settings : DbConf) (now : ℕ) (all : List Candidate) (cache : Cache) (h : List Record) → GoesOn (room_of settings) all cache h → Goes (room_of settings) [] (tried_all settings now all cache).cache ((tried_all settings now all cache).adds ++ h)
goes_tried_all settings now [] cache h g = g.goes
goes_tried_all settings now (one ∷ others) cache h g =
    let first = tried settings now one cache in
    let rest = tried_all settings now others first.cache in
    subst (Goes (room_of settings) [] rest.cache) (sym (append_assoc rest.adds first.adds h)) (goes_tried_all settings now others first.cache (first.adds ++ h) (goes_tried settings now one others cache h g))

-- ---- prunings

-- what ends to be loaded again waits
ends_wait : (limit : Option ℕ) (now arena : ℕ) (all : List Candidate) (ks : List Kept) (h : List Record) → ((e : Entry) → HasEntry (entries_of ks) e → load_of h e.number ≡ Some e) → ((r : Request) → Waits (map candidate_again (reloaded_of limit ks)) r → Waits all r) → AreLoadedBut arena (Waits all) h
    → AreLoadedBut arena (Waits all) (ends_of (due_cause limit now) ks h)
ends_wait limit now arena all [] h are those l = l
ends_wait limit now arena all (k ∷ ks) h are those l = by_drop (is_dropped limit k) those (λ cause. ends_wait limit now arena all ks (End k.entry.number cause ∷ h) (λ e a. are e (inr a))) where
  by_drop : (b : Bool) → ((r : Request) → Waits (map candidate_again (cond (not b) (k ∷ reloaded_of limit ks) (reloaded_of limit ks))) r → Waits all r)
      → ((cause : Ending) → ((r : Request) → Waits (map candidate_again (reloaded_of limit ks)) r → Waits all r) → AreLoadedBut arena (Waits all) (End k.entry.number cause ∷ h) → AreLoadedBut arena (Waits all) (ends_of (due_cause limit now) ks (End k.entry.number cause ∷ h)))
      → AreLoadedBut arena (Waits all) (ends_of (due_cause limit now) ks (End k.entry.number (cond b (Expired now) Replaced) ∷ h))
  by_drop true wait rest = rest (Expired now) wait (but_more arena (Waits all) (End k.entry.number (Expired now)) h tt l)
  by_drop false wait rest = rest Replaced (λ r w. wait r (inr w)) (but_ended arena (Waits all) k.entry h (are k.entry (inl refl)) (wait k.entry.request (inl refl)) l)

goes_pruned : (limit : Option ℕ) (settings : DbConf) (now : ℕ) (cache : Cache) (h : List Record) → GoesOn (room_of settings) [] cache h → PassesThen (Goes (room_of settings) []) (Stays (room_of settings)) h (pruned settings limit now cache)
goes_pruned limit settings now cache h g =
    let arena = room_of settings in
    let due = due_of now cache.entries in
    let ends = due_ended limit now cache in
    let all = map candidate_again (reloaded_of limit due) in
    let t = g.goes.tells in
    let seen : ends_of (due_cause limit now) due h ≡ ends.adds ++ h = sym (ends_after (due_cause limit now) due [] h) in
    let told = subst (λ (l : List Record). Tells l ends.cache) seen (pruned_tells limit now h cache t) in
    let was = subst (λ (l : List Record). WasPolled l cache.newest_version) seen (polled_ends (due_cause limit now) due h cache.newest_version g.was) in
    let wider = but_wider arena (Waits []) (Waits all) h (λ r none. absurd none) g.goes.again in
    let again = subst (AreLoadedBut arena (Waits all)) seen (ends_wait limit now arena all due h (λ e a. load_of_is h e t.legal (due_live now cache.entries h t.entries_are e a).inserted) (λ r w. w) wider) in
    let parts = sum_by-filter_both (is_due now) (λ (k : Kept). not (is_due now k)) (λ k. refl) (λ (k : Kept). entry_words k.entry) cache.entries in
    passes_after (Goes arena []) (Stays arena) ends.adds h (compacted_after due ends.cache >>= λ after. Ok (reloaded settings now (reloaded_of limit due) after))
    (passes_then (GoesOn arena all) (Goes arena []) (Stays arena) (ends.adds ++ h) (compacted_after due ends.cache) (λ after. Ok (reloaded settings now (reloaded_of limit due) after))
    (packs (GoesOn arena all) arena due ends.cache (ends.adds ++ h) (g.goes.used_is ∙ sym parts)
    (λ used cycle is. record { goes = record { tells = retells (ends.adds ++ h) ends.cache ends.cache.entries used cycle cache.add_failed refl told; used_is = is; again = again }; was = was }))
    (λ c l a. goes_tried_all settings now all c l a))

-- ---- events

pub goes_ticked : (limit : Option ℕ) (settings : DbConf) (now : ℕ) (files : Content) (ticked : ℕ) (cache : Cache) (h : List Record) → Goes (room_of settings) [] cache h → PassesThen (Goes (room_of settings) []) (Stays (room_of settings)) h (tick settings limit now files ticked cache)
unfolding tick
goes_ticked limit settings now files ticked cache h g = by_enabled settings.enabled where
  by_checks : (c : Cache) (l : List Record) → GoesOn (room_of settings) [] c l → (b : Bool) → PassesThen (Goes (room_of settings) []) (Stays (room_of settings)) l (cond b (invalidated c) (pruned settings limit now c))
  by_checks c l a true = goes_invalidated (room_of settings) c l a.goes
  by_checks c l a false = goes_pruned limit settings now c l a

  by_enabled : (b : Bool) → PassesThen (Goes (room_of settings) []) (Stays (room_of settings)) h (cond b (polled files cache >>= checked settings limit now ticked) (Ok (unchanged cache)))
  by_enabled true = passes_then (GoesOn (room_of settings) []) (Goes (room_of settings) []) (Stays (room_of settings)) h (polled files cache) (checked settings limit now ticked) (goes_polled (room_of settings) files cache h g) (λ c l a. by_checks c l a (is_outdated settings c.newest_version ticked))
  by_enabled false = g

goes_with : (settings : DbConf) (now : ℕ) (request : Request) (c : Cache) (h : List Record) → GoesOn (room_of settings) [] c h → Goes (room_of settings) [] (tried_with settings now request c).cache ((tried_with settings now request c).adds ++ h)
goes_with settings now request c h g =
    by_cause (refusal (room_of settings) c.epoch (new_entry settings now (record { request = request; reloads = 0 }) c).entry c) (λ others. goes_tried settings now (record { request = request; reloads = 0 }) others c h (wider others)) where
      wider : (others : List Candidate) → GoesOn (room_of settings) (record { request = request; reloads = 0 } ∷ others) c h
      wider others =
          record { goes = record { tells = g.goes.tells; used_is = g.goes.used_is; again = but_wider (room_of settings) (Waits []) (Waits (record { request = request; reloads = 0 } ∷ others)) h (λ r none. absurd none) g.goes.again }; was = g.was }

      by_cause : (o : Option Refusal) → ((others : List Candidate) → GoesPast (room_of settings) others h (tried_by o (new_entry settings now (record { request = request; reloads = 0 }) c) c))
          → let p = made_then o (tried_by o (new_entry settings now (record { request = request; reloads = 0 }) c) c) (tried_all settings now (candidates_beside settings (request_beside c.sources request))) in Goes (room_of settings) [] p.cache (p.adds ++ h)
      by_cause None first =
          let done = tried_by None (new_entry settings now (record { request = request; reloads = 0 }) c) c in
          let all = candidates_beside settings (request_beside c.sources request) in
          let rest = tried_all settings now all done.cache in
          subst (Goes (room_of settings) [] rest.cache) (sym (append_assoc rest.adds done.adds h)) (goes_tried_all settings now all done.cache (done.adds ++ h) (first all))
      by_cause (Some cause) first = (first []).goes

pub goes_looked : (settings : DbConf) (now : ℕ) (files : Content) (request : Request) (cache : Cache) (h : List Record) → Goes (room_of settings) [] cache h → TurnsThen (Goes (room_of settings) []) (Stays (room_of settings)) h (lookup settings now files request cache)
unfolding lookup
goes_looked settings now files request cache h g = by_entry (cached settings request cache) where
  by_kept : (c : Cache) (l : List Record) → GoesOn (room_of settings) [] c l → (b : Bool) → let after : Passed = cond b (tried_with settings now request c) (unchanged c) in Goes (room_of settings) [] after.cache (after.adds ++ l)
  by_kept c l a true = goes_with settings now request c l a
  by_kept c l a false = a.goes

  by_poll : (r : Result Passed Stopped) → PassesThen (GoesOn (room_of settings) []) (Stays (room_of settings)) h r → TurnsThen (Goes (room_of settings) []) (Stays (room_of settings)) h (loaded settings now request r)
  by_poll (Ok poll) p = subst (Goes (room_of settings) [] (kept_answer settings now request poll.cache).cache) (sym (append_assoc (kept_answer settings now request poll.cache).adds poll.adds h)) (by_kept poll.cache (poll.adds ++ h) p settings.enabled)
  by_poll (Err stop) p = p

  by_entry : (o : Option Kept) → TurnsThen (Goes (room_of settings) []) (Stays (room_of settings)) h (hit_or_load o settings now files request cache)
  by_entry (Some k) = record {
    tells = retells h cache (used_now request cache.entries) cache.used cache.cycle cache.add_failed (used_entries request cache.entries) g.tells;
    used_is = g.used_is ∙ sym (words_used request cache.entries);
    again = g.again;
  }
  by_entry None = by_poll (polled files cache) (goes_polled (room_of settings) files cache h g)
