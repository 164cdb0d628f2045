-- Turns of one caller, who has a writer to himself, are the machine's events.
use Rattle.std.proofs.Common.{◌≡◌, ℕ, zero, suc, ◌+◌, All, inl, inr, arith, Bool, true, false, cond, not, ltb, List, [], ◌∷◌, ◌++◌, append_assoc, map, Option, Some, None, Result, Ok, Err, refl, sym, ap, subst, ◌∙◌}
use Rattle.nsc_model.specs.declared.answer.Request.{Request}
use Rattle.nsc_model.specs.declared.conf.DbConf.{DbConf}
use Rattle.nsc_model.specs.declared.record.Record.{Record}
use Rattle.nsc_model.specs.Answers.{answer_of, request_beside}
use Rattle.nsc_model.specs.Content.{Content}
use Rattle.nsc_model.specs.Machine.{◌>>=◌, Cache, Candidate, Kept, Passed, Refusal, Stopped, candidate_again, candidates_beside, candidates_of, checked, compacted_after, due_ended, due_of, invalidated, is_dropped, kept_answer, polled, is_outdated, all_words, last_count, stopped, tick, life_of, new_entry, pruned, refusal, reloaded, reloaded_of, room_of, made_then, tried, tried_all, tried_by, tried_with, unchanged, is_due, next_count}
use Rattle.std.specs.Prelude.{IfSome}
use Rattle.std.proofs.lemmas.Bool.{ltb-true}
use Rattle.nsc_model.specs.Entry.{Entry}
use Rattle.nsc_model.specs.History.{IsLive, PolledSince, version_in}
use Rattle.nsc_model.specs.Live.{HasEntry}
use Rattle.nsc_laws.specs.Calls.{Tells, entries_of}
use Rattle.nsc_pruner.specs.Due.{Due, IsOver, due_from, marked_by, pruned_by}
use Rattle.nsc_writer.specs.declared.loaded.Inserted.{Inserted}
use Rattle.nsc_writer.specs.declared.loaded.Inserted.TheVariants as inserted
use Rattle.nsc_writer.specs.Loaded.{Loaded, kept_of}
use Rattle.nsc_writer.specs.Writer.{Inserts, IsAnswered, IsRefused, Writer, passed_by, refusal_of}
use Rattle.nsc_turns.specs.declared.answering.Answering.{Answering}
use Rattle.nsc_turns.specs.Loads.{anew_of, beside_of, loaded_id, loaded_of}
use Rattle.nsc_turns.specs.Ticks.{Reloads, ReloadsOne, Renews, compacted_for, ended_of}
use Rattle.nsc_turns.specs.Turns.{Completes, InsertsBeside, Stops, missed, tried_on}
use Rattle.nsc_turns.proofs.Events.{inserts_tried, completes_after, completes_then, stops_after, stops_first}
use Rattle.nsc_turns.proofs.Pruned.{due_end, gone_from}

-- what is answered is over the newest version, polled since the last invalidation, and the words are those of the settings
pub record IsAlone (a : Answering) (files : Content) (w : Writer) : Type 0 where
  pub room : w.layout.arena ≡ room_of a.settings
  pub version : a.stamp.version ≡ w.cache.newest_version
  pub epoch : a.stamp.epoch ≡ w.cache.epoch
  pub sources : w.cache.sources ≡ files

-- ---- insertions

alone_tried : (a : Answering) (files : Content) (w : Writer) (refused : Option Refusal) (k : Kept) → IsAlone a files w → IsAlone a files (passed_by (tried_by refused k w.cache) w)
alone_tried a files w None k s = record { room = s.room; version = s.version; epoch = s.epoch; sources = s.sources }
alone_tried a files w (Some (Refusal.TooLarge size)) k s = record { room = s.room; version = s.version; epoch = s.epoch; sources = s.sources }
alone_tried a files w (Some _) k s = record { room = s.room; version = s.version; epoch = s.epoch; sources = s.sources }

-- what was answered is the machine's entry
kept_is : (a : Answering) (files : Content) (request : Request) (reloads : ℕ) (w : Writer) → IsAlone a files w → kept_of (loaded_of a files request reloads) w.cache.inserted ≡ new_entry a.settings a.moment (record { request = request; reloads = reloads }) w.cache
kept_is a files request reloads w s =
    λ i. let answer = answer_of (sym s.sources i) request in record { entry = record { number = w.cache.inserted; request = request; version = s.version i; answer = answer; timeout = a.moment + life_of a.settings answer }; reloads = reloads }

pub tried_is : (a : Answering) (files : Content) (request : Request) (reloads : ℕ) (w : Writer) → IsAlone a files w → tried_on (loaded_of a files request reloads) w ≡ passed_by (tried a.settings a.moment (record { request = request; reloads = reloads }) w.cache) w
tried_is a files request reloads w s =
    λ i. let k = kept_is a files request reloads w s i in passed_by (tried_by (refusal (s.room i) (s.epoch i) k.entry w.cache) k w.cache) w

-- ---- what is loaded again

-- one after the other
first_then : (first : Passed) (settings : DbConf) (moment : ℕ) (others : List Candidate) (w mid after : Writer) → mid ≡ passed_by first w → after ≡ passed_by (tried_all settings moment others mid.cache) mid
    → after ≡ record w { cache = (tried_all settings moment others first.cache).cache; seen = ((tried_all settings moment others first.cache).adds ++ first.adds) ++ w.seen }
first_then first settings moment others w mid after is rest =
    rest ∙ ap (λ (x : Writer). passed_by (tried_all settings moment others x.cache) x) is
    ∙ ap (λ (h : List Record). record w { cache = (tried_all settings moment others first.cache).cache; seen = h }) (sym (append_assoc (tried_all settings moment others first.cache).adds first.adds w.seen))

pub reloads_tried : (a : Answering) (files : Content) (limit : Option ℕ) (ks : List Kept) (w w' : Writer) → IsAlone a files w → Reloads (map (gone_from limit) ks) (map (anew_of a files) (map (due_from limit) ks)) w w' → w' ≡ passed_by (reloaded a.settings a.moment (reloaded_of limit ks) w.cache) w
reloads_tried a files limit [] w w' s r = r
reloads_tried a files limit (k ∷ ks) w w' s r = by_drop (is_dropped limit k) (λ mid alone rest. reloads_tried a files limit ks mid w' alone rest) r.1 r.2 where
  Rest : Writer → Type 0
  Rest mid = Reloads (map (gone_from limit) ks) (map (anew_of a files) (map (due_from limit) ks)) mid w'

  by_drop : (b : Bool) → ((mid : Writer) → IsAlone a files mid → Rest mid → w' ≡ passed_by (reloaded a.settings a.moment (reloaded_of limit ks) mid.cache) mid) → ReloadsOne (gone_from limit k) (cond b None (Some (loaded_of a files k.entry.request (candidate_again k).reloads))) w r.0 → Rest r.0
      → w' ≡ passed_by (tried_all a.settings a.moment (map candidate_again (cond (not b) (k ∷ reloaded_of limit ks) (reloaded_of limit ks))) w.cache) w
  by_drop true others same rest = others w s (subst Rest same rest)
  by_drop false others one rest =
      let l : Loaded = loaded_of a files k.entry.request (candidate_again k).reloads in
      let on = inserts_tried one.0.0 l w r.0 one.0.1 in
      let alone = subst (IsAlone a files) (sym on) (alone_tried a files w (refusal_of w l) (kept_of l w.cache.inserted) s) in
      first_then (tried a.settings a.moment (candidate_again k) w.cache) a.settings a.moment (map candidate_again (reloaded_of limit ks)) w r.0 w' (on ∙ tried_is a files k.entry.request (candidate_again k).reloads w s) (others r.0 alone rest)

-- ---- prunings

ended_as : (limit : Option ℕ) (ks : List Kept) (cache : Cache) → compacted_for (ended_of (map (gone_from limit) ks)) cache ≡ compacted_after ks cache
ended_as limit [] cache = refl
ended_as limit (k ∷ ks) cache = refl

-- the compaction of the ends is the machine's
swept_as : (limit : Option ℕ) (now : ℕ) (w : Writer) (P : Result Passed Stopped → Writer → Type 0) → Tells w.seen w.cache
    → P (compacted_for (ended_of (marked_by now (map (due_from limit) (due_of now w.cache.entries)) w)) (pruned_by now (map (due_from limit) (due_of now w.cache.entries)) w).cache) (pruned_by now (map (due_from limit) (due_of now w.cache.entries)) w)
    → P (compacted_after (due_of now w.cache.entries) (due_ended limit now w.cache).cache) (passed_by (due_ended limit now w.cache) w)
swept_as limit now w P t p =
    let e = due_end limit now w t.entries_are.rising in
    let r : compacted_for (ended_of (map (gone_from limit) (due_of now w.cache.entries))) (due_ended limit now w.cache).cache ≡ compacted_after (due_of now w.cache.entries) (due_ended limit now w.cache).cache = ended_as limit (due_of now w.cache.entries) (due_ended limit now w.cache).cache in
    subst (λ (x : Result Passed Stopped). P x (passed_by (due_ended limit now w.cache) w)) r
    (subst (λ (x : List Due × Writer). P (compacted_for (ended_of x.0) x.1.cache) x.1) (λ i. (e.marked i, e.pruned i)) p)

-- ends and a compaction leave what is newest
alone_swept : (a : Answering) (files : Content) (limit : Option ℕ) (now : ℕ) (ks : List Kept) (w swept : Writer) → IsAlone a files w → Completes (compacted_after ks (due_ended limit now w.cache).cache) (passed_by (due_ended limit now w.cache) w) swept → IsAlone a files swept
alone_swept a files limit now [] w swept s p = subst (IsAlone a files) (sym p) (record { room = s.room; version = s.version; epoch = s.epoch; sources = s.sources })
alone_swept a files limit now (k ∷ ks) w swept s p = by_cycle (ltb w.cache.cycle last_count) p where
  ends : Cache
  ends = (due_ended limit now w.cache).cache

  by_cycle : (b : Bool) → Completes (cond b (Ok (unchanged (record ends { cycle = ends.cycle + 2; used = all_words ends.entries }))) (Err (stopped ends))) (passed_by (due_ended limit now w.cache) w) swept → IsAlone a files swept
  by_cycle true q = subst (IsAlone a files) (sym q) (record { room = s.room; version = s.version; epoch = s.epoch; sources = s.sources })
  by_cycle false q = absurd q

pub renews_pruned : (a : Answering) (files : Content) (limit : Option ℕ) (w w' : Writer) → Tells w.seen w.cache → IsAlone a files w → Renews a.moment (map (due_from limit) (due_of a.moment w.cache.entries)) (map (anew_of a files) (map (due_from limit) (due_of a.moment w.cache.entries))) w w' → Completes (pruned a.settings limit a.moment w.cache) w w'
renews_pruned a files limit w w' t s r =
    let ends = due_ended limit a.moment w.cache in
    let due = due_of a.moment w.cache.entries in
    let swept : Writer = r.0 in
    let sweeps = swept_as limit a.moment w (λ (result : Result Passed Stopped) (e : Writer). Completes result e swept) t r.1 in
    let reloads = subst (λ (marked : List Due). Reloads marked (map (anew_of a files) (map (due_from limit) due)) swept w') (due_end limit a.moment w t.entries_are.rising).marked r.2 in
    let last = reloads_tried a files limit due swept w' (alone_swept a files limit a.moment due w swept s sweeps) reloads in
    completes_after _ ends w (passed_by ends w) w' refl (completes_then (compacted_after due ends.cache) (λ after. Ok (reloaded a.settings a.moment (reloaded_of limit due) after)) (passed_by ends w) swept w' sweeps last)

pub renewal_stops : (a : Answering) (limit : Option ℕ) (count : ℕ) (w w' : Writer) → Tells w.seen w.cache
    → Stops (compacted_for (ended_of (marked_by a.moment (map (due_from limit) (due_of a.moment w.cache.entries)) w)) (pruned_by a.moment (map (due_from limit) (due_of a.moment w.cache.entries)) w).cache) count (pruned_by a.moment (map (due_from limit) (due_of a.moment w.cache.entries)) w) w'
    → Stops (pruned a.settings limit a.moment w.cache) count w w'
renewal_stops a limit count w w' t s =
    let ends = due_ended limit a.moment w.cache in
    let due = due_of a.moment w.cache.entries in
    let stop = swept_as limit a.moment w (λ (result : Result Passed Stopped) (e : Writer). Stops result count e w') t s in
    stops_after _ ends count w (passed_by ends w) w' refl (stops_first (compacted_after due ends.cache) (λ after. Ok (reloaded a.settings a.moment (reloaded_of limit due) after)) count (passed_by ends w) w' stop)

-- ---- what a tick does after its poll

pub outdated_checks : (P : Result Passed Stopped → Type 0) (settings : DbConf) (limit : Option ℕ) (now ticked : ℕ) (cache : Cache) → is_outdated settings cache.newest_version ticked ≡ true → P (invalidated cache) → P (checked settings limit now ticked cache)
outdated_checks P settings limit now ticked cache on p = subst P (sym (ap (λ (b : Bool). cond b (invalidated cache) (pruned settings limit now cache)) on)) p

pub current_checks : (P : Result Passed Stopped → Type 0) (settings : DbConf) (limit : Option ℕ) (now ticked : ℕ) (cache : Cache) → is_outdated settings cache.newest_version ticked ≡ false → P (pruned settings limit now cache) → P (checked settings limit now ticked cache)
current_checks P settings limit now ticked cache off p = subst P (sym (ap (λ (b : Bool). cond b (invalidated cache) (pruned settings limit now cache)) off)) p

-- a whole tick of a database that is cached, and of one that is not
pub tick_on : (P : Result Passed Stopped → Type 0) (settings : DbConf) (limit : Option ℕ) (now : ℕ) (files : Content) (ticked : ℕ) (cache : Cache) → settings.enabled ≡ true → P (polled files cache >>= checked settings limit now ticked) → P (tick settings limit now files ticked cache)
unfolding tick
tick_on P settings limit now files ticked cache on p = subst P (sym (ap (λ (b : Bool). cond b (polled files cache >>= checked settings limit now ticked) (Ok (unchanged cache))) on)) p

pub tick_off : (settings : DbConf) (limit : Option ℕ) (now : ℕ) (files : Content) (ticked : ℕ) (cache : Cache) → settings.enabled ≡ false → tick settings limit now files ticked cache ≡ Ok (unchanged cache)
unfolding tick
tick_off settings limit now files ticked cache off = ap (λ (b : Bool). cond b (polled files cache >>= checked settings limit now ticked) (Ok (unchanged cache))) off

-- ---- the insertion of a lookup

-- what goes beside an answer was inserted or refused
abbrev TriesBeside : Option Loaded → Writer → Writer → Type 0
TriesBeside None before after = after ≡ before
TriesBeside (Some l) before after = (said : Inserted) × Inserts said l before after × IsRefused said l before

tries_beside : (number : ℕ) (o : Option Loaded) (w w' : Writer) → InsertsBeside (inserted.Done number) o w w' → TriesBeside o w w'
tries_beside number None w w' b = b
tries_beside number (Some l) w w' b = b

-- it is the machine's
beside_tried : (a : Answering) (files : Content) (id : Option Request) (w w' : Writer) → IsAlone a files w → TriesBeside (cond a.settings.propagate (loaded_id a files id) None) w w' → w' ≡ passed_by (tried_all a.settings a.moment (candidates_beside a.settings id) w.cache) w
beside_tried a files None w w' s = elim a.settings.propagate as (λ v. TriesBeside (cond v None None) w w' → w' ≡ w) [ true ↦ (λ is. is) | false ↦ (λ is. is) ]
beside_tried a files (Some id) w w' s = by_test a.settings.propagate where
  by_test : (b : Bool) → TriesBeside (cond b (Some (loaded_of a files id 0)) None) w w' → w' ≡ passed_by (tried_all a.settings a.moment (cond b (candidates_of id) []) w.cache) w
  by_test true (said, i, why) = inserts_tried said (loaded_of a files id 0) w w' i ∙ tried_is a files id 0 w s
  by_test false is = is

-- the insertion of a lookup, and of what goes beside its answer
pub kept_by_insert : (a : Answering) (files : Content) (request : Request) (said : Inserted) (l : Loaded) (w w1 w' : Writer) → a.settings.enabled ≡ true → IsAlone a files w → l ≡ loaded_of a files request 0
    → Inserts said l (missed l w) w1 → InsertsBeside said (beside_of a files request) w1 w' → w' ≡ missed (loaded_of a files request 0) (passed_by (kept_answer a.settings a.moment request w.cache) w)
kept_by_insert a files request said l w w1 w' on s is i b =
    by_said said inserts b
    ∙ ap (λ (f : Content). passed_by (made_then refused first (tried_all a.settings a.moment (candidates_beside a.settings (request_beside f request)))) w0) (sym s.sources)
    ∙ sym (ap (λ (b : Bool). missed answered (passed_by (cond b (tried_with a.settings a.moment request w.cache) (unchanged w.cache)) w)) on) where
      answered : Loaded
      answered = loaded_of a files request 0

      w0 : Writer
      w0 = missed answered w

      alone : IsAlone a files w0
      alone = record { room = s.room; version = s.version; epoch = s.epoch; sources = s.sources }

      inserts : Inserts said answered w0 w1
      inserts = subst (λ (x : Loaded). Inserts said x (missed x w) w1) is i

      one : Candidate
      one = record { request = request; reloads = 0 }

      first : Passed
      first = tried a.settings a.moment one w.cache

      refused : Option Refusal
      refused = refusal (room_of a.settings) w.cache.epoch (new_entry a.settings a.moment one w.cache).entry w.cache

      refused_is : refusal_of w0 answered ≡ refused
      refused_is = λ i. refusal (s.room i) (s.epoch i) (kept_is a files request 0 w s i).entry w.cache

      next : Cache → Passed
      next = tried_all a.settings a.moment (candidates_beside a.settings (request_beside files request))

      tries : (said : Inserted) → Inserts said answered w0 w1 → w1 ≡ passed_by first w0
      tries said i = inserts_tried said answered w0 w1 i ∙ tried_is a files request 0 w0 alone

      not_made : (said : Inserted) (cause : Refusal) → Inserts said answered w0 w1 → refusal_of w0 answered ≡ Some cause → w' ≡ w1 → w' ≡ passed_by (made_then refused first next) w0
      not_made said cause i why same = same ∙ tries said i ∙ ap (λ (r : Option Refusal). passed_by (made_then r first next) w0) (sym why ∙ refused_is)

      by_said : (said : Inserted) → Inserts said answered w0 w1 → InsertsBeside said (beside_of a files request) w1 w' → w' ≡ passed_by (made_then refused first next) w0
      by_said (inserted.Done number) i b =
          let alone1 = subst (IsAlone a files) (sym (inserts_tried (inserted.Done number) answered w0 w1 i)) (alone_tried a files w0 (refusal_of w0 answered) (kept_of answered w.cache.inserted) alone) in
          first_then first a.settings a.moment (candidates_beside a.settings (request_beside files request)) w0 w1 w' (tries (inserted.Done number) i) (beside_tried a files (request_beside files request) w1 w' alone1 (tries_beside number (beside_of a files request) w1 w' b))
          ∙ ap (λ (r : Option Refusal). passed_by (made_then r first next) w0) (sym i.0 ∙ refused_is)
      by_said (inserted.TooLarge size) i b = not_made (inserted.TooLarge size) _ i i.0 b
      by_said (inserted.Discarded noted epoch) i b = not_made (inserted.Discarded noted epoch) _ i i.0 b
      by_said (inserted.Present number) i b = not_made (inserted.Present number) _ i i.0 b
      by_said (inserted.Spent count) i b = not_made (inserted.Spent count) _ i i.0 b
      by_said (inserted.Full need free) i b = not_made (inserted.Full need free) _ i i.0 b

-- ---- what is due, and what is answered for it

all_cons : {A : Type 0} (P : A → Type 0) (x : A) (xs : List A) → P x → All P xs → All P (x ∷ xs)
all_cons P x xs first rest zero d low = first
all_cons P x xs first rest (suc i) d low = rest i d (omega arith)

pub all_over : (limit : Option ℕ) (now : ℕ) (h : List Record) (ks : List Kept) → ((e : Entry) → HasEntry (entries_of ks) e → IsLive h e) → All (IsOver h now) (map (due_from limit) (due_of now ks))
all_over limit now h [] live = λ i d low. absurd (omega arith)
all_over limit now h (k ∷ ks) live = by_test (is_due now k) refl (all_over limit now h ks (λ e a. live e (inr a))) where
  by_test : (b : Bool) → is_due now k ≡ b → All (IsOver h now) (map (due_from limit) (due_of now ks)) → All (IsOver h now) (map (due_from limit) (cond b (k ∷ due_of now ks) (due_of now ks)))
  by_test true over rest = all_cons (IsOver h now) (due_from limit k) (map (due_from limit) (due_of now ks)) (k.entry, (live k.entry (inl refl)).inserted, refl, ltb-true k.entry.timeout now over) rest
  by_test false later rest = rest

pub all_answered : (a : Answering) (files : Content) (h : List Record) (due : List Due) → version_in h a.stamp.version ≡ Some files → PolledSince h a.stamp.version a.stamp.epoch → All (λ load. IfSome load (IsAnswered h)) (map (anew_of a files) due)
all_answered a files h [] version since = λ i o low. absurd (omega arith)
all_answered a files h (d ∷ due) version since = all_cons (λ load. IfSome load (IsAnswered h)) (anew_of a files d) (map (anew_of a files) due) (by_drop d.dropped) (all_answered a files h due version since) where
  by_drop : (b : Bool) → IfSome (cond b None (Some (loaded_of a files d.request (next_count d.reloads)))) (IsAnswered h)
  by_drop true = tt
  by_drop false = record { files = files; version = version; answer = refl; polled = since }
