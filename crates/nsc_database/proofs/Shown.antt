-- What holds of the writer's lock show.
use Rattle.std.proofs.Common.{◌≡◌, ◌∙◌, ℕ, suc, ◌+◌, ◌/◌, ◌^◌, ◌<◌, ◌≤◌, ◌⊎◌, Bool, true, false, cond, eqb, ltb, List, [], ◌∷◌, ◌++◌, length, length-append, max, Option, Some, None, Result, Ok, Err, refl, sym, ap, subst, arith, inl, inr}
use Rattle.std.specs.Prelude.{IfErr, IfOk}
use Rattle.std.proofs.Math.Nat.{le-max_right}
use Rattle.std.proofs.lemmas.Bool.{eqb-true, ltb-false, ltb-true}
use Rattle.std.proofs.lemmas.List.Sums.{sum_by-cons}
use Rattle.nsc_model.specs.declared.answer.Request.{Request}
use Rattle.nsc_model.specs.declared.record.Record.{Record}
use Rattle.nsc_model.specs.declared.record.Record.TheVariants.{Change, Poll, Load, End, Invalid}
use Rattle.nsc_model.specs.declared.record.Ending.TheVariants.{Invalidated}
use Rattle.nsc_model.specs.declared.store.Spent.{Spent as SpentCount}
use Rattle.nsc_model.specs.declared.store.Stats.{Stats}
use Rattle.nsc_base.specs.Nodes.{node_words}
use Rattle.nsc_model.specs.Kinds.{is_request}
use Rattle.nsc_model.specs.Growth.{IsArena, arena_after}
use Rattle.nsc_model.specs.Content.{Content}
use Rattle.nsc_model.specs.Entry.{Entry}
use Rattle.nsc_model.specs.Files.{same_files}
use Rattle.nsc_model.specs.History.{HasLoad, IsLive, IsPrefix, Legal, LookedBetween, NoneLive, NoneLiveOf, PolledSince, LooksAt, invalidations, loads, version_in}
use Rattle.nsc_model.specs.Machine.{Kept, Cache, all_words, entry_words, last_count, next_count, by_invalidation, ends_of, live_entry, polled}
use Rattle.nsc_model.specs.declared.conf.DbConf.{DbConf}
use Rattle.nsc_model.specs.Stores.{FoundLastCycle, HasNoRoom, IsCounted, IsEmptied, IsFull, IsHit, IsSpent, IsUnmoved, words_of}
use Rattle.nsc_rule.specs.declared.view.Search.{Search}
use Rattle.nsc_rule.specs.Seats.{informed}
use Rattle.nsc_laws.specs.Calls.{Tells, entries_of}
use Rattle.nsc_laws.proofs.Requests.{same_request}
use Rattle.nsc_laws.proofs.MachineLawLists.{found}
use Rattle.nsc_writer.specs.declared.loaded.Inserted.{Inserted}
use Rattle.nsc_writer.specs.declared.loaded.Inserted.TheVariants as inserted
use Rattle.nsc_writer.specs.declared.loaded.Stamp.{Stamp}
use Rattle.nsc_shelf.specs.declared.entry.Hit.{Hit}
use Rattle.nsc_writer.specs.Loaded.{Loaded, kept_of}
use Rattle.nsc_shelf.specs.Shelf.{GivesHit, number_of}
use Rattle.nsc_writer.specs.Writer.{Writer, Inserts, IsNewest, IsRefused, Polls, emptied_by}
use Rattle.nsc_sourcebook.specs.Book.{Fetched, Polled, PollsBook, SourceBook}
use Rattle.nsc_sourcebook.proofs.Newest.{newest_held}
use Rattle.nsc_writer.proofs.Told.{asked_none, invalidations_rise}
use Rattle.nsc_writer.proofs.Later.{prefix_through}
use Rattle.nsc_turns.specs.declared.entries.HitOrMiss.{HitOrMiss}
use Rattle.nsc_turns.specs.declared.entries.HitOrMiss.TheVariants as looked
use Rattle.nsc_turns.specs.Turns.{Looks as LooksUp}
use Rattle.nsc_words.specs.Layout.{table_words}
use Rattle.nsc_growth.specs.Sized.{IsSized}
use Rattle.nsc_growth.proofs.Sized.{sized_arena}
use Rattle.nsc_database.specs.Growing.{IsAboveAll}
use Rattle.nsc_database.specs.Holds.{FindsNoRoom, HasFree, IsInserted, IsInsertedOr, IsKept, IsLooked, IsPolled, LeavesFull, needed_by}
use Rattle.nsc_database.specs.Rests.{IsPacked}

-- ---- a look

hit_is : (a b : Hit) → Some a ≡ Some b → a ≡ b
hit_is a b e = cc

pub live_found : (h : List Record) (cache : Cache) (request : Request) (k : Kept) → Tells h cache → live_entry request cache.entries ≡ Some k → IsLive h k.entry × (k.entry.request ≡ request)
live_found h cache request k t is =
    let f = found (λ (x : Kept). is_request request x.entry.request) cache.entries k is in
    (t.entries_are.live k.entry f.0, sym (same_request request k.entry.request f.1))

looked_hit : (h : List Record) (cache : Cache) (request : Request) (hit : Hit) (reply : List ℕ) → Tells h cache → GivesHit (live_entry request cache.entries) (Some hit) reply → IsHit h request reply hit.number
looked_hit h cache request hit reply t gives = by_entry (live_entry request cache.entries) refl gives where
  by_entry : (o : Option Kept) → live_entry request cache.entries ≡ o → GivesHit o (Some hit) reply → IsHit h request reply hit.number
  by_entry None is g = absurd cc
  by_entry (Some k) is g =
      let f = live_found h cache request k t is in
      record { entry = k.entry; live = f.0; numbered = sym (ap (λ (x : Hit). x.number) (hit_is hit _ g.0)); answers = f.1; said = sym g.1 }

looked_none : (h : List Record) (cache : Cache) (request : Request) (reply : List ℕ) → Tells h cache → GivesHit (live_entry request cache.entries) None reply → NoneLiveOf h request
looked_none h cache request reply t gives = by_entry (live_entry request cache.entries) refl gives where
  by_entry : (o : Option Kept) → live_entry request cache.entries ≡ o → GivesHit o None reply → NoneLiveOf h request
  by_entry None is g = asked_none h cache request t is
  by_entry (Some k) is g = absurd cc

pub is_looked : (r : HitOrMiss) (request : Request) (w w' : Writer) (reply : List ℕ) → Tells w.seen w.cache → LooksUp (live_entry request w.cache.entries) request r w w' reply → IsLooked r w.seen request reply
is_looked (looked.Hit hit) request w w' reply t l = looked_hit w.seen w.cache request hit reply t l.0
is_looked (looked.Missed epoch) request w w' reply t l = (l.1 ∙ sym t.epochs_are, looked_none w.seen w.cache request reply t l.0)

-- ---- CYCLE

-- a pass that was shown CYCLE as 2^62 finds it there, and keeps that as it is shown the history again
pub found_last : (s0 s1 s2 s3 : Search) (cycle cycle' : ℕ) → s1 ≡ informed s0 cycle → s2.searches ≡ s1.searches + 1 → s1.known ≤ s2.last → s2.last ≤ last_count → s3 ≡ informed s2 cycle' → last_count ≤ cycle → FoundLastCycle s0.searches s3.searches s3.last
found_last s0 s1 s2 s3 cycle cycle' first more low most after high =
    let begun : s1.searches ≡ s0.searches = ap (λ (s : Search). s.searches) first in
    let known : s1.known ≡ max s0.known cycle = ap (λ (s : Search). s.known) first in
    let ended : s3.searches ≡ s2.searches = ap (λ (s : Search). s.searches) after in
    let found : s3.last ≡ s2.last = ap (λ (s : Search). s.last) after in
    let rise = le-max_right s0.known cycle in
    (omega arith, omega arith)

-- ---- a poll

-- the writer before a call, and after it
pub record GoesOn (w w' : Writer) : Type 0 where
  pub on : IsPrefix w.seen w'.seen
  pub table : w'.table ≡ w.table
  pub layout : w'.layout ≡ w.layout
  pub slide : w'.slide ≡ w.slide

same_writer : (w w' : Writer) → w' ≡ w → GoesOn w w'
same_writer w w' is = subst (GoesOn w) (sym is) (record { on = ([], refl); table = refl; layout = refl; slide = refl })

-- the newest record after a poll looked at this version
pub record Looks (w w' : Writer) (version : ℕ) : Type 0 where
  pub goes : GoesOn w w'
  pub longer : length w.seen < length w'.seen
  pub looks : LooksAt w'.seen version

one_more : (r : Record) (cache : Cache) (w w' : Writer) (version : ℕ) → w' ≡ record w { cache = cache; seen = r ∷ w.seen } → LooksAt (r ∷ w.seen) version → Looks w w' version
one_more r cache w w' version is looks = subst (λ (x : Writer). Looks w x version) (sym is) (record { goes = record { on = (r ∷ [], refl); table = refl; layout = refl; slide = refl }; longer = omega arith; looks = looks })

polls_looks : (files : Content) (epoch : ℕ) (w w' : Writer) (stamp : Stamp) → Polls (polled files w.cache) epoch w w' (Ok stamp) → Looks w w' stamp.version
polls_looks files epoch w w' stamp p = by_same (same_files files w.cache.sources) p where
  by_count : (b : Bool) → Polls (cond b (Err (record { cache = w.cache; adds = []; count = last_count })) (Ok (record { cache = record w.cache { sources = files; newest_version = w.cache.newest_version + 1 }; adds = Change (w.cache.newest_version + 1) files ∷ [] }))) epoch w w' (Ok stamp)
      → Looks w w' stamp.version
  by_count true q = absurd q
  by_count false q = one_more (Change (w.cache.newest_version + 1) files) (record w.cache { sources = files; newest_version = w.cache.newest_version + 1 }) w w' stamp.version q.1 (sym (ap (λ (s : Stamp). s.version) q.0))

  by_same : (b : Bool) → Polls (cond b (Ok (record { cache = w.cache; adds = Poll w.cache.newest_version ∷ [] })) (cond (eqb w.cache.newest_version last_count) (Err (record { cache = w.cache; adds = []; count = last_count }))
      (Ok (record { cache = record w.cache { sources = files; newest_version = w.cache.newest_version + 1 }; adds = Change (w.cache.newest_version + 1) files ∷ [] })))) epoch w w' (Ok stamp) → Looks w w' stamp.version
  by_same true q = one_more (Poll w.cache.newest_version) w.cache w w' stamp.version q.1 (sym (ap (λ (s : Stamp). s.version) q.0))
  by_same false q = by_count (eqb w.cache.newest_version last_count) q

pub polls_spent : (files : Content) (epoch : ℕ) (w w' : Writer) (spent : SpentCount) → Polls (polled files w.cache) epoch w w' (Err spent) → (spent.count ≡ last_count) × (w.cache.newest_version ≡ last_count) × (w' ≡ w)
polls_spent files epoch w w' spent p = by_same (same_files files w.cache.sources) p where
  by_count : (b : Bool) → eqb w.cache.newest_version last_count ≡ b
      → Polls (cond b (Err (record { cache = w.cache; adds = []; count = last_count })) (Ok (record { cache = record w.cache { sources = files; newest_version = w.cache.newest_version + 1 }; adds = Change (w.cache.newest_version + 1) files ∷ [] }))) epoch w w' (Err spent)
      → (spent.count ≡ last_count) × (w.cache.newest_version ≡ last_count) × (w' ≡ w)
  by_count true e q = (q.0, eqb-true w.cache.newest_version last_count e, q.1)
  by_count false e q = absurd q

  by_same : (b : Bool) → Polls (cond b (Ok (record { cache = w.cache; adds = Poll w.cache.newest_version ∷ [] })) (cond (eqb w.cache.newest_version last_count) (Err (record { cache = w.cache; adds = []; count = last_count }))
      (Ok (record { cache = record w.cache { sources = files; newest_version = w.cache.newest_version + 1 }; adds = Change (w.cache.newest_version + 1) files ∷ [] })))) epoch w w' (Err spent)
      → (spent.count ≡ last_count) × (w.cache.newest_version ≡ last_count) × (w' ≡ w)
  by_same true q = absurd q
  by_same false q = by_count (eqb w.cache.newest_version last_count) refl q

pub prefix_length : (a b : List Record) → IsPrefix a b → length a ≤ length b
prefix_length a b p =
    let both : length (p.0 ++ a) ≡ length p.0 + length a = length-append p.0 a in
    let all : length b ≡ length (p.0 ++ a) = ap (λ (l : List Record). length l) p.1 in
    omega arith

looked_between : (w w' : Writer) (version : ℕ) → Looks w w' version → LookedBetween w.seen w'.seen version
looked_between w w' version l = (w'.seen, ([], refl), l.longer, l.looks)

pub invalidations_on : (a b : List Record) → IsPrefix a b → invalidations a ≤ invalidations b
invalidations_on a b p = let low = invalidations_rise p.0 a in let same : invalidations b ≡ invalidations (p.0 ++ a) = ap invalidations p.1 in omega arith

stamp_epoch : (files : Content) (epoch : ℕ) (w w' : Writer) (stamp : Stamp) → Polls (polled files w.cache) epoch w w' (Ok stamp) → stamp.epoch ≡ epoch
stamp_epoch files epoch w w' stamp p = by_same (same_files files w.cache.sources) p where
  by_count : (b : Bool) → Polls (cond b (Err (record { cache = w.cache; adds = []; count = last_count })) (Ok (record { cache = record w.cache { sources = files; newest_version = w.cache.newest_version + 1 }; adds = Change (w.cache.newest_version + 1) files ∷ [] }))) epoch w w' (Ok stamp)
      → stamp.epoch ≡ epoch
  by_count true q = absurd q
  by_count false q = ap (λ (s : Stamp). s.epoch) q.0

  by_same : (b : Bool) → Polls (cond b (Ok (record { cache = w.cache; adds = Poll w.cache.newest_version ∷ [] })) (cond (eqb w.cache.newest_version last_count) (Err (record { cache = w.cache; adds = []; count = last_count }))
      (Ok (record { cache = record w.cache { sources = files; newest_version = w.cache.newest_version + 1 }; adds = Change (w.cache.newest_version + 1) files ∷ [] })))) epoch w w' (Ok stamp) → stamp.epoch ≡ epoch
  by_same true q = ap (λ (s : Stamp). s.epoch) q.0
  by_same false q = by_count (eqb w.cache.newest_version last_count) q

pub is_polled : (fetched : Fetched) (epoch : ℕ) (b b' : SourceBook) (w w' : Writer) (result : Result Polled SpentCount) → Tells w'.seen w'.cache → PollsBook fetched epoch b b' w w' result → IfOk result (λ p. IsNewest p.content p.stamp.version w'.cache) → IfOk result (λ p. PolledSince w'.seen p.stamp.version p.stamp.epoch)
    → IfOk result (λ p. IsPolled w.seen w'.seen epoch p)
is_polled fetched epoch b b' w w' (Ok p) t q newest since =
    let is = stamp_epoch fetched.content epoch w w' p.stamp q.0 in
    record {
      epoch_is = is;
      version = newest_held w'.seen w'.cache p.content p.stamp.version t newest;
      since = subst (PolledSince w'.seen p.stamp.version) is since;
      newest = t.counted ∙ ap (λ (n : ℕ). n + 1) newest.number;
      looked = looked_between w w' p.stamp.version (polls_looks fetched.content epoch w w' p.stamp q.0);
    }
is_polled fetched epoch b b' w w' (Err spent) t q newest since = tt

-- a pass that had seen less than the writer
pub polled_since : (seen h after : List Record) (epoch : ℕ) (p : Polled) → IsPrefix seen h → IsPolled h after epoch p → IsPolled seen after epoch p
polled_since seen h after epoch p on is = record {
  epoch_is = is.epoch_is;
  version = is.version;
  since = is.since;
  newest = is.newest;
  looked = let low = prefix_length seen h on in let more = is.looked.2 in (is.looked.0, is.looked.1, omega arith, is.looked.3);
}

-- a new version cannot be counted
pub is_spent : (fetched : Fetched) (epoch : ℕ) (b b' : SourceBook) (w w' : Writer) (result : Result Polled SpentCount) → Tells w.seen w.cache → PollsBook fetched epoch b b' w w' result → IfErr result (λ spent. IsSpent w'.seen spent.count)
is_spent fetched epoch b b' w w' (Ok p) t q = tt
is_spent fetched epoch b b' w w' (Err spent) t q =
    let s = polls_spent fetched.content epoch w w' spent q.0 in
    subst (λ (x : Writer). IsSpent x.seen spent.count) (sym s.2) (record { last = s.0; content = w.cache.sources; version = ap (version_in w.seen) (s.0 ∙ sym s.1) ∙ t.held })

pub polls_on : (fetched : Fetched) (epoch : ℕ) (b b' : SourceBook) (w w' : Writer) (result : Result Polled SpentCount) → PollsBook fetched epoch b b' w w' result → GoesOn w w'
polls_on fetched epoch b b' w w' (Ok p) q = (polls_looks fetched.content epoch w w' p.stamp q.0).goes
polls_on fetched epoch b b' w w' (Err spent) q = same_writer w w' (polls_spent fetched.content epoch w w' spent q.0).2

-- ---- an insertion

loads_rise : (more h : List Record) → loads h ≤ loads (more ++ h)
loads_rise [] h = omega arith
loads_rise (Change v c ∷ more) h = loads_rise more h
loads_rise (Poll v ∷ more) h = loads_rise more h
loads_rise (Load e ∷ more) h = let low = loads_rise more h in omega arith
loads_rise (End n cause ∷ more) h = loads_rise more h
loads_rise (Invalid n ∷ more) h = loads_rise more h

pub loads_on : (a b : List Record) → IsPrefix a b → loads a ≤ loads b
loads_on a b p = let low = loads_rise p.0 a in let same : loads b ≡ loads (p.0 ++ a) = ap loads p.1 in omega arith

numbered : (h : List Record) (cache : Cache) (request : Request) (n : ℕ) → Tells h cache → number_of (live_entry request cache.entries) ≡ Some n → (e : Entry) × IsLive h e × (e.number ≡ n) × (e.request ≡ request)
numbered h cache request n t is = by_entry (live_entry request cache.entries) refl is where
  by_entry : (o : Option Kept) → live_entry request cache.entries ≡ o → number_of o ≡ Some n → (e : Entry) × IsLive h e × (e.number ≡ n) × (e.request ≡ request)
  by_entry None found e = absurd cc
  by_entry (Some k) found e = let f = live_found h cache request k t found in (k.entry, f.0, number_is k.entry.number n e, f.1) where
    number_is : (a b : ℕ) → Some a ≡ Some b → a ≡ b
    number_is a b e = cc

-- the words of the live entries
words_live : (ks : List Kept) → words_of (entries_of ks) ≡ all_words ks
words_live [] = refl
words_live (k ∷ ks) =
    let f : Kept → ℕ = λ x. entry_words x.entry in
    sum_by-cons entry_words k.entry (entries_of ks) ∙ ap (λ (n : ℕ). entry_words k.entry + n) (words_live ks) ∙ sym (sum_by-cons f k ks)

-- what is free, by what the writer counts
pub is_free : (w : Writer) (free : ℕ) → Tells w.seen w.cache → IsPacked w → free + w.cache.used ≡ w.layout.arena → HasFree w.layout.arena free w.seen ⊎ (last_count ≤ w.cache.cycle)
is_free w free t p rest = by_cycle (ltb w.cache.cycle last_count) refl where
  by_cycle : (b : Bool) → ltb w.cache.cycle last_count ≡ b → HasFree w.layout.arena free w.seen ⊎ (last_count ≤ w.cache.cycle)
  by_cycle false is = inr (ltb-false w.cache.cycle last_count is)
  by_cycle true is = let low = ltb-true w.cache.cycle last_count is in inl (record { entries = entries_of w.cache.entries; live = t.entries_are; rest = ap (λ (n : ℕ). free + n) (words_live w.cache.entries ∙ sym (p low)) ∙ rest })

pub is_inserted : (said : Inserted) (loaded : Loaded) (w w' : Writer) → Tells w.seen w.cache → IsPacked w → Inserts said loaded w w' → IsRefused said loaded w → IsInserted w.layout.arena (last_count ≤ w'.cache.cycle) said loaded w.seen w'.seen
is_inserted (inserted.Done number) loaded w w' t packed i r =
    let counted = t.loads_are in
    let is = i.1 in (subst (λ (x : Writer). HasLoad x.seen (kept_of loaded number).entry) (sym i.2) (inl (ap (λ (n : ℕ). (kept_of loaded n).entry) (sym is))), omega arith)
is_inserted (inserted.TooLarge size) loaded w w' t packed i r = r
is_inserted (inserted.Discarded noted epoch) loaded w w' t packed i r = (r.0, r.1 ∙ sym t.epochs_are ∙ sym (ap (λ (x : Writer). invalidations x.seen) i.1), r.2)
is_inserted (inserted.Present number) loaded w w' t packed i r =
    let e = numbered w.seen w.cache loaded.request number t r in
    (e.0, subst (λ (x : Writer). IsLive x.seen e.0) (sym i.1) e.1, e.2, e.3)
is_inserted (inserted.Spent count) loaded w w' t packed i r = (r.0, ap (λ (x : Writer). loads x.seen) i.1 ∙ t.loads_are ∙ r.1)
is_inserted (inserted.Full need free) loaded w w' t packed i r =
    subst (λ (x : Writer). FindsNoRoom w.layout.arena (last_count ≤ x.cache.cycle) loaded x.seen need free) (sym i.1) (record { needed = r.0; less = r.2; left = is_free w free t packed r.1 })

-- what is left where it found no room
pub leaves_full : (said : Inserted) (loaded : Loaded) (before w w' : Writer) → w.seen ≡ before.seen → w.cache.add_failed ≡ before.cache.add_failed → Inserts said loaded w w' → IsRefused said loaded w → LeavesFull said before w'
leaves_full (inserted.Done number) loaded before w w' same failed i r = tt
leaves_full (inserted.TooLarge size) loaded before w w' same failed i r = tt
leaves_full (inserted.Discarded noted epoch) loaded before w w' same failed i r = tt
leaves_full (inserted.Present number) loaded before w w' same failed i r = tt
leaves_full (inserted.Spent count) loaded before w w' same failed i r = tt
leaves_full (inserted.Full need free) loaded before w w' same failed i r = (ap (λ (x : Writer). x.seen) i.1 ∙ same, subst (λ (x : Writer). free + x.cache.used ≡ x.layout.arena) (sym i.1) r.1, ap (λ (x : Writer). x.cache.add_failed) i.1 ∙ ap next_count failed)

-- so an insertion was that needs `need` words
pub record WasFull (need : ℕ) (loaded : Loaded) (w w' : Writer) : Type 0 where
  pub needed : need ≡ node_words (length loaded.request.key) (length loaded.answer.bytes)
  pub full : w'.layout.arena < w'.cache.used + need
  pub same : w'.seen ≡ w.seen
  pub failed : w'.cache.add_failed ≡ next_count w.cache.add_failed

pub was_full : (need : ℕ) (said : Inserted) (loaded : Loaded) (w w' : Writer) (last_cycle : Type 0) → needed_by said ≡ Some need → LeavesFull said w w' → IsInserted w'.layout.arena last_cycle said loaded w.seen w'.seen → WasFull need loaded w w'
was_full need (inserted.Done number) loaded w w' last_cycle some l i = absurd cc
was_full need (inserted.TooLarge size) loaded w w' last_cycle some l i = absurd cc
was_full need (inserted.Discarded noted epoch) loaded w w' last_cycle some l i = absurd cc
was_full need (inserted.Present number) loaded w w' last_cycle some l i = absurd cc
was_full need (inserted.Spent count) loaded w w' last_cycle some l i = absurd cc
was_full need (inserted.Full n free) loaded w w' last_cycle some l i =
    let same : n ≡ need = cc in
    let needed = i.needed in
    let less = i.less in
    let rest = l.1 in
    record { needed = sym same ∙ needed; full = omega arith; same = l.0; failed = l.2 }

-- where there is room for it, it does not find none
pub inserted_with_room : (said : Inserted) (loaded : Loaded) (w w' : Writer) → Tells w.seen w.cache → IsPacked w → Inserts said loaded w w' → IsRefused said loaded w → w.cache.used + node_words (length loaded.request.key) (length loaded.answer.bytes) ≤ w.layout.arena
    → IsInsertedOr (λ need free. ⊥) said loaded w.seen w'.seen
inserted_with_room (inserted.Done number) loaded w w' t packed i r room = is_inserted (inserted.Done number) loaded w w' t packed i r
inserted_with_room (inserted.TooLarge size) loaded w w' t packed i r room = r
inserted_with_room (inserted.Discarded noted epoch) loaded w w' t packed i r room = is_inserted (inserted.Discarded noted epoch) loaded w w' t packed i r
inserted_with_room (inserted.Present number) loaded w w' t packed i r room = is_inserted (inserted.Present number) loaded w w' t packed i r
inserted_with_room (inserted.Spent count) loaded w w' t packed i r room = is_inserted (inserted.Spent count) loaded w w' t packed i r
inserted_with_room (inserted.Full need free) loaded w w' t packed i r room = let needed = r.0 in let rest = r.1 in let less = r.2 in absurd (omega arith)

-- it is not counted as one that found none
pub not_failed : (said : Inserted) (loaded : Loaded) (w w' : Writer) → Inserts said loaded w w' → IsRefused said loaded w → w.cache.used + node_words (length loaded.request.key) (length loaded.answer.bytes) ≤ w.layout.arena → w'.cache.add_failed ≡ w.cache.add_failed
not_failed (inserted.Done number) loaded w w' i r room = ap (λ (x : Writer). x.cache.add_failed) i.2
not_failed (inserted.TooLarge size) loaded w w' i r room = ap (λ (x : Writer). x.cache.add_failed) i.1
not_failed (inserted.Discarded noted epoch) loaded w w' i r room = ap (λ (x : Writer). x.cache.add_failed) i.1
not_failed (inserted.Present number) loaded w w' i r room = ap (λ (x : Writer). x.cache.add_failed) i.1
not_failed (inserted.Spent count) loaded w w' i r room = ap (λ (x : Writer). x.cache.add_failed) i.1
not_failed (inserted.Full need free) loaded w w' i r room = let needed = r.0 in let rest = r.1 in let less = r.2 in absurd (omega arith)

-- what else it may come to where it found room
pub inserted_or : (a b : ℕ → ℕ → Type 0) (said : Inserted) (loaded : Loaded) (seen after : List Record) → ((need free : ℕ) → said ≡ inserted.Full need free → a need free → b need free) → IsInsertedOr a said loaded seen after → IsInsertedOr b said loaded seen after
inserted_or a b (inserted.Done number) loaded seen after to i = i
inserted_or a b (inserted.TooLarge size) loaded seen after to i = i
inserted_or a b (inserted.Discarded noted epoch) loaded seen after to i = i
inserted_or a b (inserted.Present number) loaded seen after to i = i
inserted_or a b (inserted.Spent count) loaded seen after to i = i
inserted_or a b (inserted.Full need free) loaded seen after to i = to need free refl i

no_need : (need free : ℕ) (said : Inserted) → said ≡ inserted.Full need free → needed_by said ≡ None → ⊥
no_need need free said is none = let some : Some need ≡ None = sym (ap needed_by is) ∙ none in absurd cc

-- it found room
pub kept_at_once : (settings : DbConf) (words arena : ℕ) (last_cycle : Type 0) (said : Inserted) (loaded : Loaded) (seen after : List Record) → needed_by said ≡ None → IsInserted arena last_cycle said loaded seen after → IsKept settings words last_cycle said loaded seen after
kept_at_once settings words arena last_cycle said loaded seen after none i =
    inserted_or (FindsNoRoom arena last_cycle loaded after) (IsFull settings words after last_cycle loaded.request loaded.answer.bytes) said loaded seen after (λ need free is f. absurd (no_need need free said is none)) i

-- it found none, and no table that there may be has more
pub kept_not : (settings : DbConf) (need : ℕ) (said : Inserted) (loaded : Loaded) (seen : List Record) (w : Writer) → IsArena settings w.table.words w.layout.arena → needed_by said ≡ Some need → (before : Writer) → LeavesFull said before w → IsAboveAll settings (w.cache.used + need) ⊎ (last_count ≤ w.cache.cycle)
    → IsInserted w.layout.arena (last_count ≤ w.cache.cycle) said loaded seen w.seen → IsKept settings w.table.words (last_count ≤ w.cache.cycle) said loaded seen w.seen
kept_not settings need said loaded seen w newest some before leaves above i = inserted_or (FindsNoRoom w.layout.arena (last_count ≤ w.cache.cycle) loaded w.seen) (IsFull settings w.table.words w.seen (last_count ≤ w.cache.cycle) loaded.request loaded.answer.bytes) said loaded seen w.seen no_room i where
  no_room : (n free : ℕ) → said ≡ inserted.Full n free → FindsNoRoom w.layout.arena (last_count ≤ w.cache.cycle) loaded w.seen n free → IsFull settings w.table.words w.seen (last_count ≤ w.cache.cycle) loaded.request loaded.answer.bytes n free
  no_room n free is f = record { needed = f.needed; less = f.less; left = by_left f.left above } where
    same : n ≡ need
    same = let both : Some n ≡ Some need = sym (ap needed_by is) ∙ some in cc

    free_is : free + w.cache.used ≡ w.layout.arena
    free_is = (subst (λ (s : Inserted). LeavesFull s before w) is leaves).1

    by_left : HasFree w.layout.arena free w.seen ⊎ (last_count ≤ w.cache.cycle) → IsAboveAll settings (w.cache.used + need) ⊎ (last_count ≤ w.cache.cycle) → HasNoRoom settings w.table.words n free w.seen ⊎ (last_count ≤ w.cache.cycle)
    by_left (inr last) more = inr last
    by_left (inl left) (inr last) = inr last
    by_left (inl left) (inl all) = inl (record { entries = left.entries; live = left.live; arena = w.layout.arena; newest = newest; rest = left.rest; largest = λ doublings may. let above : arena_after settings doublings < w.cache.used + need = all doublings may in let rest = left.rest in let here = free_is in let as_many = same in omega arith })

-- it was tried once more where it found none
pub kept_again : (settings : DbConf) (words : ℕ) (last_cycle : Type 0) (said : Inserted) (loaded : Loaded) (seen after : List Record) → IsInsertedOr (λ need free. ⊥) said loaded seen after → IsKept settings words last_cycle said loaded seen after
kept_again settings words last_cycle said loaded seen after i = inserted_or (λ need free. ⊥) (IsFull settings words after last_cycle loaded.request loaded.answer.bytes) said loaded seen after (λ need free is none. absurd none) i

-- by a pass that had seen less than the writer, and that loads CYCLE as 2^62 where it stands there
pub inserted_since : (settings : DbConf) (words : ℕ) (lesser last_cycle : Type 0) (said : Inserted) (loaded : Loaded) (seen h after : List Record) → IsPrefix seen h → (lesser → last_cycle) → IsKept settings words lesser said loaded h after → IsKept settings words last_cycle said loaded seen after
inserted_since settings words lesser last_cycle (inserted.Done number) loaded seen h after on to i = let low = loads_on seen h on in let more = i.1 in (i.0, omega arith)
inserted_since settings words lesser last_cycle (inserted.TooLarge size) loaded seen h after on to i = i
inserted_since settings words lesser last_cycle (inserted.Discarded noted epoch) loaded seen h after on to i = i
inserted_since settings words lesser last_cycle (inserted.Present number) loaded seen h after on to i = i
inserted_since settings words lesser last_cycle (inserted.Spent count) loaded seen h after on to i = i
inserted_since settings words lesser last_cycle (inserted.Full need free) loaded seen h after on to i = record { needed = i.needed; less = i.less; left = elim i.left [ inl left ↦ inl left | inr last ↦ inr (to last) ] }

-- ---- an invalidation, and counts

pub none_after : (w w' : Writer) → Tells w'.seen w'.cache → w' ≡ emptied_by w → NoneLive w'.seen
none_after w w' t' is =
    let legal = subst Legal (ap (λ (x : Writer). x.seen) is) t'.legal in
    subst (λ (x : Writer). NoneLive x.seen) (sym is) legal.2

pub is_emptied : (w w' : Writer) (epoch : ℕ) → w.cache.epoch < last_count → Tells w.seen w.cache → Tells w'.seen w'.cache → epoch ≡ w.cache.epoch + 1 → w' ≡ emptied_by w → IsEmptied w.seen w'.seen epoch
is_emptied w w' epoch below t t' next is =
    let before = t.epochs_are in
    record {
      unspent = λ e. omega (arith, below, before, e);
      last = t'.epochs_are ∙ ap (λ (x : Writer). x.cache.epoch) is ∙ sym next;
      new = omega arith;
      none = none_after w w' t' is;
    }

-- why a call gave up, by a pass that loads CYCLE as 2^62 where it stands there
pub unmoved_to : (after : List Record) (lesser last_cycle : Type 0) (count : ℕ) (ended : Type 0) → (lesser → last_cycle) → IsUnmoved after lesser count ended → IsUnmoved after last_cycle count ended
unmoved_to after lesser last_cycle count ended to u = record { last = u.last; cause = elim u.cause [ inl all ↦ inl all | inr unmoved ↦ inr (to unmoved.0, unmoved.1) ] }

ends_prefix : (ks : List Kept) (h : List Record) → IsPrefix h (ends_of by_invalidation ks h)
ends_prefix [] h = ([], refl)
ends_prefix (k ∷ ks) h = prefix_through h (End k.entry.number Invalidated ∷ h) (ends_of by_invalidation ks (End k.entry.number Invalidated ∷ h)) (End k.entry.number Invalidated ∷ [], refl) (ends_prefix ks (End k.entry.number Invalidated ∷ h))

pub emptied_on : (w w' : Writer) → w' ≡ emptied_by w → GoesOn w w'
emptied_on w w' is = subst (GoesOn w) (sym is) (record {
  on = prefix_through w.seen (ends_of by_invalidation w.cache.entries w.seen) (Invalid (w.cache.epoch + 1) ∷ ends_of by_invalidation w.cache.entries w.seen) (ends_prefix w.cache.entries w.seen) (Invalid (w.cache.epoch + 1) ∷ [], refl);
  table = refl;
  layout = refl;
  slide = refl;
})

entries_length : (ks : List Kept) → length (entries_of ks) ≡ length ks
entries_length [] = refl
entries_length (k ∷ ks) = ap (λ (n : ℕ). suc n) (entries_length ks)

-- the table of a writer at rest is one that there may be
pub in_table : (settings : DbConf) (w : Writer) → IsSized settings w.layout → w.table.words ≡ table_words w.layout → IsArena settings w.table.words w.layout.arena
in_table settings w sized wide = subst (λ (n : ℕ). IsArena settings n w.layout.arena) (sym wide) (sized_arena settings w.layout sized)

-- what the writer counts of itself
pub record Counted (w : Writer) (stats : Stats) : Type 0 where
  pub entries : stats.entries ≡ length w.cache.entries
  pub used : stats.used ≡ w.cache.used
  pub arena : stats.arena ≡ w.layout.arena
  pub invalidations_are : stats.invalidations ≡ w.cache.epoch
  pub compactions : stats.compactions ≡ w.cache.cycle / 2
  pub within : w.cache.used ≤ w.layout.arena

pub is_counted : (settings : DbConf) (w : Writer) (stats : Stats) → Tells w.seen w.cache → IsPacked w → IsArena settings w.table.words w.layout.arena → Counted w stats → IsCounted settings w.table.words w.seen stats
is_counted settings w stats t p newest c = record {
  entries = entries_of w.cache.entries;
  live = t.entries_are;
  counted = c.entries ∙ sym (entries_length w.cache.entries);
  taken = λ low. c.used ∙ p (half_below w.cache.cycle (subst (λ (n : ℕ). n < 2 ^ 61) c.compactions low)) ∙ sym (words_live w.cache.entries);
  invalidations_are = c.invalidations_are ∙ sym t.epochs_are;
  within = subst (λ (x : ℕ × ℕ). x.0 ≤ x.1) (λ i. (sym c.used i, sym c.arena i)) c.within;
  newest = subst (IsArena settings w.table.words) (sym c.arena) newest;
} where
  half_below : (n : ℕ) → n / 2 < 2 ^ 61 → n < last_count
  half_below n low = omega arith
