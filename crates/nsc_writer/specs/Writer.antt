-- What a writer is: the words that it writes, the history, the cache that it has of it, how its lookups went, and the words of a
-- slide of its entries while one is under way; and what its calls come to.
use Rattle.std.specs.Prelude.{◌≡◌, ℕ, ◌+◌, ◌/◌, ◌<◌, ◌≤◌, min, Bool, true, false, List, [], ◌∷◌, ◌++◌, length, slice_index, Option, Some, None, Result, Ok, Err}
use Rattle.atomic_table.specs.Seated.{TableId}
use Rattle.nsc_words.specs.declared.layout.Layout.{Layout}
use Rattle.nsc_model.specs.declared.record.Ending.{Ending}
use Rattle.nsc_model.specs.declared.record.Ending.TheVariants as ending
use Rattle.nsc_model.specs.declared.record.Record.{Record}
use Rattle.nsc_model.specs.declared.record.Record.TheVariants.{Change, End, Invalid, Load}
use Rattle.nsc_model.specs.declared.answer.Request.{Request}
use Rattle.nsc_model.specs.declared.store.Spent.{Spent as SpentCount}
use Rattle.nsc_model.specs.declared.store.Stats.{Stats}
use Rattle.nsc_model.specs.Content.{Content}
use Rattle.nsc_model.specs.Entry.{kept_limit}
use Rattle.nsc_model.specs.History.{version_in, PolledSince}
use Rattle.nsc_model.specs.Machine.{Kept, Cache, Passed, Stopped, Refusal, TooLarge, Discarded, Present, Spent, Full, refusal, last_count, live_entry, entry_words, by_invalidation, emptied, ends_of, new_cache, used_now}
use Rattle.nsc_model.specs.Answers.{answer_of}
use Rattle.nsc_shelf.specs.declared.entry.EntryAt.{EntryAt}
use Rattle.nsc_laws.specs.Calls.{Tells}
use Rattle.nsc_rule.specs.Pen.{Pen}
use Rattle.nsc_shelf.specs.declared.finding.Mark.{Mark}
use Rattle.nsc_shelf.specs.Shelf.{IsHeld, IsTold, Shelf, number_of, others_than, shelf_in, slide_of}
use Rattle.nsc_writer.specs.declared.loaded.Inserted.{Inserted}
use Rattle.nsc_writer.specs.declared.loaded.Inserted.TheVariants as inserted
use Rattle.nsc_writer.specs.declared.loaded.Stamp.{Stamp}
use Rattle.nsc_shelf.specs.Uses.{Uses, counted}
use Rattle.nsc_writer.specs.declared.writer.Cause.{Cause}
use Rattle.nsc_writer.specs.declared.writer.Cause.TheVariants as cause
use Rattle.nsc_writer.specs.Loaded.{Loaded, kept_of}

pub record Writer : Type 0 where
  pub table : TableId
  pub layout : Layout
  pub seen : List Record
  pub cache : Cache
  pub hits : Uses
  pub misses : Uses
  pub slide : Option (List ℕ)

-- the cache of the newest content with its number, the number of invalidations, and the entries with their counts
abbrev pub cache_of : Content → ℕ → ℕ → Shelf → Cache
cache_of sources version epoch shelf =
    record { sources = sources; newest_version = version; entries = shelf.entries; used = shelf.used; epoch = epoch; inserted = shelf.inserted; cycle = shelf.cycle; add_failed = shelf.add_failed }

-- the writer of this pen and this content
abbrev pub writer_of : Pen → Layout → Content → Writer
writer_of pen layout content =
    let shelf = shelf_in pen.plan.nodes pen.plan.words layout in
    record { table = pen.table; layout = layout; seen = pen.plan.seen; cache = cache_of content (slice_index pen.plan.words 2) (slice_index pen.plan.words 1) shelf; hits = shelf.hits; misses = shelf.misses; slide = slide_of pen.plan.words }

-- the writer of an empty database: this content is version 0, and nothing is counted
abbrev pub new_writer : TableId → Layout → Content → Writer
new_writer table layout content = record {
  table = table;
  layout = layout;
  seen = Change 0 content ∷ [];
  cache = new_cache content;
  hits = record { found = 0; not_found = 0 };
  misses = record { found = 0; not_found = 0 };
  slide = None;
}

-- what a writer counts; two counts of CYCLE are one compaction
abbrev pub stats_of : Writer → Stats
stats_of w = record {
  enabled = true;
  hits = w.hits.found;
  negative_hits = w.hits.not_found;
  misses = w.misses.found;
  negative_misses = w.misses.not_found;
  entries = length w.cache.entries;
  used = w.cache.used;
  arena = w.layout.arena;
  invalidations = w.cache.epoch;
  compactions = w.cache.cycle / 2;
  addfailed = w.cache.add_failed;
}

-- what the pen knows is what the history tells
pub record IsWriter (pen : Pen) (layout : Layout) (content : Content) (live : ℕ) (mark : Mark) (hints : List ℕ) : Type 0 where
  pub held : IsHeld pen.plan layout live mark hints
  pub tells : Tells pen.plan.seen (cache_of content (slice_index pen.plan.words 2) (slice_index pen.plan.words 1) (shelf_in pen.plan.nodes pen.plan.words layout))

-- the writer once an event of the machine passed
abbrev pub passed_by : Passed → Writer → Writer
passed_by passed w = record w { cache = passed.cache; seen = passed.adds ++ w.seen }

-- the writer once the live entry of a request answered, with a not-found reply or another one
abbrev pub with_hit : Request → Bool → Writer → Writer
with_hit request not_found w = record w { cache = record w.cache { entries = used_now request w.cache.entries }; hits = counted not_found w.hits }

-- ---- polls

-- a poll: the stamp has the version that it found, and the epoch that was given; or a new version cannot be counted
abbrev pub Polls : Result Passed Stopped → ℕ → Writer → Writer → Result Stamp SpentCount → Type 0
Polls (Ok passed) epoch before after (Ok stamp) = (stamp ≡ record { version = passed.cache.newest_version; epoch = epoch }) × (after ≡ passed_by passed before)
Polls (Ok passed) epoch before after (Err spent) = ⊥
Polls (Err stop) epoch before after (Ok stamp) = ⊥
Polls (Err stop) epoch before after (Err spent) = (spent.count ≡ stop.count) × (after ≡ before)

-- the content is the newest version, which has this number
pub record IsNewest (content : Content) (version : ℕ) (cache : Cache) : Type 0 where
  pub sources : cache.sources ≡ content
  pub number : cache.newest_version ≡ version

-- ---- insertions

-- the answer is that of the request over the content of the stamp's version, which was looked at after at least as many invalidations as
-- its epoch says
pub record IsAnswered (history : List Record) (loaded : Loaded) : Type 0 where
  pub files : Content
  pub version : version_in history loaded.stamp.version ≡ Some files
  pub answer : loaded.answer ≡ answer_of files loaded.request
  pub polled : PolledSince history loaded.stamp.version loaded.stamp.epoch

-- why the insertion is refused, if it is
abbrev pub refusal_of : Writer → Loaded → Option Refusal
refusal_of w loaded = refusal w.layout.arena loaded.stamp.epoch (kept_of loaded w.cache.inserted).entry w.cache

-- the answer of an insertion that this refuses, or nothing
abbrev pub SaysRefused : Option Refusal → Option Inserted → Type 0
SaysRefused None said = said ≡ None
SaysRefused (Some (TooLarge length)) said = said ≡ Some (inserted.TooLarge length)
SaysRefused (Some (Discarded loaded epoch)) said = said ≡ Some (inserted.Discarded loaded epoch)
SaysRefused (Some (Present number)) said = said ≡ Some (inserted.Present number)
SaysRefused (Some (Spent count)) said = said ≡ Some (inserted.Spent count)
SaysRefused (Some (Full need free)) said = said ≡ Some (inserted.Full need free)

-- the writer once an entry was inserted, and once an insertion found no room
abbrev pub with_entry : Kept → Writer → Writer
with_entry k w = record w {
  cache = record w.cache { entries = w.cache.entries ++ k ∷ []; used = w.cache.used + entry_words k.entry; inserted = w.cache.inserted + 1 };
  seen = Load k.entry ∷ w.seen;
}

abbrev pub with_failed : Writer → Writer
with_failed w = record w { cache = record w.cache { add_failed = min (w.cache.add_failed + 1) last_count } }

abbrev pub is_full : Inserted → Bool
is_full (inserted.Done number) = false
is_full (inserted.TooLarge length) = false
is_full (inserted.Discarded noted epoch) = false
is_full (inserted.Present number) = false
is_full (inserted.Spent count) = false
is_full (inserted.Full need free) = true

-- what became of an insertion that this refuses, or nothing, and of the writer: an entry was inserted where nothing refuses it
abbrev pub InsertsBy : Option Refusal → Inserted → Loaded → Writer → Writer → Type 0
InsertsBy refused (inserted.Done number) loaded before after = (refused ≡ None) × (number ≡ before.cache.inserted) × (after ≡ with_entry (kept_of loaded before.cache.inserted) before)
InsertsBy refused (inserted.TooLarge length) loaded before after = (refused ≡ Some (TooLarge length)) × (after ≡ before)
InsertsBy refused (inserted.Discarded noted epoch) loaded before after = (refused ≡ Some (Discarded noted epoch)) × (after ≡ before)
InsertsBy refused (inserted.Present number) loaded before after = (refused ≡ Some (Present number)) × (after ≡ before)
InsertsBy refused (inserted.Spent count) loaded before after = (refused ≡ Some (Spent count)) × (after ≡ before)
InsertsBy refused (inserted.Full need free) loaded before after = (refused ≡ Some (Full need free)) × (after ≡ with_failed before)

abbrev pub Inserts : Inserted → Loaded → Writer → Writer → Type 0
Inserts said loaded before after = InsertsBy (refusal_of before loaded) said loaded before after

-- what is known of an insertion that was refused
abbrev pub IsRefused : Inserted → Loaded → Writer → Type 0
IsRefused (inserted.Done number) loaded w = Unit {0}
IsRefused (inserted.TooLarge size) loaded w = (size ≡ length loaded.answer.bytes) × (kept_limit < size)
IsRefused (inserted.Discarded noted epoch) loaded w = (noted ≡ loaded.stamp.epoch) × (epoch ≡ w.cache.epoch) × (noted < epoch)
IsRefused (inserted.Present number) loaded w = number_of (live_entry loaded.request w.cache.entries) ≡ Some number
IsRefused (inserted.Spent count) loaded w = (count ≡ last_count) × (w.cache.inserted ≡ count)
IsRefused (inserted.Full need free) loaded w = (need ≡ entry_words (kept_of loaded w.cache.inserted).entry) × (free + w.cache.used ≡ w.layout.arena) × (free < need)

-- nothing refuses an insertion
pub record IsAdmitted (w : Writer) (loaded : Loaded) : Type 0 where
  pub short : length loaded.answer.bytes ≤ kept_limit
  pub noted : w.cache.epoch ≤ loaded.stamp.epoch
  pub new : live_entry loaded.request w.cache.entries ≡ None
  pub count : w.cache.inserted < last_count
  pub room : w.cache.used + entry_words (kept_of loaded w.cache.inserted).entry ≤ w.layout.arena

-- ---- ends

abbrev pub ending_of : Cause → Ending
ending_of (cause.Expired now) = ending.Expired now
ending_of cause.Replaced = ending.Replaced

-- the writer once the entry of a number ended
abbrev pub without_entry : ℕ → Ending → Writer → Writer
without_entry number ending w = record w { cache = record w.cache { entries = others_than number w.cache.entries }; seen = End number ending ∷ w.seen }

-- the writer once every entry ended as invalidated, and once that was counted
abbrev pub all_ended : Writer → Writer
all_ended w = record w { cache = record w.cache { entries = [] }; seen = ends_of by_invalidation w.cache.entries w.seen }

abbrev pub emptied_by : Writer → Writer
emptied_by w = record w { cache = (emptied w.cache).cache; seen = Invalid (w.cache.epoch + 1) ∷ ends_of by_invalidation w.cache.entries w.seen }

-- ---- lists

-- an entry with its key and its reply, if there is one
abbrev pub IsListed : Option Kept → Option EntryAt → List ℕ → List ℕ → Type 0
IsListed None said key reply = said ≡ None
IsListed (Some k) said key reply = IsTold (Some k) said × (key ≡ k.entry.request.key) × (reply ≡ k.entry.answer.bytes)
