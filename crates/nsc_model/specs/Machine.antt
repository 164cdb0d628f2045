-- The machine that the cache of a database is: its events, each with the records that it adds to the history. One caller drives it. Each
-- of its insertions notes the present epoch, so none comes after an invalidation that it did not note. Only the insertion of an id request
-- can find its request live. The parts of the events stand apart, over what each of them needs, also for many callers.
use Rattle.std.specs.Prelude.{ℕ, ◌+◌, ◌-◌, ◌*◌, ◌^◌, ◌==◌, nat_lt, nat_le, min, Bool, false, not, ◌&&◌, ◌||◌, if◌then◌else◌, List, [], ◌∷◌, ◌++◌, length, map, filter, find, sum_by, Option, Some, None, Result, Ok, Err}
use Rattle.nsc_base.specs.Nodes.{node_words}
use Rattle.nsc_model.specs.declared.answer.Request.{Request}
use Rattle.nsc_model.specs.declared.record.Ending.{Ending}
use Rattle.nsc_model.specs.declared.record.Ending.TheVariants.{Expired, Invalidated, Replaced}
use Rattle.nsc_model.specs.declared.record.Record.{Record}
use Rattle.nsc_model.specs.declared.record.Record.TheVariants.{Change, Poll, Load, End, Invalid}
use Rattle.nsc_model.specs.Kinds.{is_request}
use Rattle.nsc_model.specs.Content.{Content}
use Rattle.nsc_model.specs.Files.{same_files}
use Rattle.nsc_model.specs.Answer.{Answer}
use Rattle.nsc_model.specs.Entry.{Entry, kept_limit}
use Rattle.nsc_model.specs.declared.conf.DbConf.{DbConf}
use Rattle.nsc_model.specs.Answers.{answer_of, request_beside}

-- where every count ends
abbrev pub last_count : ℕ
last_count = 2 ^ 62

-- the next count; the last one stays
abbrev pub next_count : ℕ → ℕ
next_count count = min (count + 1) last_count

-- a live entry, and how often it was reloaded since it was last used
pub record Kept : Type 0 where
  pub entry : Entry
  pub reloads : ℕ

-- a cache: its newest content with the number of its version, the live entries from the oldest on, how many words of its
-- room are used (by live entries, and by ended ones that no compaction followed), how often it was invalidated, how many
-- entries were inserted, the count of its compactions, which goes on by two at each, and how many insertions found no room
pub record Cache : Type 0 where
  pub sources : Content
  pub newest_version : ℕ
  pub entries : List Kept
  pub used : ℕ
  pub epoch : ℕ
  pub inserted : ℕ
  pub cycle : ℕ
  pub add_failed : ℕ

-- a new cache
abbrev pub new_cache : Content → Cache
new_cache files = record { sources = files; newest_version = 0; entries = []; used = 0; epoch = 0; inserted = 0; cycle = 0; add_failed = 0 }

-- an event is done: the cache after it, and the records that it added, the newest first
pub record Passed : Type 0 where
  pub cache : Cache
  pub adds : List Record

-- an event stopped, since it needs a count that stands at its end: the cache and the records up to there, the newest first,
-- and the count
pub record Stopped : Type 0 where
  pub cache : Cache
  pub adds : List Record
  pub count : ℕ

-- a lookup is done: the cache after it, its records, the newest first, and the reply
pub record Turn : Type 0 where
  pub cache : Cache
  pub adds : List Record
  pub reply : List ℕ

abbrev pub unchanged : Cache → Passed
unchanged cache = record { cache = cache; adds = [] }

abbrev pub stopped : Cache → Stopped
stopped cache = record { cache = cache; adds = []; count = last_count }

-- an event goes on after these records
abbrev pub after_adds : List Record → Result Passed Stopped → Result Passed Stopped
after_adds adds (Ok passed) = Ok (record { cache = passed.cache; adds = passed.adds ++ adds })
after_adds adds (Err stop) = Err (record { cache = stop.cache; adds = stop.adds ++ adds; count = stop.count })

-- one part of an event, and then the next
infixl 10 ◌>>=◌
abbrev pub ◌>>=◌ : Result Passed Stopped → (Cache → Result Passed Stopped) → Result Passed Stopped
(Ok passed) >>= next = after_adds passed.adds (next passed.cache)
(Err stop) >>= next = Err stop

-- a poll: an equal content confirms the newest version, a different one is the next
abbrev pub polled : Content → Cache → Result Passed Stopped
polled files cache =
    if same_files files cache.sources then Ok (record { cache = cache; adds = Poll cache.newest_version ∷ [] }) else (
    if cache.newest_version == last_count then Err (stopped cache) else
    Ok (record { cache = record cache { sources = files; newest_version = cache.newest_version + 1 }; adds = Change (cache.newest_version + 1) files ∷ [] }))

-- ---- insertions

-- the words of an entry, and of all entries
abbrev pub entry_words : Entry → ℕ
entry_words e = node_words (length e.request.key) (length e.answer.bytes)

abbrev pub all_words : List Kept → ℕ
all_words entries = sum_by (λ k. entry_words k.entry) entries

-- the room of a cache in words: 128 for each of its suggested size (nscd.conf(5))
abbrev pub room_of : DbConf → ℕ
room_of settings = settings.size * 128

-- for how many seconds an answer is kept
abbrev pub life_of : DbConf → Answer → ℕ
life_of settings answer = if answer.not_found then settings.negative else settings.positive

-- the entry of a request with its answer, by its number and its version; its time begins at this moment
abbrev pub made_entry : DbConf → ℕ → ℕ → ℕ → Request → Answer → Entry
made_entry settings now number version request answer =
    record { number = number; request = request; version = version; answer = answer; timeout = now + life_of settings answer }

-- a candidate for an insertion: a request, and how often its entry was reloaded since it was last used
pub record Candidate : Type 0 where
  pub request : Request
  pub reloads : ℕ

-- its entry: the answer over the newest version, until its time is over
abbrev pub new_entry : DbConf → ℕ → Candidate → Cache → Kept
new_entry settings now one cache =
    record { entry = made_entry settings now cache.inserted cache.newest_version one.request (answer_of cache.sources one.request); reloads = one.reloads }

-- the live entry that answers a request
abbrev pub live_entry : Request → List Kept → Option Kept
live_entry request entries = find (λ k. is_request request k.entry.request) entries

-- why an insertion is refused: its reply is too long to be kept; the database was invalidated after the insertion noted its
-- epoch; an entry of its request is live; no more entries can be counted; or it needs more words than are free
pub data Refusal : Type 0 where
  TooLarge : (length : ℕ) → Refusal
  Discarded : (loaded : ℕ) → (epoch : ℕ) → Refusal
  Present : (number : ℕ) → Refusal
  Spent : (count : ℕ) → Refusal
  Full : (need : ℕ) → (free : ℕ) → Refusal

abbrev pub or_later : Option Refusal → Option Refusal → Option Refusal
or_later (Some cause) later = Some cause
or_later None later = later

abbrev pub present_cause : Option Kept → Option Refusal
present_cause None = None
present_cause (Some k) = Some (Present k.entry.number)

-- how an insertion of this request that noted this epoch was overtaken, if it was: by an invalidation, or by another insertion
abbrev pub overtaken : ℕ → Request → Cache → Option Refusal
overtaken noted request cache = if nat_lt noted cache.epoch then Some (Discarded noted cache.epoch) else present_cause (live_entry request cache.entries)

-- the first cause that refuses the insertion of an entry, by the words of the room and the epoch that was noted
abbrev pub refusal : ℕ → ℕ → Entry → Cache → Option Refusal
refusal room noted e cache =
    if nat_lt kept_limit (length e.answer.bytes) then Some (TooLarge (length e.answer.bytes)) else or_later (overtaken noted e.request cache) (
    if cache.inserted == last_count then Some (Spent last_count) else (
    if nat_lt (room - cache.used) (entry_words e) then Some (Full (entry_words e) (room - cache.used)) else None))

-- a refused insertion leaves the cache as it was, but that a full one is counted; that count stays at its end
abbrev pub tried_by : Option Refusal → Kept → Cache → Passed
tried_by None k cache = record { cache = record cache { entries = cache.entries ++ k ∷ []; used = cache.used + entry_words k.entry; inserted = cache.inserted + 1 }; adds = Load k.entry ∷ [] }
tried_by (Some (TooLarge size)) k cache = unchanged cache
tried_by (Some (Discarded loaded epoch)) k cache = unchanged cache
tried_by (Some (Present number)) k cache = unchanged cache
tried_by (Some (Spent count)) k cache = unchanged cache
tried_by (Some (Full need free)) k cache = unchanged (record cache { add_failed = next_count cache.add_failed })

-- an insertion is tried; it notes the present epoch
abbrev pub tried : DbConf → ℕ → Candidate → Cache → Passed
tried settings now one cache = let k = new_entry settings now one cache in tried_by (refusal (room_of settings) cache.epoch k.entry cache) k cache

-- insertions are tried, one after the other
abbrev pub tried_all : DbConf → ℕ → List Candidate → Cache → Passed
tried_all settings now [] cache = unchanged cache
tried_all settings now (one ∷ others) cache =
    let first = tried settings now one cache in
    let rest = tried_all settings now others first.cache in
    record { cache = rest.cache; adds = rest.adds ++ first.adds }

-- ---- lookups

-- the live entry that answers a request, if the database is cached
abbrev pub cached : DbConf → Request → Cache → Option Kept
cached settings request cache = if settings.enabled then live_entry request cache.entries else None

-- the entry of this request is used: its count of reloads begins anew
abbrev pub used_by : Request → Kept → Kept
used_by request k = if is_request request k.entry.request then record k { reloads = 0 } else k

abbrev pub used_now : Request → List Kept → List Kept
used_now request entries = map (used_by request) entries

-- what a lookup inserts for a request, with a count of reloads of 0
abbrev pub candidates_of : Request → List Candidate
candidates_of request = record { request = request; reloads = 0 } ∷ []

-- a further part is done if an insertion was made, and not if it was refused
abbrev pub made_then : Option Refusal → Passed → (Cache → Passed) → Passed
made_then None first next = let rest = next first.cache in record { cache = rest.cache; adds = rest.adds ++ first.adds }
made_then (Some cause) first next = first

-- what a lookup by name tries to insert beside its entry, if there is an id request and `auto-propagate` is on (nscd.conf(5))
abbrev pub candidates_beside : DbConf → Option Request → List Candidate
candidates_beside settings None = []
candidates_beside settings (Some id) = if settings.propagate then candidates_of id else []

-- the insertion of a lookup is tried; if it was made, so is that of the id request, if there is one
abbrev pub tried_with : DbConf → ℕ → Request → Cache → Passed
tried_with settings now request cache =
    let k = new_entry settings now (record { request = request; reloads = 0 }) cache in
    let refused = refusal (room_of settings) cache.epoch k.entry cache in
    made_then refused (tried_by refused k cache) (tried_all settings now (candidates_beside settings (request_beside cache.sources request)))

-- after the poll of a lookup its insertions are tried, if the database is cached
abbrev pub kept_answer : DbConf → ℕ → Request → Cache → Passed
kept_answer settings now request cache = if settings.enabled then tried_with settings now request cache else unchanged cache

-- a poll, and then the answer over the newest version
abbrev pub loaded : DbConf → ℕ → Request → Result Passed Stopped → Result Turn Stopped
loaded settings now request (Ok poll) =
    let after = kept_answer settings now request poll.cache in
    Ok (record { cache = after.cache; adds = after.adds ++ poll.adds; reply = (answer_of poll.cache.sources request).bytes })
loaded settings now request (Err stop) = Err stop

abbrev pub hit_or_load : Option Kept → DbConf → ℕ → Content → Request → Cache → Result Turn Stopped
hit_or_load (Some k) settings now files request cache = Ok (record { cache = record cache { entries = used_now request cache.entries }; adds = []; reply = k.entry.answer.bytes })
hit_or_load None settings now files request cache = loaded settings now request (polled files cache)

-- A lookup. A live entry of the request gives its reply, whatever its time, and its count of reloads is 0 then. Else there is a poll, the
-- answer over the version that it found, and the insertions.
unfoldable pub lookup : DbConf → ℕ → Content → Request → Cache → Result Turn Stopped
lookup settings now files request cache = hit_or_load (cached settings request cache) settings now files request cache

-- ---- ends

-- a compaction: the words of ended entries are free again
abbrev pub compacted : Cache → Result Passed Stopped
compacted cache = if nat_lt cache.cycle last_count then Ok (unchanged (record cache { cycle = cache.cycle + 2; used = all_words cache.entries })) else Err (stopped cache)

-- a compaction, if any entry was ended
abbrev pub compacted_after : List Kept → Cache → Result Passed Stopped
compacted_after [] cache = Ok (unchanged cache)
compacted_after (k ∷ ended) cache = compacted cache

-- the ends of entries, one after the other, each by its cause, after these records
abbrev pub ends_of : (Kept → Ending) → List Kept → List Record → List Record
ends_of cause [] before = before
ends_of cause (k ∷ entries) before = ends_of cause entries (End k.entry.number (cause k) ∷ before)

abbrev pub by_invalidation : Kept → Ending
by_invalidation k = Invalidated

-- the ends of an invalidation: those of every live entry
abbrev pub emptied : Cache → Passed
emptied cache = record {
  cache = record cache { entries = []; epoch = cache.epoch + 1 };
  adds = Invalid (cache.epoch + 1) ∷ ends_of by_invalidation cache.entries [];
}

-- an invalidation: its ends, and a compaction if any entry was ended
unfoldable pub invalidated : Cache → Result Passed Stopped
invalidated cache =
    if cache.epoch == last_count then Err (stopped cache) else (
    let ends = emptied cache in after_adds ends.adds (compacted_after cache.entries ends.cache))

-- ---- ticks

-- the entry's time is over
abbrev pub is_due : ℕ → Kept → Bool
is_due now k = nat_lt k.entry.timeout now

-- as many reloads as this were made without a use; none is the limit that no count reaches
abbrev pub reached : Option ℕ → ℕ → Bool
reached None count = false
reached (Some limit) count = nat_le limit count

-- a due entry is dropped, and not reloaded: its reply is a not-found one, or it was reloaded often enough
abbrev pub is_dropped : Option ℕ → Kept → Bool
is_dropped reloads k = k.entry.answer.not_found || reached reloads k.reloads

abbrev pub due_cause : Option ℕ → ℕ → Kept → Ending
due_cause reloads now k = if is_dropped reloads k then Expired now else Replaced

-- what is inserted if an entry is reloaded
abbrev pub candidate_again : Kept → Candidate
candidate_again k = record { request = k.entry.request; reloads = next_count k.reloads }

-- entries are reloaded; one whose insertion is refused is gone
abbrev pub reloaded : DbConf → ℕ → List Kept → Cache → Passed
reloaded settings now entries cache = tried_all settings now (map candidate_again entries) cache

-- those of the entries whose time is over, and the others
abbrev pub due_of : ℕ → List Kept → List Kept
due_of now entries = filter (is_due now) entries

abbrev pub others_of : ℕ → List Kept → List Kept
others_of now entries = filter (λ k. not (is_due now k)) entries

-- those of them that are reloaded
abbrev pub reloaded_of : Option ℕ → List Kept → List Kept
reloaded_of reloads due = filter (λ k. not (is_dropped reloads k)) due

-- the ends of a pruning: those of the entries whose time is over, in rising number
abbrev pub due_ended : Option ℕ → ℕ → Cache → Passed
due_ended reloads now cache = record {
  cache = record cache { entries = others_of now cache.entries };
  adds = ends_of (due_cause reloads now) (due_of now cache.entries) [];
}

-- a pruning: its ends, a compaction if any entry was ended, and then those that are not dropped are reloaded
abbrev pub pruned : DbConf → Option ℕ → ℕ → Cache → Result Passed Stopped
pruned settings reloads now cache =
    let due = due_of now cache.entries in
    let ends = due_ended reloads now cache in
    after_adds ends.adds (compacted_after due ends.cache >>= λ after. Ok (reloaded settings now (reloaded_of reloads due) after))

-- the newest version is not the one that the last tick found, and such a change counts
abbrev pub is_outdated : DbConf → ℕ → ℕ → Bool
is_outdated settings newest ticked = settings.check_files && not (newest == ticked)

-- after the poll of a tick: an invalidation if the files changed since the version that the last tick found, after which
-- nothing is left to prune
abbrev pub checked : DbConf → Option ℕ → ℕ → ℕ → Cache → Result Passed Stopped
checked settings reloads now ticked cache = if is_outdated settings cache.newest_version ticked then invalidated cache else pruned settings reloads now cache

-- a tick of a database, by the version that the last one found; one that is not cached does nothing
unfoldable pub tick : DbConf → Option ℕ → ℕ → Content → ℕ → Cache → Result Passed Stopped
tick settings reloads now files ticked cache = if settings.enabled then (polled files cache >>= checked settings reloads now ticked) else Ok (unchanged cache)

-- the version that a tick found which left this cache: the newest one; if the database is not cached, that of the last tick
abbrev pub ticked_by : DbConf → ℕ → Cache → ℕ
ticked_by settings ticked after = if settings.enabled then after.newest_version else ticked

-- the version that a tick keeps which stops after this poll: the newest one if it stops at its pruning, and that of the last tick if it
-- stops before
abbrev pub ticked_after : DbConf → ℕ → Result Passed Stopped → ℕ
ticked_after settings ticked (Ok poll) = if is_outdated settings poll.cache.newest_version ticked then ticked else poll.cache.newest_version
ticked_after settings ticked (Err stop) = ticked
