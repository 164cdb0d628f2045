-- What a plain cache holds apart from its contents, and insertions into it.
use Rattle.std.specs.Prelude.{ℕ, ◌+◌, ◌≤◌, Bool, true, false, List, [], ◌∷◌, count_by, Option, Some, None}
use Rattle.nsc_model.specs.declared.answer.Request.{Request}
use Rattle.nsc_model.specs.Content.{Content}
use Rattle.nsc_model.specs.Kinds.{is_request}
use Rattle.nsc_model.specs.declared.conf.DbConf.{DbConf}
use Rattle.nsc_model.specs.Machine.{Kept, Cache, Refusal, all_words, last_count, made_entry, refusal, room_of, tried_by}
use Rattle.nsc_plain.specs.Insertion.{Insertion}

-- the live entries, the counts that their insertions and ends change, and for how many entries there is memory
pub record EntryList : Type 0 where
  pub entries : List Kept
  pub used : ℕ
  pub inserted : ℕ
  pub cycle : ℕ
  pub add_failed : ℕ
  pub capacity : ℕ

-- the cache that is this one but for its entries and their counts
abbrev pub over : Cache → EntryList → Cache
over cache table = record cache { entries = table.entries; used = table.used; inserted = table.inserted; cycle = table.cycle; add_failed = table.add_failed }

-- the cache of this content as its version of this number, and of this number of invalidations, with these entries and their counts
abbrev pub cache_with : Content → ℕ → ℕ → EntryList → Cache
cache_with content version epoch table = record {
  sources = content;
  newest_version = version;
  entries = table.entries;
  used = table.used;
  epoch = epoch;
  inserted = table.inserted;
  cycle = table.cycle;
  add_failed = table.add_failed;
}

-- how many of these entries answer a request, and how many of these answered requests are that one
abbrev pub entries_for : Request → List Kept → ℕ
entries_for request entries = count_by (λ k. is_request request k.entry.request) entries

abbrev pub insertions_for : Request → List Insertion → ℕ
insertions_for request all = count_by (λ a. is_request request a.request) all

-- the entries have different requests
abbrev pub AreApart : List Kept → Type 0
AreApart entries = (request : Request) → entries_for request entries ≤ 1

-- and so have they with those that are to be inserted
abbrev pub StayApart : List Kept → List Insertion → Type 0
StayApart entries all = (request : Request) → entries_for request entries + insertions_for request all ≤ 1

-- what a table keeps: the words of its entries are used, its count of insertions has an end, and no request has two entries
pub record IsTable (entries : List Kept) (used inserted : ℕ) : Type 0 where
  pub words : all_words entries ≤ used
  pub counted : inserted ≤ last_count
  pub apart : AreApart entries

-- the entry of an answered request in this cache, over this version
abbrev pub inserted_entry : DbConf → ℕ → ℕ → Insertion → Cache → Kept
inserted_entry settings now version answered cache =
    record { entry = made_entry settings now cache.inserted version answered.request answered.answer; reloads = answered.reloads }

-- what refuses its insertion, if anything does
abbrev pub refused_in : DbConf → ℕ → ℕ → Insertion → Cache → Option Refusal
refused_in settings now version answered cache = refusal (room_of settings) cache.epoch (inserted_entry settings now version answered cache).entry cache

abbrev pub is_made : Option Refusal → Bool
is_made None = true
is_made (Some cause) = false

-- the cache once its insertion was tried
abbrev pub put : DbConf → ℕ → ℕ → Insertion → Cache → Cache
put settings now version answered cache =
    (tried_by (refused_in settings now version answered cache) (inserted_entry settings now version answered cache) cache).cache

-- what goes beside an answered request is tried, if that one was inserted and something goes beside it
abbrev pub put_beside : Bool → Option Insertion → DbConf → ℕ → ℕ → Cache → Cache
put_beside true (Some beside) settings now version cache = put settings now version beside cache
put_beside made beside settings now version cache = cache

-- the cache once its insertion was tried, and what goes beside it
abbrev pub put_with : DbConf → ℕ → ℕ → Insertion → Option Insertion → Cache → Cache
put_with settings now version answered beside cache =
    put_beside (is_made (refused_in settings now version answered cache)) beside settings now version (put settings now version answered cache)

-- the cache once all were tried, one after the other
abbrev pub put_all : DbConf → ℕ → ℕ → List Insertion → Cache → Cache
put_all settings now version [] cache = cache
put_all settings now version (answered ∷ others) cache = put_all settings now version others (put settings now version answered cache)
