-- What an image brings back into the cache of a new database.
use Rattle.std.specs.Prelude.{◌≡◌, ℕ, ◌+◌, min, Bool, ◌==◌, ◌&&◌, if◌then◌else◌, List, [], ◌∷◌, ◌++◌, Option, Some, None}
use Rattle.std.specs.Str.{bytes_eq}
use Rattle.nsc_model.specs.declared.conf.DbConf.{DbConf}
use Rattle.nsc_model.specs.Answer.{Answer}
use Rattle.nsc_model.specs.Answers.{answer_of}
use Rattle.nsc_model.specs.Content.{Content}
use Rattle.nsc_model.specs.Image.{Saved, mark_of}
use Rattle.nsc_model.specs.Machine.{Cache, Passed, life_of, refusal, tried_by, unchanged}
use Rattle.nsc_writer.specs.declared.loaded.Stamp.{Stamp}
use Rattle.nsc_writer.specs.Loaded.{Loaded, kept_of}
use Rattle.nsc_writer.specs.Writer.{Writer, passed_by}

-- the same bytes with the same mark
abbrev pub same_answer : Answer → Answer → Bool
same_answer a b = bytes_eq a.bytes b.bytes && mark_of a.not_found == mark_of b.not_found

-- version 0, before any invalidation
abbrev pub first_stamp : Stamp
first_stamp = record { version = 0; epoch = 0 }

-- the answer to an entry's request over these files, until the earlier of the entry's timeout and that of a new entry, with the
-- entry's count of reloads
abbrev pub answered_again : DbConf → ℕ → Content → Saved → Loaded
answered_again settings now files s =
    let answer = answer_of files s.request in
    record { request = s.request; answer = answer; stamp = first_stamp; timeout = min s.timeout (now + life_of settings answer); reloads = s.reloads }

-- what an entry of an image brings back: nothing where its answer is another one
abbrev pub loaded_again : DbConf → ℕ → Content → Saved → Option Loaded
loaded_again settings now files s = let l = answered_again settings now files s in if same_answer s.answer l.answer then Some l else None

-- the insertion of what is brought back is tried, by the words of the room
abbrev pub tried_again : ℕ → Option Loaded → Cache → Passed
tried_again room None cache = unchanged cache
tried_again room (Some l) cache = let k = kept_of l cache.inserted in tried_by (refusal room l.stamp.epoch k.entry cache) k cache

-- the entries of an image, one after the other
abbrev pub restored : ℕ → DbConf → ℕ → Content → List Saved → Cache → Passed
restored room settings now files [] cache = unchanged cache
restored room settings now files (s ∷ entries) cache =
    let first = tried_again room (loaded_again settings now files s) cache in
    let rest = restored room settings now files entries first.cache in
    record { cache = rest.cache; adds = rest.adds ++ first.adds }

-- the writer once they are back: its cache with their records in the history, and all else as it was
abbrev pub restored_by : DbConf → ℕ → Content → List Saved → Writer → Writer
restored_by settings now files entries w = passed_by (restored w.layout.arena settings now files entries w.cache) w

-- a front of the entries is back, and nothing of the others
abbrev pub RestoresFront : DbConf → ℕ → Content → List Saved → Writer → Writer → Type 0
RestoresFront settings now files entries before after =
    (front : List Saved) × (others : List Saved) × (entries ≡ front ++ others) × (after ≡ restored_by settings now files front before)
