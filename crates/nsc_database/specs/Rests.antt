-- What holds of the writer of a database while its lock is free.
use Rattle.std.specs.Prelude.{◌≡◌, ℕ, ◌+◌, ◌<◌, ◌≤◌, ◌^◌, ◌⊎◌, All, List, [], ◌∷◌, Option, None}
use Rattle.std.specs.Bool.{OnTrue}
use Rattle.nsc_model.specs.declared.answer.Request.{Request}
use Rattle.nsc_model.specs.declared.conf.DbConf.{DbConf}
use Rattle.nsc_model.specs.declared.record.Record.{Record}
use Rattle.nsc_model.specs.declared.record.Record.TheVariants.{Change}
use Rattle.nsc_model.specs.Content.{Content}
use Rattle.nsc_model.specs.Entry.{Entry}
use Rattle.nsc_model.specs.History.{HasLoad, IsLive, IsPrefix, changes}
use Rattle.nsc_model.specs.Kinds.{database_of}
use Rattle.nsc_model.specs.Machine.{Kept, all_words, last_count, new_cache, room_of}
use Rattle.nsc_model.specs.Reloads.{Reloaded, invalidated_at, replaced}
use Rattle.nsc_model.specs.Stores.{AreLoadedAgain}
use Rattle.nsc_model.specs.declared.kind.Db.{Db}
use Rattle.nsc_writer.specs.Former.{Former}
use Rattle.nsc_writer.specs.Loaded.{Loaded}
use Rattle.nsc_writer.specs.Writer.{IsAnswered, Writer}
use Rattle.nsc_growth.specs.Sized.{IsSized, first_layout}
use Rattle.nsc_image.specs.Saving.{IsEntryOf}
use Rattle.nsc_database.specs.Steady.{KeepsVersion, StaysStill, WasSteady}

-- The reloads of a request are those that an image brought back for it, and its entries that ended to be reloaded. An entry counts at
-- most the sum of both.
abbrev pub IsReloaded : (Request → ℕ) → List Record → Kept → Type 0
IsReloaded brought history k = k.reloads ≤ brought k.entry.request + replaced history k.entry.request

-- the writer of a database, the tables that it left, and the version that the last tick found
pub record Desk : Type 0 where
  pub writer : Writer
  pub left : List Former
  pub ticked : ℕ

-- entries end for good as ticks and invalidations end them, and, where changes of the files count, the version that the last tick
-- found was there when the database was last invalidated
pub record Keeps (settings : DbConf) (brought : Request → ℕ) (limit : Option ℕ) (ticked : ℕ) (w : Writer) : Type 0 where
  pub reloaded : Reloaded brought limit w.seen
  pub counted : All (IsReloaded brought w.seen) w.cache.entries
  pub found : OnTrue settings.check_files (ticked ≤ invalidated_at w.seen)

-- only live entries take words, unless there are no more compactions: the count of their beginnings and ends stands at its end
abbrev pub IsPacked : Writer → Type 0
IsPacked w = w.cache.cycle < last_count → w.cache.used ≡ all_words w.cache.entries

-- each entry that ended to be loaded again was, or there is a reason, unless there are no more compactions, by that count
abbrev pub LoadsAgain : ℕ → ℕ → List Record → Type 0
LoadsAgain arena cycle history = AreLoadedAgain arena history ⊎ (last_count ≤ cycle)

-- each entry that was inserted is one that an image of the database may have
abbrev pub InsertsOwn : Db → List Record → Type 0
InsertsOwn which history = (e : Entry) → HasLoad history e → IsEntryOf which e

-- and what is to be inserted will be one
abbrev pub IsLoadedOf : Db → Loaded → Type 0
IsLoadedOf which loaded = (database_of loaded.request.kind ≡ which) × (loaded.timeout < 2 ^ 63)

-- what a lookup may insert: an answer over a version that was seen, to a request of the database, with no reloads
pub record IsFirstLoad (which : Db) (seen : List Record) (l : Loaded) : Type 0 where
  pub answered : IsAnswered seen l
  pub new : l.reloads ≡ 0
  pub own : IsLoadedOf which l

-- what holds of a writer, and of the tables that it left, while its lock is free
abbrev pub IsAtRest : DbConf → (Request → ℕ) → Option ℕ → Option Content → Db → ℕ → List Former → Writer → Type 0
IsAtRest settings brought limit held which ticked left w =
    Keeps settings brought limit ticked w × IsPacked w × StaysStill held which w.cache × LoadsAgain (room_of settings) w.cache.cycle w.seen ×
    (w.slide ≡ None) × IsSized settings w.layout × All (WasSteady held which) left × InsertsOwn which w.seen

-- a writer of an empty cache over this content as its first version, in the first table of these settings, with no slide under way
pub record IsNew (w : Writer) (content : Content) (settings : DbConf) : Type 0 where
  pub seen : w.seen ≡ Change 0 content ∷ []
  pub cache : w.cache ≡ new_cache content
  pub room : w.layout ≡ first_layout settings
  pub still : w.slide ≡ None

-- the writer of a database goes on, and what held of it while its lock was free holds still
pub record Rests (which : Db) (brought : Request → ℕ) (w w' : Writer) : Type 0 where
  pub on : IsPrefix w.seen w'.seen
  pub table : w'.table ≡ w.table
  pub layout : w'.layout ≡ w.layout
  pub slide : w'.slide ≡ w.slide
  pub keeps : (settings : DbConf) (limit : Option ℕ) (ticked : ℕ) → Keeps settings brought limit ticked w → Keeps settings brought limit ticked w'
  pub packed : IsPacked w → IsPacked w'
  pub again : (arena : ℕ) → LoadsAgain arena w.cache.cycle w.seen → LoadsAgain arena w'.cache.cycle w'.seen
  pub version : KeepsVersion w.cache w'.cache
  pub inserts : (e : Entry) → HasLoad w'.seen e → HasLoad w.seen e ⊎ IsEntryOf which e

-- the newest version is known to be there when the database was last invalidated, where changes of the files count
abbrev pub FindsNewest : (Request → ℕ) → Writer → Writer → Type 0
FindsNewest brought w w' =
    (settings : DbConf) (limit : Option ℕ) (ticked : ℕ) → Keeps settings brought limit ticked w → Keeps settings brought limit w.cache.newest_version w'

-- where changes of the files count, each live entry is over the newest version
abbrev pub IsCurrent : DbConf → List Record → Type 0
IsCurrent settings history = OnTrue settings.check_files ((e : Entry) → IsLive history e → changes history ≤ e.version + 1)
