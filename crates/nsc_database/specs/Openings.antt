-- What a database begins with.
use Rattle.std.specs.Prelude.{◌≡◌, ℕ, ◌⊎◌, true, if◌then◌else◌, List, [], ◌∷◌, ◌++◌, sum_by, Option, Some}
use Rattle.nsc_model.specs.declared.answer.Request.{Request}
use Rattle.nsc_model.specs.declared.conf.DbConf.{DbConf}
use Rattle.nsc_model.specs.declared.kind.Db.{Db}
use Rattle.nsc_model.specs.declared.record.Record.{Record}
use Rattle.nsc_model.specs.declared.record.Record.TheVariants.{Change}
use Rattle.nsc_model.specs.Content.{Content}
use Rattle.nsc_model.specs.Image.{ImageBytes, Saved}
use Rattle.nsc_model.specs.Kinds.{is_request}
use Rattle.nsc_model.specs.Machine.{Kept, new_cache, room_of}
use Rattle.nsc_model.specs.Reloads.{none_brought}
use Rattle.nsc_image.specs.Restoring.{restored, restored_by}
use Rattle.nsc_writer.specs.Writer.{Writer}

-- the writer of a database that was opened, whose first pass is all that has seen its history
pub record Begun : Type 0 where
  pub writer : Writer
  pub db : Db
  pub settings : DbConf
  pub reloads : Option ℕ

-- an image brings these entries back: it was handed over, and is one of the database, which is cached and persistent
pub record BringsBack (settings : DbConf) (which : Db) (image : Option (List ℕ)) (entries : List Saved) : Type 0 where
  pub enabled : settings.enabled ≡ true
  pub persistent : settings.persistent ≡ true
  pub bytes : List ℕ
  pub given : image ≡ Some bytes
  pub version : ℕ
  pub spelled : ImageBytes which version entries bytes

abbrev pub BringsNone : DbConf → Db → Option (List ℕ) → Type 0
BringsNone settings which image = (entries : List Saved) → BringsBack settings which image entries → ⊥

-- a new writer over this content once the entries are back, or as it was where no image brings any
abbrev pub IsBroughtBack : DbConf → ℕ → Db → Option (List ℕ) → Content → Writer → Writer → Type 0
IsBroughtBack settings now which image files before after =
    ((entries : List Saved) × BringsBack settings which image entries × (after ≡ restored_by settings now files entries before))
    ⊎ (BringsNone settings which image × (after ≡ before))

-- the reloads of these entries, by request
abbrev pub brought_in : List Kept → Request → ℕ
brought_in entries request = sum_by (λ k. if is_request request k.entry.request then k.reloads else 0) entries

-- the reloads of these entries are those that an image brings back over this content; they are 0 if no image brings any
abbrev pub BringsReloads : DbConf → ℕ → Db → Option (List ℕ) → Content → List Kept → Type 0
BringsReloads settings now which image files kept =
    ((entries : List Saved) × BringsBack settings which image entries ×
    (brought_in kept ≡ brought_in (restored (room_of settings) settings now files entries (new_cache files)).cache.entries))
    ⊎ (BringsNone settings which image × (brought_in kept ≡ none_brought))

-- a history that begins with this content as version 0: behind it stand the insertions of what an image brings back, and nothing else
abbrev pub Begins : DbConf → ℕ → Db → Option (List ℕ) → Content → List Record → Type 0
Begins settings now which image files history =
    ((entries : List Saved) × BringsBack settings which image entries ×
    (history ≡ (restored (room_of settings) settings now files entries (new_cache files)).adds ++ Change 0 files ∷ []))
    ⊎ (BringsNone settings which image × (history ≡ Change 0 files ∷ []))
