-- What a daemon does with the images of its databases.
use Rattle.std.specs.Prelude.{◌≡◌, ℕ, ◌⊎◌, true, false}
use Rattle.nsc_model.specs.declared.conf.Conf.{Conf}
use Rattle.nsc_model.specs.declared.kind.Db.{Db}
use Rattle.nsc_model.specs.Reads.{Rose}
use Rattle.nsc_model.specs.Settings.{settings_of}
use Rattle.nsc_outside.specs.declared.images.ImageStore as image_store

-- what a store of images tells at one moment: how often a call failed, how often an image of each database was put, and how often
-- that failed
pub record ImagesAt : Type 0 where
  pub faults : ℕ
  pub puts : Db → ℕ
  pub failed : Db → ℕ

abbrev pub images_at : {I : Type 0} → image_store.Ghosts I → I → ImagesAt
images_at i store = record { faults = i.faults store; puts = i.puts store; failed = i.failed_puts store }

-- an image of the database was put, or that failed
abbrev pub IsPut : Db → ImagesAt → ImagesAt → Type 0
IsPut which before after = Rose (before.puts which) (after.puts which) ⊎ Rose (before.failed which) (after.failed which)

-- none was, and none failed
pub record IsNotPut (which : Db) (before after : ImagesAt) : Type 0 where
  pub puts : after.puts which ≡ before.puts which
  pub failed : after.failed which ≡ before.failed which

-- an image of each persistent database was put, or that failed, and of no other one
pub record PutsImages (conf : Conf) (before after : ImagesAt) : Type 0 where
  pub persistent : (which : Db) → (settings_of conf which).persistent ≡ true → IsPut which before after
  pub others : (which : Db) → (settings_of conf which).persistent ≡ false → IsNotPut which before after

-- what became of one database: its image was put, or that failed, where it is persistent; and nothing of the others
pub record PutsOne (conf : Conf) (which : Db) (before after : ImagesAt) : Type 0 where
  pub persistent : (settings_of conf which).persistent ≡ true → IsPut which before after
  pub not : (settings_of conf which).persistent ≡ false → IsNotPut which before after
