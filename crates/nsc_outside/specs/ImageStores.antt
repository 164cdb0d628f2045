-- Stores of images: what a call answers, and what it leaves.
use Rattle.std.specs.Prelude.{◌≡◌, ◌≢◌, ℕ, ◌<◌, ◌≤◌, List, [], ◌∷◌, ◌++◌, length, Option, Some, IfSome, IsSomeAnd, option_map, codes}
use Rattle.nsc_model.specs.declared.kind.Db.{Db}
use Rattle.nsc_model.specs.declared.kind.Db.TheVariants as db
use Rattle.nsc_outside.specs.declared.files.ReadCause.{ReadCause}
use Rattle.nsc_outside.specs.declared.files.ReadCause.TheVariants as causes

-- an image that is given has at most `image_limit` bytes
abbrev pub image_limit : ℕ
image_limit = 134217728

abbrev pub ImageFits : Option (List ℕ) → Type 0
ImageFits image = IfSome image (λ bytes. length bytes ≤ image_limit)

-- a length is more than an image that is given may have, and is that of the image that is told, where one is told
pub record IsPastImageLimit (told : Option (Option (List ℕ))) (size : ℕ) : Type 0 where
  pub past : image_limit < size
  pub of_image : IfSome told (λ image. IsSomeAnd image (λ bytes. length bytes ≡ size))

-- why an image was not given: only of one that is too long the cause tells something
abbrev pub IsImageCause : Option (Option (List ℕ)) → ReadCause → Type 0
IsImageCause told causes.NoMemory = Unit {0}
IsImageCause told causes.Failed = Unit {0}
IsImageCause told (causes.TooLong size) = IsPastImageLimit told size

-- what is known of each database changed at this one at most
abbrev pub OthersStay : {A : Type 0} → Db → (Db → A) → (Db → A) → Type 0
OthersStay which before after = (other : Db) → other ≢ which → after other ≡ before other

-- what is told of an image once these bytes were put: it is told exactly where it was told before
abbrev pub told_put : Option (Option (List ℕ)) → List ℕ → Option (Option (List ℕ))
told_put told bytes = option_map (λ _. Some bytes) told

-- the name of an image's file
abbrev pub image_name : Db → List ℕ
image_name db.Passwd = codes "passwd.img"
image_name db.Group = codes "group.img"
image_name db.Hosts = codes "hosts.img"
image_name db.Services = codes "services.img"

-- the name under which a new one is written
abbrev pub new_name : Db → List ℕ
new_name db.Passwd = codes ".passwd.img.new"
new_name db.Group = codes ".group.img.new"
new_name db.Hosts = codes ".hosts.img.new"
new_name db.Services = codes ".services.img.new"

-- the path of a file of this name in a folder
abbrev pub path_in : List ℕ → List ℕ → List ℕ
path_in folder name = folder ++ 47 ∷ [] ++ name
