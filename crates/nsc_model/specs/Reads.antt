-- What the reads of a database's files gave, and how the counts of a caller's reads go.
use Rattle.std.specs.Prelude.{◌≡◌, ◌≢◌, ℕ, ◌-◌, ◌^◌, ◌<◌, ◌⊎◌, true, List, Option, IfSome}
use Rattle.nsc_model.specs.declared.kind.Db.{Db}
use Rattle.nsc_model.specs.declared.kind.FileId.{FileId}
use Rattle.nsc_model.specs.declared.answer.Request.{Request}
use Rattle.nsc_model.specs.declared.store.Given.{Given}
use Rattle.nsc_model.specs.declared.store.Given.TheVariants as given
use Rattle.nsc_model.specs.Answers.{answer_of}
use Rattle.nsc_model.specs.Content.{Content}
use Rattle.nsc_model.specs.Files.{file_of, is_read, part_of}

-- the greatest count of faults, and of reads
abbrev pub greatest : ℕ
greatest = 2 ^ 64 - 1

-- a count rose; one that stands at the greatest stays there, and then counts as risen
abbrev pub Rose : ℕ → ℕ → Type 0
Rose before after = (before < after) ⊎ ((before ≡ greatest) × (after ≡ greatest))

-- a count did not fall: it stays, or rose
abbrev pub HasNotFallen : ℕ → ℕ → Type 0
HasNotFallen before after = (after ≡ before) ⊎ Rose before after

-- no count of a file fell
abbrev pub NoneFell : (FileId → ℕ) → (FileId → ℕ) → Type 0
NoneFell before after = (f : FileId) → HasNotFallen (before f) (after f)

-- no count of faults changed, neither that of all nor that of any file
abbrev pub FaultsStay : ℕ → ℕ → (FileId → ℕ) → (FileId → ℕ) → Type 0
FaultsStay before after before_each after_each = (after ≡ before) × (after_each ≡ before_each)

-- a file is at fault: of the counts of faults that of all rose, and its own, and no other one changed
pub record FileFailed (file : FileId) (before after : ℕ) (before_each after_each : FileId → ℕ) : Type 0 where
  pub all : Rose before after
  pub own : Rose (before_each file) (after_each file)
  pub others : (other : FileId) → other ≢ file → after_each other ≡ before_each other

-- the count of each file that the database reads rose
abbrev pub AllRose : Db → (FileId → ℕ) → (FileId → ℕ) → Type 0
AllRose which before after = (f : FileId) → is_read which f ≡ true → Rose (before f) (after f)

-- a file, absent or its bytes, is the one that is told, where one is told
abbrev pub IsAsTold : Option (Option (List ℕ)) → Option (List ℕ) → Type 0
IsAsTold told f = IfSome told (λ g. f ≡ g)

-- each file of a content that the database reads is what the latest read of it gave, where that is told
abbrev pub AreAsTold : Db → (FileId → Option (Option (List ℕ))) → Content → Type 0
AreAsTold which latest content = (f : FileId) → is_read which f ≡ true → IsAsTold (latest f) (file_of content f)

-- each file that the database reads was read in the call, and this is what the reads gave, as far as that is told; it has no other file
pub record IsLookedUp (which : Db) (before_reads after_reads : FileId → ℕ) (latest : FileId → Option (Option (List ℕ))) (content : Content) : Type 0 where
  pub read : AllRose which before_reads after_reads
  pub only : content ≡ part_of which content
  pub told : AreAsTold which latest content

-- a reply is the answer over files that were read in the call
abbrev pub IsMadeOf : Db → (FileId → ℕ) → (FileId → ℕ) → (FileId → Option (Option (List ℕ))) → Request → List ℕ → Type 0
IsMadeOf which before_reads after_reads latest request bytes = (content : Content) × IsLookedUp which before_reads after_reads latest content × ((answer_of content request).bytes ≡ bytes)

-- where the reply is that of a live entry, no file was read with an answer; else it was made of files that were
abbrev pub IsMade : Db → (FileId → ℕ) → (FileId → ℕ) → (FileId → Option (Option (List ℕ))) → Request → Given → Type 0
IsMade which before_reads after_reads latest request (given.Hit bytes number) = after_reads ≡ before_reads
IsMade which before_reads after_reads latest request (given.Loaded bytes number) = IsMadeOf which before_reads after_reads latest request bytes
IsMade which before_reads after_reads latest request (given.Fresh bytes why) = IsMadeOf which before_reads after_reads latest request bytes

-- a reply is the answer over the files that are held, where these are told
abbrev pub IsOfHeld : Option Content → Db → Request → List ℕ → Type 0
IsOfHeld held which request bytes = IfSome held (λ files. bytes ≡ (answer_of (part_of which files) request).bytes)
