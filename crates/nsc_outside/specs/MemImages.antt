-- A store of images in memory.
use Rattle.std.specs.Prelude.{ℕ, List, replicate, slice_index_or, Option, Some, None}
use Rattle.std.specs.List.{slice_set}
use Rattle.nsc_model.specs.declared.kind.Db.{Db}
use Rattle.nsc_outside.specs.FailPlan.{FailPlan, no_failing}
use Rattle.nsc_model.specs.Image.{db_number}
use Rattle.nsc_outside.specs.ImageTally.{ImageTally, no_image_counts}

-- the room of a database: its image, absent or its bytes, and how many bytes one may have
pub record Slot : Type 0 where
  pub image : Option (List ℕ)
  pub room : ℕ

-- the room of each database, by its number, which gets and which puts fail, and what the store counts
pub record MemImages : Type 0 where
  pub slots : List Slot
  pub gets : FailPlan
  pub puts : FailPlan
  pub counts : ImageTally

-- no image, in a room of this size
abbrev pub empty_slot : ℕ → Slot
empty_slot room = record { image = None; room = room }

-- no image is held, in rooms of this size, and no call fails
abbrev pub empty_images : ℕ → MemImages
empty_images room = record { slots = replicate 4 (empty_slot room); gets = no_failing; puts = no_failing; counts = no_image_counts }

-- the room of a database among those by number
abbrev pub slot_in : List Slot → Db → Slot
slot_in slots which = slice_index_or slots (db_number which) (empty_slot 0)

-- the image of a database, absent or its bytes
abbrev pub image_in : List Slot → Db → Option (List ℕ)
image_in slots which = (slot_in slots which).image

-- the image of one database becomes these bytes
abbrev pub with_image : List Slot → Db → List ℕ → List Slot
with_image slots which bytes = slice_set slots (db_number which) (record (slot_in slots which) { image = Some bytes })
