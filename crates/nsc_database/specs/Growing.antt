-- What becomes of a database by a growth of its table.
use Rattle.std.specs.Prelude.{◌≡◌, ℕ, ◌+◌, ◌<◌, ◌≤◌, ◌⊎◌, [], ◌∷◌, ◌++◌, Bool, true, false, Some, Result, Ok, Err}
use Rattle.nsc_model.specs.declared.conf.DbConf.{DbConf}
use Rattle.nsc_model.specs.Growth.{IsArena, MayGrow, arena_after}
use Rattle.nsc_model.specs.Machine.{last_count, next_count}
use Rattle.nsc_writer.specs.Enlarged.{IsEnlarged}
use Rattle.nsc_writer.specs.Former.{Former}
use Rattle.nsc_growth.specs.Doubled.{IsNext}
use Rattle.nsc_database.specs.Rests.{Desk}

-- no table that a database may grow to has `words` words for its entries
abbrev pub IsAboveAll : DbConf → ℕ → Type 0
IsAboveAll settings words = (doublings : ℕ) → MayGrow settings doublings → arena_after settings doublings < words

-- the writer went over to the first of the larger tables that has room for `need` words beside its entries, and left its own
pub record GoesOver (settings : DbConf) (need : ℕ) (before after : Desk) : Type 0 where
  pub former : Former
  pub next : IsNext settings.max_size before.writer.layout (before.writer.cache.used + need) (Some after.writer.layout)
  pub enlarged : IsEnlarged after.writer.layout before.writer after.writer former
  pub left : after.left ≡ before.left ++ former ∷ []
  pub ticked : after.ticked ≡ before.ticked
  pub room : after.writer.cache.used + need ≤ after.writer.layout.arena

-- the writer went over; or it did not, since no table that it may go over to has room, or there are no more compactions; or memory was
-- short, and nothing changed
abbrev pub IsGrowth : {A : Type 0} → DbConf → ℕ → Desk → Desk → Result Bool A → Type 0
IsGrowth settings need before after (Ok true) = GoesOver settings need before after
IsGrowth settings need before after (Ok false) =
    (after ≡ before) × IsArena settings before.writer.table.words before.writer.layout.arena ×
    (IsAboveAll settings (before.writer.cache.used + need) ⊎ (last_count ≤ before.writer.cache.cycle))
IsGrowth settings need before after (Err fault) = after ≡ before

-- one table was left, after an insertion that found no room in it and was counted
pub record HasLeft (before after : Desk) : Type 0 where
  pub former : Former
  pub left : after.left ≡ before.left ++ former ∷ []
  pub from : former.table ≡ before.writer.table
  pub to : former.newer.table ≡ after.writer.table
  pub refused : after.writer.cache.add_failed ≡ next_count before.writer.cache.add_failed

-- at most one table was left
abbrev pub GrowsOnce : Desk → Desk → Type 0
GrowsOnce before after = ((after.left ≡ before.left) × (after.writer.table ≡ before.writer.table)) ⊎ HasLeft before after
