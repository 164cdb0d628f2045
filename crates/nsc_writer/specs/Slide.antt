-- The slide of a writer's entries.
use Rattle.std.specs.Prelude.{◌≡◌, ℕ, ◌+◌, ◌<◌, ◌%◌, true, List, [], Option, Some, None, slice_index}
use Rattle.nsc_words.specs.declared.node.Placed.{Placed}
use Rattle.nsc_words.specs.Laid.{Among}
use Rattle.nsc_words.specs.Layout.{IsLayout, arena_start}
use Rattle.nsc_model.specs.Machine.{last_count}
use Rattle.nsc_shelf.specs.Shelf.{HoldEntries}
use Rattle.nsc_writer.specs.Writer.{Writer}

-- it begins: the count was even, and is odd then, and the words hold nodes of the live entries, with those that ended
pub record IsBegun (before after : Writer) : Type 0 where
  pub even : before.cache.cycle % 2 ≡ 0
  pub counted : before.cache.cycle < last_count
  pub sizes : IsLayout before.layout
  pub words : List ℕ
  pub is : after ≡ record before { cache = record before.cache { cycle = before.cache.cycle + 1 }; slide = Some words }
  pub nodes : List Placed
  pub hold : HoldEntries words before.layout before.cache.entries nodes
  pub used : slice_index words 3 ≡ arena_start before.layout + before.cache.used

-- it may end: the words hold nodes of the live entries alone
pub record IsSlid (w : Writer) : Type 0 where
  pub words : List ℕ
  pub under_way : w.slide ≡ Some words
  pub nodes : List Placed
  pub hold : HoldEntries words w.layout w.cache.entries nodes
  pub alone : (p : Placed) → Among p nodes → p.usable ≡ true

-- no words, of a slide that is under way all the same
abbrev pub emptied_slide : Option (List ℕ) → Option (List ℕ)
emptied_slide None = None
emptied_slide (Some words) = Some []

-- what a writer is but for the words of its slide
abbrev pub without_words : Writer → Writer
without_words w = record w { slide = emptied_slide w.slide }
