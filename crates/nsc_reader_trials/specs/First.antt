-- The tables of a writer that grows.
use Rattle.std.specs.Prelude.{◌≡◌, ◌≤◌, List, slice_index_or, None}
use Rattle.atomic_table.specs.Seated.{TableId}
use Rattle.nsc_model.specs.Machine.{all_words}
use Rattle.nsc_seats.specs.Tables.{IsChain, tables}
use Rattle.nsc_words.specs.declared.layout.Layout.{Layout}
use Rattle.nsc_words.specs.Layout.{IsLayout}
use Rattle.nsc_writer.specs.Former.{Former}
use Rattle.nsc_writer.specs.Writer.{Writer}

-- the first one
abbrev pub first_table : List Former → TableId → TableId
first_table left newest = slice_index_or (tables left newest) 0 newest

-- no slide is under way, and each table that was left goes on in the next one
pub record Grows (left : List Former) (writer : Writer) : Type 0 where
  pub still : writer.slide ≡ None
  pub chain : IsChain (first_table left writer.table) left writer.table

-- a table may be laid out so, and the live entries fit
pub record HoldsAll (writer : Writer) (layout : Layout) : Type 0 where
  pub sizes : IsLayout layout
  pub room : all_words writer.cache.entries ≤ layout.arena
