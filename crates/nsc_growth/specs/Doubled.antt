-- What a table becomes by doublings, and which of them is the first with room.
use Rattle.std.specs.Prelude.{◌≡◌, ℕ, ◌+◌, ◌*◌, ◌^◌, ◌<◌, ◌≤◌, Option, Some, None}
use Rattle.nsc_base.specs.Nodes.{most_words}
use Rattle.nsc_words.specs.declared.layout.Layout.{Layout}
use Rattle.nsc_words.specs.Layout.{table_words}

-- its buckets and its words, doubled so often
abbrev pub doubled : ℕ → Layout → Layout
doubled k layout = record { buckets = layout.buckets * 2 ^ k; arena = layout.arena * 2 ^ k }

-- the whole table takes at most `limit` bytes, and its entries at most 64 MiB
pub record Fits (limit : ℕ) (layout : Layout) : Type 0 where
  pub bytes : 8 * table_words layout ≤ limit
  pub words : layout.arena ≤ most_words

-- the next layout is this one doubled once or more: it fits, it has room for `wanted` words, and fewer doublings give no room for them
pub record HasRoom (limit : ℕ) (layout : Layout) (wanted : ℕ) (next : Layout) : Type 0 where
  pub doublings : ℕ
  pub is : next ≡ doubled (doublings + 1) layout
  pub fits : Fits limit next
  pub room : wanted ≤ next.arena
  pub first : (j : ℕ) → j < doublings → (doubled (j + 1) layout).arena < wanted

-- the next layout with room for `wanted` words, if there is one that fits
abbrev pub IsNext : ℕ → Layout → ℕ → Option Layout → Type 0
IsNext limit layout wanted None = (k : ℕ) → Fits limit (doubled (k + 1) layout) → (doubled (k + 1) layout).arena < wanted
IsNext limit layout wanted (Some next) = HasRoom limit layout wanted next
