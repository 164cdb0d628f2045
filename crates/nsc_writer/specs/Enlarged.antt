-- What a writer becomes by a growth.
use Rattle.std.specs.Prelude.{◌≡◌, ◌+◌, ◌<◌, None}
use Rattle.nsc_words.specs.declared.layout.Layout.{Layout}
use Rattle.nsc_model.specs.declared.fault.CacheFault.{CacheFault}
use Rattle.nsc_model.specs.declared.fault.CacheFault.TheVariants as fault
use Rattle.nsc_model.specs.Machine.{all_words, last_count}
use Rattle.nsc_rule.specs.Seats.{rested}
use Rattle.nsc_writer.specs.Former.{Former}
use Rattle.nsc_writer.specs.Writer.{Writer}

-- the writer goes over to another table of this layout: it keeps its entries, its history and its counts, one more compaction is counted,
-- and the words of ended entries are free; the table before was left
pub record IsEnlarged (layout : Layout) (before after : Writer) (former : Former) : Type 0 where
  pub counted : before.cache.cycle < last_count
  pub is : after ≡ record before { table = former.newer.table; layout = layout; cache = record before.cache { cycle = before.cache.cycle + 2; used = all_words before.cache.entries } }
  pub left : former ≡ record { table = before.table; seen = before.seen; cycle = before.cache.cycle + 1; newer = record { table = former.newer.table; layout = layout }; stock = record { table = former.newer.table; seen = before.seen; retired = None; searching = rested (before.cache.cycle + 1) } }

-- it cannot, where the count of the beginnings and the ends of slides stands at its end, or memory is short
abbrev pub IsStuck : CacheFault → Writer → Type 0
IsStuck fault.NoMemory w = Unit {0}
IsStuck (fault.Spent count) w = (count ≡ last_count) × (w.cache.cycle ≡ last_count)
