use Rattle.std.proofs.Common.{◌≡◌, ◌≤◌, ◌+◌, length}
use Rattle.std.specs.Vec.Iter.{into_iter_items, into_iter_len}
use Rattle.nsc_model.specs.Machine.{Cache}
use Rattle.nsc_plain.specs.EntryList.{StayApart, over, put_all}
use Rattle.nsc_plain.proofs.table.EntryList.insert_all.Given as goal

abbrev pub invariant-loop-one : goal.invariant-loop-one
invariant-loop-one l = record {
  can : (goal.iterator-loop-one).can_next l.one-iterator;
  finite : (goal.iterator-loop-one).is_finite l.one-iterator;
  long : into_iter_len l.one-iterator ≡ length (into_iter_items l.one-iterator);
  memory : length l.self.entries + length (into_iter_items l.one-iterator) ≤ l.self.capacity;
  apart : StayApart l.self.entries (into_iter_items l.one-iterator);
  rest : (cache : Cache) → put_all l.conf l.now l.version (into_iter_items l.one-iterator) (over cache l.self) ≡ put_all l.conf l.now l.version l.fn.fresh.items (over cache l.initial.self);
}
