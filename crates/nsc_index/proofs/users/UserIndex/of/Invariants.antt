use Rattle.std.proofs.Common.{◌≡◌, ◌≤◌, ◌-◌, ◌++◌, length, map}
use Rattle.nsc_index.specs.Fronts.{id_rows, name_rows}
use Rattle.nsc_index.specs.Indexes.{rows_from}
use Rattle.nsc_index.specs.Signs.{named_line, signs_of}
use Rattle.nsc_index.proofs.users.UserIndex.of.Given as goal

-- the rows so far, and those of the lines that are left
abbrev pub invariant-loop-line : goal.invariant-loop-line
invariant-loop-line l = record {
  inside : l.from ≤ length l.text;
  names : l.names.items ++ rows_from (name_rows l.text) l.text l.from ≡ rows_from (name_rows l.text) l.text 0;
  ids : l.ids.items ++ rows_from (id_rows l.text) l.text l.from ≡ rows_from (id_rows l.text) l.text 0;
  signs : map (named_line l.text) l.signs.items ++ rows_from (signs_of l.text) l.text l.from ≡ rows_from (signs_of l.text) l.text 0;
}

abbrev pub decreases-loop-line : goal.decreases-loop-line
decreases-loop-line l = length l.text - l.from
