use Rattle.std.proofs.Common.{◌≡◌, ◌≤◌, ◌-◌, ◌++◌, length, map}
use Rattle.nsc_index.specs.Indexes.{rows_from}
use Rattle.nsc_index.specs.Signs.{named_line, signs_of}
use Rattle.nsc_index.specs.Groups.{group_ids, group_members, group_names}
use Rattle.nsc_index.proofs.groups.GroupIndex.of.Given as goal

-- the rows so far, and those of the lines that are left
abbrev pub invariant-loop-line : goal.invariant-loop-line
invariant-loop-line l = record {
  inside : l.from ≤ length l.text;
  names : l.names.items ++ rows_from (group_names l.text) l.text l.from ≡ rows_from (group_names l.text) l.text 0;
  ids : l.ids.items ++ rows_from (group_ids l.text) l.text l.from ≡ rows_from (group_ids l.text) l.text 0;
  members : l.members.items ++ rows_from (group_members l.text) l.text l.from ≡ rows_from (group_members l.text) l.text 0;
  signs : map (named_line l.text) l.signs.items ++ rows_from (signs_of l.text) l.text l.from ≡ rows_from (signs_of l.text) l.text 0;
}

abbrev pub decreases-loop-line : goal.decreases-loop-line
decreases-loop-line l = length l.text - l.from
