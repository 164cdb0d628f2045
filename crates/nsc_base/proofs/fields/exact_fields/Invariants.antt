use Rattle.std.proofs.Common.{◌≡◌, ◌≤◌, ◌++◌, take, length}
use Rattle.std.specs.List.{AllWithin}
use Rattle.nsc_base.specs.Text.{LiesIn, field_spans}
use Rattle.nsc_base.proofs.FieldCounts.{spans_between}
use Rattle.nsc_base.proofs.fields.exact_fields.Given as goal

abbrev pub invariant-loop-span : goal.invariant-loop-span
invariant-loop-span g l = record {
  size : length l.span-items ≡ g.row.N;
  no_earlier : l.within.from ≤ l.from;
  stand : field_spans l.cut l.text l.within ≡ take l.span-index l.span-items ++ spans_between l.cut l.text l.from l.within.to;
  lie : AllWithin (LiesIn l.within) l.span-items 0 l.span-index;
}
