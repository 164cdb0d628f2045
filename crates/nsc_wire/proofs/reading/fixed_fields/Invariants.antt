use Rattle.std.proofs.Common.{◌≡◌, drop}
use Rattle.nsc_wire.specs.Replies.{all_fixed}
use Rattle.nsc_wire.proofs.reading.fixed_fields.Given as goal

abbrev pub invariant-loop-value : goal.invariant-loop-value
invariant-loop-value l = all_fixed (drop l.value-index l.values) l.rest ≡ all_fixed l.values l.bytes
