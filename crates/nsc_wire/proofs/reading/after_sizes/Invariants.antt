use Rattle.std.proofs.Common.{◌≡◌, ◌-◌}
use Rattle.nsc_wire.specs.Replies.{sizes_at}
use Rattle.nsc_wire.proofs.reading.after_sizes.Given as goal

abbrev pub invariant-loop : goal.invariant-loop
invariant-loop l = sizes_at (l.count - l.counter) l.rest ≡ sizes_at l.count l.bytes
