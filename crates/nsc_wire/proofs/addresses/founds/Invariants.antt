use Rattle.std.proofs.Common.{◌≡◌, ◌-◌}
use Rattle.nsc_wire.specs.Replies.{founds_at}
use Rattle.nsc_wire.proofs.ReplyLoops.{with_founds}
use Rattle.nsc_wire.proofs.addresses.founds.Given as goal

abbrev pub invariant-loop : goal.invariant-loop
invariant-loop l = with_founds l.list.items (founds_at (l.count - l.counter) l.addresses l.families) ≡ founds_at l.count l.fn.addresses l.fn.families
