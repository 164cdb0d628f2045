use Rattle.std.proofs.Common.{◌≡◌, ◌+◌, ◌^◌, ◌≤◌}
use Rattle.std.specs.Prelude.{min}
use Rattle.nsc_server.specs.Passes.{ArePasses, SawMore, passes_at}
use Rattle.nsc_server.proofs.jobs.work.Given as goal

abbrev pub invariant-loop : goal.invariant-loop
invariant-loop g l = record {
  goes_on : (goal.iterator-loop g).can_next l.iterator' × (goal.iterator-loop g).is_finite l.iterator';
  own : ArePasses g.S.Store l.stores l.passes;
  saw : SawMore (passes_at g.S.Store l.fn.passes) (passes_at g.S.Store l.passes);
  count : g.J.Jobs.given l.fn.jobs ≤ 2 ^ 62 → g.J.Jobs.given l.jobs ≡ min (g.J.Jobs.given l.fn.jobs + l.count) (2 ^ 62);
  limit : l.count ≤ 2 ^ 62;
}
