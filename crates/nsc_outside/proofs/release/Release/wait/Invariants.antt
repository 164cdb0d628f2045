use Rattle.std.proofs.Common.{◌≡◌, IsTrue}
use Rattle.std.specs.Bool.{OnTrue}
use Rattle.nsc_outside.proofs.release.Release.wait.Given as goal

abbrev pub invariant-loop : goal.invariant-loop
invariant-loop g l = record {
  same : l.self ≡ record l.fn.self { is_set = l.self.is_set };
  stays : OnTrue l.fn.self.is_set (IsTrue l.self.is_set);
}
