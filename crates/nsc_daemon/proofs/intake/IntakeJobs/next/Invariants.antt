use Rattle.std.proofs.Common.{◌≡◌}
use Rattle.nsc_daemon.proofs.intake.IntakeJobs.next.Given as goal

-- nothing was handed out so far
abbrev pub invariant-loop : goal.invariant-loop
invariant-loop g l = l.self.taken ≡ l.initial.self.taken
