use Rattle.nsc_laws.proofs.MachineLaw.{opening_drives, files_drive, lookup_turns, tick_passes, invalidation_passes}
use Rattle.nsc_laws.proofs.machines.machine_events_are_moves.Goals as goal

pub returns-clause-begins : goal.returns-clause-begins
returns-clause-begins c = opening_drives

pub returns-clause-files : goal.returns-clause-files
returns-clause-files c = files_drive

pub returns-clause-lookup : goal.returns-clause-lookup
returns-clause-lookup c = lookup_turns

pub returns-clause-tick : goal.returns-clause-tick
returns-clause-tick c = tick_passes

pub returns-clause-invalidation : goal.returns-clause-invalidation
returns-clause-invalidation c = invalidation_passes
