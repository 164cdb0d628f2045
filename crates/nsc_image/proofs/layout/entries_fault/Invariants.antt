use Rattle.nsc_image.specs.Versions.{number_of}
use Rattle.nsc_image.proofs.Walk.{Walk}
use Rattle.nsc_image.proofs.layout.entries_fault.Given as goal

abbrev pub invariant-loop : goal.invariant-loop
invariant-loop l = Walk l.db (number_of l.version) l.bytes l.counter l.last l.rest
