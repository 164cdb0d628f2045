use Rattle.nsc_reader.specs.Stages.{asked}
use Rattle.nsc_reader.proofs.walk.Walk.step.Given as goal

abbrev pub ghost-load_first : goal.ghost-load_first
ghost-load_first a = asked a.kind a.key.now
