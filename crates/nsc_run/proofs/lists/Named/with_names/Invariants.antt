use Rattle.nsc_run.specs.Named.{with_names}
use Rattle.nsc_run.specs.Lists.{names_between}
use Rattle.nsc_run.proofs.Names.{Goes}
use Rattle.nsc_run.proofs.lists.Named.with_names.Given as goal

abbrev pub invariant-loop-name : goal.invariant-loop-name
invariant-loop-name l = Goes l.scope l.name-iterator l.named (with_names l.scope (names_between l.list) l.fn.self)
