use Rattle.std.proofs.Common.{arith}
use Rattle.nsc_base.proofs.AnyCase.{no_letters}
use Rattle.nsc_base.proofs.any_case.longest_run.Goals as goal

pub returns-clause-caseless : goal.returns-clause-caseless
returns-clause-caseless c = no_letters c.args.needle.now c.loop-i.longest (omega arith) c.loop-i.invariant.longest
