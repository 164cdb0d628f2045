use Rattle.std.proofs.Common.{sym, subst}
use Rattle.nsc_base.specs.declared.search.Case.{Case}
use Rattle.nsc_base.specs.Found.{NoneBefore}
use Rattle.nsc_base.proofs.LineStarts.{none_before}
use Rattle.nsc_base.proofs.search.first_place.Goals as goal

pub returns-in-Counts : goal.returns-in-Counts
returns-in-Counts c = subst (λ (case : Case). NoneBefore case c.args.needle.now c.args.bytes.now c.find.result) (sym c.in-Counts.is) (none_before c.args.needle.now c.args.bytes.now c.find.result c.find.ensures)
