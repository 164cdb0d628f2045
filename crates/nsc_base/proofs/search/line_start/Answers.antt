use Rattle.nsc_base.proofs.LineStarts.{start_found}
use Rattle.nsc_base.proofs.search.line_start.Goals as goal

pub returns-in-Some-clause-lines : goal.returns-in-Some-clause-lines
returns-in-Some-clause-lines c = start_found c.args.text.now c.args.from c.args.at c.in-Some.n c.in-Some.ensures
