use Rattle.std.proofs.Common.{◌<◌, length, arith, refl}
use Rattle.nsc_base.proofs.Places.{line-found, line-last}
use Rattle.nsc_base.proofs.lines.line_at.Goals as goal

pub returns-in-Some-clause-line : goal.returns-in-Some-clause-line
returns-in-Some-clause-line c = line-found c.args.text.now c.args.from c.in-Some.n _ c.new.ensures refl c.in-Some.ensures

pub returns-in-None-clause-line : goal.returns-in-None-clause-line
returns-in-None-clause-line c =
    let before : c.args.from < length c.args.text.now = omega arith in
    line-last c.args.text.now c.args.from _ c.new-in-None.ensures refl before c.in-None.ensures
