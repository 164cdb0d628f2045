use Rattle.std.proofs.Common.{arith, sym, ◌∙◌}
use Rattle.std.proofs.lemmas.List.{length-take-le}
use Rattle.memchr.specs.Find.{is_byte}
use Rattle.nsc_base.proofs.FirstBytes.{cut-found, cut-missing, front-found, front-missing}
use Rattle.nsc_base.proofs.cuts.before_byte.Goals as goal

pub returns-in-Some-clause-front : goal.returns-in-Some-clause-front
returns-in-Some-clause-front c = front-found (is_byte c.args.byte) c.args.bytes.now c.in-Some.n c.in-Some.ensures

pub returns-in-Some-clause-place : goal.returns-in-Some-clause-place
returns-in-Some-clause-place c =
    length-take-le c.in-Some.n c.args.bytes.now (omega (arith, c.in-Some.ensures.0.high)) ∙ sym (cut-found (is_byte c.args.byte) c.args.bytes.now c.in-Some.n c.in-Some.ensures)

pub returns-in-None-clause-front : goal.returns-in-None-clause-front
returns-in-None-clause-front c = front-missing (is_byte c.args.byte) c.args.bytes.now c.in-None.ensures

pub returns-in-None-clause-place : goal.returns-in-None-clause-place
returns-in-None-clause-place c = sym (cut-missing (is_byte c.args.byte) c.args.bytes.now c.in-None.ensures)
