use Rattle.nsc_image.proofs.OneFault.{only_fault, only_image}
use Rattle.nsc_image.proofs.verification.verify.Goals as goal

pub returns-clause-only : goal.returns-clause-only
returns-clause-only c = λ version entries is. only_image c.args.db c.args.bytes.now c.checked.result version entries is c.checked.ensures.image c.checked.ensures.fault

pub returns-clause-first : goal.returns-clause-first
returns-clause-first c = λ fault is. only_fault c.args.db c.args.bytes.now c.checked.result fault is c.checked.ensures.image c.checked.ensures.fault
