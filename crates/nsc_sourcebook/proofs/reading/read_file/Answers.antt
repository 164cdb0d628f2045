use Rattle.std.proofs.Common.{subst, sym}
use Rattle.nsc_sourcebook.specs.Reads.{NotFetched}
use Rattle.nsc_sourcebook.proofs.Each.{not_read}
use Rattle.nsc_sourcebook.proofs.reading.read_file.Goals as goal

pub returns-in-Err-clause-fault : goal.returns-in-Err-clause-fault
returns-in-Err-clause-fault g c =
    subst (NotFetched g.F.FileSet c.args.files.now c.read.new.self) (sym c.of.ensures)
    (not_read g.F.FileSet c.args.file c.in-Err.cause c.args.files.now c.read.new.self c.in-Err.ensures.faults c.in-Err.ensures.file_faults c.read.ensures.other_faults c.in-Err.ensures.cause)
