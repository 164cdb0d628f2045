-- Faults of polls.
use Rattle.nsc_model.specs.declared.kind.FileId.{FileId}
use Rattle.nsc_model.specs.declared.store.LookupFault.{LookupFault}
use Rattle.nsc_model.specs.declared.store.LookupFault.TheVariants as lookup
use Rattle.nsc_outside.specs.declared.files.ReadCause.{ReadCause}
use Rattle.nsc_outside.specs.declared.files.ReadCause.TheVariants as causes
use Rattle.nsc_sourcebook.specs.declared.fault.PollFault.{PollFault}
use Rattle.nsc_sourcebook.specs.declared.fault.PollFault.TheVariants as poll

-- the fault of a read of this file
abbrev pub fault_of : FileId → ReadCause → PollFault
fault_of file causes.NoMemory = poll.NoMemory
fault_of file causes.Failed = poll.SourceFault file
fault_of file (causes.TooLong length) = poll.TooLong file length

-- the fault of a lookup whose poll gave up
abbrev pub lookup_fault : PollFault → LookupFault
lookup_fault poll.NoMemory = lookup.NoMemory
lookup_fault (poll.SourceFault file) = lookup.SourceFault file
lookup_fault (poll.TooLong file length) = lookup.TooLong file length
