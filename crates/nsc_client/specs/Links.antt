-- How a link fails.
use Rattle.std.specs.Prelude.{ℕ, List, Result, Ok, Err}
use Rattle.nsc_model.specs.declared.store.LookupFault.{LookupFault}
use Rattle.nsc_model.specs.declared.store.LookupFault.TheVariants as fault
use Rattle.nsc_model.specs.Reads.{Rose}
use Rattle.nsc_wire.specs.declared.fault.ReplyFault.{ReplyFault}
use Rattle.nsc_wire.specs.declared.fault.ReplyFault.TheVariants as reply
use Rattle.nsc_client.specs.declared.link.LinkFault.{LinkFault}
use Rattle.nsc_client.specs.declared.link.LinkFault.TheVariants.{NoMemory, Failed, Refused, BadReply}

-- the fault of a link to a store, by that of the lookup: want of memory is one for both
abbrev pub fault_of : LookupFault → LinkFault
fault_of fault.NoMemory = NoMemory
fault_of (fault.Spent count) = Refused (fault.Spent count)
fault_of (fault.SourceFault file) = Refused (fault.SourceFault file)
fault_of (fault.TooLong file size) = Refused (fault.TooLong file size)

-- the fault of a link whose answer was not read back
abbrev pub fault_read : ReplyFault → LinkFault
fault_read reply.NoMemory = NoMemory
fault_read (reply.BadReply at) = BadReply at

-- a link itself failed only where its count of faults rose
abbrev pub FailsBy : ℕ → ℕ → Result (List ℕ) LinkFault → Type 0
FailsBy before after (Err Failed) = Rose before after
FailsBy before after (Err NoMemory) = Unit {0}
FailsBy before after (Err (Refused cause)) = Unit {0}
FailsBy before after (Err (BadReply at)) = Unit {0}
FailsBy before after (Ok bytes) = Unit {0}
