-- Why a file gave no answer, as a set that tells nothing of its files says it.
use Rattle.std.proofs.Common.{ℕ, List, Option, None}
use Rattle.nsc_outside.specs.FileSets.{IsCause}
use Rattle.nsc_outside.specs.declared.files.ReadCause.{ReadCause}
use Rattle.nsc_outside.specs.declared.files.ReadCause.TheVariants as causes

pub untold : (told : Option (Option (List ℕ))) (cause : ReadCause) → IsCause told cause → IsCause None cause
untold told causes.NoMemory known = tt
untold told causes.Failed known = tt
untold told (causes.TooLong size) known = record { past = known.past; of_file = tt }
