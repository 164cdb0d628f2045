-- The exits of reading the words and the configuration.
use Rattle.clap.specs.declared.error.kind.ErrorKind.{ErrorKind}
use Rattle.clap.specs.declared.error.kind.ErrorKind.TheVariants as kinds
use Rattle.nsc_outside.specs.declared.files.ReadCause.{ReadCause}
use Rattle.nsc_outside.specs.declared.files.ReadCause.TheVariants as causes
use Rattle.nsc_model.specs.declared.exit.Exit.{Exit}
use Rattle.nsc_model.specs.declared.exit.Exit.TheVariants as exits

-- the exit where a file of a set could not be read
abbrev pub cause_exit : ReadCause → Exit
cause_exit causes.NoMemory = exits.NoMemory
cause_exit causes.Failed = exits.SourceFault
cause_exit (causes.TooLong size) = exits.TooLong size

-- the exit where clap refuses the words
abbrev pub error_exit : ErrorKind → Exit
error_exit kinds.OutOfMemory = exits.NoMemory
error_exit kind = exits.Usage
