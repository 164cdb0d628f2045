-- What a file's bytes are, and why there are none.
use Rattle.std.proofs.Common.{ℕ, List, Option, None}
use Rattle.nsc_outside.specs.declared.files.ReadCause.{ReadCause}
use Rattle.nsc_outside.specs.declared.files.ReadCause.TheVariants as causes
use Rattle.nsc_model.specs.Files.{file_limit}
use Rattle.nsc_outside.specs.FileSets.{IsCause, IsLong, IsOver, TellsNoLength}
use Rattle.nsc_outside.specs.ImageStores.{image_limit, IsImageCause}

-- a cause that tells no length says nothing of a file
pub no_length_no_cause : (cause : ReadCause) → TellsNoLength cause → IsCause None cause
no_length_no_cause causes.NoMemory short = tt
no_length_no_cause causes.Failed short = tt
no_length_no_cause (causes.TooLong size) short = absurd short

-- nor of an image
pub no_length_no_image_cause : (cause : ReadCause) → TellsNoLength cause → IsImageCause None cause
no_length_no_image_cause causes.NoMemory short = tt
no_length_no_image_cause causes.Failed short = tt
no_length_no_image_cause (causes.TooLong size) short = absurd short

-- nor of what a reader has left
pub no_length_over : (limit : ℕ) (left : Option (List ℕ)) (cause : ReadCause) → TellsNoLength cause → IsOver limit left cause
no_length_over limit left causes.NoMemory short = tt
no_length_over limit left causes.Failed short = tt
no_length_over limit left (causes.TooLong size) short = absurd short

-- what has more bytes than a file may have is too long for a file
pub over_no_cause : (left : Option (List ℕ)) (cause : ReadCause) → IsOver file_limit left cause → IsCause None cause
over_no_cause left causes.NoMemory over = tt
over_no_cause left causes.Failed over = tt
over_no_cause left (causes.TooLong size) over = record { past = over.0; of_file = tt }

pub over_long : (left : Option (List ℕ)) (cause : ReadCause) → IsOver file_limit left cause → IsLong left cause
over_long left causes.NoMemory over = tt
over_long left causes.Failed over = tt
over_long left (causes.TooLong size) over = over.1

-- the same of an image
pub over_no_image_cause : (left : Option (List ℕ)) (cause : ReadCause) → IsOver image_limit left cause → IsImageCause None cause
over_no_image_cause left causes.NoMemory over = tt
over_no_image_cause left causes.Failed over = tt
over_no_image_cause left (causes.TooLong size) over = record { past = over.0; of_image = tt }
