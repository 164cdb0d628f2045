use Rattle.nsc_laws.proofs.MachineLawReplays.{frames_law, bytes_law}
use Rattle.nsc_laws.proofs.replays.replays_are_answered.Goals as goal

pub returns-clause-of_frames : goal.returns-clause-of_frames
returns-clause-of_frames c = frames_law

pub returns-clause-of_bytes : goal.returns-clause-of_bytes
returns-clause-of_bytes c = bytes_law
