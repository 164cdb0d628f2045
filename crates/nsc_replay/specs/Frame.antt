-- What a frame says.
use Rattle.std.specs.Prelude.{◌≤◌, length}
use Rattle.nsc_model.specs.Files.{FileFits}
use Rattle.nsc_model.specs.Frames as frames
use Rattle.nsc_replay.specs.declared.frame.Frame.{Frame}
use Rattle.nsc_replay.specs.declared.frame.Frame.TheVariants.{Request, SetFile, Time, Invalidate, End}

abbrev pub said : Frame → frames.Frame
said (Request input) = frames.Request input.now
said (SetFile file bytes) = frames.SetFile file bytes
said (Time moment) = frames.Time moment
said (Invalidate db) = frames.Invalidate db
said End = frames.End

-- an input has at most 4,096 bytes, and a file is no longer than a file may be
abbrev pub FrameFits : Frame → Type 0
FrameFits (Request input) = length input.now ≤ frames.input_limit
FrameFits (SetFile file bytes) = FileFits bytes
FrameFits _ = Unit {0}

-- a frame that is followed by others: each but the first E
abbrev pub IsFollowed : frames.Frame → Type 0
IsFollowed frames.End = ⊥
IsFollowed _ = Unit {0}
