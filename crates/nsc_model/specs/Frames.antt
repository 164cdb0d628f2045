-- The frames of a replay, as bytes.
use Rattle.std.specs.Prelude.{ℕ, ◌+◌, ◌-◌, ◌^◌, ◌==◌, nat_lt, if◌then◌else◌, List, [], ◌∷◌, length, take, drop, Option, Some, None, Result, Ok, Err, zero, suc}
use Rattle.byteorder.specs.Endian.{little_number}
use Rattle.nsc_model.specs.declared.kind.Db.{Db}
use Rattle.nsc_model.specs.declared.kind.FileId.{FileId}
use Rattle.nsc_model.specs.Kinds.{db_numbered, file_numbered}
use Rattle.nsc_model.specs.Files.{file_limit}

-- a frame: the input of one connection, what a file becomes, a moment, an invalidation, the end of the replay
pub data Frame : Type 0 where
  Request : (input : List ℕ) → Frame
  SetFile : (file : FileId) → (bytes : Option (List ℕ)) → Frame
  Time : (moment : ℕ) → Frame
  Invalidate : (db : Db) → Frame
  End : Frame

-- bytes end inside a frame; or begin no frame, whatever follows; or announce a file that is longer than a file may be
pub data Fault : Type 0 where
  Short : Fault
  NoFrame : Fault
  LongFile : (length : ℕ) → Fault

infixl 10 ◌>>=◌
abbrev pub ◌>>=◌ : {A B : Type 0} → Result A Fault → (A → Result B Fault) → Result B Fault
(Ok x) >>= f = f x
(Err fault) >>= f = Err fault

-- the longest input of a connection in a frame
abbrev pub input_limit : ℕ
input_limit = 4096

-- the first n bytes, and those after them
abbrev pub chunk : ℕ → List ℕ → Result (List ℕ × List ℕ) Fault
chunk n bytes = if nat_lt (length bytes) n then Err Short else Ok (take n bytes, drop n bytes)

-- a number of n bytes, the lowest first
unfoldable pub number_at : ℕ → List ℕ → Result (ℕ × List ℕ) Fault
number_at n bytes = chunk n bytes >>= λ front. Ok (little_number n front.0, front.1)

-- what is made of a piece
abbrev pub made : {A B : Type 0} → (A → B) → (List ℕ → Result (A × List ℕ) Fault) → List ℕ → Result (B × List ℕ) Fault
made make parser bytes = parser bytes >>= λ piece. Ok (make piece.0, piece.1)

-- the input of a connection, of this many bytes
unfoldable pub input_at : ℕ → List ℕ → Result (List ℕ × List ℕ) Fault
input_at size bytes = if nat_lt input_limit size then Err NoFrame else chunk size bytes

-- after a Q: a length of four bytes, and as many bytes as it says
unfoldable pub request_at : List ℕ → Result (List ℕ × List ℕ) Fault
request_at bytes = number_at 4 bytes >>= λ size. input_at size.0 size.1

-- the bytes of a file, of this many bytes
unfoldable pub held_at : ℕ → List ℕ → Result (List ℕ × List ℕ) Fault
held_at size bytes = if nat_lt file_limit size then Err (LongFile size) else chunk size bytes

-- a length of four bytes, and as many bytes of a file as it says
unfoldable pub present_at : List ℕ → Result (List ℕ × List ℕ) Fault
present_at bytes = number_at 4 bytes >>= λ size. held_at size.0 size.1

-- after a byte 0 nothing: the file is absent; after a byte 1 its bytes
unfoldable pub presence_at : ℕ → List ℕ → Result (Option (List ℕ) × List ℕ) Fault
presence_at presence bytes =
    if presence == 0 then Ok (None, bytes) else (
    if presence == 1 then made (λ held. Some held) present_at bytes else Err NoFrame)

-- what a file becomes
unfoldable pub bytes_at : List ℕ → Result (Option (List ℕ) × List ℕ) Fault
bytes_at bytes = number_at 1 bytes >>= λ presence. presence_at presence.0 presence.1

abbrev pub set_file : Option FileId → List ℕ → Result ((FileId × Option (List ℕ)) × List ℕ) Fault
set_file None rest = Err NoFrame
set_file (Some file) rest = made (λ held. (file, held)) bytes_at rest

-- after an F: the number of a file, and what it becomes
unfoldable pub file_at : List ℕ → Result ((FileId × Option (List ℕ)) × List ℕ) Fault
file_at bytes = number_at 1 bytes >>= λ number. set_file (file_numbered number.0) number.1

abbrev pub known_db : Option Db → List ℕ → Result (Db × List ℕ) Fault
known_db None rest = Err NoFrame
known_db (Some db) rest = Ok (db, rest)

-- after an I: the number of a database
unfoldable pub invalidate_at : List ℕ → Result (Db × List ℕ) Fault
invalidate_at bytes = number_at 1 bytes >>= λ number. known_db (db_numbered number.0) number.1

-- what stands after the first byte of a frame: Q, F, T, with a moment of eight bytes, I or E
unfoldable pub frame_after : ℕ → List ℕ → Result (Frame × List ℕ) Fault
frame_after first rest =
    if first == 81 then made Request request_at rest else (
    if first == 70 then made (λ p. SetFile p.0 p.1) file_at rest else (
    if first == 84 then made Time (number_at 8) rest else (
    if first == 73 then made Invalidate invalidate_at rest else (
    if first == 69 then Ok (End, rest) else Err NoFrame))))

-- the frame at the front of the bytes, and what stands after it
unfoldable pub frame_at : List ℕ → Result (Frame × List ℕ) Fault
frame_at bytes = number_at 1 bytes >>= λ first. frame_after first.0 first.1

-- how many bytes a frame takes
abbrev pub frame_size : Frame → ℕ
frame_size (Request input) = 5 + length input
frame_size (SetFile file None) = 3
frame_size (SetFile file (Some held)) = 7 + length held
frame_size (Time moment) = 9
frame_size (Invalidate db) = 2
frame_size End = 1

-- how a replay ends: after its first E; at the place where bytes are no frame or end inside one; at a file that is too
-- long; at a count that stands at its end
pub data Finish : Type 0 where
  Done : (place : ℕ) → Finish
  Bad : (place : ℕ) → Finish
  Long : (length : ℕ) → Finish
  Spent : (count : ℕ) → Finish

-- a frame begins below this place
abbrev pub place_limit : ℕ
place_limit = 2 ^ 40

pub record Cut : Type 0 where
  pub frames : List Frame
  pub finish : Finish

abbrev pub more_frames : Frame → Cut → Cut
more_frames frame cut = record { frames = frame ∷ cut.frames; finish = cut.finish }

abbrev pub fault_at : ℕ → Fault → Finish
fault_at place Short = Bad place
fault_at place NoFrame = Bad place
fault_at place (LongFile length) = Long length

-- how far a frame reached: the bytes that stood before its rest
abbrev pub reached : ℕ → List ℕ → List ℕ → ℕ
reached place bytes rest = place + (length bytes - length rest)

-- a frame, and then those after it, unless it is the first E
abbrev pub cut_on : (ℕ → List ℕ → Cut) → ℕ → List ℕ → Frame → List ℕ → Cut
cut_on next place bytes (Request input) rest = more_frames (Request input) (next (reached place bytes rest) rest)
cut_on next place bytes (SetFile file held) rest = more_frames (SetFile file held) (next (reached place bytes rest) rest)
cut_on next place bytes (Time moment) rest = more_frames (Time moment) (next (reached place bytes rest) rest)
cut_on next place bytes (Invalidate db) rest = more_frames (Invalidate db) (next (reached place bytes rest) rest)
cut_on next place bytes End rest = record { frames = []; finish = Done (reached place bytes rest) }

abbrev pub cut_from : (ℕ → List ℕ → Cut) → ℕ → List ℕ → Result (Frame × List ℕ) Fault → Cut
cut_from next place bytes (Err fault) = record { frames = []; finish = fault_at place fault }
cut_from next place bytes (Ok found) = cut_on next place bytes found.0 found.1

-- The bytes from a place on, cut into the frames before the first E, and how they end. A frame takes at least one byte,
-- so there are at most as many frames as bytes.
unfoldable pub cut_by : ℕ → ℕ → List ℕ → Cut
cut_by zero place bytes = record { frames = []; finish = Bad place }
cut_by (suc count) place bytes =
    if nat_lt place place_limit then cut_from (cut_by count) place bytes (frame_at bytes) else record { frames = []; finish = Bad place }

-- the frames of the bytes that stand from a place on
abbrev pub cut_at : ℕ → List ℕ → Cut
cut_at place bytes = cut_by (length bytes) place bytes
