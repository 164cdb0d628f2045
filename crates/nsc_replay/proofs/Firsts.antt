-- What stands after the first byte of a frame, by that byte.
use Rattle.std.proofs.Common.{◌≡◌, ◌≢◌, ℕ, List, [], Option, Ok, refl, sym, subst}
use Rattle.nsc_model.specs.declared.kind.FileId.{FileId}
use Rattle.nsc_model.specs.declared.kind.Db.{Db}
use Rattle.nsc_model.specs.Frames as frame
use Rattle.nsc_model.specs.Frames.{Frame, request_at, file_at, number_at, invalidate_at, made, frame_after}
use Rattle.nsc_model.proofs.Parsers.{Parser}
use Rattle.nsc_replay.specs.declared.halt.Halt.{Halt}
use Rattle.nsc_replay.specs.declared.halt.Halt.TheVariants as halts
use Rattle.nsc_replay.specs.Reading.{Halts, Gets}
use Rattle.nsc_replay.proofs.Steps.{Told, nothing, halts_first, gets_made, gets_now, eqb_off}

-- a byte that makes a frame of what a parser finds after it
record Makes {A : Type 0} (first : ℕ) (parser : Parser A) (make : A → Frame) : Type 0 where
  same : frame_after first ≡ made make parser

makes_gets : {A : Type 0} (first : ℕ) (parser : Parser A) (make : A → Frame) (a b : Told) (x : A) → Makes first parser make → Gets parser a b x → Gets (frame_after first) a b (make x)
makes_gets first parser make a b x m h = subst (λ (p : Parser Frame). Gets p a b (make x)) (sym m.same) (gets_made parser make a b x h)

makes_halts : {A : Type 0} (first : ℕ) (parser : Parser A) (make : A → Frame) (a b : Told) (halt : Halt) → Makes first parser make → Halts parser a b halt → Halts (frame_after first) a b halt
makes_halts first parser make a b halt m h = subst (λ (p : Parser Frame). Halts p a b halt) (sym m.same) (halts_first parser (λ x bytes. Ok (make x, bytes)) a b halt h)

abbrev set_file_by : FileId × Option (List ℕ) → Frame
set_file_by p = frame.SetFile p.0 p.1

requests : Makes 81 request_at frame.Request
unfolding frame_after
requests = record { same = refl }

sets : Makes 70 file_at set_file_by
unfolding frame_after
sets = record { same = refl }

times : Makes 84 (number_at 8) frame.Time
unfolding frame_after
times = record { same = refl }

invalidates : Makes 73 invalidate_at frame.Invalidate
unfolding frame_after
invalidates = record { same = refl }

at : {A : Type 0} (n first : ℕ) (parser : Parser A) (make : A → Frame) → first ≡ n → Makes n parser make → Makes first parser make
at n first parser make e m = subst (λ k. Makes k parser make) (sym e) m

pub request_gets : (first : ℕ) (a b : Told) (x : List ℕ) → first ≡ 81 → Gets request_at a b x → Gets (frame_after first) a b (frame.Request x)
request_gets first a b x e h = makes_gets first request_at frame.Request a b x (at 81 first request_at frame.Request e requests) h

pub request_halts : (first : ℕ) (a b : Told) (halt : Halt) → first ≡ 81 → Halts request_at a b halt → Halts (frame_after first) a b halt
request_halts first a b halt e h = makes_halts first request_at frame.Request a b halt (at 81 first request_at frame.Request e requests) h

pub set_file_gets : (first : ℕ) (a b : Told) (x : FileId × Option (List ℕ)) → first ≡ 70 → Gets file_at a b x → Gets (frame_after first) a b (frame.SetFile x.0 x.1)
set_file_gets first a b x e h = makes_gets first file_at set_file_by a b x (at 70 first file_at set_file_by e sets) h

pub set_file_halts : (first : ℕ) (a b : Told) (halt : Halt) → first ≡ 70 → Halts file_at a b halt → Halts (frame_after first) a b halt
set_file_halts first a b halt e h = makes_halts first file_at set_file_by a b halt (at 70 first file_at set_file_by e sets) h

pub time_gets : (first : ℕ) (a b : Told) (x : ℕ) → first ≡ 84 → Gets (number_at 8) a b x → Gets (frame_after first) a b (frame.Time x)
time_gets first a b x e h = makes_gets first (number_at 8) frame.Time a b x (at 84 first (number_at 8) frame.Time e times) h

pub time_halts : (first : ℕ) (a b : Told) (halt : Halt) → first ≡ 84 → Halts (number_at 8) a b halt → Halts (frame_after first) a b halt
time_halts first a b halt e h = makes_halts first (number_at 8) frame.Time a b halt (at 84 first (number_at 8) frame.Time e times) h

pub invalidate_gets : (first : ℕ) (a b : Told) (x : Db) → first ≡ 73 → Gets invalidate_at a b x → Gets (frame_after first) a b (frame.Invalidate x)
invalidate_gets first a b x e h = makes_gets first invalidate_at frame.Invalidate a b x (at 73 first invalidate_at frame.Invalidate e invalidates) h

pub invalidate_halts : (first : ℕ) (a b : Told) (halt : Halt) → first ≡ 73 → Halts invalidate_at a b halt → Halts (frame_after first) a b halt
invalidate_halts first a b halt e h = makes_halts first invalidate_at frame.Invalidate a b halt (at 73 first invalidate_at frame.Invalidate e invalidates) h

pub end_gets : (first : ℕ) (a : Told) → first ≡ 69 → Gets (frame_after first) a a frame.End
unfolding frame_after
end_gets first a e = subst (λ n. Gets (frame_after n) a a frame.End) (sym e) (gets_now a frame.End)

pub none_of_them : (first : ℕ) (a : Told) → first ≢ 81 → first ≢ 70 → first ≢ 84 → first ≢ 73 → first ≢ 69 → Halts (frame_after first) a a halts.NoFrame
unfolding frame_after
none_of_them first a n0 n1 n2 n3 n4 = record { front = []; moved = nothing a; stops = record { whatever = λ more. rw (eqb_off first 81 n0, eqb_off first 70 n1, eqb_off first 84 n2, eqb_off first 73 n3, eqb_off first 69 n4) refl } }
