-- The parsers of frames: what they find in a front they find whatever follows, and what they leave is shorter.
use Rattle.std.proofs.Common.{◌≡◌, ℕ, ◌+◌, ◌<◌, ◌≤◌, Bool, true, false, cond, ltb, eqb, List, [], ◌++◌, length, take, drop, Option, Some, None, Result, Ok, Err, refl, ap, append_assoc, arith}
use Rattle.std.proofs.lemmas.Bool.{ltb-false, le-ltb, lt-ltb}
use Rattle.std.proofs.lemmas.List.{take_at, drop_at, length-append, length-drop, length-take}
use Rattle.byteorder.specs.Endian.{little_number}
use Rattle.nsc_model.specs.declared.kind.FileId.{FileId}
use Rattle.nsc_model.specs.declared.kind.Db.{Db}
use Rattle.nsc_model.specs.Kinds.{db_numbered, file_numbered}
use Rattle.nsc_model.specs.Files.{file_limit}
use Rattle.nsc_model.specs.Frames as frame
use Rattle.nsc_model.specs.Frames.{Frame, Fault, Short, NoFrame, LongFile, ◌>>=◌, chunk, number_at, made, input_limit, input_at, request_at, held_at, present_at, presence_at, bytes_at, set_file, file_at, known_db, invalidate_at, frame_after, frame_at, frame_size}
use Rattle.nsc_model.specs.Fronts.{Finds, Refuses, IsPartial}

abbrev pub Parser : Type 0 → Type 0
Parser A = List ℕ → Result (A × List ℕ) Fault

-- two parsers, one after the other
abbrev pub then : {A B : Type 0} → Parser A → (A → Parser B) → Parser B
then p q bytes = p bytes >>= λ x. q x.0 x.1

-- ---- fronts

pub chunk_finds : (n : ℕ) (front : List ℕ) → length front ≡ n → Finds (chunk n) front front
chunk_finds n front len = record {
  whatever = λ more.
      let long : ltb (length (front ++ more)) n ≡ false = le-ltb _ _ (omega (arith, length-append front more)) in
      rw (long, take_at front more n len, drop_at front more n len) refl;
}

pub chunk_partial : (n : ℕ) (front : List ℕ) → length front < n → IsPartial (chunk n) front
chunk_partial n front lt = record { lacks = let short : ltb (length front) n ≡ true = lt-ltb _ _ lt in rw short refl }

pub finds_then : {A B : Type 0} (p : Parser A) (q : A → Parser B) (f g : List ℕ) (x : A) (y : B) → Finds p f x → Finds (q x) g y → Finds (then p q) (f ++ g) y
finds_then p q f g x y a b = record { whatever = λ more. rw (append_assoc f g more, a.whatever (g ++ more)) (b.whatever more) }

pub refuses_then : {A B : Type 0} (p : Parser A) (q : A → Parser B) (f g : List ℕ) (x : A) (fault : Fault) → Finds p f x → Refuses (q x) g fault → Refuses (then p q) (f ++ g) fault
refuses_then p q f g x fault a b = record { whatever = λ more. rw (append_assoc f g more, a.whatever (g ++ more)) (b.whatever more) }

pub partial_then : {A B : Type 0} (p : Parser A) (q : A → Parser B) (f g : List ℕ) (x : A) → Finds p f x → IsPartial (q x) g → IsPartial (then p q) (f ++ g)
partial_then p q f g x a b = record { lacks = rw (a.whatever g) b.lacks }

pub refuses_first : {A B : Type 0} (p : Parser A) (q : A → Parser B) (f : List ℕ) (fault : Fault) → Refuses p f fault → Refuses (then p q) f fault
refuses_first p q f fault a = record { whatever = λ more. rw (a.whatever more) refl }

pub partial_first : {A B : Type 0} (p : Parser A) (q : A → Parser B) (f : List ℕ) → IsPartial p f → IsPartial (then p q) f
partial_first p q f a = record { lacks = rw a.lacks refl }

-- a value with nothing more to read
pub finds_now : {A : Type 0} (x : A) → Finds (λ bytes. Ok (x, bytes)) [] x
finds_now x = record { whatever = λ more. refl }

-- ---- how many bytes a piece takes

-- what a parser finds takes `size` bytes of those that it was given
record Takes {A : Type 0} (p : Parser A) (size : A → ℕ) : Type 0 where
  parts : (bytes : List ℕ) (x : A × List ℕ) → p bytes ≡ Ok x → length bytes ≡ size x.0 + length x.1

abbrev done : {A : Type 0} → A → Result A Fault
done x = Ok x

ok_is : {A : Type 0} (x y : A) → done x ≡ done y → x ≡ y
ok_is x y e = cc

bind_ok : {A B : Type 0} (r : Result A Fault) (f : A → Result B Fault) (y : B) → (r >>= f) ≡ Ok y → (x : A) × (r ≡ Ok x) × (f x ≡ Ok y)
bind_ok (Ok x) f y e = (x, refl, e)
bind_ok (Err d) f y e = absurd cc

guard_ok : {A : Type 0} (b : Bool) (d : Fault) (x : Result A Fault) (y : A) → cond b (Err d) x ≡ Ok y → (b ≡ false) × (x ≡ Ok y)
guard_ok true d x y e = absurd cc
guard_ok false d x y e = (refl, e)

-- a piece that takes n bytes, and after it one that takes `size` more
takes_then : {A B : Type 0} (n : ℕ) (p : Parser A) (q : A → Parser B) (size whole : B → ℕ) → Takes p (λ _. n) → ((x : A) → Takes (q x) size) → ((y : B) → n + size y ≡ whole y) → Takes (then p q) whole
takes_then n p q size whole a b sum = record {
  parts = λ bytes y e.
      let m = bind_ok (p bytes) (λ x. q x.0 x.1) y e in
      let first : length bytes ≡ n + length m.0.1 = a.parts bytes m.0 m.1 in
      let second : length m.0.1 ≡ size y.0 + length y.1 = (b m.0.0).parts m.0.1 y m.2 in
      let third : n + size y.0 ≡ whole y.0 = sum y.0 in
      omega arith;
}

-- a value that is made of what was found
takes_made : {A B : Type 0} (p : Parser A) (make : A → B) (size : A → ℕ) (whole : B → ℕ) → Takes p size → ((x : A) → size x ≡ whole (make x)) → Takes (made make p) whole
takes_made {A} {B} p make size whole a same = record {
  parts = λ bytes y e.
      let m = bind_ok (p bytes) (λ x. Ok (make x.0, x.1)) y e in
      let first : length bytes ≡ size m.0.0 + length m.0.1 = a.parts bytes m.0 m.1 in
      let is : size m.0.0 ≡ whole (make m.0.0) = same m.0.0 in
      let value : whole (make m.0.0) ≡ whole y.0 = ap (λ (z : B × List ℕ). whole z.0) (ok_is (make m.0.0, m.0.1) y m.2) in
      let rest : length m.0.1 ≡ length y.1 = ap (λ (z : B × List ℕ). length z.1) (ok_is (make m.0.0, m.0.1) y m.2) in
      omega arith;
}

takes_guard : {A : Type 0} (b : Bool) (d : Fault) (p : Parser A) (size : A → ℕ) → Takes p size → Takes (λ bytes. cond b (Err d) (p bytes)) size
takes_guard b d p size a = record { parts = λ bytes y e. a.parts bytes y (guard_ok b d (p bytes) y e).1 }

takes_choice : {A : Type 0} (b : Bool) (p q : Parser A) (size : A → ℕ) → Takes p size → Takes q size → Takes (λ bytes. cond b (p bytes) (q bytes)) size
takes_choice true p q size x y = x
takes_choice false p q size x y = y

takes_refusal : {A : Type 0} (d : Fault) (size : A → ℕ) → Takes {A = A} (λ bytes. Err d) size
takes_refusal d size = record { parts = λ bytes y e. absurd cc }

takes_now : {A : Type 0} (x : A) (size : A → ℕ) → size x ≡ 0 → Takes (λ bytes. Ok (x, bytes)) size
takes_now {A} x size none = record {
  parts = λ bytes y e.
      let value : size x ≡ size y.0 = ap (λ (p : A × List ℕ). size p.0) (ok_is (x, bytes) y e) in
      let rest : length bytes ≡ length y.1 = ap (λ (p : A × List ℕ). length p.1) (ok_is (x, bytes) y e) in
      omega arith;
}

chunk_takes : (n : ℕ) → Takes (chunk n) length
chunk_takes n = record {
  parts = λ bytes y e.
      let g = guard_ok (ltb (length bytes) n) Short (Ok (take n bytes, drop n bytes)) y e in
      let long : n ≤ length bytes = ltb-false _ _ g.0 in
      let front : length (take n bytes) ≡ length y.0 = ap (λ (p : List ℕ × List ℕ). length p.0) (ok_is (take n bytes, drop n bytes) y g.1) in
      let rest : length (drop n bytes) ≡ length y.1 = ap (λ (p : List ℕ × List ℕ). length p.1) (ok_is (take n bytes, drop n bytes) y g.1) in
      omega (arith, length-drop n bytes, length-take n bytes);
}

number_takes : (n : ℕ) → Takes (number_at n) (λ _. n)
unfolding number_at
number_takes n = record {
  parts = λ bytes y e.
      let m = bind_ok (chunk n bytes) (λ front. Ok (little_number n front.0, front.1)) y e in
      let g = guard_ok (ltb (length bytes) n) Short (Ok (take n bytes, drop n bytes)) m.0 m.1 in
      let long : n ≤ length bytes = ltb-false _ _ g.0 in
      let rest : length (drop n bytes) ≡ length m.0.1 = ap (λ (p : List ℕ × List ℕ). length p.1) (ok_is (take n bytes, drop n bytes) m.0 g.1) in
      let last : length m.0.1 ≡ length y.1 = ap (λ (p : ℕ × List ℕ). length p.1) (ok_is (little_number n m.0.0, m.0.1) y m.2) in
      omega (arith, length-drop n bytes);
}

abbrev after_size : Frame → ℕ
after_size (frame.Request input) = 4 + length input
after_size (frame.SetFile file None) = 2
after_size (frame.SetFile file (Some held)) = 6 + length held
after_size (frame.Time moment) = 8
after_size (frame.Invalidate db) = 1
after_size frame.End = 0

abbrev presence_size : Option (List ℕ) → ℕ
presence_size None = 0
presence_size (Some held) = 4 + length held

abbrev held_size : Option (List ℕ) → ℕ
held_size held = 1 + presence_size held

input_takes : (size : ℕ) → Takes (input_at size) length
unfolding input_at
input_takes size = takes_guard (ltb input_limit size) NoFrame (chunk size) length (chunk_takes size)

request_takes : Takes request_at (λ input. 4 + length input)
unfolding request_at
request_takes = takes_then 4 (number_at 4) input_at length (λ input. 4 + length input) (number_takes 4) input_takes (λ y. refl)

held_takes : (size : ℕ) → Takes (held_at size) length
unfolding held_at
held_takes size = takes_guard (ltb file_limit size) (LongFile size) (chunk size) length (chunk_takes size)

present_takes : Takes present_at (λ held. 4 + length held)
unfolding present_at
present_takes = takes_then 4 (number_at 4) held_at length (λ held. 4 + length held) (number_takes 4) held_takes (λ y. refl)

presence_takes : (presence : ℕ) → Takes (presence_at presence) presence_size
unfolding presence_at
presence_takes presence =
    takes_choice (eqb presence 0) (λ bytes. Ok (None, bytes)) _ presence_size (takes_now None presence_size refl)
    (takes_choice (eqb presence 1) (made (λ held. Some held) present_at) (λ bytes. Err NoFrame) presence_size (takes_made present_at (λ held. Some held) (λ held. 4 + length held) presence_size present_takes (λ x. refl)) (takes_refusal NoFrame presence_size))

bytes_takes : Takes bytes_at held_size
unfolding bytes_at
bytes_takes = takes_then 1 (number_at 1) presence_at presence_size held_size (number_takes 1) presence_takes (λ y. refl)

abbrev set_file_size : FileId × Option (List ℕ) → ℕ
set_file_size p = held_size p.1

set_file_takes : (o : Option FileId) → Takes (set_file o) set_file_size
set_file_takes None = takes_refusal NoFrame set_file_size
set_file_takes (Some file) = takes_made bytes_at (λ held. (file, held)) held_size set_file_size bytes_takes (λ x. refl)

file_takes : Takes file_at (λ p. 1 + set_file_size p)
unfolding file_at
file_takes = takes_then 1 (number_at 1) (λ n. set_file (file_numbered n)) set_file_size (λ p. 1 + set_file_size p) (number_takes 1) (λ n. set_file_takes (file_numbered n)) (λ y. refl)

set_file_sum : (file : FileId) (held : Option (List ℕ)) → 1 + held_size held ≡ after_size (frame.SetFile file held)
set_file_sum file None = refl
set_file_sum file (Some held) = omega arith

cleared_takes : (o : Option Db) → Takes (known_db o) (λ db. 0)
cleared_takes None = takes_refusal NoFrame (λ db. 0)
cleared_takes (Some db) = takes_now db (λ db. 0) refl

invalidate_takes : Takes invalidate_at (λ db. 1)
unfolding invalidate_at
invalidate_takes = takes_then 1 (number_at 1) (λ n. known_db (db_numbered n)) (λ db. 0) (λ db. 1) (number_takes 1) (λ n. cleared_takes (db_numbered n)) (λ y. refl)

after_takes : (first : ℕ) → Takes (frame_after first) after_size
unfolding frame_after
after_takes first =
    takes_choice (eqb first 81) (made frame.Request request_at) _ after_size (takes_made request_at frame.Request (λ input. 4 + length input) after_size request_takes (λ x. refl))
    (takes_choice (eqb first 70) (made (λ p. frame.SetFile p.0 p.1) file_at) _ after_size (takes_made file_at (λ p. frame.SetFile p.0 p.1) (λ p. 1 + set_file_size p) after_size file_takes (λ p. set_file_sum p.0 p.1))
    (takes_choice (eqb first 84) (made frame.Time (number_at 8)) _ after_size (takes_made (number_at 8) frame.Time (λ _. 8) after_size (number_takes 8) (λ x. refl))
    (takes_choice (eqb first 73) (made frame.Invalidate invalidate_at) _ after_size (takes_made invalidate_at frame.Invalidate (λ db. 1) after_size invalidate_takes (λ x. refl))
    (takes_choice (eqb first 69) (λ bytes. Ok (frame.End, bytes)) (λ bytes. Err NoFrame) after_size (takes_now frame.End after_size refl) (takes_refusal NoFrame after_size)))))

frame_sum : (f : Frame) → 1 + after_size f ≡ frame_size f
frame_sum (frame.Request input) = omega arith
frame_sum (frame.SetFile file None) = refl
frame_sum (frame.SetFile file (Some held)) = omega arith
frame_sum (frame.Time moment) = refl
frame_sum (frame.Invalidate db) = refl
frame_sum frame.End = refl

-- a frame takes `frame_size` bytes
frame_takes : Takes frame_at frame_size
unfolding frame_at
frame_takes = takes_then 1 (number_at 1) frame_after after_size frame_size (number_takes 1) after_takes frame_sum

some_size : (f : Frame) → 0 < frame_size f
some_size (frame.Request input) = omega arith
some_size (frame.SetFile file None) = omega arith
some_size (frame.SetFile file (Some held)) = omega arith
some_size (frame.Time moment) = omega arith
some_size (frame.Invalidate db) = omega arith
some_size frame.End = omega arith

-- a frame leaves fewer bytes than it was given
pub frame_eats : (bytes : List ℕ) (x : Frame × List ℕ) → frame_at bytes ≡ Ok x → length x.1 < length bytes
frame_eats bytes x e = let parts = frame_takes.parts bytes x e in let some : 0 < frame_size x.0 = some_size x.0 in omega arith

-- a front that is a frame has the frame's size
pub front_size : (front : List ℕ) (frame : Frame) → Finds frame_at front frame → length front ≡ frame_size frame
front_size front frame found = let parts = frame_takes.parts (front ++ []) (frame, []) (found.whatever []) in omega (arith, length-append front [])
