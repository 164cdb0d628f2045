-- Readers, one after the other.
use Rattle.std.proofs.Common.{◌≡◌, ◌≢◌, ℕ, ◌<◌, Bool, true, false, cond, eqb, List, [], ◌++◌, Option, Some, None, Result, Ok, Err, refl, sym, subst}
use Rattle.std.proofs.lemmas.Bool.{eqb-true}
use Rattle.nsc_outside.specs.Stream.{Moves}
use Rattle.nsc_outside.proofs.Streams.{Moves-then}
use Rattle.nsc_model.specs.declared.kind.Db.{Db}
use Rattle.nsc_model.specs.Frames.{Fault, NoFrame, LongFile, chunk, known_db, present_at, presence_at, made}
use Rattle.nsc_model.specs.Fronts.{Finds}
use Rattle.nsc_model.proofs.Parsers.{Parser, then, chunk_finds, chunk_partial, finds_then, refuses_then, partial_then, refuses_first, partial_first, finds_now}
use Rattle.nsc_replay.specs.declared.halt.Halt.{Halt}
use Rattle.nsc_replay.specs.declared.halt.Halt.TheVariants as halts
use Rattle.nsc_replay.specs.Reading.{StopsParsing, Halts, Gets, Reads}

abbrev pub Told : Type 0
Told = Option (List ℕ)

-- nothing was read
pub nothing : (b : Told) → Moves b b []
nothing None = refl
nothing (Some left) = (left, refl, refl)

stops_first : {A B : Type 0} (p : Parser A) (q : A → Parser B) (after : Told) (front : List ℕ) (halt : Halt) → StopsParsing p after front halt → StopsParsing (then p q) after front halt
stops_first p q after front halts.Ended s = (partial_first p q front s.0, s.1)
stops_first p q after front halts.NoFrame s = refuses_first p q front NoFrame s
stops_first p q after front (halts.LongFile size) s = refuses_first p q front (LongFile size) s
stops_first p q after front halts.ReadFault s = partial_first p q front s
stops_first p q after front halts.NoMemory s = partial_first p q front s

stops_then : {A B : Type 0} (p : Parser A) (q : A → Parser B) (after : Told) (f g : List ℕ) (x : A) (halt : Halt) → Finds p f x → StopsParsing (q x) after g halt → StopsParsing (then p q) after (f ++ g) halt
stops_then p q after f g x halts.Ended a s = (partial_then p q f g x a s.0, s.1)
stops_then p q after f g x halts.NoFrame a s = refuses_then p q f g x NoFrame a s
stops_then p q after f g x (halts.LongFile size) a s = refuses_then p q f g x (LongFile size) a s
stops_then p q after f g x halts.ReadFault a s = partial_then p q f g x a s
stops_then p q after f g x halts.NoMemory a s = partial_then p q f g x a s

-- what stops the first reader stops both
pub halts_first : {A B : Type 0} (p : Parser A) (q : A → Parser B) (a b : Told) (halt : Halt) → Halts p a b halt → Halts (then p q) a b halt
halts_first p q a b halt h = record { front = h.front; moved = h.moved; stops = stops_first p q b h.front halt h.stops }

-- what stops the second reader stops both
pub halts_then : {A B : Type 0} (p : Parser A) (q : A → Parser B) (a b c : Told) (x : A) (halt : Halt) → Gets p a b x → Halts (q x) b c halt → Halts (then p q) a c halt
halts_then p q a b c x halt g h = record { front = g.front ++ h.front; moved = Moves-then a b c g.front h.front g.moved h.moved; stops = stops_then p q c g.front h.front x halt g.finds h.stops }

-- both readers found their piece
pub gets_then : {A B : Type 0} (p : Parser A) (q : A → Parser B) (a b c : Told) (x : A) (y : B) → Gets p a b x → Gets (q x) b c y → Gets (then p q) a c y
gets_then p q a b c x y g h = record { front = g.front ++ h.front; moved = Moves-then a b c g.front h.front g.moved h.moved; finds = finds_then p q g.front h.front x y g.finds h.finds }

-- whatever the result of the second reader is
pub reads_then : {X A B : Type 0} (view : X → B) (p : Parser A) (q : A → Parser B) (a b c : Told) (x : A) (r : Result X Halt) → Gets p a b x → Reads view (q x) b c r → Reads view (then p q) a c r
reads_then view p q a b c x (Ok y) g h = gets_then p q a b c x (view y) g h
reads_then view p q a b c x (Err halt) g h = halts_then p q a b c x halt g h

-- what is made of what the first reader found
pub gets_made : {A B : Type 0} (p : Parser A) (make : A → B) (a b : Told) (x : A) → Gets p a b x → Gets (made make p) a b (make x)
gets_made p make a b x g = record {
  front = g.front;
  moved = g.moved;
  finds = record { whatever = λ more. rw (g.finds.whatever more) refl };
}

-- a value with nothing to read
pub gets_now : {A : Type 0} (b : Told) (x : A) → Gets (λ bytes. Ok (x, bytes)) b b x
gets_now b x = record { front = []; moved = nothing b; finds = finds_now x }

-- a refusal with nothing to read
pub refuses_now : {A : Type 0} (b : Told) → Halts {A = A} (λ bytes. Err NoFrame) b b halts.NoFrame
refuses_now b = record { front = []; moved = nothing b; stops = record { whatever = λ more. refl } }

-- ---- tests in front of a parser

abbrev pub guarded : {A : Type 0} → Bool → Fault → Parser A → Parser A
guarded b fault p bytes = cond b (Err fault) (p bytes)

pub guard_refuses : {A : Type 0} (b : Bool) (p : Parser A) (a : Told) → b ≡ true → Halts (guarded b NoFrame p) a a halts.NoFrame
guard_refuses b p a e = record { front = []; moved = nothing a; stops = record { whatever = λ more. rw e refl } }

pub guard_too_long : {A : Type 0} (b : Bool) (size : ℕ) (p : Parser A) (a : Told) → b ≡ true → Halts (guarded b (LongFile size) p) a a (halts.LongFile size)
guard_too_long b size p a e = record { front = []; moved = nothing a; stops = record { whatever = λ more. rw e refl } }

pub guard_halts : {A : Type 0} (b : Bool) (fault : Fault) (p : Parser A) (a c : Told) (halt : Halt) → b ≡ false → Halts p a c halt → Halts (guarded b fault p) a c halt
guard_halts b fault p a c halt e h = subst (λ (t : Bool). Halts (guarded t fault p) a c halt) (sym e) h

pub guard_gets : {A : Type 0} (b : Bool) (fault : Fault) (p : Parser A) (a c : Told) (x : A) → b ≡ false → Gets p a c x → Gets (guarded b fault p) a c x
guard_gets b fault p a c x e h = subst (λ (t : Bool). Gets (guarded t fault p) a c x) (sym e) h

-- ---- options after a number

pub cleared_some : (o : Option Db) (a : Told) (db : Db) → o ≡ Some db → Gets (known_db o) a a db
cleared_some o a db e = subst (λ (x : Option Db). Gets (known_db x) a a db) (sym e) (gets_now a db)

pub cleared_none : (o : Option Db) (a : Told) → o ≡ None → Halts (known_db o) a a halts.NoFrame
cleared_none o a e = subst (λ (x : Option Db). Halts (known_db x) a a halts.NoFrame) (sym e) (refuses_now {A = Db} a)

-- no room for a piece that is not empty
pub no_room : (size : ℕ) (a : Told) → 0 < size → Halts (chunk size) a a halts.NoMemory
no_room size a some = record { front = []; moved = nothing a; stops = chunk_partial size [] some }

-- ---- choices by a number

pub eqb_off : (m n : ℕ) → m ≢ n → eqb m n ≡ false
eqb_off m n d = by_test (eqb m n) refl where
  by_test : (b : Bool) → eqb m n ≡ b → b ≡ false
  by_test true e = absurd (d (eqb-true m n e))
  by_test false e = refl

pub presence_none : (presence : ℕ) (a : Told) → presence ≡ 0 → Gets (presence_at presence) a a None
unfolding presence_at
presence_none presence a e = subst (λ m. Gets (presence_at m) a a None) (sym e) (gets_now a None)

pub presence_some : (presence : ℕ) (a b : Told) (x : List ℕ) → presence ≡ 1 → Gets present_at a b x → Gets (presence_at presence) a b (Some x)
unfolding presence_at
presence_some presence a b x e h = subst (λ m. Gets (presence_at m) a b (Some x)) (sym e) (gets_made present_at (λ (held : List ℕ). Some held) a b x h)

pub presence_halts : (presence : ℕ) (a b : Told) (halt : Halt) → presence ≡ 1 → Halts present_at a b halt → Halts (presence_at presence) a b halt
unfolding presence_at
presence_halts presence a b halt e h = subst (λ m. Halts (presence_at m) a b halt) (sym e) (halts_first present_at (λ held bytes. Ok (Some held, bytes)) a b halt h)

pub presence_bad : (presence : ℕ) (a : Told) → presence ≢ 0 → presence ≢ 1 → Halts (presence_at presence) a a halts.NoFrame
unfolding presence_at
presence_bad presence a n0 n1 = record { front = []; moved = nothing a; stops = record { whatever = λ more. rw (eqb_off presence 0 n0, eqb_off presence 1 n1) refl } }

-- an empty piece
pub gets_empty : (size : ℕ) (a : Told) → size ≡ 0 → Gets (chunk size) a a []
gets_empty size a e = record { front = []; moved = nothing a; finds = chunk_finds size [] (sym e) }
