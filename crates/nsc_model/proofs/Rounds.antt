-- One round of a replay: the outcome of the frame at the front, whatever follows it.
use Rattle.std.proofs.Common.{◌≡◌, ℕ, zero, suc, ◌+◌, ◌<◌, ◌≤◌, true, false, cond, ltb, List, [], ◌∷◌, ◌++◌, length, Result, Ok, Err, refl, sym, ap, ◌∙◌, arith}
use Rattle.std.proofs.lemmas.Bool.{le-ltb, lt-ltb}
use Rattle.std.proofs.lemmas.List.{length-append}
use Rattle.nsc_model.specs.Frames as frame
use Rattle.nsc_model.specs.Frames.{Frame, Fault, Short, number_at, frame_at, Finish, Done, Bad, place_limit, Cut, more_frames, fault_at, reached, cut_on, cut_from, cut_by, cut_at}
use Rattle.nsc_model.specs.Fronts.{Finds, Refuses, IsPartial}
use Rattle.nsc_model.specs.declared.conf.Conf.{Conf}
use Rattle.nsc_model.specs.Replay.{State, Went, turn_of, Replayed, after_output, play_on, play, replay_from}
use Rattle.nsc_model.proofs.Parsers.{frame_eats}

-- the same cut, whichever cuts the rest, where both cut the rest alike
same_on : (next other : ℕ → List ℕ → Cut) (place : ℕ) (bytes : List ℕ) (frame : Frame) (rest : List ℕ) → ((p : ℕ) → next p rest ≡ other p rest) → cut_on next place bytes frame rest ≡ cut_on other place bytes frame rest
same_on next other place bytes (frame.Request input) rest h = ap (more_frames (frame.Request input)) (h _)
same_on next other place bytes (frame.SetFile file held) rest h = ap (more_frames (frame.SetFile file held)) (h _)
same_on next other place bytes (frame.Time moment) rest h = ap (more_frames (frame.Time moment)) (h _)
same_on next other place bytes (frame.Invalidate db) rest h = ap (more_frames (frame.Invalidate db)) (h _)
same_on next other place bytes frame.End rest h = refl

same_from : (next other : ℕ → List ℕ → Cut) (place : ℕ) (bytes : List ℕ) (r : Result (Frame × List ℕ) Fault) → ((x : Frame × List ℕ) → r ≡ Ok x → (p : ℕ) → next p x.1 ≡ other p x.1) → cut_from next place bytes r ≡ cut_from other place bytes r
same_from next other place bytes (Err fault) h = refl
same_from next other place bytes (Ok x) h = same_on next other place bytes x.0 x.1 (h x refl)

nothing_left : (m place : ℕ) → cut_by m place [] ≡ record { frames = []; finish = Bad place }
unfolding cut_by frame_at number_at
nothing_left zero place = refl
nothing_left (suc m) place = elim (ltb place place_limit) as (λ b. cond b (cut_from (cut_by m) place [] (frame_at [])) (record { frames = []; finish = Bad place }) ≡ record { frames = []; finish = Bad place }) [ true ↦ refl | false ↦ refl ]

-- more fuel than there are bytes changes nothing
same_cut : (n m place : ℕ) (bytes : List ℕ) → length bytes ≤ n → length bytes ≤ m → cut_by n place bytes ≡ cut_by m place bytes
unfolding cut_by
same_cut zero m place [] a b = sym (nothing_left m place)
same_cut zero m place (x ∷ bytes) a b = absurd (omega arith)
same_cut (suc n) zero place [] a b = nothing_left (suc n) place
same_cut (suc n) zero place (x ∷ bytes) a b = absurd (omega arith)
same_cut (suc n) (suc m) place bytes a b =
    ap (λ (c : Cut). cond (ltb place place_limit) c (record { frames = []; finish = Bad place }))
    (same_from (cut_by n) (cut_by m) place bytes (frame_at bytes) (λ x e p.
    let fewer : length x.1 < length bytes = frame_eats bytes x e in
    same_cut n m p x.1 (omega arith) (omega arith)))

-- ---- the first frame of a cut

-- a frame that is followed by others: each but the first E
abbrev pub Goes : Frame → Type 0
Goes (frame.Request input) = Unit {0}
Goes (frame.SetFile file held) = Unit {0}
Goes (frame.Time moment) = Unit {0}
Goes (frame.Invalidate db) = Unit {0}
Goes frame.End = ⊥

abbrev none : Finish → Cut
none finish = record { frames = []; finish = finish }

on_goes : (next : ℕ → List ℕ → Cut) (place : ℕ) (bytes : List ℕ) (frame : Frame) (rest : List ℕ) → Goes frame → cut_on next place bytes frame rest ≡ more_frames frame (next (reached place bytes rest) rest)
on_goes next place bytes (frame.Request input) rest g = refl
on_goes next place bytes (frame.SetFile file held) rest g = refl
on_goes next place bytes (frame.Time moment) rest g = refl
on_goes next place bytes (frame.Invalidate db) rest g = refl
on_goes next place bytes frame.End rest g = absurd g

-- with one more as fuel than there are bytes, the first frame shows
one_more : (place : ℕ) (bytes : List ℕ) → place < place_limit → cut_at place bytes ≡ cut_from (cut_by (length bytes)) place bytes (frame_at bytes)
unfolding cut_by
one_more place bytes lt =
    let below : ltb place place_limit ≡ true = lt-ltb _ _ lt in
    same_cut (length bytes) (suc (length bytes)) place bytes (omega arith) (omega arith)
    ∙ ap (λ b. cond b (cut_from (cut_by (length bytes)) place bytes (frame_at bytes)) (none (Bad place))) below

reached_front : (place : ℕ) (front more : List ℕ) → reached place (front ++ more) more ≡ place + length front
reached_front place front more = omega (arith, length-append front more)

cut_goes : (place : ℕ) (front more : List ℕ) (frame : Frame) → place < place_limit → Finds frame_at front frame → Goes frame → cut_at place (front ++ more) ≡ more_frames frame (cut_at (place + length front) more)
cut_goes place front more frame lt found goes =
    let bytes = front ++ more in
    let next = cut_by (length bytes) in
    let a : cut_at place bytes ≡ cut_from next place bytes (frame_at bytes) = one_more place bytes lt in
    let b : cut_from next place bytes (frame_at bytes) ≡ cut_on next place bytes frame more = ap (cut_from next place bytes) (found.whatever more) in
    let c : cut_on next place bytes frame more ≡ more_frames frame (next (reached place bytes more) more) = on_goes next place bytes frame more goes in
    let d : next (reached place bytes more) more ≡ cut_at (reached place bytes more) more = same_cut (length bytes) (length more) (reached place bytes more) more (omega (arith, length-append front more)) (omega arith) in
    let e : cut_at (reached place bytes more) more ≡ cut_at (place + length front) more = ap (λ p. cut_at p more) (reached_front place front more) in
    a ∙ (b ∙ (c ∙ ap (more_frames frame) (d ∙ e)))

cut_stops : (place : ℕ) (front more : List ℕ) → place < place_limit → Finds frame_at front frame.End → cut_at place (front ++ more) ≡ none (Done (place + length front))
cut_stops place front more lt found =
    one_more place (front ++ more) lt ∙ (ap (cut_from (cut_by (length (front ++ more))) place (front ++ more)) (found.whatever more) ∙ ap (λ p. none (Done p)) (reached_front place front more))

cut_fails : (place : ℕ) (bytes : List ℕ) (fault : Fault) → place < place_limit → frame_at bytes ≡ Err fault → cut_at place bytes ≡ none (fault_at place fault)
cut_fails place bytes fault lt e = one_more place bytes lt ∙ ap (cut_from (cut_by (length bytes)) place bytes) e

cut_late : (n place : ℕ) (bytes : List ℕ) → place_limit ≤ place → cut_by n place bytes ≡ none (Bad place)
unfolding cut_by
cut_late zero place bytes le = refl
cut_late (suc n) place bytes le = let late : ltb place place_limit ≡ false = le-ltb _ _ le in ap (λ b. cond b (cut_from (cut_by n) place bytes (frame_at bytes)) (none (Bad place))) late

-- ---- one round of a replay

abbrev pub ended : Finish → Replayed
ended finish = record { output = []; finish = finish }

abbrev replayed_cut : Conf → State → Cut → Replayed
replayed_cut settings s cut = play settings cut.frames cut.finish s

-- the frame at the front is done, and the replay goes on after it
pub round_goes : (settings : Conf) (s : State) (place : ℕ) (front more : List ℕ) (frame : Frame) (went : Went) → place < place_limit → Finds frame_at front frame → Goes frame → turn_of settings s frame ≡ Ok went
    → replay_from settings s place (front ++ more) ≡ after_output went.writes (replay_from settings went.state (place + length front) more)
unfolding play
round_goes settings s place front more frame went lt found goes turned =
    let rest = cut_at (place + length front) more in
    ap (replayed_cut settings s) (cut_goes place front more frame lt found goes)
    ∙ ap (play_on (play settings rest.frames rest.finish)) turned

-- the frame at the front ends the replay
pub round_ends : (settings : Conf) (s : State) (place : ℕ) (front more : List ℕ) (frame : Frame) (finish : Finish) → place < place_limit → Finds frame_at front frame → Goes frame → turn_of settings s frame ≡ Err finish
    → replay_from settings s place (front ++ more) ≡ ended finish
unfolding play
round_ends settings s place front more frame finish lt found goes turned =
    let rest = cut_at (place + length front) more in
    ap (replayed_cut settings s) (cut_goes place front more frame lt found goes)
    ∙ ap (play_on (play settings rest.frames rest.finish)) turned

-- the first E: what stands after it is no part of the replay
pub round_stops : (settings : Conf) (s : State) (place : ℕ) (front more : List ℕ) → place < place_limit → Finds frame_at front frame.End → replay_from settings s place (front ++ more) ≡ ended (Done (place + length front))
unfolding play
round_stops settings s place front more lt found = ap (replayed_cut settings s) (cut_stops place front more lt found)

-- the front is refused, whatever follows
pub round_refused : (settings : Conf) (s : State) (place : ℕ) (front more : List ℕ) (fault : Fault) → place < place_limit → Refuses frame_at front fault → replay_from settings s place (front ++ more) ≡ ended (fault_at place fault)
unfolding play
round_refused settings s place front more fault lt refused = ap (replayed_cut settings s) (cut_fails place (front ++ more) fault lt (refused.whatever more))

-- the bytes end inside a frame, or where one should begin
pub round_partial : (settings : Conf) (s : State) (place : ℕ) (front : List ℕ) → place < place_limit → IsPartial frame_at front → replay_from settings s place front ≡ ended (Bad place)
unfolding play
round_partial settings s place front lt part = ap (replayed_cut settings s) (cut_fails place front Short lt part.lacks)

-- no frame begins so late
pub round_late : (settings : Conf) (s : State) (place : ℕ) (more : List ℕ) → place_limit ≤ place → replay_from settings s place more ≡ ended (Bad place)
unfolding play
round_late settings s place more le = ap (replayed_cut settings s) (cut_late (length more) place more le)
