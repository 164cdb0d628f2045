-- What is written, and what a sink took.
use Rattle.std.proofs.Common.{◌≡◌, ℕ, ◌+◌, List, ◌++◌, length, take, Option, Some, Result, Ok, Err, sym, ap, subst, ◌∙◌, append_assoc, arith}
use Rattle.std.proofs.lemmas.List.{length-append, take_at}
use Rattle.nsc_outside.specs.Stream.{GrowsByFront}
use Rattle.nsc_model.specs.Frames.{Finish}
use Rattle.nsc_model.specs.Replay.{State, Went, framed}
use Rattle.nsc_replay.specs.Turns.{FrameIsCutShort, GoesTo}

-- a front of some bytes is a front of these and others after them
pub front_more : (before after : Option (List ℕ)) (xs ys : List ℕ) → GrowsByFront before after xs → GrowsByFront before after (xs ++ ys)
front_more before after xs ys g = (g.0, (g.1.0 ++ ys, ap (λ (zs : List ℕ). zs ++ ys) g.1.1 ∙ append_assoc g.0 g.1.0 ys), g.2)

-- a reply that went out in part is a frame's output cut short
pub cut_by_reply : (turn : Result Went Finish) (next : State) (had got : Option (List ℕ)) (reply : List ℕ) → GoesTo turn next (Some reply) → GrowsByFront had got (framed reply) → FrameIsCutShort turn had got
cut_by_reply (Err finish) next had got reply t g = t
cut_by_reply (Ok went) next had got reply t g = subst (λ (writes : List ℕ). GrowsByFront had got writes) (sym t.1) g

-- a reply that is laid after four bytes
pub laid : (size reply between rest : List ℕ) → length size ≡ 4 → take (4 + length reply) (take 4 (size ++ between) ++ (reply ++ rest)) ≡ size ++ reply
laid size reply between rest four =
    let both : length (size ++ reply) ≡ 4 + length reply = omega (arith, length-append size reply) in
    ap (λ (front : List ℕ). take (4 + length reply) (front ++ (reply ++ rest))) (take_at size between 4 (omega arith))
    ∙ (ap (take (4 + length reply)) (sym (append_assoc size reply rest)) ∙ take_at (size ++ reply) rest (4 + length reply) (omega arith))
