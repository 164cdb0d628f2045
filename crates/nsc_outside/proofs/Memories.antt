-- What streams in memory do.
use Rattle.std.proofs.Common.{◌≡◌, ℕ, ◌+◌, ◌-◌, ◌≤◌, List, ◌++◌, length, take, drop, Some, refl, sym, ◌∙◌, ap, arith}
use Rattle.std.proofs.lemmas.List.{places, take-append-drop, take_at, drop-drop}
use Rattle.nsc_outside.specs.Stream.{Moves}
use Rattle.nsc_model.specs.Reads.{greatest, Rose}
use Rattle.nsc_outside.specs.CallPlan.{risen}

-- a count that is counted up rose
pub rose_risen : (count : ℕ) → count ≤ greatest → Rose count (risen count)
rose_risen count within = grind arith

-- a call that copied the next bytes into the front of a buffer
pub Moves-copied : (next count : ℕ) (bytes buf copied left : List ℕ) → next + count ≤ length bytes → left ≡ drop next bytes → copied ≡ take (next + count - next) (drop next bytes)
    → Moves (Some left) (Some (drop (next + count) bytes)) (take count (copied ++ drop count buf))
Moves-copied next count bytes buf copied left within left_is copied_is =
    let same : next + count - next ≡ count = omega arith in
    let copied_too : copied ≡ take count (drop next bytes) = copied_is ∙ ap (λ n. take n (drop next bytes)) same in
    let long : length copied ≡ count = grind (arith, places) in
    let front : take count (copied ++ drop count buf) ≡ take count (drop next bytes) = take_at copied (drop count buf) count long ∙ copied_too in
    let whole : take count (drop next bytes) ++ drop (next + count) bytes ≡ drop next bytes =
    ap (λ t. take count (drop next bytes) ++ t) (sym (drop-drop count next bytes)) ∙ take-append-drop count (drop next bytes) in
    (drop (next + count) bytes, refl, left_is ∙ sym (ap (λ t. t ++ drop (next + count) bytes) front ∙ whole))
