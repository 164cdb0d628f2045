use Rattle.std.proofs.Common.{◌≡◌, ℕ, ◌<◌, get_or}
use Rattle.nsc_base.specs.Text.{is_white}
use Rattle.nsc_base.proofs.words.run_length.Given as goal

abbrev pub invariant-loop-i : goal.invariant-loop-i
invariant-loop-i l = (k : ℕ) → k < l.i → is_white (get_or l.bytes k 0) ≡ l.white
