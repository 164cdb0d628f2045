-- What a line says, by its first bytes.
use Rattle.std.proofs.Common.{◌≡◌, ℕ, false, List, sym, ◌∙◌, ap}
use Rattle.nsc_base.specs.Text.{trimmed}
use Rattle.nsc_model.specs.Compat.{sayings, sayings_by}
use Rattle.nsc_model.specs.Users.{has_zero}

-- a line says what stands after its white space, where it has no zero byte
pub said_after : (line bytes black : List ℕ) → bytes ≡ line → has_zero bytes ≡ false → black ≡ trimmed bytes → sayings_by line black ≡ sayings line
said_after line bytes black same clean is =
    let spotless : has_zero line ≡ false = ap has_zero (sym same) ∙ clean in
    rw spotless (ap (sayings_by line) (is ∙ ap trimmed same))
