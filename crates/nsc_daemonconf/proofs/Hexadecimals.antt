-- The number that hexadecimal digits spell, digit by digit.
use Rattle.std.proofs.Common.{◌≡◌, ℕ, ◌+◌, ◌*◌, ◌^◌, ◌<◌, ◌≤◌, true, arith, add-one}
use Rattle.std.specs.Char.{is_ascii_hexdigit, digit_value}
use Rattle.std.proofs.Math.Nat.{pow-le-pow_right}
use Rattle.std.proofs.lemmas.Bool.Decides.{nat_tests}

-- with a digit more, the number of at most eight digits fits 32 bits
pub digit_fits : (n i d : ℕ) → n < 16 ^ i → i < 8 → d < 16 → 16 * n + d < 2 ^ 32
digit_fits n i d small few digit =
    let bound : 16 ^ i ≤ 16 ^ 7 = pow-le-pow_right {n = 16} (omega arith) {i = i} {j = 7} (omega arith) in
    omega arith

-- and as many digits spell no more
pub digit_small : (n i d : ℕ) → n < 16 ^ i → d < 16 → 16 * n + d < 16 ^ (i + 1)
digit_small n i d small digit = rw add-one (omega arith)

-- a byte with a value below 16 is a digit
pub is_digit : (c : ℕ) → digit_value c < 16 → is_ascii_hexdigit c ≡ true
is_digit c below = grind (arith, nat_tests)
