use Rattle.std.proofs.Common.{arith, w64}
use Rattle.std.proofs.lemmas.Nat.Bits.{bit_at-trailing_zeros}
use Rattle.nsc_index.proofs.looks.lowest.Goals as goal

pub returns : goal.returns
returns c =
    let is = bit_at-trailing_zeros w64 c.args.bits (omega (arith, c.requires)) c.ranges.bits.fits in
    record { within = is.0; set = is.1; below = is.2 }
