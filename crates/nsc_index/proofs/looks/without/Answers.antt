use Rattle.std.proofs.Common.{w64}
use Rattle.std.proofs.lemmas.Nat.Bits.{bit_at_clear_other, bit_at_clear_same}
use Rattle.nsc_index.proofs.looks.without.Goals as goal

pub returns : goal.returns
returns c = record {
  taken = bit_at_clear_same w64 c.args.bits c.args.place c.requires;
  kept = bit_at_clear_other w64 c.args.bits c.args.place c.requires;
}
