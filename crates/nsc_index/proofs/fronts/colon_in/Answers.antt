use Rattle.std.proofs.Common.{◌==◌, get_or, length, sym, arith, rules}
use Rattle.std.proofs.lemmas.Bool.Decides.{Decides-eqb}
use Rattle.std.proofs.lemmas.List.Sums.{position_or_len_is}
use Rattle.nsc_index.proofs.fronts.colon_in.Goals as goal

pub returns-then-byte-eq58 : goal.returns-then-byte-eq58
returns-then-byte-eq58 c = sym (position_or_len_is (λ b. b == 58) c.args.bytes.now c.loop-place.place 0 (omega arith) c.loop-place.invariant (λ lt. (Decides-eqb (get_or c.args.bytes.now c.loop-place.place 0) 58).1 (search rules)))

pub returns : goal.returns
returns c = sym (position_or_len_is (λ b. b == 58) c.args.bytes.now (length c.args.bytes.now) 0 (omega arith) (λ k below. c.loop-place.invariant k (omega arith)) (λ lt. absurd (omega arith)))
