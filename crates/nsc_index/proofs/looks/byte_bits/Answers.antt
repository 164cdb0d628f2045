use Rattle.std.proofs.Common.{◌≡◌, ℕ, cond, eqb, ◌==◌, false, length, map, take, ap, ◌∙◌, arith, w8}
use Rattle.std.specs.Int.{bit_at}
use Rattle.std.proofs.lemmas.List.{get_or-map, get_or-take, get_or_past, length-map, length-take-le}
use Rattle.std.proofs.lemmas.Simd.{bit_mask_l, bitmask_splat}
use Rattle.nsc_index.proofs.looks.byte_bits.Goals as goal

pub returns : goal.returns
returns c =
    let front = take 32 c.args.bytes.now in
    let long : length front ≡ 32 = length-take-le 32 c.args.bytes.now c.requires in
    let is = λ (b : ℕ). b == c.args.byte in
    let bit = λ (k : ℕ). ap (λ bits. bit_at bits k) (bitmask_splat w8 eqb front 32 c.args.byte long (omega arith)) ∙ bit_mask_l (map is front) k in
    record {
      marks = λ k below. bit k ∙ ap (λ b. cond b 1 0) (get_or-map is front k 0 false (omega arith) ∙ ap is (get_or-take 32 c.args.bytes.now k 0 below));
      no_more = λ k past. bit k ∙ ap (λ b. cond b 1 0) (get_or_past (map is front) k false (omega (arith, length-map front is)));
    }
