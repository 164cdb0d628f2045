use Rattle.std.proofs.Common.{◌≤◌, ◌+◌, length, take, sym, ap, ◌∙◌, arith}
use Rattle.std.proofs.lemmas.List.{take_rest}
use Rattle.nsc_index.proofs.MarkedBytes.{first_marked, second_marked}
use Rattle.nsc_index.proofs.looks.around_two_colons.Goals as goal

pub returns-clause-before : goal.returns-clause-before
returns-clause-before c =
    let bytes = c.args.bytes.now in
    let long : 32 ≤ length bytes = omega arith in
    ap (λ n. take n bytes) (sym (first_marked 58 bytes _ _ long c.byte_bits-colons.ensures c.lowest-first.ensures))

pub returns-clause-after : goal.returns-clause-after
returns-clause-after c =
    let bytes = c.args.bytes.now in
    let long : 32 ≤ length bytes = omega arith in
    take_rest bytes (c.lowest-second.result + 1) ∙ second_marked bytes _ _ _ _ long c.byte_bits-colons.ensures c.lowest-first.ensures c.without-others.ensures c.lowest-second.ensures
