use Rattle.std.proofs.Common.{◌≡◌, ◌≤◌, List, ℕ, length, subst, sym, arith}
use Rattle.std.proofs.lemmas.List.{take_rest}
use Rattle.nsc_index.specs.Looks.{MarksByte}
use Rattle.nsc_index.proofs.MarkedBytes.{first_marked, later_marked}
use Rattle.nsc_index.proofs.looks.near_newline.Goals as goal

pub returns-then-near-ne0-clause-first : goal.returns-then-near-ne0-clause-first
returns-then-near-ne0-clause-first c =
    let bytes = c.args.bytes.now in
    let long : 32 ≤ length bytes = omega arith in
    sym (first_marked 10 bytes _ _ long c.byte_bits-near.ensures c.lowest.ensures)

pub returns-then-far-ne0-clause-first : goal.returns-then-far-ne0-clause-first
returns-then-far-ne0-clause-first c =
    let bytes = c.args.bytes.now in
    let long : 64 ≤ length bytes = omega arith in
    let clear : c.byte_bits-near.result ≡ 0 = omega arith in
    let others = subst (λ (rest : List ℕ). MarksByte 10 rest c.byte_bits-far.result) (take_rest bytes 32) c.byte_bits-far.ensures in
    sym (later_marked 10 bytes _ _ _ long c.byte_bits-near.ensures clear others c.lowest-then-far-ne0.ensures)
