use Rattle.std.proofs.Common.{◌∙◌}
use Rattle.nsc_client.proofs.LentRows.{split_text}
use Rattle.nsc_client.proofs.lent.next_text.Goals as goal

pub returns-in-Some : goal.returns-in-Some
returns-in-Some c = λ one. λ rest. λ is. λ whole.
    let split = split_text c.args.bytes.now one rest is whole in
    (c.in-Some.ensures.1 ∙ split.1, c.in-Some.ensures.2 ∙ split.2)
