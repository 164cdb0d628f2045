use Rattle.std.proofs.Common.{◌≡◌, ◌≤◌, ◌+◌, ◌-◌, ◌∷◌, ◌++◌, rules, decimal, drop, length, ◌∙◌, ap, arith, length-take}
use Rattle.std.proofs.lemmas.Fmt.{length-decimal-le}
use Rattle.std.proofs.lemmas.List.{drop-set}
use Rattle.nsc_nets.proofs.find.dotted_before.Goals as goal

pub write_digits-start-requires : goal.write_digits-start-requires
write_digits-start-requires c =
    let short : length (decimal c.from.result) ≤ 3 = search (rules, length-decimal-le 3) in
    (omega (arith, short, c.requires.room), c.requires.inside)

pub overflow_sub-bytes : goal.overflow_sub-bytes
overflow_sub-bytes c =
    let short : length (decimal c.from.result) ≤ 3 = search (rules, length-decimal-le 3) in
    omega (arith, short, c.requires.room, c.write_digits-start.ensures.start)

pub overflow_sub-result : goal.overflow_sub-result
overflow_sub-result c =
    let short : length (decimal c.from.result) ≤ 3 = search (rules, length-decimal-le 3) in
    omega (arith, short, c.requires.room, c.write_digits-start.ensures.start)

pub returns-clause-near : goal.returns-clause-near
returns-clause-near c =
    let short : length (decimal c.from.result) ≤ 3 = search (rules, length-decimal-le 3) in
    omega (arith, short, c.requires.room, c.write_digits-start.ensures.start)

pub returns-clause-written : goal.returns-clause-written
returns-clause-written c =
    let short : length (decimal c.from.result) ≤ 3 = search (rules, length-decimal-le 3) in
    let start = c.write_digits-start.result in
    let bytes = c.write_digits-start.new.buf in
    let place : start - 1 + 1 ≡ start = omega (arith, short, c.requires.room, c.write_digits-start.ensures.start) in
    drop-set bytes (start - 1) 46 (omega (arith, short, c.requires.room, c.requires.inside, c.write_digits-start.ensures.start, ap length c.write_digits-start.ensures.before, length-take start bytes, length-take start c.args.bytes.now))
    ∙ ap (λ n. 46 ∷ drop n bytes) place
    ∙ ap (λ ds. 46 ∷ ds) (c.write_digits-start.ensures.written ∙ ap (λ n. decimal n ++ drop c.args.end c.args.bytes.now) c.from.ensures)
