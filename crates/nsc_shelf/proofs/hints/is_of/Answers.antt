use Rattle.std.proofs.Common.{ℕ, List, ◌∙◌, sym, arith}
use Rattle.nsc_arena.specs.ReadBack.{nodes_in}
use Rattle.nsc_arena.proofs.Rows.{inside, node_at}
use Rattle.nsc_shelf.proofs.hints.is_of.Goals as goal

pub answers_at-requires-clause-inside : goal.answers_at-requires-clause-inside
answers_at-requires-clause-inside g c =
    let words : List ℕ = g.W.Words.words c.args.words.now in
    let p = c.requires.hint c.if-hint-eq0.false in
    let here = inside words c.args.map (nodes_in words c.args.map) p.0 c.requires.layout c.requires.laid p.1 in
    omega (arith, here.1, p.2, c.place_in.ensures)

pub returns-clause-is : goal.returns-clause-is
returns-clause-is g c is =
    let words : List ℕ = g.W.Words.words c.args.words.now in
    let p = c.requires.hint c.if-hint-eq0.false in
    (p.0, p.1, p.2, sym (c.answers_at.ensures.answers p.0 (node_at words c.args.map (nodes_in words c.args.map) p.0 c.place_in.result c.requires.layout c.requires.laid p.1 (p.2 ∙ sym c.place_in.ensures))) ∙ is)
