use Rattle.std.proofs.Common.{◌∙◌, List, ℕ, Some, ap, subst, sym}
use Rattle.nsc_words.specs.declared.node.Placed.{Placed}
use Rattle.nsc_words.specs.Laid.{Among, Laid, answers}
use Rattle.nsc_arena.specs.ReadBack.{nodes_in}
use Rattle.nsc_shelf.specs.Hints.{AreHints}
use Rattle.nsc_shelf.proofs.Hinted.{only_place}
use Rattle.nsc_shelf.proofs.hints.find_hinted.Goals as goal

pub is_of-requires-clause-laid : goal.is_of-requires-clause-laid
is_of-requires-clause-laid g c = subst (λ (ws : List ℕ). Laid ws c.args.map (nodes_in ws c.args.map)) (sym c.loop-index.invariant.0) c.requires.laid

pub is_of-requires-clause-hint : goal.is_of-requires-clause-hint
is_of-requires-clause-hint g c = (subst (λ (ws : List ℕ). AreHints c.args.hints.now c.args.map (nodes_in ws c.args.map)) (sym c.loop-index.invariant.0) c.requires.hints).places c.loop-index.index

pub returns-then-is_of-clause-newest : goal.returns-then-is_of-clause-newest
returns-then-is_of-clause-newest g c alone =
    let nodes : List Placed = nodes_in (g.W.Words.words c.args.words.now) c.args.map in
    let p = c.is_of.ensures.is c.if-is_of.true in
    let among : Among p.0 nodes = subst (λ (ws : List ℕ). Among p.0 (nodes_in ws c.args.map)) c.loop-index.invariant.0 p.1 in
    only_place (answers c.args.kind c.args.key.now) nodes p.0 among p.3 (λ q m t. alone q p.0 m among t p.3) ∙ ap (λ (n : ℕ). Some n) (p.2 ∙ sym c.place_in.ensures)
