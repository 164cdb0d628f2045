use Rattle.std.proofs.Common.{◌≡◌, ℕ, ◌+◌, ◌<◌, ◌≤◌, ⊎_elim, Bool, true, ◌&&◌, leb, List, ◌∷◌, ◌++◌, sym, ap, subst, ◌∙◌, arith}
use Rattle.std.proofs.lemmas.Bool.{leb-true, leb-false}
use Rattle.nsc_words.specs.declared.node.Placed.{Placed}
use Rattle.nsc_words.specs.Laid.{Among, Rising}
use Rattle.nsc_arena.specs.Changes.{IsNodeAt}
use Rattle.nsc_arena.proofs.Passed.{Passed, next_in, not_older, passed_all}
use Rattle.nsc_arena.proofs.Walks.{both}
use Rattle.nsc_arena.proofs.numbers.first_from.Goals as goal

pub nodes-init : goal.nodes-init
nodes-init g c = (c.get-end.ensures.same, c.get-end.ensures.rest, λ nodes laid mark. (mark.older, record { newer = mark.newer; split = mark.split; end = mark.place }, λ p among usable. mark.below p among))

pub is_from-requires : goal.is_from-requires
is_from-requires g c =
    let all = c.requires.laid in
    let t = c.nodes.invariant.2 all.0 all.1 all.2 in
    let n = next_in (g.W.Words.words c.args.table.now) (g.W.Words.words c.nodes.table) c.args.map all.0 t.0 c.nodes.at c.get-end.result c.requires.layout all.1 t.1 c.nodes.invariant.0 c.get-end.ensures.value c.nodes-test.true in
    (n.node, n.here)

pub returns-then-is_from-clause-same : goal.returns-then-is_from-clause-same
returns-then-is_from-clause-same g c = c.is_from.ensures.same ∙ c.nodes.invariant.0

pub returns-then-is_from-clause-rest : goal.returns-then-is_from-clause-rest
returns-then-is_from-clause-rest g c = c.is_from.ensures.rest ∙ c.nodes.invariant.1

pub returns-then-is_from-clause-first : goal.returns-then-is_from-clause-first
returns-then-is_from-clause-first g c = λ nodes laid mark.
    let t = c.nodes.invariant.2 nodes laid mark in
    let n = next_in (g.W.Words.words c.args.table.now) (g.W.Words.words c.nodes.table) c.args.map nodes t.0 c.nodes.at c.get-end.result c.requires.layout laid t.1 c.nodes.invariant.0 c.get-end.ensures.value c.nodes-test.true in
    let is = both n.node.usable (leb c.args.number n.node.node.number) (sym (c.is_from.ensures.is n.node n.here) ∙ c.if-is_from.true) in
    let rising : Rising (n.passed.newer ++ (n.node ∷ t.0)) = subst Rising n.passed.split laid.rising in (
      n.node,
      n.among,
      n.here.place,
      is.0,
      leb-true c.args.number n.node.node.number is.1,
      λ q among usable high. ⊎_elim
          (λ (m : Among q t.0). let less = t.2 q m usable in absurd (omega arith))
          (λ (more : n.node.node.number ≤ q.node.number). more)
          (not_older n.passed.newer t.0 n.node q rising (subst (Among q) n.passed.split among)),
    )

pub words_at-at-requires : goal.words_at-at-requires
words_at-at-requires g c =
    let all = c.requires.laid in
    let t = c.nodes.invariant.2 all.0 all.1 all.2 in
    let n = next_in (g.W.Words.words c.args.table.now) (g.W.Words.words c.is_from.new.table) c.args.map all.0 t.0 c.nodes.at c.get-end.result c.requires.layout all.1 t.1 (c.is_from.ensures.same ∙ c.nodes.invariant.0) c.get-end.ensures.value c.nodes-test.true in
    (n.node, n.here)

pub overflow_add-at : goal.overflow_add-at
overflow_add-at g c =
    let all = c.requires.laid in
    let t = c.nodes.invariant.2 all.0 all.1 all.2 in
    let n = next_in (g.W.Words.words c.args.table.now) (g.W.Words.words c.is_from.new.table) c.args.map all.0 t.0 c.nodes.at c.get-end.result c.requires.layout all.1 t.1 (c.is_from.ensures.same ∙ c.nodes.invariant.0) c.get-end.ensures.value c.nodes-test.true in
    omega (arith, n.here.inside, n.here.size, c.words_at-at.ensures.words n.node n.here)

pub nodes-smaller : goal.nodes-smaller
nodes-smaller g c =
    let all = c.requires.laid in
    let t = c.nodes.invariant.2 all.0 all.1 all.2 in
    let n = next_in (g.W.Words.words c.args.table.now) (g.W.Words.words c.is_from.new.table) c.args.map all.0 t.0 c.nodes.at c.get-end.result c.requires.layout all.1 t.1 (c.is_from.ensures.same ∙ c.nodes.invariant.0) c.get-end.ensures.value c.nodes-test.true in
    omega (arith, c.nodes-test.true, c.words_at-at.ensures.words n.node n.here)

pub nodes-preserved : goal.nodes-preserved
nodes-preserved g c = (
  c.words_at-at.ensures.same ∙ c.is_from.ensures.same ∙ c.nodes.invariant.0,
  c.words_at-at.ensures.rest ∙ c.is_from.ensures.rest ∙ c.nodes.invariant.1,
  λ nodes laid mark.
      let t = c.nodes.invariant.2 nodes laid mark in
      let n = next_in (g.W.Words.words c.args.table.now) (g.W.Words.words c.is_from.new.table) c.args.map nodes t.0 c.nodes.at c.get-end.result c.requires.layout laid t.1 (c.is_from.ensures.same ∙ c.nodes.invariant.0) c.get-end.ensures.value c.nodes-test.true in
      let asked = c.is_from.ensures.is n.node (subst (λ (ws : List ℕ). IsNodeAt ws c.nodes.at n.node) c.is_from.ensures.same n.here) in
      let lower : n.node.usable ≡ true → n.node.node.number < c.args.number = λ usable. leb-false c.args.number n.node.node.number (ap (λ (b : Bool). b && leb c.args.number n.node.node.number) (sym usable) ∙ sym asked ∙ c.if-is_from.false) in (
        n.node ∷ t.0,
        subst (λ (k : ℕ). Passed c.args.map nodes (n.node ∷ t.0) (c.nodes.at + k)) (sym (c.words_at-at.ensures.words n.node n.here)) n.passed,
        λ p among usable. ⊎_elim (λ (e : p ≡ n.node). subst (λ (q : Placed). q.node.number < c.args.number) (sym e) (lower (ap (λ (q : Placed). q.usable) (sym e) ∙ usable))) (λ (m : Among p t.0). t.2 p m usable) among,
      ),
)

pub returns-clause-first : goal.returns-clause-first
returns-clause-first g c = λ nodes laid mark.
    let t = c.nodes.invariant.2 nodes laid mark in
    let all : t.0 ≡ nodes = passed_all (g.W.Words.words c.args.table.now) c.args.map nodes t.0 c.nodes.at laid t.1 (omega (arith, laid.first_free, c.get-end.ensures.value, c.nodes-test.false)) in
    subst (λ (ps : List Placed). (p : Placed) → Among p ps → p.usable ≡ true → p.node.number < c.args.number) all t.2
