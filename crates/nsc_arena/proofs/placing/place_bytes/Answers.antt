use Rattle.std.proofs.Common.{◌≡◌, ℕ, List, subst, ◌∙◌}
use Rattle.nsc_arena.specs.Written.{IsSameBelow}
use Rattle.nsc_words.specs.Laid.{end_of}
use Rattle.nsc_words.specs.Layout.{arena_start}
use Rattle.nsc_arena.proofs.Rows.{same_below}
use Rattle.nsc_arena.proofs.placing.place_bytes.Goals as goal

pub returns-clause-laid : goal.returns-clause-laid
returns-clause-laid g c = λ nodes laid.
    let old : List ℕ = g.W.Words.words c.args.table.now in
    let new : List ℕ = g.W.Words.words c.put_node.new.table in
    let at : c.get-at.result ≡ end_of (arena_start c.args.map) nodes = c.get-at.ensures.value ∙ laid.first_free in
    same_below old new c.args.map nodes laid (subst (λ (ws : List ℕ). IsSameBelow ws new (end_of (arena_start c.args.map) nodes)) c.get-at.ensures.same (subst (λ (n : ℕ). IsSameBelow (g.W.Words.words c.get-at.new.self) new n) at c.put_node.ensures.below))
