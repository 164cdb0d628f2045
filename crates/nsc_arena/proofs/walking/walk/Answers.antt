use Rattle.std.proofs.Common.{◌≡◌, ℕ, ◌+◌, ◌≤◌, true, false, List, slice_index, sym, ap, subst, ◌∙◌, arith}
use Rattle.std.proofs.lemmas.Bool.{false≢true}
use Rattle.nsc_words.specs.declared.node.Placed.{Placed}
use Rattle.nsc_words.specs.Laid.{answers}
use Rattle.nsc_words.specs.Layout.{arena_start, bucket_at, bucket_of}
use Rattle.nsc_arena.specs.Changes.{IsNodeAt}
use Rattle.nsc_arena.proofs.Walks.{walk_starts, walk_goes, walk_finds, walk_ends}
use Rattle.nsc_arena.proofs.walking.walk.Goals as goal

pub chain-init : goal.chain-init
chain-init g c =
    let sizes = c.requires.layout in
    let bucket : c.bucket.result ≡ bucket_of c.args.map c.args.kind c.args.key.now = c.bucket.ensures ∙ ap (bucket_at c.args.map) c.requires.hash in
    (c.get-at.ensures.same, c.get-at.ensures.rest, omega arith, omega arith, λ nodes laid. walk_starts (g.W.Words.words c.args.table.now) c.args.map c.args.kind c.args.key.now nodes c.get-at.result c.bucket.result c.words-below.result sizes laid bucket c.get-at.ensures.value c.words-below.ensures)

pub returns-then-answers_at-clause-newest : goal.returns-then-answers_at-clause-newest
returns-then-answers_at-clause-newest g c = λ nodes laid.
    let old : List ℕ = g.W.Words.words c.args.table.now in
    let between = c.is_between.ensures.0 c.chain-test.true in
    let first = between.0 in
    let start = c.arena_start.ensures in
    let high : arena_start c.args.map ≤ c.chain.at = omega arith in
    let here : (p : Placed) → IsNodeAt old c.chain.at p → answers c.args.kind c.args.key.now p ≡ true = λ p at. sym (c.if-answers_at.ensures.answers p (subst (λ (ws : List ℕ). IsNodeAt ws c.chain.at p) (sym c.chain.invariant.0) at)) in
    walk_finds old c.args.map c.args.kind c.args.key.now nodes c.chain.at c.chain.below c.requires.layout laid (c.chain.invariant.4 nodes laid) high here

pub chain-preserved : goal.chain-preserved
chain-preserved g c =
    let old : List ℕ = g.W.Words.words c.args.table.now in
    let between = c.is_between.ensures.0 c.chain-test.true in
    let first = between.0 in
    let second = between.1 in
    let start = c.arena_start.ensures in
    let high : arena_start c.args.map ≤ c.chain.at = omega arith in
    let below = c.chain.invariant.3 in
    let read : g.W.Words.words c.answers_at.new.table ≡ old = c.answers_at.ensures.same ∙ c.chain.invariant.0 in
    let here : (p : Placed) → IsNodeAt old c.chain.at p → answers c.args.kind c.args.key.now p ≡ false = λ p at. sym (c.if-answers_at.ensures.answers p (subst (λ (ws : List ℕ). IsNodeAt ws c.chain.at p) (sym c.chain.invariant.0) at)) in
    let next : c.get-at-in-chain.result ≡ slice_index old (c.chain.at + 7) = c.get-at-in-chain.ensures.value ∙ ap (λ (ws : List ℕ). slice_index ws (c.chain.at + 7)) read in
    (c.get-at-in-chain.ensures.same ∙ read, c.get-at-in-chain.ensures.rest ∙ c.answers_at.ensures.rest ∙ c.chain.invariant.1, omega arith, omega arith, λ nodes laid. walk_goes old c.args.map c.args.kind c.args.key.now nodes c.chain.at c.chain.below c.get-at-in-chain.result c.requires.layout laid (c.chain.invariant.4 nodes laid) high here next)

pub returns-clause-newest : goal.returns-clause-newest
returns-clause-newest g c = λ nodes laid.
    let start = c.arena_start.ensures in
    walk_ends (g.W.Words.words c.args.table.now) c.args.map c.args.kind c.args.key.now nodes c.chain.at c.chain.below laid (c.chain.invariant.4 nodes laid) (λ high low. let first : c.arena_start.result ≤ c.chain.at = omega arith in false≢true (sym c.chain-test.false ∙ c.is_between.ensures.1 (first, low)))
