use Rattle.std.proofs.Common.{◌≡◌, ℕ, ◌+◌, ◌≤◌, List, length, slice_index, refl, sym, ap, subst, ◌∙◌, arith}
use Rattle.nsc_words.specs.Laid.{Laid, end_of, slid, words_in}
use Rattle.nsc_words.specs.Layout.{arena_start}
use Rattle.nsc_arena.specs.Written.{IsWritten}
use Rattle.nsc_arena.proofs.Heads.{usable_by, unusable_by}
use Rattle.nsc_arena.proofs.Rows.{end_after}
use Rattle.nsc_arena.proofs.Slides.{Sliding, starts, turn, slides_next, slides_on, slides_over, slides_to_end}
use Rattle.nsc_arena.proofs.sliding.slide.Goals as goal
use Rattle.nsc_arena.proofs.sliding.slide.Goals.{then-get-eq1, else-get-eq1}

pub nodes-init : goal.nodes-init
nodes-init g c =
    let old : List ℕ = g.W.Words.words c.args.table.now in
    let read : g.W.Words.words c.get-end.new.self ≡ old = c.get-end.ensures.same in (
      λ i low differs. c.clear.ensures.head i low differs ∙ ap (λ (ws : List ℕ). slice_index ws i) read,
      c.clear.ensures.rest ∙ c.get-end.ensures.rest,
      λ nodes laid. starts old (g.W.Words.words c.clear.new.table) c.args.map nodes c.arena_start-from.result c.clear.ensures.laid (λ i more. c.clear.ensures.arena i more ∙ ap (λ (ws : List ℕ). slice_index ws i) read) c.arena_start-from.ensures,
    )

pub words_at-count-requires : goal.words_at-count-requires
words_at-count-requires g c =
    let all = c.requires.laid in
    let s = c.nodes.invariant.2 all.0 all.1 in
    let n = turn (g.W.Words.words c.args.table.now) (g.W.Words.words c.nodes.table) c.args.map all.0 c.nodes.from c.get-end.result c.requires.layout all.1 s c.get-end.ensures.value c.nodes-test.true in
    (n.node, n.here)

pub get-requires : goal.get-requires
get-requires g c =
    let all = c.requires.laid in
    let s = c.nodes.invariant.2 all.0 all.1 in
    let n = turn (g.W.Words.words c.args.table.now) (g.W.Words.words c.nodes.table) c.args.map all.0 c.nodes.from c.get-end.result c.requires.layout all.1 s c.get-end.ensures.value c.nodes-test.true in
    let inside = n.here.inside in
    let same : length (g.W.Words.words c.words_at-count.new.table) ≡ length (g.W.Words.words c.nodes.table) = ap length c.words_at-count.ensures.same in
    omega arith

pub move_down-requires-clause-inside : goal.move_down-requires-clause-inside
move_down-requires-clause-inside g c =
    let all = c.requires.laid in
    let s = c.nodes.invariant.2 all.0 all.1 in
    let n = turn (g.W.Words.words c.args.table.now) (g.W.Words.words c.nodes.table) c.args.map all.0 c.nodes.from c.get-end.result c.requires.layout all.1 s c.get-end.ensures.value c.nodes-test.true in
    let inside = n.here.inside in
    let count : c.words_at-count.result ≡ words_in n.node.node = c.words_at-count.ensures.words n.node n.here in
    let same : length (g.W.Words.words c.get-to.new.self) ≡ length (g.W.Words.words c.nodes.table) = ap length (c.get-to.ensures.same ∙ c.get.ensures.same ∙ c.words_at-count.ensures.same) in
    omega arith

pub move_down-requires-clause-open : goal.move_down-requires-clause-open
move_down-requires-clause-open g c = λ i from_to below.
    let all = c.requires.laid in
    let layout = c.args.map in
    let old : List ℕ = g.W.Words.words c.args.table.now in
    let cur : List ℕ = g.W.Words.words c.nodes.table in
    let s = c.nodes.invariant.2 all.0 all.1 in
    let n = turn old cur layout all.0 c.nodes.from c.get-end.result c.requires.layout all.1 s c.get-end.ensures.value c.nodes-test.true in
    let count : c.words_at-count.result ≡ words_in n.node.node = c.words_at-count.ensures.words n.node n.here in
    let counted : g.W.Words.words c.words_at-count.new.table ≡ cur = c.words_at-count.ensures.same in
    let state : c.get.result ≡ slice_index cur (c.nodes.from + 6) = c.get.ensures.value ∙ ap (λ (ws : List ℕ). slice_index ws (c.nodes.from + 6)) counted in
    let asked : g.W.Words.words c.get.new.self ≡ cur = c.get.ensures.same ∙ counted in
    let to : c.get-to.result ≡ slice_index cur 3 = c.get-to.ensures.value ∙ ap (λ (ws : List ℕ). slice_index ws 3) asked in
    let low = end_after (arena_start layout) (slid (arena_start layout) s.done) s.laid.row in
    let first = s.laid.first_free in
    let behind = s.behind in
    let inside = n.here.inside in
    let table = s.laid.table in
    let rest = c.get-to.ensures.rest ∙ c.get.ensures.rest ∙ c.words_at-count.ensures.rest ∙ c.nodes.invariant.1 in
    (λ k. g.W.Words.can_set (rest k) i) ∙ c.requires.open.others i (omega arith) (omega arith)

pub chain-requires-clause-next : goal.chain-requires-clause-next
chain-requires-clause-next g c =
    let all = c.requires.laid in
    let layout = c.args.map in
    let old : List ℕ = g.W.Words.words c.args.table.now in
    let cur : List ℕ = g.W.Words.words c.nodes.table in
    let s = c.nodes.invariant.2 all.0 all.1 in
    let n = turn old cur layout all.0 c.nodes.from c.get-end.result c.requires.layout all.1 s c.get-end.ensures.value c.nodes-test.true in
    let count : c.words_at-count.result ≡ words_in n.node.node = c.words_at-count.ensures.words n.node n.here in
    let counted : g.W.Words.words c.words_at-count.new.table ≡ cur = c.words_at-count.ensures.same in
    let state : c.get.result ≡ slice_index cur (c.nodes.from + 6) = c.get.ensures.value ∙ ap (λ (ws : List ℕ). slice_index ws (c.nodes.from + 6)) counted in
    let asked : g.W.Words.words c.get.new.self ≡ cur = c.get.ensures.same ∙ counted in
    let to : c.get-to.result ≡ slice_index cur 3 = c.get-to.ensures.value ∙ ap (λ (ws : List ℕ). slice_index ws 3) asked in
    let low = end_after (arena_start layout) (slid (arena_start layout) s.done) s.laid.row in
    let first = s.laid.first_free in
    let mid : List ℕ = g.W.Words.words c.move_down.new.table in
    let usable = usable_by c.nodes.from n.node cur n.here c.get.result c.if-get-eq1.true state in
    let written = subst (λ (ws : List ℕ). IsWritten ws mid c.get-to.result c.words_at-count.result (λ i. slice_index ws (c.nodes.from + i))) (c.get-to.ensures.same ∙ asked) c.move_down.ensures.written in
    (slid (arena_start layout) s.done, record n.node { place = c.get-to.result }, slides_next old cur mid layout all.0 c.nodes.from c.get-to.result c.words_at-count.result all.1 s n to count usable written, refl)

pub overflow_add-from-in-nodes : goal.overflow_add-from-in-nodes
overflow_add-from-in-nodes g c =
    let all = c.requires.laid in
    let s = c.nodes.invariant.2 all.0 all.1 in
    let n = turn (g.W.Words.words c.args.table.now) (g.W.Words.words c.nodes.table) c.args.map all.0 c.nodes.from c.get-end.result c.requires.layout all.1 s c.get-end.ensures.value c.nodes-test.true in
    let inside = n.here.inside in
    let size = n.here.size in
    let count : c.words_at-count.result ≡ words_in n.node.node = c.words_at-count.ensures.words n.node n.here in
    omega arith

pub nodes-smaller : goal.nodes-smaller
nodes-smaller g c =
    let all = c.requires.laid in
    let s = c.nodes.invariant.2 all.0 all.1 in
    let n = turn (g.W.Words.words c.args.table.now) (g.W.Words.words c.nodes.table) c.args.map all.0 c.nodes.from c.get-end.result c.requires.layout all.1 s c.get-end.ensures.value c.nodes-test.true in
    let more = c.nodes-test.true in
    let count : c.words_at-count.result ≡ words_in n.node.node = c.words_at-count.ensures.words n.node n.here in
    omega arith

pub nodes-preserved : goal.nodes-preserved
nodes-preserved g c =
    let all = c.requires.laid in
    let layout = c.args.map in
    let old : List ℕ = g.W.Words.words c.args.table.now in
    let cur : List ℕ = g.W.Words.words c.nodes.table in
    let s = c.nodes.invariant.2 all.0 all.1 in
    let n = turn old cur layout all.0 c.nodes.from c.get-end.result c.requires.layout all.1 s c.get-end.ensures.value c.nodes-test.true in
    let count : c.words_at-count.result ≡ words_in n.node.node = c.words_at-count.ensures.words n.node n.here in
    let counted : g.W.Words.words c.words_at-count.new.table ≡ cur = c.words_at-count.ensures.same in
    let state : c.get.result ≡ slice_index cur (c.nodes.from + 6) = c.get.ensures.value ∙ ap (λ (ws : List ℕ). slice_index ws (c.nodes.from + 6)) counted in
    let asked : g.W.Words.words c.get.new.self ≡ cur = c.get.ensures.same ∙ counted in
    elim c.if-get-eq1.branch [
      | then-get-eq1 w ↦
          let to : w.get-to.result ≡ slice_index cur 3 = w.get-to.ensures.value ∙ ap (λ (ws : List ℕ). slice_index ws 3) asked in
          let low = end_after (arena_start layout) (slid (arena_start layout) s.done) s.laid.row in
          let first = s.laid.first_free in
          let mid : List ℕ = g.W.Words.words w.move_down.new.table in
          let new : List ℕ = g.W.Words.words w.chain.new.table in
          let final : g.W.Words.words c.if-get-eq1.table ≡ new = ap g.W.Words.words w.table-is in
          let written : IsWritten cur mid w.get-to.result c.words_at-count.result (λ i. slice_index cur (c.nodes.from + i)) = subst (λ (ws : List ℕ). IsWritten ws mid w.get-to.result c.words_at-count.result (λ i. slice_index ws (c.nodes.from + i))) (w.get-to.ensures.same ∙ asked) w.move_down.ensures.written in (
            λ i less differs. ap (λ (ws : List ℕ). slice_index ws i) final ∙ w.chain.ensures.head i less differs ∙ written.below i (omega arith) ∙ c.nodes.invariant.0 i less differs,
            ap g.W.Words.rest w.table-is ∙ w.chain.ensures.rest ∙ w.move_down.ensures.rest ∙ w.get-to.ensures.rest ∙ c.get.ensures.rest ∙ c.words_at-count.ensures.rest ∙ c.nodes.invariant.1,
            λ nodes laid.
                let t = c.nodes.invariant.2 nodes laid in
                let m = turn old cur layout nodes c.nodes.from c.get-end.result c.requires.layout laid t c.get-end.ensures.value c.nodes-test.true in
                let size : c.words_at-count.result ≡ words_in m.node.node = c.words_at-count.ensures.words m.node m.here in
                let usable = usable_by c.nodes.from m.node cur m.here c.get.result w.if-get-eq1.true state in
                let next = slides_next old cur mid layout nodes c.nodes.from w.get-to.result c.words_at-count.result laid t m to size usable written in
                let linked = w.chain.ensures.laid (slid (arena_start layout) t.done) (record m.node { place = w.get-to.result }) next refl in
                let on = slides_on old cur mid new layout nodes c.nodes.from w.get-to.result c.words_at-count.result c.requires.layout t m to size usable written linked w.chain.ensures.arena in
                subst (λ (ws : List ℕ). Sliding old ws layout nodes (c.nodes.from + c.words_at-count.result)) (sym final) on,
          )
      | else-get-eq1 w ↦
          let final : g.W.Words.words c.if-get-eq1.table ≡ cur = ap g.W.Words.words w.table-is ∙ asked in (
            λ i less differs. ap (λ (ws : List ℕ). slice_index ws i) final ∙ c.nodes.invariant.0 i less differs,
            ap g.W.Words.rest w.table-is ∙ c.get.ensures.rest ∙ c.words_at-count.ensures.rest ∙ c.nodes.invariant.1,
            λ nodes laid.
                let t = c.nodes.invariant.2 nodes laid in
                let m = turn old cur layout nodes c.nodes.from c.get-end.result c.requires.layout laid t c.get-end.ensures.value c.nodes-test.true in
                let size : c.words_at-count.result ≡ words_in m.node.node = c.words_at-count.ensures.words m.node m.here in
                let unusable = unusable_by c.nodes.from m.node cur m.here c.get.result w.if-get-eq1.false state in
                slides_over old cur (g.W.Words.words c.if-get-eq1.table) layout nodes c.nodes.from c.words_at-count.result t m size unusable final,
          )
    ]

pub overflow_sub-result : goal.overflow_sub-result
overflow_sub-result g c =
    let old : List ℕ = g.W.Words.words c.args.table.now in
    let cur : List ℕ = g.W.Words.words c.nodes.table in
    let read : g.W.Words.words c.get-2.new.self ≡ cur = c.get-2.ensures.same in
    let all = c.requires.laid in
    let over : end_of (arena_start c.args.map) all.0 ≤ c.nodes.from = (let e = c.get-end.ensures.value in let f = all.1.first_free in let h = c.nodes-test.false in omega arith) in
    let done = slides_to_end old cur c.args.map all.0 c.nodes.from all.1 (c.nodes.invariant.2 all.0 all.1) over in
    let less = done.1 in
    let value = c.get-2.ensures.value in
    let end = c.get-end.ensures.value in
    omega arith

pub returns-clause-laid : goal.returns-clause-laid
returns-clause-laid g c = λ nodes laid.
    let old : List ℕ = g.W.Words.words c.args.table.now in
    let cur : List ℕ = g.W.Words.words c.nodes.table in
    let read : g.W.Words.words c.get-2.new.self ≡ cur = c.get-2.ensures.same in
    let over : end_of (arena_start c.args.map) nodes ≤ c.nodes.from = (let e = c.get-end.ensures.value in let f = laid.first_free in let h = c.nodes-test.false in omega arith) in
    let done = slides_to_end old cur c.args.map nodes c.nodes.from laid (c.nodes.invariant.2 nodes laid) over in
    subst (λ (ws : List ℕ). Laid ws c.args.map (slid (arena_start c.args.map) nodes)) (sym read) done.0

pub returns-clause-freed : goal.returns-clause-freed
returns-clause-freed g c =
    let old : List ℕ = g.W.Words.words c.args.table.now in
    let cur : List ℕ = g.W.Words.words c.nodes.table in
    let read : g.W.Words.words c.get-2.new.self ≡ cur = c.get-2.ensures.same in
    let all = c.requires.laid in
    let over : end_of (arena_start c.args.map) all.0 ≤ c.nodes.from = (let e = c.get-end.ensures.value in let f = all.1.first_free in let h = c.nodes-test.false in omega arith) in
    let done = slides_to_end old cur c.args.map all.0 c.nodes.from all.1 (c.nodes.invariant.2 all.0 all.1) over in
    let less = done.1 in
    let value = c.get-2.ensures.value in
    let end = c.get-end.ensures.value in
    let same : slice_index (g.W.Words.words c.get-2.new.self) 3 ≡ slice_index cur 3 = ap (λ (ws : List ℕ). slice_index ws 3) read in
    omega arith
