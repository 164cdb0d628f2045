use Rattle.std.proofs.Common.{◌≡◌, ℕ, ◌+◌, ◌≤◌, List, length, slice_index, refl, sym, ap, subst, ◌∙◌, arith, get_or-set_other}
use Rattle.nsc_words.specs.Laid.{end_of, slid, words_in}
use Rattle.nsc_words.specs.Layout.{arena_start}
use Rattle.nsc_arena.specs.Changes.{IsNodeAt}
use Rattle.nsc_arena.specs.Written.{IsWritten}
use Rattle.nsc_arena.proofs.Cleared.{cleared}
use Rattle.nsc_arena.proofs.Copies.{Copying, copied, copies_next, copies_none, copies_on, copies_over, copies_to_end, has_room}
use Rattle.nsc_arena.proofs.Heads.{usable_by, unusable_by}
use Rattle.nsc_arena.proofs.Rows.{end_after}
use Rattle.nsc_arena.proofs.copying.copy_nodes.Goals as goal
use Rattle.nsc_arena.proofs.copying.copy_nodes.Goals.{then-get-eq1, else-get-eq1}

pub nodes-init : goal.nodes-init
nodes-init g c =
    let first : ℕ = c.arena_start.result in
    let words : List ℕ = g.W.Words.words c.args.table.now in (
      λ i low differs. ap (λ (ws : List ℕ). slice_index ws i) c.set.ensures.set ∙ get_or-set_other words 3 i first 0 differs,
      c.set.ensures.rest,
      c.get-end.ensures.same,
      c.get-end.ensures.rest,
      λ nodes laid fit. copies_none (g.W.Words.words c.set.new.self) c.args.from_map c.args.map nodes c.arena_start-at.result (cleared words (g.W.Words.words c.set.new.self) c.args.map first c.requires.table c.set.ensures.set c.arena_start.ensures c.requires.empty) c.arena_start-at.ensures,
    )

pub words_at-count-requires : goal.words_at-count-requires
words_at-count-requires g c =
    let old : List ℕ = g.V.Words.words c.args.from.now in
    let cur : List ℕ = g.W.Words.words c.nodes.table in
    let all = c.requires.laid in
    let s = c.nodes.invariant.4 all.0 all.1 all.2 in
    let n = copied old cur c.args.from_map c.args.map all.0 c.nodes.at c.get-end.result c.requires.from_layout all.1 s c.get-end.ensures.value c.nodes-test.true in
    let as_before : g.V.Words.words c.nodes.from ≡ old = c.nodes.invariant.2 in
    let here : IsNodeAt (g.V.Words.words c.nodes.from) c.nodes.at n.node = subst (λ (ws : List ℕ). IsNodeAt ws c.nodes.at n.node) (sym as_before) n.here in
    (n.node, here)

pub get-requires : goal.get-requires
get-requires g c =
    let old : List ℕ = g.V.Words.words c.args.from.now in
    let cur : List ℕ = g.W.Words.words c.nodes.table in
    let all = c.requires.laid in
    let s = c.nodes.invariant.4 all.0 all.1 all.2 in
    let n = copied old cur c.args.from_map c.args.map all.0 c.nodes.at c.get-end.result c.requires.from_layout all.1 s c.get-end.ensures.value c.nodes-test.true in
    let as_before : g.V.Words.words c.nodes.from ≡ old = c.nodes.invariant.2 in
    let here : IsNodeAt (g.V.Words.words c.nodes.from) c.nodes.at n.node = subst (λ (ws : List ℕ). IsNodeAt ws c.nodes.at n.node) (sym as_before) n.here in
    let inside = n.here.inside in
    let same : length (g.V.Words.words c.words_at-count.new.table) ≡ length old = ap length (c.words_at-count.ensures.same ∙ as_before) in
    omega arith

pub copy_words-requires-clause-read : goal.copy_words-requires-clause-read
copy_words-requires-clause-read g c =
    let old : List ℕ = g.V.Words.words c.args.from.now in
    let cur : List ℕ = g.W.Words.words c.nodes.table in
    let all = c.requires.laid in
    let s = c.nodes.invariant.4 all.0 all.1 all.2 in
    let n = copied old cur c.args.from_map c.args.map all.0 c.nodes.at c.get-end.result c.requires.from_layout all.1 s c.get-end.ensures.value c.nodes-test.true in
    let as_before : g.V.Words.words c.nodes.from ≡ old = c.nodes.invariant.2 in
    let here : IsNodeAt (g.V.Words.words c.nodes.from) c.nodes.at n.node = subst (λ (ws : List ℕ). IsNodeAt ws c.nodes.at n.node) (sym as_before) n.here in
    let count : c.words_at-count.result ≡ words_in n.node.node = c.words_at-count.ensures.words n.node here in
    let counted : g.V.Words.words c.words_at-count.new.table ≡ old = c.words_at-count.ensures.same ∙ as_before in
    let inside = n.here.inside in
    let same : length (g.V.Words.words c.get.new.self) ≡ length old = ap length (c.get.ensures.same ∙ counted) in
    omega arith

pub copy_words-requires-clause-inside : goal.copy_words-requires-clause-inside
copy_words-requires-clause-inside g c =
    let old : List ℕ = g.V.Words.words c.args.from.now in
    let cur : List ℕ = g.W.Words.words c.nodes.table in
    let all = c.requires.laid in
    let s = c.nodes.invariant.4 all.0 all.1 all.2 in
    let n = copied old cur c.args.from_map c.args.map all.0 c.nodes.at c.get-end.result c.requires.from_layout all.1 s c.get-end.ensures.value c.nodes-test.true in
    let as_before : g.V.Words.words c.nodes.from ≡ old = c.nodes.invariant.2 in
    let here : IsNodeAt (g.V.Words.words c.nodes.from) c.nodes.at n.node = subst (λ (ws : List ℕ). IsNodeAt ws c.nodes.at n.node) (sym as_before) n.here in
    let count : c.words_at-count.result ≡ words_in n.node.node = c.words_at-count.ensures.words n.node here in
    let counted : g.V.Words.words c.words_at-count.new.table ≡ old = c.words_at-count.ensures.same ∙ as_before in
    let state : c.get.result ≡ slice_index old (c.nodes.at + 6) = c.get.ensures.value ∙ ap (λ (ws : List ℕ). slice_index ws (c.nodes.at + 6)) counted in
    let asked : g.V.Words.words c.get.new.self ≡ old = c.get.ensures.same ∙ counted in
    let to : c.get-to.result ≡ slice_index cur 3 = c.get-to.ensures.value in
    let usable = usable_by c.nodes.at n.node old n.here c.get.result c.if-get-eq1.true state in
    let has = has_room old cur c.args.from_map c.args.map all.0 c.nodes.at c.get-to.result all.2 s n to usable in
    let room = has.room in
    let table = s.laid.table in
    let same : length (g.W.Words.words c.get-to.new.self) ≡ length cur = ap length c.get-to.ensures.same in
    omega arith

pub copy_words-requires-clause-open : goal.copy_words-requires-clause-open
copy_words-requires-clause-open g c = λ i from_to below.
    let old : List ℕ = g.V.Words.words c.args.from.now in
    let cur : List ℕ = g.W.Words.words c.nodes.table in
    let all = c.requires.laid in
    let s = c.nodes.invariant.4 all.0 all.1 all.2 in
    let n = copied old cur c.args.from_map c.args.map all.0 c.nodes.at c.get-end.result c.requires.from_layout all.1 s c.get-end.ensures.value c.nodes-test.true in
    let as_before : g.V.Words.words c.nodes.from ≡ old = c.nodes.invariant.2 in
    let here : IsNodeAt (g.V.Words.words c.nodes.from) c.nodes.at n.node = subst (λ (ws : List ℕ). IsNodeAt ws c.nodes.at n.node) (sym as_before) n.here in
    let count : c.words_at-count.result ≡ words_in n.node.node = c.words_at-count.ensures.words n.node here in
    let counted : g.V.Words.words c.words_at-count.new.table ≡ old = c.words_at-count.ensures.same ∙ as_before in
    let state : c.get.result ≡ slice_index old (c.nodes.at + 6) = c.get.ensures.value ∙ ap (λ (ws : List ℕ). slice_index ws (c.nodes.at + 6)) counted in
    let asked : g.V.Words.words c.get.new.self ≡ old = c.get.ensures.same ∙ counted in
    let to : c.get-to.result ≡ slice_index cur 3 = c.get-to.ensures.value in
    let usable = usable_by c.nodes.at n.node old n.here c.get.result c.if-get-eq1.true state in
    let has = has_room old cur c.args.from_map c.args.map all.0 c.nodes.at c.get-to.result all.2 s n to usable in
    let room = has.room in
    let low = end_after (arena_start c.args.map) (slid (arena_start c.args.map) s.done) s.laid.row in
    let place = has.place in
    let rest = c.get-to.ensures.rest ∙ c.nodes.invariant.1 in
    (λ k. g.W.Words.can_set (rest k) i) ∙ c.requires.open.others i (omega arith) (omega arith)

pub chain-requires-clause-next : goal.chain-requires-clause-next
chain-requires-clause-next g c =
    let old : List ℕ = g.V.Words.words c.args.from.now in
    let cur : List ℕ = g.W.Words.words c.nodes.table in
    let all = c.requires.laid in
    let s = c.nodes.invariant.4 all.0 all.1 all.2 in
    let n = copied old cur c.args.from_map c.args.map all.0 c.nodes.at c.get-end.result c.requires.from_layout all.1 s c.get-end.ensures.value c.nodes-test.true in
    let as_before : g.V.Words.words c.nodes.from ≡ old = c.nodes.invariant.2 in
    let here : IsNodeAt (g.V.Words.words c.nodes.from) c.nodes.at n.node = subst (λ (ws : List ℕ). IsNodeAt ws c.nodes.at n.node) (sym as_before) n.here in
    let count : c.words_at-count.result ≡ words_in n.node.node = c.words_at-count.ensures.words n.node here in
    let counted : g.V.Words.words c.words_at-count.new.table ≡ old = c.words_at-count.ensures.same ∙ as_before in
    let state : c.get.result ≡ slice_index old (c.nodes.at + 6) = c.get.ensures.value ∙ ap (λ (ws : List ℕ). slice_index ws (c.nodes.at + 6)) counted in
    let asked : g.V.Words.words c.get.new.self ≡ old = c.get.ensures.same ∙ counted in
    let to : c.get-to.result ≡ slice_index cur 3 = c.get-to.ensures.value in
    let usable = usable_by c.nodes.at n.node old n.here c.get.result c.if-get-eq1.true state in
    let has = has_room old cur c.args.from_map c.args.map all.0 c.nodes.at c.get-to.result all.2 s n to usable in
    let mid : List ℕ = g.W.Words.words c.copy_words.new.table in
    let written = subst (λ (ws : List ℕ). IsWritten ws mid c.get-to.result c.words_at-count.result (λ i. slice_index old (c.nodes.at + i))) c.get-to.ensures.same (subst (λ (ws : List ℕ). IsWritten (g.W.Words.words c.get-to.new.self) mid c.get-to.result c.words_at-count.result (λ i. slice_index ws (c.nodes.at + i))) asked c.copy_words.ensures.written) in
    (slid (arena_start c.args.map) s.done, record n.node { place = c.get-to.result }, copies_next old cur mid c.args.from_map c.args.map all.0 c.nodes.at c.get-to.result c.words_at-count.result all.2 s n to count usable written, refl)

pub overflow_add-at-in-nodes : goal.overflow_add-at-in-nodes
overflow_add-at-in-nodes g c =
    let old : List ℕ = g.V.Words.words c.args.from.now in
    let cur : List ℕ = g.W.Words.words c.nodes.table in
    let all = c.requires.laid in
    let s = c.nodes.invariant.4 all.0 all.1 all.2 in
    let n = copied old cur c.args.from_map c.args.map all.0 c.nodes.at c.get-end.result c.requires.from_layout all.1 s c.get-end.ensures.value c.nodes-test.true in
    let as_before : g.V.Words.words c.nodes.from ≡ old = c.nodes.invariant.2 in
    let here : IsNodeAt (g.V.Words.words c.nodes.from) c.nodes.at n.node = subst (λ (ws : List ℕ). IsNodeAt ws c.nodes.at n.node) (sym as_before) n.here in
    let count : c.words_at-count.result ≡ words_in n.node.node = c.words_at-count.ensures.words n.node here in
    let counted : g.V.Words.words c.words_at-count.new.table ≡ old = c.words_at-count.ensures.same ∙ as_before in
    let inside = n.here.inside in
    let size = n.here.size in
    omega arith

pub nodes-smaller : goal.nodes-smaller
nodes-smaller g c =
    let old : List ℕ = g.V.Words.words c.args.from.now in
    let cur : List ℕ = g.W.Words.words c.nodes.table in
    let all = c.requires.laid in
    let s = c.nodes.invariant.4 all.0 all.1 all.2 in
    let n = copied old cur c.args.from_map c.args.map all.0 c.nodes.at c.get-end.result c.requires.from_layout all.1 s c.get-end.ensures.value c.nodes-test.true in
    let as_before : g.V.Words.words c.nodes.from ≡ old = c.nodes.invariant.2 in
    let here : IsNodeAt (g.V.Words.words c.nodes.from) c.nodes.at n.node = subst (λ (ws : List ℕ). IsNodeAt ws c.nodes.at n.node) (sym as_before) n.here in
    let count : c.words_at-count.result ≡ words_in n.node.node = c.words_at-count.ensures.words n.node here in
    let counted : g.V.Words.words c.words_at-count.new.table ≡ old = c.words_at-count.ensures.same ∙ as_before in
    let more = c.nodes-test.true in
    omega arith

pub nodes-preserved : goal.nodes-preserved
nodes-preserved g c =
    let old : List ℕ = g.V.Words.words c.args.from.now in
    let cur : List ℕ = g.W.Words.words c.nodes.table in
    let all = c.requires.laid in
    let s = c.nodes.invariant.4 all.0 all.1 all.2 in
    let n = copied old cur c.args.from_map c.args.map all.0 c.nodes.at c.get-end.result c.requires.from_layout all.1 s c.get-end.ensures.value c.nodes-test.true in
    let as_before : g.V.Words.words c.nodes.from ≡ old = c.nodes.invariant.2 in
    let here : IsNodeAt (g.V.Words.words c.nodes.from) c.nodes.at n.node = subst (λ (ws : List ℕ). IsNodeAt ws c.nodes.at n.node) (sym as_before) n.here in
    let count : c.words_at-count.result ≡ words_in n.node.node = c.words_at-count.ensures.words n.node here in
    let counted : g.V.Words.words c.words_at-count.new.table ≡ old = c.words_at-count.ensures.same ∙ as_before in
    let state : c.get.result ≡ slice_index old (c.nodes.at + 6) = c.get.ensures.value ∙ ap (λ (ws : List ℕ). slice_index ws (c.nodes.at + 6)) counted in
    let asked : g.V.Words.words c.get.new.self ≡ old = c.get.ensures.same ∙ counted in
    elim c.if-get-eq1.branch [
      | then-get-eq1 w ↦
          let to : w.get-to.result ≡ slice_index cur 3 = w.get-to.ensures.value in
          let mid : List ℕ = g.W.Words.words w.copy_words.new.table in
          let new : List ℕ = g.W.Words.words w.chain.new.table in
          let final : g.W.Words.words c.if-get-eq1.table ≡ new = ap g.W.Words.words w.table-is in
          let written : IsWritten cur mid w.get-to.result c.words_at-count.result (λ i. slice_index old (c.nodes.at + i)) = subst (λ (ws : List ℕ). IsWritten ws mid w.get-to.result c.words_at-count.result (λ i. slice_index old (c.nodes.at + i))) w.get-to.ensures.same (subst (λ (ws : List ℕ). IsWritten (g.W.Words.words w.get-to.new.self) mid w.get-to.result c.words_at-count.result (λ i. slice_index ws (c.nodes.at + i))) asked w.copy_words.ensures.written) in
          let usable_here = usable_by c.nodes.at n.node old n.here c.get.result w.if-get-eq1.true state in
          let low = end_after (arena_start c.args.map) (slid (arena_start c.args.map) s.done) s.laid.row in
          let first = s.laid.first_free in (
            λ i less differs. ap (λ (ws : List ℕ). slice_index ws i) final ∙ w.chain.ensures.head i less differs ∙ written.below i (omega arith) ∙ c.nodes.invariant.0 i less differs,
            ap g.W.Words.rest w.table-is ∙ w.chain.ensures.rest ∙ w.copy_words.ensures.rest ∙ w.get-to.ensures.rest ∙ c.nodes.invariant.1,
            ap g.V.Words.words w.from-is ∙ w.copy_words.ensures.from_words ∙ asked,
            ap g.V.Words.rest w.from-is ∙ w.copy_words.ensures.from_rest ∙ c.get.ensures.rest ∙ c.words_at-count.ensures.rest ∙ c.nodes.invariant.3,
            λ nodes laid fit.
                let t = c.nodes.invariant.4 nodes laid fit in
                let m = copied old cur c.args.from_map c.args.map nodes c.nodes.at c.get-end.result c.requires.from_layout laid t c.get-end.ensures.value c.nodes-test.true in
                let size : c.words_at-count.result ≡ words_in m.node.node = c.words_at-count.ensures.words m.node (subst (λ (ws : List ℕ). IsNodeAt ws c.nodes.at m.node) (sym as_before) m.here) in
                let usable = usable_by c.nodes.at m.node old m.here c.get.result w.if-get-eq1.true state in
                let next = copies_next old cur mid c.args.from_map c.args.map nodes c.nodes.at w.get-to.result c.words_at-count.result fit t m to size usable written in
                let linked = w.chain.ensures.laid (slid (arena_start c.args.map) t.done) (record m.node { place = w.get-to.result }) next refl in
                let on = copies_on old cur new c.args.from_map c.args.map nodes c.nodes.at w.get-to.result c.words_at-count.result fit t m to size usable linked in
                subst (λ (ws : List ℕ). Copying ws c.args.from_map c.args.map nodes (c.nodes.at + c.words_at-count.result)) (sym final) on,
          )
      | else-get-eq1 w ↦
          let final : g.W.Words.words c.if-get-eq1.table ≡ cur = ap g.W.Words.words w.table-is in (
            λ i less differs. ap (λ (ws : List ℕ). slice_index ws i) final ∙ c.nodes.invariant.0 i less differs,
            ap g.W.Words.rest w.table-is ∙ c.nodes.invariant.1,
            ap g.V.Words.words w.from-is ∙ asked,
            ap g.V.Words.rest w.from-is ∙ c.get.ensures.rest ∙ c.words_at-count.ensures.rest ∙ c.nodes.invariant.3,
            λ nodes laid fit.
                let t = c.nodes.invariant.4 nodes laid fit in
                let m = copied old cur c.args.from_map c.args.map nodes c.nodes.at c.get-end.result c.requires.from_layout laid t c.get-end.ensures.value c.nodes-test.true in
                let size : c.words_at-count.result ≡ words_in m.node.node = c.words_at-count.ensures.words m.node (subst (λ (ws : List ℕ). IsNodeAt ws c.nodes.at m.node) (sym as_before) m.here) in
                let unusable = unusable_by c.nodes.at m.node old m.here c.get.result w.if-get-eq1.false state in
                copies_over old cur (g.W.Words.words c.if-get-eq1.table) c.args.from_map c.args.map nodes c.nodes.at c.words_at-count.result t m size unusable final,
          )
    ]

pub returns-clause-laid : goal.returns-clause-laid
returns-clause-laid g c = λ nodes laid fit.
    let old : List ℕ = g.V.Words.words c.args.from.now in
    let cur : List ℕ = g.W.Words.words c.nodes.table in
    let over : end_of (arena_start c.args.from_map) nodes ≤ c.nodes.at = (let e = c.get-end.ensures.value in let f = laid.first_free in let h = c.nodes-test.false in omega arith) in
    copies_to_end old cur c.args.from_map c.args.map nodes c.nodes.at laid (c.nodes.invariant.4 nodes laid fit) over
