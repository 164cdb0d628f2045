-- A word of a chain is made to lead past an ended node.
use Rattle.std.proofs.Common.{◌≡◌, ◌≢◌, ◌∙◌, ℕ, ◌+◌, ◌<◌, ◌≤◌, ◌⊎◌, false, true≢false, inl, inr, ⊎_elim, List, length, length-set, set, slice_index, refl, sym, ap, subst, arith, get_or-set_other, get_or-set_same}
use Rattle.std.proofs.lemmas.Bool.{cases_eq, cases_lt}
use Rattle.nsc_words.specs.declared.layout.Layout.{Layout}
use Rattle.nsc_words.specs.declared.node.Placed.{Placed}
use Rattle.nsc_words.specs.Laid.{Among, InRow, Laid, Leads, bucket_in, end_of, words_in}
use Rattle.nsc_words.specs.Layout.{arena_start, table_words}
use Rattle.nsc_arena.proofs.Rows.{apart, end_after, kept, same_place, within}
use Rattle.nsc_rule.specs.declared.view.Plan.{Plan}
use Rattle.nsc_rule.specs.Plans.{IsEven, Shows, Sound, filled}
use Rattle.nsc_rule.specs.Strokes.{IsLink, MayUnlink, stored}
use Rattle.nsc_rule.proofs.Filled.{filled_at, filled_set, sound_above}

-- what led to an ended node may lead where that one leads
leads_past : (start : ℕ) (layout : Layout) (nodes : List Placed) (g : Placed) (bucket below to : ℕ) → InRow start nodes → Among g nodes → g.usable ≡ false → 0 < g.place → Leads layout nodes bucket below g.place → Leads layout nodes (bucket_in layout g) g.place to → Leads layout nodes bucket below to
leads_past start layout nodes g bucket below to row among off high there past =
    ⊎_elim
    (λ (e : g.place ≡ 0). absurd (omega arith))
    (λ (w : (p : Placed) × Among p nodes × (p.place ≡ g.place) × (g.place < below) × (bucket_in layout p ≡ bucket)).
    let same : w.0 ≡ g = same_place start nodes w.0 g row w.1 among w.2 in
    let own : bucket_in layout g ≡ bucket = ap (bucket_in layout) (sym same) ∙ w.4 in
    let lower = w.3 in
    let by : Leads layout nodes bucket g.place to = subst (λ (b : ℕ). Leads layout nodes b g.place to) own past in
    let result : Leads layout nodes bucket below to = record {
      known = ⊎_elim (λ (e : to ≡ 0). inl e) (λ (v : (p : Placed) × Among p nodes × (p.place ≡ to) × (to < g.place) × (bucket_in layout p ≡ bucket)). let less = v.3 in inr (v.0, v.1, v.2, omega arith, v.4)) by.known;
      none_between = λ p m usable is low.
          let most : p.place ≤ g.place = there.none_between p m usable is low in
          ⊎_elim
          (λ (e : p.place ≡ g.place). absurd (true≢false (sym usable ∙ ap (λ (q : Placed). q.usable) (same_place start nodes p g row m among e) ∙ off)))
          (λ (n : p.place ≢ g.place). by.none_between p m usable is (omega arith))
          (cases_eq p.place g.place);
    } in
    result)
    there.known

-- a word of a chain is none of a node but its NEXT
not_inside : (layout : Layout) (nodes : List Placed) (from : ℕ) (q : Placed) (i : ℕ) → InRow (arena_start layout) nodes → Among q nodes → i < words_in q.node → i ≢ 7
    → ((16 ≤ from) × (from < arena_start layout)) ⊎ ((r : Placed) × Among r nodes × (from ≡ r.place + 7)) → q.place + i ≢ from
not_inside layout nodes from q i row among more other link = ⊎_elim
    (λ (b : (16 ≤ from) × (from < arena_start layout)). let at = within (arena_start layout) nodes q row among in let low = b.1 in λ (e : q.place + i ≡ from). absurd (omega arith))
    (λ (w : (r : Placed) × Among r nodes × (from ≡ r.place + 7)).
    let is = w.2 in
    ⊎_elim
    (λ (same : q.place ≡ w.0.place). λ (e : q.place + i ≡ from). absurd (other (omega arith)))
    (λ (n : q.place ≢ w.0.place). ⊎_elim
    (λ (l : q.place < w.0.place). let far = apart (arena_start layout) nodes q w.0 row among w.1 l in λ (e : q.place + i ≡ from). absurd (omega arith))
    (λ (l : w.0.place ≤ q.place). let far = apart (arena_start layout) nodes w.0 q row w.1 among (omega arith) in λ (e : q.place + i ≡ from). absurd (omega arith))
    (cases_lt q.place w.0.place))
    (cases_eq q.place w.0.place))
    link

laid_unlinked : (old new : List ℕ) (layout : Layout) (nodes : List Placed) (g : Placed) (from to : ℕ) → Laid old layout nodes → Among g nodes → g.usable ≡ false → slice_index old from ≡ g.place → to ≡ slice_index old (g.place + 7)
    → ((16 ≤ from) × (from < arena_start layout)) ⊎ ((r : Placed) × Among r nodes × (from ≡ r.place + 7)) → 16 ≤ from → from < length old → new ≡ set old from to → Laid new layout nodes
laid_unlinked old new layout nodes g from to laid among off leads past link high inside is =
    let start : ℕ = arena_start layout in
    let other : (i : ℕ) → i ≢ from → slice_index new i ≡ slice_index old i = λ i n. ap (λ (ws : List ℕ). slice_index ws i) is ∙ get_or-set_other old from i to 0 n in
    let here : slice_index new from ≡ to = ap (λ (ws : List ℕ). slice_index ws from) is ∙ get_or-set_same old from to 0 inside in
    let standing = within start nodes g laid.row among in
    let own : Leads layout nodes (bucket_in layout g) g.place to = subst (λ (t : ℕ). Leads layout nodes (bucket_in layout g) g.place t) (sym past) (laid.nexts g among) in
    -- a word of the chain at this place leads where it led, or past the node
    let again : (bucket below at : ℕ) → Leads layout nodes bucket below (slice_index old at) → Leads layout nodes bucket below (slice_index new at) = λ bucket below at was. ⊎_elim
    (λ (e : at ≡ from).
    let to_g : Leads layout nodes bucket below g.place = subst (λ (t : ℕ). Leads layout nodes bucket below t) (ap (slice_index old) e ∙ leads) was in
    subst (λ (t : ℕ). Leads layout nodes bucket below t) (sym (ap (slice_index new) e ∙ here)) (leads_past start layout nodes g bucket below to laid.row among off (omega arith) to_g own))
    (λ (n : at ≢ from). subst (λ (t : ℕ). Leads layout nodes bucket below t) (sym (other at n)) was)
    (cases_eq at from) in
    record {
      table = ap length is ∙ length-set old from to ∙ laid.table;
      first_free = other 3 (omega arith) ∙ laid.first_free;
      room = laid.room;
      row = laid.row;
      rising = laid.rising;
      stands = λ q m. kept old new q (λ i more differs. other (q.place + i) (not_inside layout nodes from q i laid.row m more differs link)) (laid.stands q m);
      buckets = λ i more. again (16 + i) (end_of start nodes) (16 + i) (laid.buckets i more);
      nexts = λ q m. again (bucket_in layout q) q.place (q.place + 7) (laid.nexts q m);
    }

-- a word of a chain lies behind the head and within the words
pub link_within : (p : Plan) (from : ℕ) → IsEven p → IsLink p from → Sound p → (16 ≤ from) × (from < table_words p.layout)
link_within p from even link sound =
    let laid = (sound.shows even).laid in
    let room = laid.room in
    let after = end_after (arena_start p.layout) p.nodes laid.row in
    ⊎_elim
    (λ (b : (16 ≤ from) × (from < arena_start p.layout)). let low = b.0 in let high = b.1 in (omega arith, omega arith))
    (λ (w : (r : Placed) × Among r p.nodes × (from ≡ r.place + 7)). let is = w.2 in let at = within (arena_start p.layout) p.nodes w.0 laid.row w.1 in (omega arith, omega arith))
    link

unlinked_shows : (p : Plan) (from to : ℕ) → MayUnlink p from to → Sound p → Shows p.layout (set p.words from to) p.seen p.nodes
unlinked_shows p from to may sound =
    let shows = sound.shows may.even in
    let old : List ℕ = filled p.layout p.words p.nodes in
    let at = link_within p from may.even may.link sound in
    let g = within (arena_start p.layout) p.nodes may.gone shows.laid.row may.among in
    let other : from ≢ 3 = omega arith in
    let apart : may.gone.place + 7 ≢ 3 = omega arith in
    let table = shows.laid.table in
    record {
      laid = laid_unlinked old (filled p.layout (set p.words from to) p.nodes) p.layout p.nodes may.gone from to shows.laid may.among may.ended
          (filled_at p.layout p.words p.nodes from other ∙ may.leads) (may.past ∙ sym (filled_at p.layout p.words p.nodes (may.gone.place + 7) apart)) may.link at.0 (omega arith) (filled_set p.layout p.words p.nodes from to other);
      sits = shows.sits;
    }

pub sound_unlinked : (p : Plan) (from to : ℕ) → MayUnlink p from to → Sound p → Sound (stored from to p)
sound_unlinked p from to may sound = let at = link_within p from may.even may.link sound in sound_above p p.seen from to p.nodes (omega arith) (λ i low less. omega (arith, at.0)) sound sound.legal sound.fit refl refl refl refl (λ even. unlinked_shows p from to may sound)
