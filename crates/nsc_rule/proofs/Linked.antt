-- A node is linked, and its entry inserted.
use Rattle.std.proofs.Common.{◌≡◌, ◌≢◌, ◌∙◌, ℕ, ◌+◌, ◌%◌, ◌<◌, ◌≤◌, true, false, true≢false, inl, inr, ⊎_elim, List, ◌∷◌, set, slice_index, refl, sym, ap, subst, arith, None}
use Rattle.std.proofs.lemmas.List.{set-get_or}
use Rattle.std.proofs.lemmas.List.Elements.{All-cons}
use Rattle.nsc_words.specs.declared.layout.Layout.{Layout}
use Rattle.nsc_words.specs.declared.node.Placed.{Placed}
use Rattle.nsc_words.specs.Hash.{hash_of}
use Rattle.nsc_words.specs.Laid.{Among, Laid, Stands, bucket_in, end_of, words_in}
use Rattle.nsc_words.specs.Layout.{IsLayout, arena_start, table_words}
use Rattle.nsc_arena.specs.Changes.{IsNext}
use Rattle.nsc_arena.specs.ReadBack.{placed_in}
use Rattle.nsc_arena.proofs.Chains.{chained}
use Rattle.nsc_arena.proofs.Rows.{end_after, kept}
use Rattle.nsc_model.specs.declared.record.Record.{Record}
use Rattle.nsc_model.specs.declared.record.Record.TheVariants.{Load}
use Rattle.nsc_model.specs.History.{loads, IsFit, IsLive, Legal}
use Rattle.nsc_model.specs.Kinds.{type_number}
use Rattle.nsc_model.proofs.Beginnings.{prefix_all, prefix_more}
use Rattle.nsc_rule.specs.declared.view.Plan.{Plan}
use Rattle.nsc_rule.specs.Entries.{entry_of, kind_of}
use Rattle.nsc_rule.specs.Plans.{Grows, Later, Sits, Sound, filled}
use Rattle.nsc_rule.specs.Strokes.{IsReady, published}
use Rattle.nsc_rule.proofs.Numbers.{end_below}
use Rattle.nsc_rule.proofs.Filled.{filled_at, filled_set, later_at, set_twice, sound_at}

-- a bucket's word lies behind the head
pub bucket_low : (layout : Layout) (p : Placed) → IsLayout layout → (16 ≤ bucket_in layout p) × (bucket_in layout p < arena_start layout)
bucket_low layout p sizes =
    let some = sizes.some_bucket in
    let hash : ℕ = hash_of p.node.kind p.node.key in
    (omega arith, bounded hash layout.buckets some) where
      bounded : (h n : ℕ) → 1 ≤ n → 16 + h % n < 16 + n
      bounded h n some = omega arith

-- the words of the chain once the node is linked
linked_words : (layout : Layout) (words : List ℕ) (nodes : List Placed) (n : Placed) (link : ℕ) → link ≡ bucket_in layout n → link ≢ 3 → n.place + 7 ≢ 3 → slice_index words (n.place + 7) ≡ slice_index words link
    → filled layout (set words link n.place) (n ∷ nodes) ≡ set (set (set (filled layout words nodes) (n.place + 7) (slice_index (filled layout words nodes) (bucket_in layout n))) (bucket_in layout n) n.place) 3 (n.place + words_in n.node)
linked_words layout words nodes n link is far apart next =
    let old : List ℕ = filled layout words nodes in
    let end : ℕ = n.place + words_in n.node in
    let same : slice_index old (bucket_in layout n) ≡ slice_index old (n.place + 7) = ap (slice_index old) (sym is) ∙ filled_at layout words nodes link far ∙ sym next ∙ sym (filled_at layout words nodes (n.place + 7) apart) in
    let stays : set old (n.place + 7) (slice_index old (bucket_in layout n)) ≡ old = ap (λ (w : ℕ). set old (n.place + 7) w) same ∙ set-get_or old (n.place + 7) 0 in
    let linked : set (set old (n.place + 7) (slice_index old (bucket_in layout n))) (bucket_in layout n) n.place ≡ filled layout (set words link n.place) nodes = (λ i. set (stays i) (sym is i) n.place) ∙ sym (filled_set layout words nodes link n.place far) in
    sym (ap (λ (ws : List ℕ). set ws 3 end) linked ∙ set_twice (set words link n.place) 3 (end_of (arena_start layout) nodes) end)

linked_laid : (p : Plan) (link at : ℕ) → Sound p → IsReady p link at → Laid (filled p.layout (set p.words link at) (placed_in p.words at ∷ p.nodes)) p.layout (placed_in p.words at ∷ p.nodes)
linked_laid p link at sound ready =
    let n : Placed = placed_in p.words at in
    let shows = sound.shows ready.even in
    let old : List ℕ = filled p.layout p.words p.nodes in
    let low = bucket_low p.layout n sound.sizes in
    let after = end_after (arena_start p.layout) p.nodes shows.laid.row in
    let place = ready.place in
    let bucket = ready.bucket in
    let far : link ≢ 3 = omega arith in
    let apart : at + 7 ≢ 3 = omega arith in
    let stands : Stands old n = kept p.words old n (λ i more other. let behind : at + i ≢ 3 = omega arith in filled_at p.layout p.words p.nodes (at + i) behind) ready.stands in
    let next : IsNext old p.layout p.nodes n = record {
      laid = shows.laid;
      place = ready.place;
      room = ready.room;
      usable = ready.usable;
      stands = stands;
      newest = λ q among. let low_number = shows.sits.numbers q among in let own : n.node.number ≡ loads p.seen = ready.legal.1 in omega arith;
    } in
    chained old (filled p.layout (set p.words link at) (n ∷ p.nodes)) p.layout p.nodes n sound.sizes next (linked_words p.layout p.words p.nodes n link ready.bucket far apart ready.next)

-- a new entry, and those from before
sits_linked : (h : List Record) (nodes : List Placed) (n : Placed) → Legal (Load (entry_of n) ∷ h) → n.usable ≡ true → type_number (kind_of n.node.kind) ≡ n.node.kind → Sits h nodes → Sits (Load (entry_of n) ∷ h) (n ∷ nodes)
sits_linked h nodes n legal usable kind sits = record {
  live = λ q among on. ⊎_elim
      (λ (e : q ≡ n). subst (λ (r : Placed). IsLive (Load (entry_of n) ∷ h) (entry_of r)) (sym e) (record { inserted = inl refl; not_ended = λ ended. let low = end_below h n.node.number legal.0 ended in let own : n.node.number ≡ loads h = legal.1 in absurd (omega arith) }))
      (λ (m : Among q nodes). let was = sits.live q m on in record { inserted = inr was.inserted; not_ended = was.not_ended })
      among;
  found = λ e live. ⊎_elim
      (λ (same : entry_of n ≡ e). (n, inl refl, usable, same))
      (λ before. let was = sits.found e (record { inserted = before; not_ended = live.not_ended }) in (was.0, inr was.1, was.2, was.3))
      live.inserted;
  numbers = λ q among. ⊎_elim
      (λ (e : q ≡ n). let own : n.node.number ≡ loads h = legal.1 in let same : q.node.number ≡ n.node.number = ap (λ (r : Placed). r.node.number) e in omega arith)
      (λ (m : Among q nodes). let low = sits.numbers q m in omega arith)
      among;
  kinds = λ q among. ⊎_elim
      (λ (e : q ≡ n). subst (λ (r : Placed). type_number (kind_of r.node.kind) ≡ r.node.kind) (sym e) kind)
      (λ (m : Among q nodes). sits.kinds q m)
      among;
}

grows_linked : (k : ℕ) (nodes : List Placed) (n : Placed) → k ≤ n.node.number → Grows k nodes (n ∷ nodes)
grows_linked k nodes n new = record {
  stays = λ q among. (q, inr among, refl, refl, λ off. off);
  fresh = λ r among on. ⊎_elim
      (λ (e : r ≡ n). let same : r.node.number ≡ n.node.number = ap (λ (q : Placed). q.node.number) e in inl (omega arith))
      (λ (m : Among r nodes). inr (r, m, on, refl, refl))
      among;
}

link_high : (p : Plan) (link at : ℕ) → Sound p → IsReady p link at → 16 ≤ link
link_high p link at sound ready = let low = (bucket_low p.layout (placed_in p.words at) sound.sizes).0 in let bucket = ready.bucket in omega arith

pub link_inside : (p : Plan) (link at : ℕ) → Sound p → IsReady p link at → link < table_words p.layout
link_inside p link at sound ready = let low = bucket_low p.layout (placed_in p.words at) sound.sizes in let bucket = ready.bucket in omega arith

pub sound_linked : (p : Plan) (link at : ℕ) → IsReady p link at → Sound p → Sound (published link at p)
sound_linked p link at ready sound =
    let n : Placed = placed_in p.words at in
    let high = link_high p link at sound ready in
    sound_at p (Load (entry_of n) ∷ p.seen) link at (n ∷ p.nodes) false (omega arith) (λ i low less. omega arith) sound ready.legal (All-cons IsFit (Load (entry_of n)) p.seen tt sound.fit) refl refl
    (λ even. record { laid = linked_laid p link at sound ready; sits = sits_linked p.seen p.nodes n ready.legal ready.usable ready.kind (sound.shows even).sits })
    (λ on. absurd (true≢false (sym on))) (λ on even. absurd (true≢false (sym on)))

pub later_linked : (p : Plan) (link at : ℕ) → p.retired ≡ None → IsReady p link at → Sound p → Later p (published link at p)
later_linked p link at active ready sound =
    let n : Placed = placed_in p.words at in
    let high = link_high p link at sound ready in
    let own : n.node.number ≡ loads p.seen = ready.legal.1 in
    later_at p (Load (entry_of n) ∷ p.seen) link at (n ∷ p.nodes) false (omega arith) active (prefix_more (Load (entry_of n)) p.seen p.seen (prefix_all p.seen)) (λ even. grows_linked (loads p.seen) p.nodes n (omega arith))
