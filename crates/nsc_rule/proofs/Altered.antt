-- A node is changed where it stands: its reloads are counted, or it ends.
use Rattle.std.proofs.Common.{◌≡◌, ◌≢◌, ◌∙◌, ℕ, ◌+◌, ◌≤◌, Bool, true, false, true≢false, cond, eqb, eq-eqb, inl, inr, ⊎_elim, List, [], ◌∷◌, map, set, slice_index, refl, sym, ap, subst, arith, None}
use Rattle.std.proofs.lemmas.Bool.{cases_eq, ne_eqb}
use Rattle.std.proofs.lemmas.List.Elements.{All-cons}
use Rattle.nsc_words.specs.declared.layout.Layout.{Layout}
use Rattle.nsc_words.specs.declared.node.Placed.{Placed}
use Rattle.nsc_words.specs.Laid.{Among, InRow, Laid, Rising}
use Rattle.nsc_words.specs.Layout.{arena_start, table_words}
use Rattle.nsc_arena.specs.Changes.{changed_at, ended, with_reloads}
use Rattle.nsc_arena.proofs.Changed.{IsChange, at_place, change_at, end_laid, ended_is, from_map, into_map, reloads_is, reloads_laid, same_end}
use Rattle.nsc_arena.proofs.Rows.{same_place, within}
use Rattle.nsc_model.specs.declared.record.Ending.{Ending}
use Rattle.nsc_model.specs.declared.record.Record.{Record}
use Rattle.nsc_model.specs.declared.record.Record.TheVariants.{End}
use Rattle.nsc_model.specs.Entry.{Entry}
use Rattle.nsc_model.specs.History.{loads, IsFit, IsLive, Legal}
use Rattle.nsc_model.proofs.Beginnings.{prefix_all, prefix_more}
use Rattle.nsc_rule.specs.declared.view.Plan.{Plan}
use Rattle.nsc_model.specs.Kinds.{type_number}
use Rattle.nsc_rule.specs.Entries.{entry_of, kind_of}
use Rattle.nsc_rule.specs.Plans.{Grows, IsEven, Later, Shows, Sits, Sound, filled}
use Rattle.nsc_rule.specs.Strokes.{HasNode, MayEnd, cleared, reloads_stored}
use Rattle.nsc_rule.proofs.Filled.{filled_at, filled_set, later_at, sound_above}

-- a node of a sound plan stands within the words, behind the buckets
pub node_inside : (p : Plan) (q : Placed) → IsEven p → Sound p → Among q p.nodes → (16 ≤ q.place) × (q.place + 8 ≤ table_words p.layout)
node_inside p q even sound among =
    let laid = (sound.shows even).laid in
    let at = within (arena_start p.layout) p.nodes q laid.row among in
    let room = laid.room in
    (omega arith, omega arith)

-- ---- nodes that are changed, each with the entry that it has

grows_map : (k : ℕ) (f : Placed → Placed) (nodes : List Placed) → IsChange f → ((q : Placed) → entry_of (f q) ≡ entry_of q) → Grows k nodes (map f nodes)
grows_map k f nodes is entry = record {
  stays = λ q among. (f q, into_map f nodes q among, is.place q, entry q, stays_off q);
  fresh = λ r among on. let w = from_map f nodes r among in inr (w.0, w.1, is.usable w.0 (sym (ap (λ (q : Placed). q.usable) w.2) ∙ on), sym (ap (λ (q : Placed). q.place) w.2 ∙ is.place w.0), sym (ap entry_of w.2 ∙ entry w.0));
} where
  by_value : (b : Bool) → (b ≡ true → ⊥) → b ≡ false
  by_value true not = absurd (not refl)
  by_value false not = refl

  stays_off : (q : Placed) → q.usable ≡ false → (f q).usable ≡ false
  stays_off q off = by_value (f q).usable (λ on. true≢false (sym (is.usable q on) ∙ off))

kinds_map : (f : Placed → Placed) (nodes : List Placed) → ((q : Placed) → (f q).node.kind ≡ q.node.kind) → ((q : Placed) → Among q nodes → type_number (kind_of q.node.kind) ≡ q.node.kind) → (r : Placed) → Among r (map f nodes) → type_number (kind_of r.node.kind) ≡ r.node.kind
kinds_map f nodes kind kinds r among = let w = from_map f nodes r among in subst (λ (k : ℕ). type_number (kind_of k) ≡ k) (sym (ap (λ (q : Placed). q.node.kind) w.2 ∙ kind w.0)) (kinds w.0 w.1)

sits_map : (h : List Record) (f : Placed → Placed) (nodes : List Placed) → ((q : Placed) → entry_of (f q) ≡ entry_of q) → ((q : Placed) → (f q).usable ≡ q.usable) → ((q : Placed) → (f q).node.kind ≡ q.node.kind) → Sits h nodes → Sits h (map f nodes)
sits_map h f nodes entry usable kind sits = record {
  live = λ r among on. let w = from_map f nodes r among in subst (IsLive h) (sym (ap entry_of w.2 ∙ entry w.0)) (sits.live w.0 w.1 (sym (ap (λ (q : Placed). q.usable) w.2 ∙ usable w.0) ∙ on));
  found = λ e live. let w = sits.found e live in (f w.0, into_map f nodes w.0 w.1, usable w.0 ∙ w.2, entry w.0 ∙ w.3);
  numbers = λ r among. let w = from_map f nodes r among in let low = sits.numbers w.0 w.1 in let same : r.node.number ≡ w.0.node.number = ap (λ (e : Entry). e.number) (ap entry_of w.2 ∙ entry w.0) in omega arith;
  kinds = kinds_map f nodes kind sits.kinds;
}

-- at one place alone
at_one : (place : ℕ) (change : Placed → Placed) (P : Placed → Placed → Type 0) → ((q : Placed) → P (change q) q) → ((q : Placed) → P q q) → (q : Placed) → P (at_place place change q) q
at_one place change P here other q = by (eqb q.place place) where
  by : (b : Bool) → P (cond b (change q) q) q
  by true = here q
  by false = other q

-- ---- reloads are counted

counted_entry : (place n : ℕ) (q : Placed) → entry_of (at_place place (with_reloads n) q) ≡ entry_of q
counted_entry place n = at_one place (with_reloads n) (λ r q. entry_of r ≡ entry_of q) (λ q. refl) (λ q. refl)

counted_usable : (place n : ℕ) (q : Placed) → (at_place place (with_reloads n) q).usable ≡ q.usable
counted_usable place n = at_one place (with_reloads n) (λ r q. r.usable ≡ q.usable) (λ q. refl) (λ q. refl)

-- the words with FIRST_FREE put right, once one more was set and the nodes were changed
filled_change : (layout : Layout) (words : List ℕ) (nodes : List Placed) (f : Placed → Placed) (at word : ℕ) → at ≢ 3 → IsChange f → filled layout (set words at word) (map f nodes) ≡ set (filled layout words nodes) at word
filled_change layout words nodes f at word other is = ap (λ (n : ℕ). set (set words at word) 3 n) (same_end f (arena_start layout) nodes is) ∙ filled_set layout words nodes at word other

counted_shows : (p : Plan) (place n : ℕ) → IsEven p → HasNode p place → Sound p → Shows p.layout (set p.words (place + 5) n) p.seen (changed_at place (with_reloads n) p.nodes)
counted_shows p place n even node sound =
    let shows = sound.shows even in
    let f : Placed → Placed = at_place place (with_reloads n) in
    let words : List ℕ = filled p.layout p.words p.nodes in
    let other : place + 5 ≢ 3 = omega arith in
    let new = filled_change p.layout p.words p.nodes f (place + 5) n other (change_at place (with_reloads n) (reloads_is n)) in
    record {
      laid = subst (λ (ws : List ℕ). Laid ws p.layout (map f p.nodes)) (sym new) (reloads_laid words (set words (place + 5) n) p.layout p.nodes node.0 place n sound.sizes shows.laid node.1 node.2 refl);
      sits = sits_map p.seen f p.nodes (counted_entry place n) (counted_usable place n) (at_one place (with_reloads n) (λ r q. r.node.kind ≡ q.node.kind) (λ q. refl) (λ q. refl)) shows.sits;
    }

pub sound_reloaded : (p : Plan) (place n : ℕ) → IsEven p → HasNode p place → Sound p → Sound (reloads_stored place n p)
sound_reloaded p place n even node sound =
    let inside = node_inside p node.0 even sound node.1 in
    let is = node.2 in
    sound_above p p.seen (place + 5) n (changed_at place (with_reloads n) p.nodes) (omega arith) (λ i low less. omega (arith, inside.0)) sound sound.legal sound.fit refl refl refl
    (same_end (at_place place (with_reloads n)) (arena_start p.layout) p.nodes (change_at place (with_reloads n) (reloads_is n))) (λ still. counted_shows p place n even node sound)

pub later_reloaded : (p : Plan) (place n : ℕ) → p.retired ≡ None → Later p (reloads_stored place n p)
later_reloaded p place n active =
    later_at p p.seen (place + 5) n (changed_at place (with_reloads n) p.nodes) p.counted (omega arith) active (prefix_all p.seen)
    (λ even. grows_map (loads p.seen) (at_place place (with_reloads n)) p.nodes (change_at place (with_reloads n) (reloads_is n)) (counted_entry place n))

-- ---- a node ends

-- two nodes of one number are one
same_number : (nodes : List Placed) (p q : Placed) → Rising nodes → Among p nodes → Among q nodes → p.node.number ≡ q.node.number → p ≡ q
same_number [] p q rising among other e = absurd among
same_number (r ∷ older) p q rising (inl e) (inl f) same = e ∙ sym f
same_number (r ∷ older) p q rising (inl e) (inr other) same = let less = rising.0 q other in let own : p.node.number ≡ r.node.number = ap (λ (s : Placed). s.node.number) e in absurd (omega arith)
same_number (r ∷ older) p q rising (inr among) (inl f) same = let less = rising.0 p among in let own : q.node.number ≡ r.node.number = ap (λ (s : Placed). s.node.number) f in absurd (omega arith)
same_number (r ∷ older) p q rising (inr among) (inr other) same = same_number older p q rising.1 among other same

ended_entry : (place : ℕ) (q : Placed) → entry_of (at_place place ended q) ≡ entry_of q
ended_entry place = at_one place ended (λ r q. entry_of r ≡ entry_of q) (λ q. refl) (λ q. refl)

ended_kind : (place : ℕ) (q : Placed) → (at_place place ended q).node.kind ≡ q.node.kind
ended_kind place = at_one place ended (λ r q. r.node.kind ≡ q.node.kind) (λ q. refl) (λ q. refl)

-- a node that is usable once one ended is another one
another : (place : ℕ) (q : Placed) → (at_place place ended q).usable ≡ true → (q.place ≢ place) × (q.usable ≡ true)
another place q on = ⊎_elim
    (λ (e : q.place ≡ place). absurd (true≢false (sym on ∙ ap (λ (b : Bool). (cond b (ended q) q).usable) (eq-eqb q.place place e))))
    (λ (n : q.place ≢ place). (n, sym (ap (λ (b : Bool). (cond b (ended q) q).usable) (ne_eqb q.place place n)) ∙ on))
    (cases_eq q.place place)

stays_usable : (place : ℕ) (q : Placed) → q.place ≢ place → q.usable ≡ true → (at_place place ended q).usable ≡ true
stays_usable place q n on = ap (λ (b : Bool). (cond b (ended q) q).usable) (ne_eqb q.place place n) ∙ on

sits_ended : (start : ℕ) (h : List Record) (nodes : List Placed) (g : Placed) (place : ℕ) (cause : Ending) → InRow start nodes → Rising nodes → Among g nodes → g.place ≡ place → Sits h nodes → Sits (End g.node.number cause ∷ h) (map (at_place place ended) nodes)
sits_ended start h nodes g place cause row rising among at sits = record {
  live = λ r m on.
      let w = from_map (at_place place ended) nodes r m in
      let still = another place w.0 (sym (ap (λ (q : Placed). q.usable) w.2) ∙ on) in
      let was = sits.live w.0 w.1 still.1 in
      let other : g.node.number ≢ w.0.node.number = λ e. still.0 (sym (ap (λ (q : Placed). q.place) (same_number nodes g w.0 rising among w.1 e)) ∙ at) in
      let lives : IsLive (End g.node.number cause ∷ h) (entry_of w.0) = record { inserted = was.inserted; not_ended = λ ended. ⊎_elim (λ (e : g.node.number ≡ w.0.node.number). other e) was.not_ended ended } in
      subst (IsLive (End g.node.number cause ∷ h)) (sym (ap entry_of w.2 ∙ ended_entry place w.0)) lives;
  found = λ e live.
      let w = sits.found e (record { inserted = live.inserted; not_ended = λ ended. live.not_ended (inr ended) }) in
      let far : w.0.place ≢ place = λ same. live.not_ended (inl (ap (λ (q : Placed). q.node.number) (same_place start nodes g w.0 row among w.1 (at ∙ sym same)) ∙ ap (λ (f : Entry). f.number) w.3)) in
      (at_place place ended w.0, into_map (at_place place ended) nodes w.0 w.1, stays_usable place w.0 far w.2, ended_entry place w.0 ∙ w.3);
  numbers = λ r m. let w = from_map (at_place place ended) nodes r m in let low = sits.numbers w.0 w.1 in let same : r.node.number ≡ w.0.node.number = ap (λ (e : Entry). e.number) (ap entry_of w.2 ∙ ended_entry place w.0) in omega arith;
  kinds = kinds_map (at_place place ended) nodes (ended_kind place) sits.kinds;
}

-- the number that the words of the node have
number_at : (p : Plan) (place : ℕ) (q : Placed) → IsEven p → Sound p → Among q p.nodes → q.place ≡ place → slice_index p.words place ≡ q.node.number
number_at p place q even sound among at =
    let shows = sound.shows even in
    let inside = node_inside p q even sound among in
    let other : place ≢ 3 = omega arith in
    let here : slice_index (filled p.layout p.words p.nodes) (q.place + 0) ≡ q.node.number = (shows.laid.stands q among).holds.number in
    let same : place ≡ q.place + 0 = omega arith in
    sym (filled_at p.layout p.words p.nodes place other) ∙ ap (slice_index (filled p.layout p.words p.nodes)) same ∙ here

ended_shows : (p : Plan) (place : ℕ) (cause : Ending) → IsEven p → MayEnd p place cause → Sound p → Shows p.layout (set p.words (place + 6) 0) (End (slice_index p.words place) cause ∷ p.seen) (changed_at place ended p.nodes)
ended_shows p place cause even may sound =
    let shows = sound.shows even in
    let q : Placed = may.0 in
    let f : Placed → Placed = at_place place ended in
    let words : List ℕ = filled p.layout p.words p.nodes in
    let other : place + 6 ≢ 3 = omega arith in
    let new = filled_change p.layout p.words p.nodes f (place + 6) 0 other (change_at place ended ended_is) in
    record {
      laid = subst (λ (ws : List ℕ). Laid ws p.layout (map f p.nodes)) (sym new) (end_laid words (set words (place + 6) 0) p.layout p.nodes q place sound.sizes shows.laid may.1 may.2 refl);
      sits = subst (λ (n : ℕ). Sits (End n cause ∷ p.seen) (map f p.nodes)) (sym (number_at p place q even sound may.1 may.2)) (sits_ended (arena_start p.layout) p.seen p.nodes q place cause shows.laid.row shows.laid.rising may.1 may.2 shows.sits);
    }

legal_ended : (p : Plan) (place : ℕ) (cause : Ending) → IsEven p → MayEnd p place cause → Sound p → Legal (End (slice_index p.words place) cause ∷ p.seen)
legal_ended p place cause even may sound = (sound.legal, entry_of may.0, (sound.shows even).sits.live may.0 may.1 may.3, sym (number_at p place may.0 even sound may.1 may.2), may.4)

pub sound_cleared : (p : Plan) (place : ℕ) (cause : Ending) → IsEven p → MayEnd p place cause → Sound p → Sound (cleared place cause p)
sound_cleared p place cause even may sound =
    let inside = node_inside p may.0 even sound may.1 in
    let is = may.2 in
    sound_above p (End (slice_index p.words place) cause ∷ p.seen) (place + 6) 0 (changed_at place ended p.nodes) (omega arith) (λ i low less. omega (arith, inside.0)) sound (legal_ended p place cause even may sound) (All-cons IsFit (End (slice_index p.words place) cause) p.seen tt sound.fit) refl refl refl
    (same_end (at_place place ended) (arena_start p.layout) p.nodes (change_at place ended ended_is)) (λ still. ended_shows p place cause even may sound)

pub later_cleared : (p : Plan) (place : ℕ) (cause : Ending) → p.retired ≡ None → Later p (cleared place cause p)
later_cleared p place cause active =
    let r : Record = End (slice_index p.words place) cause in
    later_at p (r ∷ p.seen) (place + 6) 0 (changed_at place ended p.nodes) p.counted (omega arith) active (prefix_more r p.seen p.seen (prefix_all p.seen))
    (λ even. grows_map (loads p.seen) (at_place place ended) p.nodes (change_at place ended ended_is) (ended_entry place))
