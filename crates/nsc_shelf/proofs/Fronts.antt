-- The first node of a bucket's chain.
use Rattle.std.proofs.Common.{◌≡◌, ◌≢◌, ℕ, ◌+◌, ◌<◌, ◌≤◌, ◌⊎◌, ⊎_elim, inl, inr, slice_index, refl, sym, ap, ◌∙◌, arith}
use Rattle.std.proofs.lemmas.Bool.{false≢true}
use Rattle.nsc_words.specs.declared.node.Placed.{Placed}
use Rattle.nsc_words.specs.Laid.{Among, Laid, bucket_in, end_of}
use Rattle.nsc_words.specs.Layout.{arena_start, table_words}
use Rattle.nsc_arena.proofs.Heads.{unusable_by, usable_by}
use Rattle.nsc_arena.proofs.Rows.{inside, node_at}
use Rattle.nsc_rule.specs.declared.view.Plan.{Plan}
use Rattle.nsc_rule.specs.Plans.{IsEven, Sound}
use Rattle.nsc_rule.specs.Strokes.{MayUnlink}
use Rattle.nsc_shelf.specs.Sheet.{IsEndedFront}

-- a node stands where the bucket leads
pub record Front (p : Plan) (bucket at : ℕ) : Type 0 where
  pub node : Placed
  pub among : Among node p.nodes
  pub place : node.place ≡ at
  pub inside : at + 8 ≤ table_words p.layout
  pub first : slice_index p.words (16 + bucket) ≡ at

pub front_of : (p : Plan) (bucket at : ℕ) → Sound p → Laid p.words p.layout p.nodes → bucket < p.layout.buckets → at ≡ slice_index p.words (16 + bucket) → at ≢ 0 → Front p bucket at
front_of p bucket at sound laid low is other = ⊎_elim
    (λ (e : slice_index p.words (16 + bucket) ≡ 0). absurd (other (is ∙ e)))
    (λ (w : (q : Placed) × Among q p.nodes × (q.place ≡ slice_index p.words (16 + bucket)) × (slice_index p.words (16 + bucket) < end_of (arena_start p.layout) p.nodes) × (bucket_in p.layout q ≡ 16 + bucket)).
    let here = inside p.words p.layout p.nodes w.0 sound.sizes laid w.1 in
    let place : w.0.place ≡ at = w.2 ∙ sym is in
    let table = laid.table in
    let within : at + 8 ≤ table_words p.layout = omega (arith, here.1) in
    let front : Front p bucket at = record { node = w.0; among = w.1; place = place; inside = within; first = sym is } in
    front)
    (laid.buckets bucket low).known

-- it ended, where its STATE is not 1
pub ended_front : (p : Plan) (bucket at state : ℕ) → Sound p → Laid p.words p.layout p.nodes → (f : Front p bucket at) → state ≡ slice_index p.words (at + 6) → state ≢ 1 → IsEndedFront p bucket f.node
ended_front p bucket at state sound laid f read other = record { among = f.among; ended = unusable_by at f.node p.words (node_at p.words p.layout p.nodes f.node at sound.sizes laid f.among f.place) state other read; front = f.first ∙ sym f.place }

-- none that ended is there, where the bucket is empty, or STATE is 1
pub none_ended : (p : Plan) (bucket at : ℕ) → Sound p → Laid p.words p.layout p.nodes → at ≡ slice_index p.words (16 + bucket) → (at ≡ 0) ⊎ (slice_index p.words (at + 6) ≡ 1) → (gone : Placed) → IsEndedFront p bucket gone → ⊥
none_ended p bucket at sound laid is (inl zero) gone front =
    let here = inside p.words p.layout p.nodes gone sound.sizes laid front.among in
    let place : gone.place ≡ at = sym front.front ∙ sym is in
    omega (arith, here.0)
none_ended p bucket at sound laid is (inr one) gone front =
    let place : gone.place ≡ at = sym front.front ∙ sym is in
    false≢true (sym front.ended ∙ usable_by at gone p.words (node_at p.words p.layout p.nodes gone at sound.sizes laid front.among place) (slice_index p.words (at + 6)) one refl)

pub may_unlink : (p : Plan) (bucket at to : ℕ) → IsEven p → bucket < p.layout.buckets → (f : Front p bucket at) → IsEndedFront p bucket f.node → to ≡ slice_index p.words (at + 7) → MayUnlink p (16 + bucket) to
may_unlink p bucket at to even low f gone read = record { even = even; link = inl (omega arith, omega arith); gone = f.node; among = f.among; ended = gone.ended; leads = gone.front; past = read ∙ ap (λ (n : ℕ). slice_index p.words (n + 7)) (sym f.place) }
