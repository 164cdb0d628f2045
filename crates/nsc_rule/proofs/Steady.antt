-- Steps of the pen that leave the history as it is.
use Rattle.std.proofs.Common.{◌≡◌, ◌≢◌, ◌∙◌, ℕ, ◌+◌, ◌%◌, ◌^◌, ◌<◌, ◌≤◌, true, ◌⊎◌, ⊎_elim, List, length-set, set, slice_index, refl, sym, ap, subst, arith, get_or-set_other, get_or-set_same, Option, Some, None}
use Rattle.std.proofs.lemmas.Bool.{cases_eq}
use Rattle.std.proofs.lemmas.Option.{none-some}
use Rattle.nsc_words.specs.declared.node.Placed.{Placed}
use Rattle.nsc_words.specs.Laid.{Laid, end_of}
use Rattle.nsc_words.specs.Layout.{arena_start}
use Rattle.nsc_arena.proofs.Rows.{end_after, same_below}
use Rattle.nsc_arena.specs.ReadBack.{nodes_in}
use Rattle.nsc_model.specs.History.{loads}
use Rattle.nsc_model.specs.Machine.{last_count}
use Rattle.nsc_model.proofs.Beginnings.{prefix_all}
use Rattle.nsc_rule.specs.declared.view.Plan.{Plan}
use Rattle.atomic_table.specs.Seated.{TableId}
use Rattle.nsc_rule.specs.Plans.{IsEven, IsOdd, Later, Shows, Sound, cycle_of, end_in, filled}
use Rattle.nsc_rule.specs.Strokes.{IsFree, ShowsAgain, begun, finished, left, node_counted, stored}
use Rattle.nsc_rule.proofs.Filled.{filled_again, filled_set, grows_same, head_set, later_at, number_stays, sound_above, sound_at, zeros_stay}

-- ---- a word behind the nodes

free_shows : (p : Plan) (at word : ℕ) → IsFree p at → Shows p.layout p.words p.seen p.nodes → Shows p.layout (set p.words at word) p.seen p.nodes
free_shows p at word free shows =
    let words : List ℕ = filled p.layout p.words p.nodes in
    let new : List ℕ = set words at word in
    let after = end_after (arena_start p.layout) p.nodes shows.laid.row in
    let behind = free.behind in
    let other : at ≢ 3 = omega arith in
    let laid : Laid new p.layout p.nodes = same_below words new p.layout p.nodes shows.laid (record { size = length-set words at word; below = λ i low. let apart : i ≢ at = omega arith in get_or-set_other words at i word 0 apart }) in
    record { laid = subst (λ (ws : List ℕ). Laid ws p.layout p.nodes) (sym (filled_set p.layout p.words p.nodes at word other)) laid; sits = shows.sits }

free_high : (p : Plan) (at : ℕ) → IsFree p at → Sound p → 16 ≤ at
free_high p at free sound = let after = end_after (arena_start p.layout) p.nodes (sound.shows free.even).laid.row in let behind = free.behind in omega arith

pub sound_free : (p : Plan) (at word : ℕ) → IsFree p at → Sound p → Sound (stored at word p)
sound_free p at word free sound = let high = free_high p at free sound in sound_above p p.seen at word p.nodes (omega arith) (λ i low less. omega arith) sound sound.legal sound.fit refl refl refl refl (λ even. free_shows p at word free (sound.shows even))

pub later_free : (p : Plan) (at word : ℕ) → p.retired ≡ None → IsFree p at → Sound p → Later p (stored at word p)
later_free p at word active free sound = let high = free_high p at free sound in later_at p p.seen at word p.nodes p.counted (omega arith) active (prefix_all p.seen) (λ even. grows_same _ p.nodes)

-- ---- a head word that counts

count_shows : (p : Plan) (at word : ℕ) → at ≤ 9 → Shows p.layout p.words p.seen p.nodes → Shows p.layout (set p.words at word) p.seen p.nodes
count_shows p at word high shows = record { laid = laid; sits = shows.sits } where
  laid : Laid (filled p.layout (set p.words at word) p.nodes) p.layout p.nodes
  laid = ⊎_elim
      (λ (e : at ≡ 3). let P : ℕ → Type 0 = λ k. Laid (filled p.layout (set p.words k word) p.nodes) p.layout p.nodes in
      subst P (sym e) (subst (λ (ws : List ℕ). Laid ws p.layout p.nodes) (sym (filled_again p.layout p.words p.nodes word)) shows.laid))
      (λ (other : at ≢ 3). head_set p.layout p.words p.nodes at word (omega arith) other shows.laid)
      (cases_eq at 3)

pub sound_count : (p : Plan) (at word : ℕ) → 5 ≤ at → at ≤ 9 → Sound p → Sound (stored at word p)
sound_count p at word low high sound = sound_above p p.seen at word p.nodes low (λ i more less. omega arith) sound sound.legal sound.fit refl refl refl refl (λ even. count_shows p at word high (sound.shows even))

-- FIRST_FREE is put right
pub sound_first_free : (p : Plan) (word : ℕ) → word ≡ end_in p → Sound p → Sound (stored 3 word p)
sound_first_free p word is sound =
    let wide = sound.wide in
    sound_at p p.seen 3 word p.nodes p.counted (omega arith) (λ i more less. omega arith) sound sound.legal sound.fit refl refl (λ even. count_shows p 3 word (omega arith) (sound.shows even))
    (number_stays p p.seen 3 word (omega arith) refl sound) (λ on even. get_or-set_same p.words 3 word 0 (omega arith) ∙ is)

-- and LOADS
pub sound_node_counted : (p : Plan) (word : ℕ) → slice_index p.words 3 ≡ end_in p → word ≡ loads p.seen → Sound p → Sound (node_counted word p)
sound_node_counted p word first is sound =
    let wide = sound.wide in
    sound_at p p.seen 4 word p.nodes true (omega arith) (λ i more less. omega arith) sound sound.legal sound.fit refl refl (λ even. count_shows p 4 word (omega arith) (sound.shows even))
    (λ on. get_or-set_same p.words 4 word 0 (omega arith) ∙ is) (λ on even. get_or-set_other p.words 4 3 word 0 (omega arith) ∙ first)

pub later_node_counted : (p : Plan) (word : ℕ) → p.retired ≡ None → Later p (node_counted word p)
later_node_counted p word active = later_at p p.seen 4 word p.nodes true (omega arith) active (prefix_all p.seen) (λ even. grows_same _ p.nodes)

pub later_stored : (p : Plan) (at word : ℕ) → 1 ≤ at → p.retired ≡ None → Later p (stored at word p)
later_stored p at word low active = later_at p p.seen at word p.nodes p.counted low active (prefix_all p.seen) (λ even. grows_same _ p.nodes)

-- ---- a word of a compaction

not_both : (p : Plan) → IsEven p → IsOdd p → ⊥
not_both p even odd = omega arith

pub sound_slide : (p : Plan) (at word : ℕ) → (at ≡ 3) ⊎ (16 ≤ at) → IsOdd p → Sound p → Sound (stored at word p)
sound_slide p at word place odd sound = ⊎_elim
    (λ (e : at ≡ 3). sound_slid (omega arith) (λ i more less. omega arith) (omega arith))
    (λ (h : 16 ≤ at). sound_slid (omega arith) (λ i more less. omega arith) (omega arith))
    place where
      sound_slid : 3 ≤ at → ((i : ℕ) → 10 ≤ i → i < 16 → i ≢ at) → 4 ≢ at → Sound (stored at word p)
      sound_slid low apart four = sound_at p p.seen at word p.nodes p.counted low apart sound sound.legal sound.fit refl refl (λ even. absurd (not_both p even odd)) (number_stays p p.seen at word four refl sound) (λ on even. absurd (not_both p even odd))

-- ---- CYCLE goes on

-- the words after it
next_cycle : (p : Plan) → Sound p → slice_index (set p.words 0 (slice_index p.words 0 + 1)) 0 ≡ slice_index p.words 0 + 1
next_cycle p sound = let wide = sound.wide in get_or-set_same p.words 0 (slice_index p.words 0 + 1) 0 (omega arith)

later_cycle : (p : Plan) (nodes : List Placed) (retired : Option TableId) → p.retired ≡ None → Sound p → Later p (record { layout = p.layout; seen = p.seen; words = set p.words 0 (slice_index p.words 0 + 1); nodes = nodes; counted = p.counted; retired = retired })
later_cycle p nodes retired active sound =
    let next = next_cycle p sound in
    record { active = active; layout = refl; grown = prefix_all p.seen; forward = omega arith; same = λ is even. absurd (omega arith) }

sound_cycle : (p : Plan) (nodes : List Placed) (retired : Option TableId) → cycle_of p < 2 ^ 62 → Sound p → ((slice_index p.words 0 + 1) % 2 ≡ 0 → Shows p.layout (set p.words 0 (slice_index p.words 0 + 1)) p.seen nodes) → ((slice_index p.words 0 + 1) % 2 ≡ 0 → slice_index p.words 3 ≡ end_of (arena_start p.layout) nodes)
    → ((newer : TableId) → retired ≡ Some newer → (slice_index p.words 0 + 1) % 2 ≡ 1) → Sound (record { layout = p.layout; seen = p.seen; words = set p.words 0 (slice_index p.words 0 + 1); nodes = nodes; counted = p.counted; retired = retired })
sound_cycle p nodes retired room sound shows first odd =
    let word : ℕ = slice_index p.words 0 + 1 in
    let next = next_cycle p sound in
    let same : (i : ℕ) → 0 < i → slice_index (set p.words 0 word) i ≡ slice_index p.words i = λ i low. let other : i ≢ 0 = omega arith in get_or-set_other p.words 0 i word 0 other in
    let one_is = same 1 (omega arith) in
    let two_is = same 2 (omega arith) in
    let source = sound.source in
    let last_epoch = sound.last_epoch in
    let last_version = sound.last_version in
    record {
      sizes = sound.sizes;
      legal = sound.legal;
      fit = sound.fit;
      wide = length-set p.words 0 word ∙ sound.wide;
      cycle = omega arith;
      epoch = one_is ∙ sound.epoch;
      source = ap (λ (n : ℕ). n + 1) two_is ∙ source;
      last_epoch = omega arith;
      last_version = omega arith;
      zeros = zeros_stay p 0 word (λ i low high. omega arith) sound;
      next_number = number_stays p p.seen 0 word (omega arith) refl sound;
      first_free = λ on even. same 3 (omega arith) ∙ first (ap (λ (n : ℕ). n % 2) (sym next) ∙ even);
      shows = λ even. shows (ap (λ (n : ℕ). n % 2) (sym next) ∙ even);
      left = λ newer is. ap (λ (n : ℕ). n % 2) next ∙ odd newer is;
    }

pub sound_begun : (p : Plan) → IsEven p → cycle_of p < last_count → Sound p → Sound (begun p)
sound_begun p even room sound = sound_cycle p p.nodes p.retired room sound (λ again. absurd (omega arith)) (λ again. absurd (omega arith)) (λ newer is. omega arith)

pub later_begun : (p : Plan) → p.retired ≡ None → Sound p → Later p (begun p)
later_begun p active sound = later_cycle p p.nodes p.retired active sound

pub sound_left : (newer : TableId) (p : Plan) → IsEven p → cycle_of p < last_count → Sound p → Sound (left newer p)
sound_left newer p even room sound = sound_cycle p p.nodes (Some newer) room sound (λ again. absurd (omega arith)) (λ again. absurd (omega arith)) (λ other is. omega arith)

pub later_left : (newer : TableId) (p : Plan) → p.retired ≡ None → Sound p → Later p (left newer p)
later_left newer p active sound = later_cycle p p.nodes (Some newer) active sound

pub odd_room : (p : Plan) → IsOdd p → Sound p → cycle_of p < last_count
odd_room p odd sound = let cycle = sound.cycle in let differs : cycle_of p ≢ 2 ^ 62 = λ e. absurd (two_parts (cycle_of p) odd e) in omega arith where
  two_parts : (n : ℕ) → n % 2 ≡ 1 → n ≡ 2 ^ 62 → ⊥
  two_parts n odd e = omega arith

pub sound_finished : (p : Plan) → p.retired ≡ None → IsOdd p → ShowsAgain p → Sound p → Sound (finished p)
sound_finished p active odd slid sound = sound_cycle p (nodes_in p.words p.layout) p.retired (odd_room p odd sound) sound (λ even. record { laid = head_set p.layout p.words (nodes_in p.words p.layout) 0 (slice_index p.words 0 + 1) (omega arith) (omega arith) slid.shows.laid; sits = slid.shows.sits }) (λ even. slid.first_free) (λ newer is. absurd (none-some newer (sym active ∙ is)))

pub later_finished : (p : Plan) → p.retired ≡ None → Sound p → Later p (finished p)
later_finished p active sound = later_cycle p (nodes_in p.words p.layout) p.retired active sound

-- ---- places

pub slide_high : (at : ℕ) → (at ≡ 3) ⊎ (16 ≤ at) → 3 ≤ at
slide_high at place = ⊎_elim (λ (e : at ≡ 3). omega arith) (λ (h : 16 ≤ at). omega arith) place
