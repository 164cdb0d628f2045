-- Words with FIRST_FREE put right, once another word was set; and plans of which one word was set.
use Rattle.std.proofs.Common.{◌≡◌, ◌≢◌, ◌∙◌, ℕ, zero, suc, ◌+◌, ◌%◌, ◌<◌, ◌≤◌, Bool, true, inr, All, List, [], ◌∷◌, length-set, set, slice_index, refl, sym, ap, arith, get_or-set_other, None}
use Rattle.std.proofs.lemmas.List.{set-get_or, set_comm}
use Rattle.nsc_words.specs.declared.layout.Layout.{Layout}
use Rattle.nsc_words.specs.declared.node.Placed.{Placed}
use Rattle.nsc_words.specs.Laid.{Laid, end_of}
use Rattle.nsc_words.specs.Layout.{arena_start}
use Rattle.nsc_arena.proofs.Rows.{set_head}
use Rattle.nsc_model.specs.History.{changes, invalidations, loads, IsFit, IsLive, IsPrefix, Legal}
use Rattle.nsc_model.specs.Entry.{Entry}
use Rattle.nsc_model.specs.declared.record.Record.{Record}
use Rattle.nsc_rule.specs.declared.view.Plan.{Plan}
use Rattle.nsc_rule.specs.Entries.{entry_of}
use Rattle.nsc_rule.specs.Plans.{Grows, IsEven, Later, Shows, Sits, Sound, filled}

pub set_twice : (l : List ℕ) (i a b : ℕ) → set (set l i a) i b ≡ set l i b
set_twice [] i a b = refl
set_twice (x ∷ xs) zero a b = refl
set_twice (x ∷ xs) (suc i) a b = ap (λ (ys : List ℕ). x ∷ ys) (set_twice xs i a b)

-- another word was set
pub filled_set : (layout : Layout) (words : List ℕ) (nodes : List Placed) (at word : ℕ) → at ≢ 3 → filled layout (set words at word) nodes ≡ set (filled layout words nodes) at word
filled_set layout words nodes at word other = set_comm words at 3 word (end_of (arena_start layout) nodes) other

-- FIRST_FREE was set
pub filled_again : (layout : Layout) (words : List ℕ) (nodes : List Placed) (word : ℕ) → filled layout (set words 3 word) nodes ≡ filled layout words nodes
filled_again layout words nodes word = set_twice words 3 word (end_of (arena_start layout) nodes)

-- a word but FIRST_FREE
pub filled_at : (layout : Layout) (words : List ℕ) (nodes : List Placed) (i : ℕ) → i ≢ 3 → slice_index (filled layout words nodes) i ≡ slice_index words i
filled_at layout words nodes i other = get_or-set_other words 3 i (end_of (arena_start layout) nodes) 0 other

-- FIRST_FREE was put right already
pub filled_same : (layout : Layout) (words : List ℕ) (nodes : List Placed) → slice_index words 3 ≡ end_of (arena_start layout) nodes → filled layout words nodes ≡ words
filled_same layout words nodes is = ap (λ (n : ℕ). set words 3 n) (sym is) ∙ set-get_or words 3 0

-- a head word was set, which tells nothing of the nodes
pub head_set : (layout : Layout) (words : List ℕ) (nodes : List Placed) (at word : ℕ) → at < 16 → at ≢ 3 → Laid (filled layout words nodes) layout nodes → Laid (filled layout (set words at word) nodes) layout nodes
head_set layout words nodes at word low other laid = set_head (filled layout words nodes) (filled layout (set words at word) nodes) layout nodes at word low other (filled_set layout words nodes at word other) laid

-- ---- one word was set

-- the head words behind the counts stay
pub zeros_stay : (p : Plan) (at word : ℕ) → ((i : ℕ) → 10 ≤ i → i < 16 → i ≢ at) → Sound p → (i : ℕ) → 10 ≤ i → i < 16 → slice_index (set p.words at word) i ≡ 0
zeros_stay p at word apart sound i low high = get_or-set_other p.words at i word 0 (apart i low high) ∙ sound.zeros i low high

-- and so does LOADS
pub number_stays : (p : Plan) (seen : List Record) (at word : ℕ) → 4 ≢ at → loads seen ≡ loads p.seen → Sound p → p.counted ≡ true → slice_index (set p.words at word) 4 ≡ loads seen
number_stays p seen at word apart same sound on = get_or-set_other p.words at 4 word 0 apart ∙ sound.next_number on ∙ sym same

-- and FIRST_FREE
pub first_stays : (p : Plan) (at word : ℕ) (nodes : List Placed) → 3 ≢ at → end_of (arena_start p.layout) nodes ≡ end_of (arena_start p.layout) p.nodes → Sound p → p.counted ≡ true → IsEven p → slice_index (set p.words at word) 3 ≡ end_of (arena_start p.layout) nodes
first_stays p at word nodes apart same sound on even = get_or-set_other p.words at 3 word 0 apart ∙ sound.first_free on even ∙ sym same

-- one from 3 on
pub sound_at : (p : Plan) (seen : List Record) (at word : ℕ) (nodes : List Placed) (counted : Bool) → 3 ≤ at → ((i : ℕ) → 10 ≤ i → i < 16 → i ≢ at) → Sound p → Legal seen → All IsFit seen → invalidations seen ≡ invalidations p.seen → changes seen ≡ changes p.seen → (IsEven p → Shows p.layout (set p.words at word) seen nodes)
    → (counted ≡ true → slice_index (set p.words at word) 4 ≡ loads seen) → (counted ≡ true → IsEven p → slice_index (set p.words at word) 3 ≡ end_of (arena_start p.layout) nodes)
    → Sound (record { layout = p.layout; seen = seen; words = set p.words at word; nodes = nodes; counted = counted; retired = p.retired })
sound_at p seen at word nodes counted high apart sound legal fit invalid change shows number first =
    let same : (i : ℕ) → i < 3 → slice_index (set p.words at word) i ≡ slice_index p.words i = λ i low. let other : i ≢ at = omega arith in get_or-set_other p.words at i word 0 other in
    let zero_is = same 0 (omega arith) in
    let one_is = same 1 (omega arith) in
    let two_is = same 2 (omega arith) in
    let cycle = sound.cycle in
    let source = sound.source in
    let last_epoch = sound.last_epoch in
    let last_version = sound.last_version in
    record {
      sizes = sound.sizes;
      legal = legal;
      fit = fit;
      wide = length-set p.words at word ∙ sound.wide;
      cycle = omega arith;
      epoch = one_is ∙ sound.epoch ∙ sym invalid;
      source = ap (λ (n : ℕ). n + 1) two_is ∙ source ∙ sym change;
      last_epoch = omega arith;
      last_version = omega arith;
      zeros = zeros_stay p at word apart sound;
      next_number = number;
      first_free = λ on even. first on (ap (λ (n : ℕ). n % 2) (sym zero_is) ∙ even);
      shows = λ even. shows (ap (λ (n : ℕ). n % 2) (sym zero_is) ∙ even);
      left = λ newer is. ap (λ (n : ℕ). n % 2) zero_is ∙ sound.left newer is;
    }

-- one from 5 on
pub sound_above : (p : Plan) (seen : List Record) (at word : ℕ) (nodes : List Placed) → 5 ≤ at → ((i : ℕ) → 10 ≤ i → i < 16 → i ≢ at) → Sound p → Legal seen → All IsFit seen → invalidations seen ≡ invalidations p.seen → changes seen ≡ changes p.seen → loads seen ≡ loads p.seen
    → end_of (arena_start p.layout) nodes ≡ end_of (arena_start p.layout) p.nodes → (IsEven p → Shows p.layout (set p.words at word) seen nodes)
    → Sound (record { layout = p.layout; seen = seen; words = set p.words at word; nodes = nodes; counted = p.counted; retired = p.retired })
sound_above p seen at word nodes high apart sound legal fit invalid change loaded end shows =
    let four : 4 ≢ at = omega arith in
    let three : 3 ≢ at = omega arith in
    sound_at p seen at word nodes p.counted (omega arith) apart sound legal fit invalid change shows (number_stays p seen at word four loaded sound) (first_stays p at word nodes three end sound)

pub later_at : (p : Plan) (seen : List Record) (at word : ℕ) (nodes : List Placed) (counted : Bool) → 1 ≤ at → p.retired ≡ None → IsPrefix p.seen seen → (IsEven p → Grows (loads p.seen) p.nodes nodes)
    → Later p (record { layout = p.layout; seen = seen; words = set p.words at word; nodes = nodes; counted = counted; retired = p.retired })
later_at p seen at word nodes counted high active grown grows =
    let other : 0 ≢ at = omega arith in
    let zero_is = get_or-set_other p.words at 0 word 0 other in
    record { active = active; layout = refl; grown = grown; forward = omega arith; same = λ is even. grows even }

-- ---- nodes that stay

pub grows_same : (n : ℕ) (nodes : List Placed) → Grows n nodes nodes
grows_same n nodes = record { stays = λ q among. (q, among, refl, refl, λ off. off); fresh = λ r among usable. inr (r, among, usable, refl, refl) }

-- a history that goes on with the same live entries
pub sits_on : (old new : List Record) (nodes : List Placed) → ((e : Entry) → IsLive old e → IsLive new e) → ((e : Entry) → IsLive new e → IsLive old e) → loads new ≡ loads old → Sits old nodes → Sits new nodes
sits_on old new nodes on back same sits = record {
  live = λ q among usable. on (entry_of q) (sits.live q among usable);
  found = λ e live. sits.found e (back e live);
  numbers = λ q among. let low = sits.numbers q among in omega arith;
  kinds = sits.kinds;
}
