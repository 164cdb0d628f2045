-- The database is invalidated, or its files are looked at.
use Rattle.std.proofs.Common.{◌≡◌, ◌≢◌, ◌∙◌, ℕ, ◌+◌, ◌%◌, ◌<◌, ◌≤◌, List, [], ◌∷◌, Some, length-set, set, slice_index, refl, sym, ap, arith, get_or-set_other, get_or-set_same, None}
use Rattle.std.proofs.lemmas.List.Elements.{All-cons}
use Rattle.nsc_words.specs.declared.node.Placed.{Placed}
use Rattle.nsc_model.specs.Content.{Content}
use Rattle.nsc_model.specs.Files.{FilesFit}
use Rattle.nsc_model.specs.Entry.{Entry}
use Rattle.nsc_model.specs.Machine.{last_count}
use Rattle.nsc_model.specs.declared.record.Record.{Record}
use Rattle.nsc_model.specs.declared.record.Record.TheVariants.{Change, Poll, Invalid}
use Rattle.nsc_model.specs.History.{changes, invalidations, loads, newest, IsFit, IsLive, Legal, NoneLive}
use Rattle.nsc_model.proofs.Beginnings.{prefix_all, prefix_more}
use Rattle.nsc_rule.specs.declared.view.Plan.{Plan}
use Rattle.nsc_rule.specs.Plans.{Later, Shows, Sits, Sound}
use Rattle.nsc_rule.specs.Strokes.{after, changed, invalidation_added}
use Rattle.nsc_rule.specs.declared.view.Stroke.TheVariants as stroke
use Rattle.nsc_rule.proofs.Filled.{first_stays, grows_same, head_set, later_at, number_stays, sits_on, zeros_stay}

-- ---- the live entries stay

sits_said : (r : Record) (h : List Record) (nodes : List Placed) → ((e : Entry) → IsLive h e → IsLive (r ∷ h) e) → ((e : Entry) → IsLive (r ∷ h) e → IsLive h e) → loads (r ∷ h) ≡ loads h → Sits h nodes → Sits (r ∷ h) nodes
sits_said r h nodes = sits_on h (r ∷ h) nodes

head_shows : (p : Plan) (r : Record) (at word : ℕ) → at < 3 → Sits (r ∷ p.seen) p.nodes → Shows p.layout p.words p.seen p.nodes → Shows p.layout (set p.words at word) (r ∷ p.seen) p.nodes
head_shows p r at word low sits shows = let other : at ≢ 3 = omega arith in record { laid = head_set p.layout p.words p.nodes at word (omega arith) other shows.laid; sits = sits }

later_said : (p : Plan) (r : Record) (at word : ℕ) → 1 ≤ at → p.retired ≡ None → Later p (record { layout = p.layout; seen = r ∷ p.seen; words = set p.words at word; nodes = p.nodes; counted = p.counted; retired = p.retired })
later_said p r at word high active = later_at p (r ∷ p.seen) at word p.nodes p.counted high active (prefix_more r p.seen p.seen (prefix_all p.seen)) (λ even. grows_same _ p.nodes)

-- ---- an invalidation

pub sound_invalidated : (p : Plan) → NoneLive p.seen → slice_index p.words 1 < last_count → Sound p → Sound (invalidation_added p)
sound_invalidated p none room sound =
    let word : ℕ = slice_index p.words 1 + 1 in
    let r : Record = Invalid word in
    let wide = sound.wide in
    let here = get_or-set_same p.words 1 word 0 (omega arith) in
    let zero_is : slice_index (set p.words 1 word) 0 ≡ slice_index p.words 0 = get_or-set_other p.words 1 0 word 0 (omega arith) in
    let two_is : slice_index (set p.words 1 word) 2 ≡ slice_index p.words 2 = get_or-set_other p.words 1 2 word 0 (omega arith) in
    let next : word ≡ invalidations p.seen + 1 = ap (λ (n : ℕ). n + 1) sound.epoch in
    let cycle = sound.cycle in
    let last_version = sound.last_version in
    record {
      sizes = sound.sizes;
      legal = (sound.legal, next, none);
      fit = All-cons IsFit r p.seen tt sound.fit;
      wide = length-set p.words 1 word ∙ sound.wide;
      cycle = omega arith;
      epoch = here ∙ next;
      source = ap (λ (n : ℕ). n + 1) two_is ∙ sound.source;
      last_epoch = omega arith;
      last_version = omega arith;
      zeros = zeros_stay p 1 word (λ i low high. omega arith) sound;
      next_number = number_stays p (r ∷ p.seen) 1 word (omega arith) refl sound;
      first_free = λ on even. first_stays p 1 word p.nodes (omega arith) refl sound on (ap (λ (n : ℕ). n % 2) (sym zero_is) ∙ even);
      shows = λ even.
          let shows = sound.shows (ap (λ (n : ℕ). n % 2) (sym zero_is) ∙ even) in
          head_shows p r 1 word (omega arith) (sits_said r p.seen p.nodes (λ e l. record { inserted = l.inserted; not_ended = l.not_ended }) (λ e l. record { inserted = l.inserted; not_ended = l.not_ended }) refl shows.sits) shows;
      left = λ newer is. ap (λ (n : ℕ). n % 2) zero_is ∙ sound.left newer is;
    }

pub later_invalidated : (p : Plan) → p.retired ≡ None → Later p (invalidation_added p)
later_invalidated p active = later_said p (Invalid (slice_index p.words 1 + 1)) 1 (slice_index p.words 1 + 1) (omega arith) active

-- ---- a poll, and a new version

sound_source : (p : Plan) (r : Record) (word : ℕ) → Legal (r ∷ p.seen) → IsFit r → invalidations (r ∷ p.seen) ≡ invalidations p.seen → loads (r ∷ p.seen) ≡ loads p.seen → word + 1 ≡ changes (r ∷ p.seen) → word ≤ last_count → (Sits p.seen p.nodes → Sits (r ∷ p.seen) p.nodes) → Sound p
    → Sound (record { layout = p.layout; seen = r ∷ p.seen; words = set p.words 2 word; nodes = p.nodes; counted = p.counted; retired = p.retired })
sound_source p r word legal fits invalid loaded change room sits sound =
    let wide = sound.wide in
    let here : slice_index (set p.words 2 word) 2 ≡ word = get_or-set_same p.words 2 word 0 (omega arith) in
    let zero_is : slice_index (set p.words 2 word) 0 ≡ slice_index p.words 0 = get_or-set_other p.words 2 0 word 0 (omega arith) in
    let one_is : slice_index (set p.words 2 word) 1 ≡ slice_index p.words 1 = get_or-set_other p.words 2 1 word 0 (omega arith) in
    let cycle = sound.cycle in
    let last_epoch = sound.last_epoch in
    record {
      sizes = sound.sizes;
      legal = legal;
      fit = All-cons IsFit r p.seen fits sound.fit;
      wide = length-set p.words 2 word ∙ sound.wide;
      cycle = omega arith;
      epoch = one_is ∙ sound.epoch ∙ sym invalid;
      source = ap (λ (n : ℕ). n + 1) here ∙ change;
      last_epoch = omega arith;
      last_version = omega arith;
      zeros = zeros_stay p 2 word (λ i low high. omega arith) sound;
      next_number = number_stays p (r ∷ p.seen) 2 word (omega arith) loaded sound;
      first_free = λ on even. first_stays p 2 word p.nodes (omega arith) refl sound on (ap (λ (n : ℕ). n % 2) (sym zero_is) ∙ even);
      shows = λ even. let shows = sound.shows (ap (λ (n : ℕ). n % 2) (sym zero_is) ∙ even) in head_shows p r 2 word (omega arith) (sits shows.sits) shows;
      left = λ newer is. ap (λ (n : ℕ). n % 2) zero_is ∙ sound.left newer is;
    }

pub sound_polled : (p : Plan) (word : ℕ) → word ≡ slice_index p.words 2 → Sound p → Sound (after stroke.Poll 2 word p)
sound_polled p word is sound =
    let source = sound.source in
    let last = sound.last_version in
    let same : word + 1 ≡ changes p.seen = omega arith in
    sound_source p (Poll word) word (sound.legal, same) tt refl refl same (omega arith) (sits_said (Poll word) p.seen p.nodes (λ e l. record { inserted = l.inserted; not_ended = l.not_ended }) (λ e l. record { inserted = l.inserted; not_ended = l.not_ended }) refl) sound

pub later_polled : (p : Plan) (word : ℕ) → p.retired ≡ None → Later p (after stroke.Poll 2 word p)
later_polled p word active = later_said p (Poll word) 2 word (omega arith) active

legal_change : (h : List Record) (version : ℕ) (content : Content) → Legal h → version ≡ changes h → newest h ≢ Some content → Legal (Change version content ∷ h)
legal_change [] version content legal is new = absurd legal
legal_change (r ∷ h) version content legal is new = (legal, is, new)

pub sound_changed : (p : Plan) (content : Content) → FilesFit content → newest p.seen ≢ Some content → slice_index p.words 2 < last_count → Sound p → Sound (changed content p)
sound_changed p content fits new room sound =
    let word : ℕ = slice_index p.words 2 + 1 in
    sound_source p (Change word content) word (legal_change p.seen word content sound.legal sound.source new) fits refl refl (ap (λ (n : ℕ). n + 1) sound.source) (omega arith)
    (sits_said (Change word content) p.seen p.nodes (λ e l. record { inserted = l.inserted; not_ended = l.not_ended }) (λ e l. record { inserted = l.inserted; not_ended = l.not_ended }) refl) sound

pub later_changed : (p : Plan) (content : Content) → p.retired ≡ None → Later p (changed content p)
later_changed p content active = later_said p (Change (slice_index p.words 2 + 1) content) 2 (slice_index p.words 2 + 1) (omega arith) active
