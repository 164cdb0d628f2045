-- A table at its start keeps the rule.
use Rattle.std.proofs.Common.{◌≡◌, ◌≢◌, ◌∙◌, ℕ, zero, suc, ◌+◌, ◌-◌, ◌<◌, List, [], ◌∷◌, length, length-append, length-set, replicate, slice_index, refl, sym, subst, arith, get_or-set_other, get_or-set_same}
use Rattle.std.proofs.lemmas.List.{get_or-append_right, get_or-replicate, length-replicate}
use Rattle.std.proofs.lemmas.List.Elements.{All-cons, All-nil}
use Rattle.std.proofs.lemmas.Option.{none-some}
use mathlib.Core.Option.{some, some-ne-none, some-injective}
use lib.ListN.{get_elem?}
use Rattle.atomic_table.specs.Table.{opening}
use Rattle.nsc_words.specs.declared.layout.Layout.{Layout}
use Rattle.nsc_words.specs.Layout.{IsLayout, arena_start, table_words}
use Rattle.nsc_arena.proofs.Cleared as clear
use Rattle.nsc_model.specs.Content.{Content}
use Rattle.nsc_model.specs.Files.{FilesFit}
use Rattle.nsc_model.specs.History.{IsFit}
use Rattle.nsc_model.specs.Machine.{last_count}
use Rattle.nsc_model.specs.declared.record.Record.TheVariants.{Change}
use Rattle.nsc_model.proofs.Beginnings.{prefix_none}
use Rattle.nsc_rule.specs.declared.view.Plan.{Plan}
use Rattle.nsc_rule.specs.declared.view.View.{View}
use Rattle.nsc_rule.specs.Plans.{IsEven, Sits, Sound, cycle_of, filled, first_plan, heads_after, no_nodes, succeeding, words_after}
use Rattle.nsc_rule.specs.Seats.{Fits, IsKept, writing}

pub zero_at : (layout : Layout) (i : ℕ) → i < table_words layout → i ≢ 3 → slice_index (no_nodes layout) i ≡ 0
zero_at layout i low other = get_or-set_other (replicate (table_words layout) 0) 3 i (arena_start layout) 0 other ∙ get_or-replicate (table_words layout) i 0 0 low

size : (layout : Layout) → length (no_nodes layout) ≡ table_words layout
size layout = let zeros : List ℕ = replicate (table_words layout) 0 in length-set zeros 3 (arena_start layout) ∙ length-replicate (table_words layout) 0

sits_none : (content : Content) → Sits (Change 0 content ∷ []) []
sits_none content = record { live = λ q among. absurd among; found = λ e live. absurd live.inserted; numbers = λ q among. absurd among; kinds = λ q among. absurd among }

pub sound_first : (layout : Layout) (content : Content) → FilesFit content → IsLayout layout → Sound (first_plan layout content)
sound_first layout content fits sizes =
    let room = sizes.some_room in
    let none : (i : ℕ) → i < 3 → slice_index (no_nodes layout) i ≡ 0 = λ i low. let other : i ≢ 3 = omega arith in zero_at layout i (omega arith) other in
    let cycle = none 0 (omega arith) in
    let epoch = none 1 (omega arith) in
    let source = none 2 (omega arith) in
    record {
      sizes = sizes;
      legal = refl;
      fit = All-cons IsFit (Change 0 content) [] fits (All-nil IsFit);
      wide = size layout;
      cycle = omega arith;
      epoch = epoch;
      source = omega arith;
      last_epoch = omega arith;
      last_version = omega arith;
      zeros = λ i low high. let other : i ≢ 3 = omega arith in zero_at layout i (omega arith) other;
      next_number = λ on. let other : 4 ≢ 3 = omega arith in zero_at layout 4 (omega arith) other;
      first_free = λ on even. get_or-set_same (replicate (table_words layout) 0) 3 (arena_start layout) 0 (omega (arith, length-replicate {A = ℕ} (table_words layout) 0));
      shows = λ even. record {
        laid = clear.cleared (no_nodes layout) (filled layout (no_nodes layout) []) layout (arena_start layout) (size layout) refl refl (λ i low high. let other : i ≢ 3 = omega arith in zero_at layout i (omega arith) other);
        sits = sits_none content;
      };
      left = λ newer is. absurd (none-some newer is);
    }

-- a table that goes on in place of another one: its CYCLE is odd, so nothing is said of its nodes
pub sound_succeeding : (layout : Layout) (p : Plan) → IsLayout layout → IsEven p → cycle_of p < last_count → Sound p → Sound (succeeding layout p)
sound_succeeding layout p sizes even room sound =
    let rest : List ℕ = replicate (table_words layout - 10) 0 in
    let some = sizes.some_room in
    let odd : IsEven (succeeding layout p) → ⊥ = λ again. omega arith in
    record {
      sizes = sizes;
      legal = sound.legal;
      fit = sound.fit;
      wide = let all : length (words_after layout p.words) ≡ 10 + length rest = length-append (heads_after p.words) rest in let few = length-replicate {A = ℕ} (table_words layout - 10) 0 in omega arith;
      cycle = omega arith;
      epoch = sound.epoch;
      source = sound.source;
      last_epoch = sound.last_epoch;
      last_version = sound.last_version;
      zeros = λ i low high. get_or-append_right (heads_after p.words) rest 10 i 0 refl low ∙ get_or-replicate (table_words layout - 10) (i - 10) 0 0 (omega arith);
      next_number = sound.next_number;
      first_free = λ on again. absurd (odd again);
      shows = λ again. absurd (odd again);
      left = λ newer is. absurd (none-some newer is);
    }

-- a table opens with a plan that is sound
pub opens : (layout : Layout) (p : Plan) → p.layout ≡ layout → Sound p → IsKept layout (opening p.words [] (writing p))
opens layout p is sound = record { plan = p; layout = is; words = refl; sound = sound; fits = fits } where
  fits : (seat : ℕ) (v : View) → get_elem? (writing p ∷ []) seat ≡ some v → Fits p seat v
  fits zero v e = subst (Fits p 0) (some-injective _ _ e) (refl, refl, prefix_none p.seen, λ newer is. absurd (none-some newer is))
  fits (suc seat) v e = absurd (some-ne-none v (sym e))
