-- No node.
use Rattle.std.proofs.Common.{◌≡◌, ℕ, ◌+◌, ◌<◌, ◌≤◌, inl, List, [], length, set, slice_index, ap, ◌∙◌, arith, get_or-set_other, get_or-set_same}
use Rattle.std.proofs.Math.ListN.{length-set}
use Rattle.nsc_words.specs.declared.layout.Layout.{Layout}
use Rattle.nsc_words.specs.Laid.{Laid}
use Rattle.nsc_words.specs.Layout.{arena_start, table_words}

pub cleared : (words new : List ℕ) (layout : Layout) (value : ℕ) → length words ≡ table_words layout → new ≡ set words 3 value → value ≡ arena_start layout → ((i : ℕ) → 16 ≤ i → i < 16 + layout.buckets → slice_index words i ≡ 0) → Laid new layout []
cleared words new layout value size is start buckets =
    let length_new : length new ≡ length words = ap length is ∙ length-set words 3 value in
    record {
      table = length_new ∙ size;
      first_free = ap (λ (ws : List ℕ). slice_index ws 3) is ∙ get_or-set_same words 3 value 0 (omega arith) ∙ start;
      room = omega arith;
      row = tt;
      rising = tt;
      stands = λ p among. absurd among;
      buckets = λ i more.
          let zero : slice_index new (16 + i) ≡ 0 = ap (λ (ws : List ℕ). slice_index ws (16 + i)) is ∙ get_or-set_other words 3 (16 + i) value 0 (omega arith) ∙ buckets (16 + i) (omega arith) (omega arith) in
          record { known = inl zero; none_between = λ p among usable is lower. absurd among };
      nexts = λ p among. absurd among;
    }
