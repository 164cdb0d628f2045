-- What stands at a place.
use Rattle.std.proofs.Common.{◌≡◌, ℕ, ◌+◌, ◌<◌, ◌≤◌, Bool, true, false, cond, refl, sym, arith, List, length, slice_index, subst, ◌∙◌}
use Rattle.nsc_words.specs.declared.node.Placed.{Placed}
use Rattle.nsc_words.specs.Laid.{Holds}
use Rattle.nsc_words.specs.Packing.{shape_word}
use Rattle.nsc_arena.specs.Changes.{IsNodeAt}

pub holds_at : (words : List ℕ) (at : ℕ) (p : Placed) → IsNodeAt words at p → Holds words at p.node p.usable
holds_at words at p is = subst (λ (a : ℕ). Holds words a p.node p.usable) is.place is.stands.holds

-- the length of its key, by the reader of its SHAPE
pub length_at : (at : ℕ) (p : Placed) (words : List ℕ) → IsNodeAt words at p → (len word : ℕ) → ((kind key : ℕ) → key ≤ 1024 → word ≡ shape_word kind key → len ≡ key) → word ≡ slice_index words (at + 1) → len ≡ length p.node.key
length_at at p words is len word undoes value = undoes p.node.kind (length p.node.key) is.stands.node.key (value ∙ (holds_at words at p is).shape)

-- its kind, by the reader of its SHAPE
pub kind_at : (at : ℕ) (p : Placed) (words : List ℕ) → IsNodeAt words at p → (own word : ℕ) → ((kind key : ℕ) → kind < 256 → key ≤ 1024 → word ≡ shape_word kind key → own ≡ kind) → word ≡ slice_index words (at + 1) → own ≡ p.node.kind
kind_at at p words is own word undoes value = undoes p.node.kind (length p.node.key) is.stands.node.kind is.stands.node.key (value ∙ (holds_at words at p is).shape)

-- whether it is usable, by its STATE
by_state : (u : Bool) → ◌≡◌ {A = ℕ} (cond u 1 0) 1 → u ≡ true
by_state true e = refl
by_state false e = absurd (omega arith)

pub usable_by : (at : ℕ) (p : Placed) (words : List ℕ) → IsNodeAt words at p → (word : ℕ) → word ≡ 1 → word ≡ slice_index words (at + 6) → p.usable ≡ true
usable_by at p words is word one value = by_state p.usable (sym (holds_at words at p is).state ∙ sym value ∙ one)

by_other_state : (u : Bool) → (◌≡◌ {A = ℕ} (cond u 1 0) 1 → ⊥) → u ≡ false
by_other_state true n = absurd (n refl)
by_other_state false n = refl

pub unusable_by : (at : ℕ) (p : Placed) (words : List ℕ) → IsNodeAt words at p → (word : ℕ) → (word ≡ 1 → ⊥) → word ≡ slice_index words (at + 6) → p.usable ≡ false
unusable_by at p words is word other value = by_other_state p.usable (λ e. other (value ∙ (holds_at words at p is).state ∙ e))
