-- Whether a node answers a request.
use Rattle.std.proofs.Common.{◌≡◌, ℕ, ◌+◌, ◌<◌, Bool, true, false, ◌&&◌, eqb, eq-eqb, List, length, slice_index, refl, sym, ap, ◌∙◌, arith}
use Rattle.std.specs.Bool.{Decides}
use Rattle.std.specs.Str.{bytes_eq}
use Rattle.std.proofs.lemmas.Slice.Eq.{bytes_eq-Decides}
use Rattle.std.proofs.lemmas.Bool.Decides.{same_from_decides}
use Rattle.nsc_words.specs.declared.node.Placed.{Placed}
use Rattle.nsc_base.specs.Nodes.{words_for}
use Rattle.nsc_words.specs.Laid.{answers}
use Rattle.nsc_words.specs.Words.{HoldsBytes}
use Rattle.nsc_words.proofs.Lows.{same_words}
use Rattle.nsc_arena.specs.Changes.{IsNodeAt}
use Rattle.nsc_arena.proofs.Bytes.{all_below}
use Rattle.nsc_arena.proofs.Heads.{holds_at}

true_unless : (r : Bool) → (r ≡ false → ⊥) → r ≡ true
true_unless true h = refl
true_unless false h = absurd (h refl)

-- a usable node of this kind
pub answers_by : (p : Placed) (kind : ℕ) (key : List ℕ) (result : Bool) → p.usable ≡ true → p.node.kind ≡ kind → (result ≡ true → p.node.key ≡ key) → (result ≡ false → p.node.key ≡ key → ⊥) → result ≡ answers kind key p
answers_by p kind key result usable same has lacks =
    let told : Decides result (p.node.key ≡ key) = (has, λ e. true_unless result (λ f. lacks f e)) in
    let is : result ≡ bytes_eq p.node.key key = same_from_decides result (bytes_eq p.node.key key) told (bytes_eq-Decides p.node.key key) in
    let of_kind : eqb p.node.kind kind ≡ true = eq-eqb p.node.kind kind same in
    is ∙ sym (ap (λ (b : Bool). b && bytes_eq p.node.key key) of_kind) ∙ sym (ap (λ (b : Bool). b && (eqb p.node.kind kind && bytes_eq p.node.key key)) usable)

-- the key of a node is these bytes where its words hold them
pub same_key : (words : List ℕ) (at : ℕ) (p : Placed) (key : List ℕ) → IsNodeAt words at p → ((i : ℕ) → slice_index key i < 256) → length p.node.key ≡ length key → HoldsBytes words (at + 8) key → p.node.key ≡ key
same_key words at p key is below size holds =
    same_words p.node.key key (all_below p.node.key is.stands.node.key_bytes) below size (λ i h.
    let more : i < words_for (length key) = omega arith in
    sym ((holds_at words at p is).key i h) ∙ holds i more)
