-- Tables that are gone through entry by entry.
use Rattle.std.proofs.Common.{◌≡◌, ℕ, ◌+◌, ◌<◌, ◌≤◌, true, false, if◌then◌else◌, List, [], ◌∷◌, length, drop, get_or, Option, Some, None, Bor, refl, sym, ◌∙◌, ap, add-one}
use Rattle.std.specs.Str.{bytes_eq}
use Rattle.std.proofs.Math.Seq.{drop-cons}
use Rattle.std.proofs.lemmas.List.{at_drop_all}
use Rattle.nsc_daemonconf.specs.Tables.{found}

-- the entries from a place on
from_entry : {A : Type 0} (table : List (Bor (List ℕ) × A)) (k : ℕ) (entry : Bor (List ℕ) × A) → k < length table → entry ≡ get_or table k entry → drop k table ≡ entry ∷ drop (k + 1) table
from_entry table k entry inside is = rw add-one (drop-cons table k entry inside) ∙ ap (λ e. e ∷ drop (k + 1) table) (sym is)

pub found_here : {A : Type 0} (table : List (Bor (List ℕ) × A)) (word : List ℕ) (k : ℕ) (entry : Bor (List ℕ) × A) → k < length table → entry ≡ get_or table k entry → bytes_eq word entry.0.now ≡ true → found (drop k table) word ≡ Some entry.1
unfolding found
found_here table word k entry inside is same = ap (λ entries. found entries word) (from_entry table k entry inside is) ∙ rw same refl

pub found_later : {A : Type 0} (table : List (Bor (List ℕ) × A)) (word : List ℕ) (k : ℕ) (entry : Bor (List ℕ) × A) → k < length table → entry ≡ get_or table k entry → bytes_eq word entry.0.now ≡ false → found (drop k table) word ≡ found (drop (k + 1) table) word
unfolding found
found_later table word k entry inside is other = ap (λ entries. found entries word) (from_entry table k entry inside is) ∙ rw other refl

pub found_none : {A : Type 0} (table : List (Bor (List ℕ) × A)) (word : List ℕ) (k : ℕ) → length table ≤ k → found (drop k table) word ≡ None
unfolding found
found_none table word k past = at_drop_all (λ entries. found entries word) table k past

-- the entry that is found, where the table is spelled out
abbrev pub entry_of : {A : Type 0} → List (Bor (List ℕ) × A) → List ℕ → Option A
entry_of [] word = None
entry_of (entry ∷ table) word = if bytes_eq word entry.0.now then Some entry.1 else entry_of table word

pub found-entry : {A : Type 0} (table : List (Bor (List ℕ) × A)) (word : List ℕ) → found table word ≡ entry_of table word
unfolding found
found-entry [] word = refl
found-entry (entry ∷ table) word = ap (λ later. if bytes_eq word entry.0.now then Some entry.1 else later) (found-entry table word)
