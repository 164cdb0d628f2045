-- The set of excluded names has the names of a list.
use Rattle.std.proofs.Common.{◌≡◌, ℕ, Bool, true, false, ◌||◌, cond, List, [], ◌∷◌, map, Bor, refl, sym, ◌∙◌, ap}
use Rattle.std.specs.List.{list_any}
use Rattle.std.specs.Str.{bytes_eq}
use Rattle.std.specs.Ordering.{is_eq, nat_cmp}
use Rattle.std.specs.Cmp.Lexicographic.{slice_cmp}
use Rattle.std.specs.BTreeSet.{BTreeSet, UpdatesBy, contains_by}
use Rattle.std.proofs.lemmas.Bool.{false_from_ne_true}
use Rattle.std.proofs.lemmas.Map.Text.{is_eq-slice_cmp}
use Rattle.std.proofs.lemmas.Slice.Eq.{bytes_eq-Decides}
use Rattle.nsc_model.specs.Compat.{is_excluded}

bytes_eq-sym : (a b : List ℕ) → bytes_eq a b ≡ bytes_eq b a
bytes_eq-sym a b =
    elim (bytes_eq a b) as (λ v. bytes_eq a b ≡ v → v ≡ bytes_eq b a) [
      | true ↦ λ e. sym ((bytes_eq-Decides b a).1 (sym ((bytes_eq-Decides a b).0 e)))
      | false ↦ λ e. sym (false_from_ne_true (bytes_eq b a) (λ t.
          let same : bytes_eq a b ≡ true = (bytes_eq-Decides a b).1 (sym ((bytes_eq-Decides b a).0 t)) in
          cc))
    ] refl

-- a name is asked of the set as it is of the list
pub has_name : (q : List ℕ) (names : List (Bor (List ℕ))) → list_any (λ k. is_eq (slice_cmp nat_cmp q k.now)) names ≡ is_excluded (map (λ k. k.now) names) q
has_name q [] = refl
has_name q (k ∷ names) =
    let first : is_eq (slice_cmp nat_cmp q k.now) ≡ bytes_eq k.now q = is_eq-slice_cmp q k.now ∙ bytes_eq-sym q k.now in
    rw (first, has_name q names) refl

or_cond : (a b : Bool) → cond a true b ≡ (a || b)
or_cond true b = refl
or_cond false b = refl

-- with one name more
pub one_more : (bs : List ℕ) (s n : BTreeSet (Bor (List ℕ))) → UpdatesBy (λ x y. slice_cmp nat_cmp x.now y.now) (λ k. slice_cmp nat_cmp bs k.now) s n true → (q : List ℕ) → is_excluded (map (λ k. k.now) n.keys) q ≡ is_excluded (bs ∷ map (λ k. k.now) s.keys) q
one_more bs s n updates q =
    let key : Bor (List ℕ) = record { ref_ptr = (0, 0); now = q } in
    sym (has_name q n.keys) ∙ updates.0 key ∙ or_cond (is_eq (slice_cmp nat_cmp bs q)) (contains_by (λ k. slice_cmp nat_cmp q k.now) s)
    ∙ ap (λ v. v || contains_by (λ k. slice_cmp nat_cmp q k.now) s) (is_eq-slice_cmp bs q) ∙ ap (λ v. bytes_eq bs q || v) (has_name q s.keys)
