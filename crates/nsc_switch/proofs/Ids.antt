-- Ids that are not among others.
use Rattle.std.proofs.Common.{◌≡◌, ℕ, ◌+◌, ◌<◌, ◌==◌, true, false, not, cond, ◌||◌, List, [], ◌∷◌, ◌++◌, length, drop, filter, get_or, refl, sym, ap, ◌∙◌, append_assoc, arith}
use Rattle.std.specs.List.{list_any}
use Rattle.std.specs.Ordering.{eq_by_cmp, nat_cmp}
use Rattle.std.specs.BTreeSet.{BTreeSet, IsFromIterResult, contains}
use Rattle.std.proofs.lemmas.List.{at_drop_more}

same_test : (q other : ℕ) → eq_by_cmp nat_cmp q other ≡ (other == q)
same_test q other = grind arith

-- a set of ids has those of the list
among : (ids : List ℕ) (q : ℕ) → list_any (eq_by_cmp nat_cmp q) ids ≡ list_any (λ other. other == q) ids
among [] q = refl
among (id ∷ ids) q = ap (λ b. b || list_any (eq_by_cmp nat_cmp q) ids) (same_test q id) ∙ ap (λ b. (id == q) || b) (among ids q)

-- those of the others that are left and not among the ids
abbrev pub lacking : List ℕ → List ℕ → List ℕ
lacking ids others = filter (λ id. not (list_any (λ other. other == id) ids)) others

pub id_passed : (ids now others all : List ℕ) (n none : ℕ) (seen : BTreeSet ℕ) → IsFromIterResult nat_cmp ids seen → n < length others → contains nat_cmp seen (get_or others n none) ≡ true
    → now ++ lacking ids (drop n others) ≡ all → now ++ lacking ids (drop (n + 1) others) ≡ all
id_passed ids now others all n none seen is lt there e =
    let id = get_or others n none in
    let rest = lacking ids (drop (n + 1) others) in
    let found : list_any (λ other. other == id) ids ≡ true = sym (among ids id) ∙ sym (is.0 id) ∙ there in
    ap (λ b. now ++ cond (not b) (id ∷ rest) rest) (sym found) ∙ sym (at_drop_more (λ left. now ++ lacking ids left) others n none lt) ∙ e

pub id_appended : (ids now others all : List ℕ) (n none : ℕ) (seen : BTreeSet ℕ) → IsFromIterResult nat_cmp ids seen → n < length others → contains nat_cmp seen (get_or others n none) ≡ false
    → now ++ lacking ids (drop n others) ≡ all → (now ++ get_or others n none ∷ []) ++ lacking ids (drop (n + 1) others) ≡ all
id_appended ids now others all n none seen is lt lacks e =
    let id = get_or others n none in
    let rest = lacking ids (drop (n + 1) others) in
    let found : list_any (λ other. other == id) ids ≡ false = sym (among ids id) ∙ sym (is.0 id) ∙ lacks in
    append_assoc now (id ∷ []) rest ∙ ap (λ b. now ++ cond (not b) (id ∷ rest) rest) (sym found) ∙ sym (at_drop_more (λ left. now ++ lacking ids left) others n none lt) ∙ e
