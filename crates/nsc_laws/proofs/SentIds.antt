-- Ids, each once, can be sent where all of them are ids of some entries, of which there are not too many.
use Rattle.std.proofs.Common.{◌≡◌, ℕ, ◌+◌, ◌*◌, ◌^◌, ◌<◌, ◌≤◌, Bool, true, false, not, cond, nat_eq, ◌==◌, ◌||◌, List, [], ◌∷◌, ◌++◌, All, filter, flat_map, length, map, refl, sym, ◌∙◌, subst, arith, length-append}
use Rattle.std.specs.List.{AllByRecursion, IsDistinct, list_any}
use Rattle.std.proofs.lemmas.Bool.Decides.{Decides-eqb}
use Rattle.std.proofs.lemmas.Cmp.{nat_eq_equiv}
use Rattle.std.proofs.lemmas.List.Elements.{All-from_recursion}
use Rattle.std.proofs.lemmas.Map.Made.{length-le_from_is_member}
use Rattle.nsc_model.specs.declared.kind.Kind.TheVariants.{InitGroups}
use Rattle.nsc_model.specs.declared.row.Group.{Group}
use Rattle.nsc_model.specs.Answers.{each_once, found_ids, joined_ids}
use Rattle.nsc_model.specs.Files.{file_limit}
use Rattle.nsc_model.specs.Wire.{field, ids_found}
use Rattle.nsc_laws.proofs.SentLists.{all_weaker, append_keeps, filter_keeps}
use Rattle.nsc_laws.proofs.SentTexts.{or_false}
use Rattle.nsc_laws.proofs.Sent.{IsSent, entry_limit, none_sent}

abbrev pub StandsIn : List ℕ → ℕ → Type 0
StandsIn ids id = list_any (nat_eq id) ids ≡ true

-- an id of four bytes that is one of these
abbrev pub IsIdOf : List ℕ → ℕ → Type 0
IsIdOf ids id = (id < 2 ^ 32) × StandsIn ids id

pub or_left : (a b : Bool) → a ≡ true → (a || b) ≡ true
or_left true b h = refl
or_left false b h = absurd cc

pub or_right : (a b : Bool) → b ≡ true → (a || b) ≡ true
or_right true b h = refl
or_right false b h = h

abbrev pub ids_in : List Group → List ℕ
ids_in groups = map (λ (g : Group). g.gid) groups

-- the ids of groups are ids of whatever has all of them
pub groups_stand : (ids : List ℕ) (groups : List Group) → AllByRecursion (λ (g : Group). g.gid < 2 ^ 32) groups → ((id : ℕ) → StandsIn (ids_in groups) id → StandsIn ids id) → AllByRecursion (λ (g : Group). IsIdOf ids g.gid) groups
groups_stand ids [] fit within = tt
groups_stand ids (g ∷ groups) fit within = (
  (fit.0, within g.gid (or_left (nat_eq g.gid g.gid) (list_any (nat_eq g.gid) (ids_in groups)) (nat_eq_equiv.refl g.gid))),
  groups_stand ids groups fit.1 (λ id h. within id (or_right (nat_eq id g.gid) (list_any (nat_eq id) (ids_in groups)) h)),
)

-- ---- each once

once_keeps : (P : ℕ → Type 0) (ids : List ℕ) → AllByRecursion P ids → AllByRecursion P (each_once ids)
once_keeps P [] all = tt
once_keeps P (n ∷ ids) all = (all.0, filter_keeps P (λ m. not (m == n)) (each_once ids) (once_keeps P ids all.1))

apart : (n : ℕ) (ids : List ℕ) → AllByRecursion (λ m. nat_eq n m ≡ false) (filter (λ m. not (m == n)) ids)
apart n [] = tt
apart n (m ∷ ids) =
    elim (m == n) as (λ v. (m == n) ≡ v → AllByRecursion (λ k. nat_eq n k ≡ false) (cond (not v) (m ∷ filter (λ k. not (k == n)) ids) (filter (λ k. not (k == n)) ids))) [
      | true ↦ λ is. apart n ids
      | false ↦ λ is. (nat_eq_equiv.symm n m ∙ is, apart n ids)
    ] refl

filter_distinct : (test : ℕ → Bool) (ids : List ℕ) → IsDistinct nat_eq ids → IsDistinct nat_eq (filter test ids)
unfolding IsDistinct
filter_distinct test [] all = tt
filter_distinct test (m ∷ ids) all =
    elim (test m) as (λ v. IsDistinct nat_eq (cond v (m ∷ filter test ids) (filter test ids))) [
      | true ↦ (filter_keeps (λ k. nat_eq m k ≡ false) test ids all.0, filter_distinct test ids all.1)
      | false ↦ filter_distinct test ids all.1
    ]

once_distinct : (ids : List ℕ) → IsDistinct nat_eq (each_once ids)
unfolding IsDistinct
once_distinct [] = tt
once_distinct (n ∷ ids) = (apart n (each_once ids), filter_distinct (λ m. not (m == n)) (each_once ids) (once_distinct ids))

member_stands : (all ids : List ℕ) (q : ℕ) → AllByRecursion (IsIdOf all) ids → StandsIn ids q → StandsIn all q
member_stands all [] q each h = absurd cc
member_stands all (id ∷ ids) q each h =
    elim (nat_eq q id) as (λ v. nat_eq q id ≡ v → (v || list_any (nat_eq q) ids) ≡ true → StandsIn all q) [
      | true ↦ λ is e. subst (StandsIn all) (sym ((Decides-eqb q id).0 is)) each.0.1
      | false ↦ λ is e. member_stands all ids q each.1 e
    ] refl h

-- ids of these, each once
abbrev pub AreIdsOf : List ℕ → List ℕ → Type 0
AreIdsOf all ids = AllByRecursion (IsIdOf all) ids × IsDistinct nat_eq ids

-- are no more than these
ids_few : (all ids : List ℕ) → AreIdsOf all ids → length ids ≤ length all
ids_few all ids are = length-le_from_is_member nat_eq_equiv ids all are.1 (λ q h. member_stands all ids q are.0 h)

pub once_are : (all ids : List ℕ) → AllByRecursion (IsIdOf all) ids → AreIdsOf all (each_once ids)
once_are all ids each = (once_keeps (IsIdOf all) ids each, once_distinct ids)

-- ---- ids that others are joined to

-- no id is one of these
abbrev AreNew : List ℕ → List ℕ → Type 0
AreNew ids others = AllByRecursion (λ id. list_any (λ other. other == id) ids ≡ false) others

filter_new : (ids others : List ℕ) → AreNew ids (filter (λ id. not (list_any (λ other. other == id) ids)) others)
filter_new ids [] = tt
filter_new ids (id ∷ others) =
    let later = filter (λ m. not (list_any (λ other. other == m) ids)) others in
    elim (list_any (λ other. other == id) ids) as (λ v. list_any (λ other. other == id) ids ≡ v → AreNew ids (cond (not v) (id ∷ later) later)) [
      | true ↦ λ is. filter_new ids others
      | false ↦ λ is. (is, filter_new ids others)
    ] refl

append_distinct : (ids others : List ℕ) → IsDistinct nat_eq ids → IsDistinct nat_eq others → AreNew ids others → IsDistinct nat_eq (ids ++ others)
unfolding IsDistinct
append_distinct [] others own all new = all
append_distinct (id ∷ ids) others own all new = (
  append_keeps (λ m. nat_eq id m ≡ false) ids others own.0 (all_weaker (λ m. list_any (λ other. other == m) (id ∷ ids) ≡ false) (λ m. nat_eq id m ≡ false) (λ m is. (or_false (id == m) (list_any (λ other. other == m) ids) is).0) others new),
  append_distinct ids others own.1 all (all_weaker (λ m. list_any (λ other. other == m) (id ∷ ids) ≡ false) (λ m. list_any (λ other. other == m) ids ≡ false) (λ m is. (or_false (id == m) (list_any (λ other. other == m) ids) is).1) others new),
)

pub joined_are : (all ids others : List ℕ) → AreIdsOf all ids → AreIdsOf all others → AreIdsOf all (joined_ids ids others)
joined_are all ids others own are =
    let test : ℕ → Bool = λ id. not (list_any (λ other. other == id) ids) in (
      append_keeps (IsIdOf all) ids (filter test others) own.0 (filter_keeps (IsIdOf all) test others are.0),
      append_distinct ids (filter test others) own.1 (filter_distinct test others are.1) (filter_new ids others),
    )

-- ---- their reply

fields_size : (ids : List ℕ) → length (flat_map field ids) ≡ 4 * length ids
fields_size [] = refl
fields_size (id ∷ ids) = omega (arith, length-append (field id) (flat_map field ids), fields_size ids)

ids_size : (ids : List ℕ) → length (ids_found ids) ≡ 12 + length (flat_map field ids)
ids_size ids = simp length-append (omega arith)

-- four bytes each, and not too many
pub ids_fit : (all ids : List ℕ) → length all ≤ 2 * file_limit + 2 → AreIdsOf all ids → All (λ n. n < 2 ^ 32) ids × (length (ids_found ids) ≤ entry_limit)
ids_fit all ids few are = (
  All-from_recursion (λ n. n < 2 ^ 32) ids (all_weaker (IsIdOf all) (λ n. n < 2 ^ 32) (λ n is. is.0) ids are.0),
  omega (arith, ids_size ids, fields_size ids, ids_few all ids are, few),
)

found_sent : (all ids : List ℕ) → length all ≤ 2 * file_limit + 2 → AreIdsOf all ids → IsSent entry_limit InitGroups (found_ids ids)
found_sent all [] few are = none_sent InitGroups
found_sent all (id ∷ ids) few are = let fit = ids_fit all (id ∷ ids) few are in ((refl, fit.0), fit.1)

pub ids_sent : (all ids : List ℕ) → length all ≤ 2 * file_limit + 2 → AllByRecursion (IsIdOf all) ids → IsSent entry_limit InitGroups (found_ids (each_once ids))
ids_sent all ids few each = found_sent all (each_once ids) few (once_are all ids each)
