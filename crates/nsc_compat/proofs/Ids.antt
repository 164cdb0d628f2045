-- The ids of a user's groups, gathered saying by saying.
use Rattle.std.proofs.Common.{◌≡◌, ℕ, ◌+◌, ◌<◌, true, false, not, cond, ◌&&◌, if◌then◌else◌, List, [], ◌∷◌, ◌++◌, drop, filter, get_or, length, map, Option, Some, None, refl, sym, ◌∙◌, ap}
use Rattle.std.specs.Option.{option_map}
use Rattle.std.proofs.lemmas.List.{at_drop_more}
use Rattle.nsc_model.specs.declared.row.Group.{Group}
use Rattle.nsc_model.specs.declared.row.Looked.{Looked}
use Rattle.nsc_model.specs.declared.row.Looked.TheVariants.{Unavail}
use Rattle.nsc_model.specs.Answers.{found_ids, found_or_unavail}
use Rattle.nsc_model.specs.Compat.{IdScan, Saying, Own, Excludes, Asks, AsksAll, Netgroup, before_ids, gather_saying, gathered, id_of_group, ids_of_pairs, is_excluded, sayings}
use Rattle.nsc_accounts.specs.Once.{all_ids, with_id}
use Rattle.nsc_accounts.proofs.Collected.{all_once}
use Rattle.nsc_accounts.specs.declared.named_id.NamedId.{NamedId}
use Rattle.nsc_compat.specs.Gathered.{unless_excluded}
use Rattle.nsc_compat.specs.Lines.{ids_or_unavail}
use Rattle.nsc_compat.specs.Names.{SameNames}
use Rattle.nsc_accounts.specs.NamedId.{pair_of}
use Rattle.nsc_compat.proofs.Scans.{with_name}

-- ---- ids after others

all_joined : (ids these those : List ℕ) → all_ids ids (these ++ those) ≡ all_ids (all_ids ids these) those
all_joined ids [] those = refl
all_joined ids (n ∷ these) those = all_joined (with_id ids n) these those

before_added : (ids added : List ℕ) (o : Option (List ℕ)) → option_map (all_ids ids) (before_ids added o) ≡ option_map (all_ids (all_ids ids added)) o
before_added ids added None = refl
before_added ids added (Some more) = ap Some (all_joined ids added more)

-- ---- the pairs of further services

one_pair : (excluded : List (List ℕ)) (ids : List ℕ) (group : NamedId) (groups : List NamedId) → all_ids ids (ids_of_pairs excluded (map pair_of (group ∷ groups))) ≡ all_ids (all_ids ids (unless_excluded excluded group.name group.gid)) (ids_of_pairs excluded (map pair_of groups))
one_pair excluded ids group groups =
    let later = filter (λ p. not (is_excluded excluded p.0)) (map pair_of groups) in
    elim (is_excluded excluded group.name) as (λ v. all_ids ids (map (λ p. p.1) (cond (not v) (pair_of group ∷ later) later)) ≡ all_ids (all_ids ids (if v then [] else group.gid ∷ [])) (map (λ p. p.1) later)) [
      | true ↦ refl
      | false ↦ refl
    ]

pub pair_added : (excluded : List (List ℕ)) (ids now : List ℕ) (groups : List NamedId) (n : ℕ) (group : NamedId) (answer : List ℕ) → n < length groups → group ≡ get_or groups n group → now ≡ all_ids ids (unless_excluded excluded group.name group.gid)
    → all_ids ids (ids_of_pairs excluded (map pair_of (drop n groups))) ≡ answer → all_ids now (ids_of_pairs excluded (map pair_of (drop (n + 1) groups))) ≡ answer
pair_added excluded ids now groups n group answer l is added left =
    let rest = drop (n + 1) groups in
    ap (λ (those : List ℕ). all_ids those (ids_of_pairs excluded (map pair_of rest))) added ∙ sym (one_pair excluded ids group rest)
    ∙ ap (λ (g : NamedId). all_ids ids (ids_of_pairs excluded (map pair_of (g ∷ rest)))) is
    ∙ sym (at_drop_more (λ groups_left. all_ids ids (ids_of_pairs excluded (map pair_of groups_left))) groups n group l) ∙ left

-- ---- which names are excluded counts, and not how they are listed

group_same : (scan : IdScan) (these those : List (List ℕ)) → SameNames these those → (o : Option Group) → id_of_group scan these o ≡ id_of_group scan those o
group_same scan these those same None = refl
group_same scan these those same (Some g) = ap (λ v. if scan.has_user g && not v then g.gid ∷ [] else []) (same g.name)

pairs_same : (these those : List (List ℕ)) → SameNames these those → (pairs : List (List ℕ × ℕ)) → ids_of_pairs these pairs ≡ ids_of_pairs those pairs
pairs_same these those same [] = refl
pairs_same these those same (p ∷ pairs) =
    let later = pairs_same these those same pairs in
    let whole = filter (λ q. not (is_excluded these q.0)) pairs in
    let others = filter (λ q. not (is_excluded those q.0)) pairs in
    ap (λ v. map (λ q. q.1) (cond (not v) (p ∷ whole) whole)) (same p.0)
    ∙ elim (is_excluded those p.0) as (λ v. map (λ q. q.1) (cond (not v) (p ∷ whole) whole) ≡ map (λ q. q.1) (cond (not v) (p ∷ others) others)) [
      | true ↦ later
      | false ↦ ap (λ (ids : List ℕ). p.1 ∷ ids) later
    ]

before_same : (these those : List ℕ) (o p : Option (List ℕ)) → these ≡ those → o ≡ p → before_ids these o ≡ before_ids those p
before_same these those o p e f = ap (λ (ids : List ℕ). before_ids ids o) e ∙ ap (before_ids those) f

saying_same : (scan : IdScan) (saying : Saying) (these those : List (List ℕ)) (next : List (List ℕ) → Option (List ℕ)) → ((a b : List (List ℕ)) → SameNames a b → next a ≡ next b) → SameNames these those → gather_saying scan these saying next ≡ gather_saying scan those saying next
saying_same scan (Own line) these those next each same = before_same (id_of_group scan these (scan.group_of line)) (id_of_group scan those (scan.group_of line)) (next these) (next those) (group_same scan these those same (scan.group_of line)) (each these those same)
saying_same scan (Excludes name) these those next each same = each (name ∷ these) (name ∷ those) (with_name name these those same)
saying_same scan (Asks name fields) these those next each same =
    before_same (id_of_group scan these (scan.by_name name)) (id_of_group scan those (scan.by_name name)) (next these) (next those) (group_same scan these those same (scan.by_name name)) (each these those same)
saying_same scan (AsksAll fields) these those next each same = before_same (ids_of_pairs these scan.pairs) (ids_of_pairs those scan.pairs) (next these) (next those) (pairs_same these those same scan.pairs) (each these those same)
saying_same scan Netgroup these those next each same = refl

gathered_same : (scan : IdScan) (later : List Saying) (these those : List (List ℕ)) → SameNames these those → gathered scan later these ≡ gathered scan later those
gathered_same scan [] these those same = refl
gathered_same scan (saying ∷ later) these those same = saying_same scan saying these those (gathered scan later) (gathered_same scan later) same

-- ---- line by line

-- what is gathered from some sayings on, after these ids
abbrev after_ids : IdScan → List ℕ → List Saying → List (List ℕ) → Option (List ℕ)
after_ids scan ids later excluded = option_map (all_ids ids) (gathered scan later excluded)

-- and its outcome
abbrev pub outcome_after : IdScan → List ℕ → List Saying → List (List ℕ) → Looked
outcome_after scan ids later excluded = ids_or_unavail (after_ids scan ids later excluded)

-- the outcome of a line is that of what it says
said_line : (scan : IdScan) (line : List ℕ) (excluded : List (List ℕ)) (ids : List ℕ) (said : List Saying) → said ≡ sayings line → (later : List Saying) → outcome_after scan ids (said ++ later) excluded ≡ outcome_after scan ids (sayings line ++ later) excluded
said_line scan line excluded ids said is later = ap (λ (s : List Saying). outcome_after scan ids (s ++ later) excluded) is

pub name_excluded : (scan : IdScan) (line name : List ℕ) (excluded more : List (List ℕ)) (ids : List ℕ) → Excludes name ∷ [] ≡ sayings line → SameNames more (name ∷ excluded) → (later : List Saying) → outcome_after scan ids later more ≡ outcome_after scan ids (sayings line ++ later) excluded
name_excluded scan line name excluded more ids is same later =
    ap (λ o. ids_or_unavail (option_map (all_ids ids) o)) (gathered_same scan later more (name ∷ excluded) same) ∙ said_line scan line excluded ids (Excludes name ∷ []) is later

-- a line that adds ids
ids_added : (scan : IdScan) (line : List ℕ) (excluded : List (List ℕ)) (ids now added : List ℕ) (saying : Saying) → ((later : List Saying) → before_ids added (gathered scan later excluded) ≡ gathered scan (saying ∷ later) excluded) → saying ∷ [] ≡ sayings line
    → now ≡ all_ids ids added → (later : List Saying) → outcome_after scan now later excluded ≡ outcome_after scan ids (sayings line ++ later) excluded
ids_added scan line excluded ids now added saying adds is e later =
    ap (λ (those : List ℕ). outcome_after scan those later excluded) e ∙ ap ids_or_unavail (sym (before_added ids added (gathered scan later excluded)) ∙ ap (option_map (all_ids ids)) (adds later)) ∙ said_line scan line excluded ids (saying ∷ []) is later

pub own_added : (scan : IdScan) (line : List ℕ) (excluded : List (List ℕ)) (ids now : List ℕ) → Own line ∷ [] ≡ sayings line → now ≡ all_ids ids (id_of_group scan excluded (scan.group_of line))
    → (later : List Saying) → outcome_after scan now later excluded ≡ outcome_after scan ids (sayings line ++ later) excluded
own_added scan line excluded ids now is e = ids_added scan line excluded ids now (id_of_group scan excluded (scan.group_of line)) (Own line) (λ later. refl) is e

pub found_added : (scan : IdScan) (line name : List ℕ) (fields : List (List ℕ)) (excluded : List (List ℕ)) (ids now : List ℕ) → Asks name fields ∷ [] ≡ sayings line → now ≡ all_ids ids (id_of_group scan excluded (scan.by_name name))
    → (later : List Saying) → outcome_after scan now later excluded ≡ outcome_after scan ids (sayings line ++ later) excluded
found_added scan line name fields excluded ids now is e = ids_added scan line excluded ids now (id_of_group scan excluded (scan.by_name name)) (Asks name fields) (λ later. refl) is e

pub pairs_added : (scan : IdScan) (line : List ℕ) (fields : List (List ℕ)) (excluded : List (List ℕ)) (ids now : List ℕ) → AsksAll fields ∷ [] ≡ sayings line → now ≡ all_ids ids (ids_of_pairs excluded scan.pairs)
    → (later : List Saying) → outcome_after scan now later excluded ≡ outcome_after scan ids (sayings line ++ later) excluded
pairs_added scan line fields excluded ids now is e = ids_added scan line excluded ids now (ids_of_pairs excluded scan.pairs) (AsksAll fields) (λ later. refl) is e

-- a netgroup leaves nothing
pub netgroup_reached : (scan : IdScan) (line : List ℕ) (excluded : List (List ℕ)) (ids : List ℕ) → Netgroup ∷ [] ≡ sayings line → (later : List Saying) → Unavail ≡ outcome_after scan ids (sayings line ++ later) excluded
netgroup_reached scan line excluded ids is later = said_line scan line excluded ids (Netgroup ∷ []) is later

pub nothing_added : (scan : IdScan) (line : List ℕ) (excluded : List (List ℕ)) (ids : List ℕ) → [] ≡ sayings line → (later : List Saying) → outcome_after scan ids later excluded ≡ outcome_after scan ids (sayings line ++ later) excluded
nothing_added scan line excluded ids is later = said_line scan line excluded ids [] is later

-- ---- the whole file

all_left : (o : Option (List ℕ)) → ids_or_unavail (option_map (all_ids []) o) ≡ found_or_unavail o
all_left None = refl
all_left (Some ids) = ap found_ids (all_once ids)

-- at first there is no id, and no name is excluded
pub all_gathered : (scan : IdScan) (said : List Saying) (ids : List ℕ) (excluded : List (List ℕ)) → ids ≡ [] → excluded ≡ [] → outcome_after scan ids said excluded ≡ found_or_unavail (gathered scan said [])
all_gathered scan said ids excluded none no_name = ap (λ those. outcome_after scan those said excluded) none ∙ ap (outcome_after scan [] said) no_name ∙ all_left (gathered scan said [])
