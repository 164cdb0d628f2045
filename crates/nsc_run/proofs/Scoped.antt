-- The scopes that lists make, name by name.
use Rattle.std.proofs.Common.{◌≡◌, ◌∙◌, Bool, true, false, List, [], ◌∷◌, ◌++◌, Option, Some, None, ap, refl, sym, subst, codes}
use Rattle.std.specs.Prelude.{◌&&◌, ◌||◌, not, is_some, option_map, option_and_then, if◌then◌else◌}
use Rattle.std.specs.List.{list_all}
use Rattle.std.specs.Str.{bytes_eq}
use Rattle.std.proofs.lemmas.List.Folds.{list_any-append}
use Rattle.std.proofs.lemmas.Slice.Eq.{bytes_eq-Decides}
use Rattle.clap.specs.Walk.{Text}
use Rattle.nsc_model.specs.declared.kind.Db.{Db}
use Rattle.nsc_model.specs.declared.kind.Db.TheVariants as db
use Rattle.nsc_model.specs.Kinds.{db_named, name_of}
use Rattle.nsc_server.specs.declared.scope.Scope.TheVariants as scope
use Rattle.nsc_server.specs.declared.scope.Scopes.{Scopes}
use Rattle.nsc_run.specs.declared.lists.Named.{Named}
use Rattle.nsc_run.specs.Lists.{has_name, is_database, is_distinct, is_leavable, scope_by, scopes_by, scopes_named}
use Rattle.nsc_server.specs.Scopes.{scopes_with}
use Rattle.nsc_run.specs.Named.{is_whole, with_name, with_named, with_names}

-- what these names make
abbrev pub named_by : List Text → List Text → Named
named_by found left = record { scopes = scopes_by found left; has_netgroup = has_name left (codes "netgroup") }

-- ---- one name more

-- a name is that of a database, or of none
module _ (name : Text) (P : Text → Type 0) (passwd : P (name_of db.Passwd)) (group : P (name_of db.Group)) (hosts : P (name_of db.Hosts)) (services : P (name_of db.Services)) (other : db_named name ≡ None → P name) where
  is_that : (text : Text) → bytes_eq name text ≡ true → P text → P name
  is_that text is holds = subst P (sym ((bytes_eq-Decides name text).0 is)) holds

  by_database_at : (a b c d : Bool) → bytes_eq name (name_of db.Passwd) ≡ a → bytes_eq name (name_of db.Group) ≡ b → bytes_eq name (name_of db.Hosts) ≡ c → bytes_eq name (name_of db.Services) ≡ d → P name
  by_database_at true b c d at_a at_b at_c at_d = is_that (name_of db.Passwd) at_a passwd
  by_database_at false true c d at_a at_b at_c at_d = is_that (name_of db.Group) at_b group
  by_database_at false false true d at_a at_b at_c at_d = is_that (name_of db.Hosts) at_c hosts
  by_database_at false false false true at_a at_b at_c at_d = is_that (name_of db.Services) at_d services
  by_database_at false false false false at_a at_b at_c at_d = other (λ i.
      if at_a i then Some db.Passwd else (if at_b i then Some db.Group else (if at_c i then Some db.Hosts else (if at_d i then Some db.Services else None))))

  by_database : P name
  by_database = by_database_at _ _ _ _ refl refl refl refl

pick_found : (v : Bool) (x : Named) → (if is_whole (if v then scope.FoundOnly else scope.Whole) then Some x else None) ≡ (if not v then Some x else None)
pick_found true x = refl
pick_found false x = refl

pick_left : (v w : Bool) (x : Named) (y : Bool → Named) → x ≡ y false → (if is_whole (if v then scope.FoundOnly else (if w then scope.Left else scope.Whole)) then Some x else None) ≡ (if not (w || v) then Some (y v) else None)
pick_left true true x y same = refl
pick_left true false x y same = refl
pick_left false true x y same = refl
pick_left false false x y same = ap (λ n. Some n) same

-- a name of which only found entries are told
abbrev FoundStep : List Text → Text → Type 0
FoundStep found name = with_name scope.FoundOnly name (named_by found []) ≡ (if is_database name && not (has_name found name) then Some (named_by (name ∷ found) []) else None)

found_other : (found : List Text) (name : Text) → db_named name ≡ None → FoundStep found name
found_other found name is =
    ap (λ d. with_named scope.FoundOnly d name (named_by found [])) is
    ∙ ap (λ d. if is_some d && not (has_name found name) then Some (named_by (name ∷ found) []) else None) (sym is)

found_step : (found : List Text) (name : Text) → FoundStep found name
found_step found name = by_database name (FoundStep found)
    (pick_found (has_name found (name_of db.Passwd)) (named_by (name_of db.Passwd ∷ found) []))
    (pick_found (has_name found (name_of db.Group)) (named_by (name_of db.Group ∷ found) []))
    (pick_found (has_name found (name_of db.Hosts)) (named_by (name_of db.Hosts ∷ found) []))
    (pick_found (has_name found (name_of db.Services)) (named_by (name_of db.Services ∷ found) []))
    (found_other found name)

-- a name that is left
abbrev LeftStep : List Text → List Text → Text → Type 0
LeftStep found left name = with_name scope.Left name (named_by found left) ≡ (if is_leavable name && not (has_name (left ++ found) name) then Some (named_by found (name ∷ left)) else None)

has_name-append : (front back : List Text) (name : Text) → has_name (front ++ back) name ≡ (has_name front name || has_name back name)
has_name-append front back name = list_any-append (λ other. bytes_eq other name) front back

netgroup_once : (v : Bool) (x : Named) → (if not v then Some x else None) ≡ (if not (v || false) then Some x else None)
netgroup_once true x = refl
netgroup_once false x = refl

module _ (found left : List Text) (no_netgroup : has_name found (codes "netgroup") ≡ false) where
  abbrev scoped : Db → Bool → Named
  scoped which v = record (named_by found left) { scopes = scopes_with which (if v then scope.FoundOnly else scope.Left) (scopes_by found left) }

  left_database : (which : Db) → (if is_whole (scope_by found left which) then Some (scoped which false) else None) ≡ (if not (has_name (left ++ found) (name_of which)) then Some (scoped which (has_name found (name_of which))) else None)
  left_database which =
      pick_left (has_name found (name_of which)) (has_name left (name_of which)) (scoped which false) (scoped which) refl
      ∙ ap (λ has. if not has then Some (scoped which (has_name found (name_of which))) else None) (sym (has_name-append left found (name_of which)))

  left_netgroup : LeftStep found left (codes "netgroup")
  left_netgroup =
      let x = named_by found (codes "netgroup" ∷ left) in
      netgroup_once (has_name left (codes "netgroup")) x
      ∙ ap (λ has. if not has then Some x else None) (ap (λ has. has_name left (codes "netgroup") || has) (sym no_netgroup) ∙ sym (has_name-append left found (codes "netgroup")))

  left_other_at : (name : Text) (b : Bool) → bytes_eq name (codes "netgroup") ≡ b → db_named name ≡ None → LeftStep found left name
  left_other_at name true is none = subst (LeftStep found left) (sym ((bytes_eq-Decides name (codes "netgroup")).0 is)) left_netgroup
  left_other_at name false is none =
      ap (λ d. with_named scope.Left d name (named_by found left)) none
      ∙ ap (λ b. if b && not (has_name left (codes "netgroup")) then Some (record (named_by found left) { has_netgroup = true }) else None) is
      ∙ (λ i. if (is_some (sym none i) || sym is i) && not (has_name (left ++ found) name) then Some (named_by found (name ∷ left)) else None)

  left_step : (name : Text) → LeftStep found left name
  left_step name = by_database name (LeftStep found left)
      (left_database db.Passwd)
      (left_database db.Group)
      (left_database db.Hosts)
      (left_database db.Services)
      (left_other_at name _ refl)

-- ---- names more

-- no name is among those before it, nor among others that were seen
abbrev all_new : List Text → List Text → Bool
all_new seen [] = true
all_new seen (name ∷ names) = not (has_name seen name) && all_new (name ∷ seen) names

-- names, the last first, onto others
abbrev onto : List Text → List Text → List Text
onto [] others = others
onto (name ∷ names) others = onto names (name ∷ others)

-- one name that may stand there and is new, and then more of them
glue : (may new may_more new_more : Bool) (more : Named → Option Named) (x y : Named) → more x ≡ (if may_more && new_more then Some y else None)
    → option_and_then more (if may && new then Some x else None) ≡ (if (may && may_more) && (new && new_more) then Some y else None)
glue false new may_more new_more more x y is = refl
glue true false false new_more more x y is = refl
glue true false true new_more more x y is = refl
glue true true may_more new_more more x y is = is

found_all : (names found : List Text) → with_names scope.FoundOnly names (named_by found []) ≡ (if list_all is_database names && all_new found names then Some (named_by (onto names found) []) else None)
found_all [] found = refl
found_all (name ∷ names) found =
    ap (λ step. option_and_then (λ more. with_names scope.FoundOnly names more) step) (found_step found name)
    ∙ glue (is_database name) (not (has_name found name)) (list_all is_database names) (all_new (name ∷ found) names) (λ more. with_names scope.FoundOnly names more) (named_by (name ∷ found) []) (named_by (onto names (name ∷ found)) []) (found_all names (name ∷ found))

left_all : (found : List Text) → has_name found (codes "netgroup") ≡ false → (names left : List Text)
    → with_names scope.Left names (named_by found left) ≡ (if list_all is_leavable names && all_new (left ++ found) names then Some (named_by found (onto names left)) else None)
left_all found no_netgroup [] left = refl
left_all found no_netgroup (name ∷ names) left =
    ap (λ step. option_and_then (λ more. with_names scope.Left names more) step) (left_step found left no_netgroup name)
    ∙ glue (is_leavable name) (not (has_name (left ++ found) name)) (list_all is_leavable names) (all_new (name ∷ (left ++ found)) names) (λ more. with_names scope.Left names more) (named_by found (name ∷ left)) (named_by found (onto names (name ∷ left))) (left_all found no_netgroup names (name ∷ left))

-- ---- which names there are

or_turned : (a b c : Bool) → (a || (b || c)) ≡ ((b || a) || c)
or_turned true true c = refl
or_turned true false c = refl
or_turned false true c = refl
or_turned false false c = refl

or_false : (a : Bool) → (a || false) ≡ a
or_false true = refl
or_false false = refl

has_name-onto : (names others : List Text) (name : Text) → has_name (onto names others) name ≡ (has_name names name || has_name others name)
has_name-onto [] others name = refl
has_name-onto (n ∷ names) others name =
    has_name-onto names (n ∷ others) name ∙ or_turned (has_name names name) (bytes_eq n name) (has_name others name)

has_same : (names : List Text) (name : Text) → has_name (onto names []) name ≡ has_name names name
has_same names name = has_name-onto names [] name ∙ or_false (has_name names name)

scope_same : (found left : List Text) (which : Db) → scope_by (onto found []) (onto left []) which ≡ scope_by found left which
scope_same found left which = λ i. if has_same found (name_of which) i then scope.FoundOnly else (if has_same left (name_of which) i then scope.Left else scope.Whole)

scopes_same : (found left : List Text) → scopes_by (onto found []) (onto left []) ≡ scopes_by found left
scopes_same found left = λ i. record {
  passwd = scope_same found left db.Passwd i;
  group = scope_same found left db.Group i;
  hosts = scope_same found left db.Hosts i;
  services = scope_same found left db.Services i;
}

and_true : (a b : Bool) → (a && b) ≡ true → (a ≡ true) × (b ≡ true)
and_true true b h = (refl, h)
and_true false b h = (h, absurd (let never : false ≡ true = h in cc))

-- the name of the netgroups is that of no database
no_netgroup_in : (names : List Text) → list_all is_database names ≡ true → has_name names (codes "netgroup") ≡ false
no_netgroup_in [] all = refl
no_netgroup_in (name ∷ names) all =
    let both = and_true (is_database name) (list_all is_database names) all in
    no_netgroup_at name names _ refl both.0 ∙ no_netgroup_in names both.1
  where
    no_netgroup_at : (name : Text) (names : List Text) (b : Bool) → bytes_eq name (codes "netgroup") ≡ b → is_database name ≡ true → has_name (name ∷ names) (codes "netgroup") ≡ has_name names (codes "netgroup")
    no_netgroup_at name names true is known = absurd (let never : false ≡ true = ap is_database (sym ((bytes_eq-Decides name (codes "netgroup")).0 is)) ∙ known in cc)
    no_netgroup_at name names false is known = ap (λ b. b || has_name names (codes "netgroup")) is

-- ---- names that occur once

-- no name of one list is among others
abbrev is_apart : List Text → List Text → Bool
is_apart seen names = list_all (λ name. not (has_name seen name)) names

same_from : (a b : Bool) → (a ≡ true → b ≡ true) → (b ≡ true → a ≡ true) → a ≡ b
same_from true true f g = refl
same_from false false f g = refl
same_from true false f g = sym (f refl)
same_from false true f g = g refl

bytes_eq-sym : (a b : Text) → bytes_eq a b ≡ bytes_eq b a
bytes_eq-sym a b = same_from (bytes_eq a b) (bytes_eq b a)
    (λ h. (bytes_eq-Decides b a).1 (sym ((bytes_eq-Decides a b).0 h))) (λ h. (bytes_eq-Decides a b).1 (sym ((bytes_eq-Decides b a).0 h)))

apart_turned : (a b c d : Bool) → (not (a || b) && (c && not d)) ≡ ((not b && c) && not (a || d))
apart_turned true true c d = refl
apart_turned true false true d = refl
apart_turned true false false d = refl
apart_turned false true c d = refl
apart_turned false false c d = refl

apart_more : (name : Text) (seen names : List Text) → is_apart (name ∷ seen) names ≡ (is_apart seen names && not (has_name names name))
apart_more name seen [] = refl
apart_more name seen (n ∷ names) =
    (λ i. not (bytes_eq-sym name n i || has_name seen n) && apart_more name seen names i)
    ∙ apart_turned (bytes_eq n name) (has_name seen n) (is_apart seen names) (has_name names name)

new_turned : (a b c d : Bool) → (a && ((b && c) && d)) ≡ ((a && b) && (c && d))
new_turned true true c d = refl
new_turned true false c d = refl
new_turned false b c d = refl

new_by : (seen names : List Text) → all_new seen names ≡ (is_apart seen names && is_distinct names)
new_by seen [] = refl
new_by seen (name ∷ names) =
    ap (λ b. not (has_name seen name) && b) (new_by (name ∷ seen) names ∙ ap (λ b. b && is_distinct names) (apart_more name seen names))
    ∙ new_turned (not (has_name seen name)) (is_apart seen names) (not (has_name names name)) (is_distinct names)

apart_none : (names : List Text) → is_apart [] names ≡ true
apart_none [] = refl
apart_none (name ∷ names) = apart_none names

and_regrouped : (a b c : Bool) → (a && (b && c)) ≡ ((a && b) && c)
and_regrouped true b c = refl
and_regrouped false b c = refl

new_append : (seen names more : List Text) → all_new seen (names ++ more) ≡ (all_new seen names && all_new (onto names seen) more)
new_append seen [] more = refl
new_append seen (name ∷ names) more =
    ap (λ b. not (has_name seen name) && b) (new_append (name ∷ seen) names more)
    ∙ and_regrouped (not (has_name seen name)) (all_new (name ∷ seen) names) (all_new (onto names (name ∷ seen)) more)

distinct_by : (found left : List Text) → is_distinct (found ++ left) ≡ (all_new [] found && all_new (onto found []) left)
distinct_by found left = sym (new_by [] (found ++ left) ∙ ap (λ b. b && is_distinct (found ++ left)) (apart_none (found ++ left))) ∙ new_append [] found left

-- ---- both lists

-- the names of both lists, one after another
abbrev pub named_in : List Text → List Text → Option Named
named_in found left = option_and_then (λ named. with_names scope.Left left named) (with_names scope.FoundOnly found (named_by [] []))

abbrev pub scopes_in : List Text → List Text → Option Scopes
scopes_in found left = option_map (λ named. named.scopes) (named_in found left)

if_never : (found left : List Text) (b : Bool) → None ≡ (if b && false then Some (scopes_by found left) else None)
if_never found left true = refl
if_never found left false = refl

both_at : (found left : List Text) (known new : Bool) → list_all is_database found ≡ known → all_new [] found ≡ new
    → scopes_in found left ≡ (if (known && list_all is_leavable left) && (new && all_new (onto found []) left) then Some (scopes_by found left) else None)
both_at found left known new is_known is_new =
    ap (λ step. option_map (λ named. named.scopes) (option_and_then (λ named. with_names scope.Left left named) step)) (found_all found [] ∙ (λ i. if is_known i && is_new i then Some (named_by (onto found []) []) else None))
    ∙ rest_at known new is_known
  where
    rest_at : (known new : Bool) → list_all is_database found ≡ known
        → option_map (λ named. named.scopes) (option_and_then (λ named. with_names scope.Left left named) (if known && new then Some (named_by (onto found []) []) else None))
        ≡ (if (known && list_all is_leavable left) && (new && all_new (onto found []) left) then Some (scopes_by found left) else None)
    rest_at false new is = refl
    rest_at true false is = if_never found left (list_all is_leavable left)
    rest_at true true is =
        ap (λ step. option_map (λ named. named.scopes) step) (left_all (onto found []) (has_same found (codes "netgroup") ∙ no_netgroup_in found is) left [])
        ∙ some_if (list_all is_leavable left && all_new (onto found []) left)
      where
        some_if : (b : Bool) → option_map (λ (named : Named). named.scopes) (if b then Some (named_by (onto found []) (onto left [])) else None) ≡ (if b then Some (scopes_by found left) else None)
        some_if true = ap (λ s. Some s) (scopes_same found left)
        some_if false = refl

-- Names one after another make the scopes that they make together.
pub scopes_by_names : (found left : List Text) → scopes_in found left ≡ scopes_named found left
scopes_by_names found left =
    both_at found left _ _ refl refl
    ∙ ap (λ b. if (list_all is_database found && list_all is_leavable left) && b then Some (scopes_by found left) else None) (sym (distinct_by found left))

module _ (found left : List Text) where
  -- a name of the first list makes no scopes
  pub none_of_found : with_names scope.FoundOnly found (named_by [] []) ≡ None → None ≡ scopes_named found left
  none_of_found is = ap (λ step. option_map (λ named. named.scopes) (option_and_then (λ named. with_names scope.Left left named) step)) (sym is) ∙ scopes_by_names found left

  -- all of the first do, and these of both
  pub made_of_both : (named : Named) (all : Option Named) → with_names scope.FoundOnly found (named_by [] []) ≡ Some named → with_names scope.Left left named ≡ all
      → option_map (λ named. named.scopes) all ≡ scopes_named found left
  made_of_both named all is is_all =
      ap (λ step. option_map (λ named. named.scopes) step) (sym is_all)
      ∙ ap (λ step. option_map (λ named. named.scopes) (option_and_then (λ named. with_names scope.Left left named) step)) (sym is)
      ∙ scopes_by_names found left
