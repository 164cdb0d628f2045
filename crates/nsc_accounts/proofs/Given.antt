-- The entries that further services give for a name have that name.
use Rattle.std.proofs.Common.{◌≡◌, ℕ, ◌==◌, nat_le, Bool, true, false, ◌&&◌, if◌then◌else◌, List, [], ◌∷◌, length, filter, IfSome, Option, Some, None, refl, ◌∙◌}
use Rattle.std.proofs.lemmas.Slice.Eq.{bytes_eq-Decides}
use Rattle.std.specs.List.{filter_map}
use Rattle.std.specs.Str.{bytes_eq}
use Rattle.nsc_base.specs.Text.{lines_of}
use Rattle.nsc_model.specs.declared.kind.Db.TheVariants as db
use Rattle.nsc_model.specs.declared.kind.Kind.TheVariants as kind
use Rattle.nsc_model.specs.declared.kind.Kind.{Kind}
use Rattle.nsc_model.specs.declared.row.Group.{Group}
use Rattle.nsc_model.specs.declared.row.Looked.TheVariants.{Found, NotFound, Unavail}
use Rattle.nsc_model.specs.declared.row.Looked.{Looked}
use Rattle.nsc_model.specs.declared.row.Row.TheVariants as row
use Rattle.nsc_model.specs.declared.row.Row.{Row}
use Rattle.nsc_model.specs.declared.switch.SwitchAction.TheVariants.{Return, Continue, Merge}
use Rattle.nsc_model.specs.declared.switch.SwitchAction.{SwitchAction}
use Rattle.nsc_model.specs.declared.switch.SwitchService.TheVariants as service
use Rattle.nsc_model.specs.declared.switch.SwitchService.{SwitchService}
use Rattle.nsc_model.specs.declared.switch.SwitchStep.{SwitchStep}
use Rattle.nsc_model.specs.Answers.{file_entry, found_first, group_in, group_named, join_limit, joined, joined_group, joined_ids, joined_row, merges, row_in, stepped, sub_answer, sub_looked, switched, switched_on, user_in, user_named, with_members}
use Rattle.nsc_model.specs.Content.{Content}
use Rattle.nsc_model.specs.Entries.{first_of, named_in}
use Rattle.nsc_model.specs.Groups.{group_of_line}
use Rattle.nsc_model.specs.Services.{action_at}
use Rattle.nsc_model.specs.Switches.{compat_list}
use Rattle.nsc_model.specs.Users.{user_of_line}
use Rattle.nsc_model.specs.Wire.{group_found as group_spelled}

-- P holds of the row that is held, if one is
abbrev Held : (Looked → Type 0) → Option Row → Type 0
Held P held = IfSome held (λ h. P (Found h))

-- P holds of a joined row where it holds of both
abbrev Joins : (Looked → Type 0) → Type 0
Joins P = (h g : Row) → P (Found h) → P (Found g) → P (Found (joined_row h g))

joined_keeps : (P : Looked → Type 0) → Joins P → (held : Option Row) → Held P held → (outcome : Looked) → P outcome → P (joined held outcome)
joined_keeps P joins None has outcome is = is
joined_keeps P joins (Some h) has (Found g) is = joins h g has is
joined_keeps P joins (Some h) has NotFound is = has
joined_keeps P joins (Some h) has Unavail is = has

row_keeps : (P : Looked → Type 0) (outcome : Looked) → P outcome → Held P (row_in outcome)
row_keeps P (Found h) is = is
row_keeps P NotFound is = tt
row_keeps P Unavail is = tt

stepped_keeps : (P : Looked → Type 0) → Joins P → (by : Kind) (action : SwitchAction) (held : Option Row) → Held P held → (outcome : Looked) → P outcome → (next : Option Row → Looked)
    → ((row : Option Row) → Held P row → P (next row)) → P (stepped by action held outcome next)
stepped_keeps P joins by Return held has outcome is next later = joined_keeps P joins held has outcome is
stepped_keeps P joins by Merge held has outcome is next later =
    let all = joined_keeps P joins held has outcome is in
    elim (merges by outcome) as (λ v. P (if v then next (row_in (joined held outcome)) else joined held outcome)) [
      | true ↦ later (row_in (joined held outcome)) (row_keeps P (joined held outcome) all)
      | false ↦ all
    ]
stepped_keeps P joins by Continue held has outcome is next later = later held has

-- what holds of each outcome, and of rows that are joined, holds of that of a switch
switched_on_keeps : (P : Looked → Type 0) → Joins P → (by : Kind) (look : SwitchService → Looked) → P Unavail → ((s : SwitchService) → P (look s)) → (held : Option Row) → Held P held → (steps : List SwitchStep)
    → P (switched_on by look held steps)
switched_on_keeps P joins by look none each held has [] = joined_keeps P joins held has Unavail none
switched_on_keeps P joins by look none each held has (step ∷ []) = joined_keeps P joins held has (look step.service) (each step.service)
switched_on_keeps P joins by look none each held has (step ∷ next ∷ steps) =
    stepped_keeps P joins by (action_at step (look step.service)) held has (look step.service) (each step.service) (λ row. switched_on by look row (next ∷ steps))
    (λ row is. switched_on_keeps P joins by look none each row is (next ∷ steps))

switched_keeps : (P : Looked → Type 0) → Joins P → (by : Kind) (look : SwitchService → Looked) → P Unavail → ((s : SwitchService) → P (look s)) → (steps : List SwitchStep) → P (switched by look steps)
switched_keeps P joins by look none each steps = switched_on_keeps P joins by look none each None tt steps

-- the first of the entries that are named is one of them
first_is_named : {A : Type 0} (names : A → Bool) (entries : List A) → IfSome (first_of (filter names entries)) (λ a. names a ≡ true)
first_is_named names [] = tt
first_is_named names (a ∷ entries) =
    elim (names a) as (λ v. names a ≡ v → IfSome (first_of (if v then a ∷ filter names entries else filter names entries)) (λ x. names x ≡ true)) [
      | true ↦ λ is. is
      | false ↦ λ is. first_is_named names entries
    ] refl

-- an outcome has an entry of this name, if it has one
UserOf : List ℕ → Looked → Type 0
UserOf name looked = IfSome (user_in looked) (λ p. p.name ≡ name)

GroupOf : List ℕ → Looked → Type 0
GroupOf name looked = IfSome (group_in looked) (λ g. g.name ≡ name)

-- a row is joined only where both are groups, or both are ids
each_row_joins : (P : Looked → Type 0) → ((h g : Group) → P (Found (row.Group h)) → P (Found (row.Group (joined_group h g))))
    → ((ids others : List ℕ) → P (Found (row.Groups ids)) → P (Found (row.Groups (joined_ids ids others)))) → Joins P
each_row_joins P groups ids (row.Group h) (row.Group g) has is = groups h g has
each_row_joins P groups ids (row.Groups i) (row.Groups others) has is = ids i others has
each_row_joins P groups ids held other has is = has

-- a joined group has the name of the held one
joined_name : (h g : Group) → (joined_group h g).name ≡ h.name
joined_name h g =
    elim (bytes_eq h.name g.name && h.gid == g.gid && nat_le (length (group_spelled (with_members h g))) join_limit) as (λ v. (if v then with_members h g else h).name ≡ h.name) [
      | true ↦ refl
      | false ↦ refl
    ]

user_found : (name : List ℕ) (file : Option (List ℕ)) → UserOf name (file_entry row.Passwd user_of_line (user_named name) file)
unfolding UserOf
user_found name None = tt
user_found name (Some file) =
    elim (first_of (named_in user_of_line (user_named name) file)) as (λ o. IfSome o (λ p. user_named name p ≡ true) → UserOf name (found_first row.Passwd o)) [
      | None ↦ λ is. tt
      | Some p ↦ λ is. (bytes_eq-Decides p.name name).0 is
    ] (first_is_named (user_named name) (filter_map user_of_line (lines_of file)))

group_found : (name : List ℕ) (file : Option (List ℕ)) → GroupOf name (file_entry row.Group group_of_line (group_named name) file)
unfolding GroupOf
group_found name None = tt
group_found name (Some file) =
    elim (first_of (named_in group_of_line (group_named name) file)) as (λ o. IfSome o (λ g. group_named name g ≡ true) → GroupOf name (found_first row.Group o)) [
      | None ↦ λ is. tt
      | Some g ↦ λ is. (bytes_eq-Decides g.name name).0 is
    ] (first_is_named (group_named name) (filter_map group_of_line (lines_of file)))

pub user_gives : (files : Content) (name : List ℕ) → IfSome (user_in (sub_looked files db.Passwd kind.PwName name)) (λ p. p.name ≡ name)
unfolding UserOf
user_gives files name = switched_keeps (UserOf name) (each_row_joins (UserOf name) (λ h g has. tt) (λ ids others has. tt)) kind.PwName (sub_answer files (record { kind = kind.PwName; key = name })) tt each (compat_list files db.Passwd) where
  each : (s : SwitchService) → UserOf name (sub_answer files (record { kind = kind.PwName; key = name }) s)
  each service.Files = user_found name files.passwd
  each service.Compat = tt
  each service.Extrausers = user_found name files.extra_passwd
  each service.Other = tt

pub group_gives : (files : Content) (name : List ℕ) → IfSome (group_in (sub_looked files db.Group kind.GrName name)) (λ g. g.name ≡ name)
unfolding GroupOf
group_gives files name = switched_keeps (GroupOf name) (each_row_joins (GroupOf name) (λ h g has. joined_name h g ∙ has) (λ ids others has. tt)) kind.GrName (sub_answer files (record { kind = kind.GrName; key = name })) tt each (compat_list files db.Group) where
  each : (s : SwitchService) → GroupOf name (sub_answer files (record { kind = kind.GrName; key = name }) s)
  each service.Files = group_found name files.group
  each service.Compat = tt
  each service.Extrausers = group_found name files.extra_group
  each service.Other = tt
