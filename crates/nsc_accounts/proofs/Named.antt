-- What is known of the fields of a line with an entry, and lines that a request does not name.
use Rattle.std.proofs.Common.{◌≡◌, ℕ, ◌≤◌, Bool, true, false, if◌then◌else◌, ◌==◌, List, [], ◌∷◌, ◌++◌, length, map, IfSome, Option, Some, None, refl, sym, ◌∙◌, ap, subst}
use Rattle.std.specs.Fmt.{decimal}
use Rattle.std.specs.List.{list_any}
use Rattle.std.specs.Option.{option_and_then, option_map}
use Rattle.std.specs.Str.{bytes_eq}
use Rattle.std.proofs.lemmas.Slice.Eq.{bytes_eq-Decides}
use Rattle.std.proofs.lemmas.Bool.{false_from_ne_true}
use Rattle.std.proofs.lemmas.Bool.Decides.{Decides-eqb}
use Rattle.nsc_base.specs.declared.search.Case.TheVariants.{Counts}
use Rattle.nsc_base.specs.declared.span.Span.{Span}
use Rattle.nsc_base.specs.Decimal.{decimal_of}
use Rattle.nsc_base.specs.Found.{Lacks}
use Rattle.nsc_base.specs.Text.{fields_of, onto_first, part, pieces, trimmed}
use Rattle.nsc_base.proofs.Pieces.{pieces-some}
use Rattle.nsc_model.specs.declared.row.Group.{Group}
use Rattle.nsc_model.specs.declared.row.Passwd.{Passwd}
use Rattle.nsc_model.specs.Entries.{if_named}
use Rattle.nsc_model.specs.Groups.{group_of_fields, group_of_line, has_member, members_of}
use Rattle.nsc_model.specs.Users.{has_zero, is_name, user_of_line}
use Rattle.nsc_accounts.specs.Fields.{line_fields, third_number}
use Rattle.nsc_accounts.specs.Group.{GivesGroup, group_at, group_of_spans, group_places}
use Rattle.nsc_accounts.specs.Passwd.{GivesUser, user_at, user_of_spans, user_places}
use Rattle.nsc_accounts.specs.declared.group.GroupAt.{GroupAt}
use Rattle.nsc_accounts.specs.declared.passwd.PasswdAt.{PasswdAt}
use Rattle.nsc_accounts.proofs.Entries.{fields_are, group_stands, user_stands}
use Rattle.nsc_accounts.proofs.Stands.{AllStand, StandsIn, any_stands, not_lacking, number_stands, pieces_stand, stands_within, trimmed_stands}

-- the first field is the name of the entry, and the third spells its id
pub record Names (fields : List (List ℕ)) (name : List ℕ) (id : ℕ) : Type 0 where
  pub second : List ℕ
  pub third : List ℕ
  pub others : List (List ℕ)
  pub are : fields ≡ name ∷ second ∷ third ∷ others
  pub spells : decimal_of third ≡ Some id

user_made : {A : Type 0} (P : A → Type 0) (u g : Option ℕ) (b : Bool) (at : ℕ → ℕ → A) → ((user group : ℕ) → u ≡ Some user → P (at user group)) → IfSome (option_and_then (λ user. option_and_then (λ group. if b then Some (at user group) else None) g) u) P
user_made P None g b at h = tt
user_made P (Some u) None b at h = tt
user_made P (Some u) (Some g) true at h = h u g refl
user_made P (Some u) (Some g) false at h = tt

group_made : {A : Type 0} (P : A → Type 0) (g : Option ℕ) (b : Bool) (at : ℕ → A) → ((group : ℕ) → g ≡ Some group → P (at group)) → IfSome (option_and_then (λ group. if b then Some (at group) else None) g) P
group_made P None b at h = tt
group_made P (Some g) true at h = h g refl
group_made P (Some g) false at h = tt

user_fields : (text : List ℕ) (spans : List Span) → IfSome (user_of_spans text spans) (λ at. Names (map (part text) spans) (part text at.name) at.uid)
user_fields text [] = tt
user_fields text (a ∷ []) = tt
user_fields text (a ∷ b ∷ []) = tt
user_fields text (a ∷ b ∷ c ∷ []) = tt
user_fields text (a ∷ b ∷ c ∷ d ∷ []) = tt
user_fields text (a ∷ b ∷ c ∷ d ∷ e ∷ []) = tt
user_fields text (a ∷ b ∷ c ∷ d ∷ e ∷ f ∷ []) = tt
user_fields text (a ∷ b ∷ c ∷ d ∷ e ∷ f ∷ g ∷ []) =
    user_made (λ at. Names (map (part text) (a ∷ b ∷ c ∷ d ∷ e ∷ f ∷ g ∷ [])) (part text at.name) at.uid) (decimal_of (part text c)) (decimal_of (part text d)) (is_name (part text a)) (λ user group. record { name = a; passwd = b; uid = user; gid = group; gecos = e; dir = f; shell = g })
    (λ user group is. record { second = part text b; third = part text c; others = map (part text) (d ∷ e ∷ f ∷ g ∷ []); are = refl; spells = is })
user_fields text (a ∷ b ∷ c ∷ d ∷ e ∷ f ∷ g ∷ i ∷ more) = tt

group_fields : (text : List ℕ) (spans : List Span) → IfSome (group_of_spans text spans) (λ at. Names (map (part text) spans) (part text at.name) at.gid)
group_fields text [] = tt
group_fields text (a ∷ []) = tt
group_fields text (a ∷ b ∷ []) = tt
group_fields text (a ∷ b ∷ c ∷ []) = tt
group_fields text (a ∷ b ∷ c ∷ d ∷ []) =
    group_made (λ at. Names (map (part text) (a ∷ b ∷ c ∷ d ∷ [])) (part text at.name) at.gid) (decimal_of (part text c)) (is_name (part text a)) (λ group. record { name = a; passwd = b; gid = group; members = d })
    (λ group is. record { second = part text b; third = part text c; others = part text d ∷ []; are = refl; spells = is })
group_fields text (a ∷ b ∷ c ∷ d ∷ e ∷ more) = tt

-- what the fields of a line say of its entry
abbrev pub HasNames : {A : Type 0} → List ℕ → Option A → (A → List ℕ) → (A → ℕ) → Type 0
HasNames line o name_of id_of = IfSome o (λ x. Names (fields_of 58 (trimmed line)) (name_of x) (id_of x))

pub user_names : (text : List ℕ) (line : Span) → line.from ≤ line.to → line.to ≤ length text → HasNames (part text line) (user_places text line) (λ at. part text at.name) (λ at. at.uid)
user_names text line ordered inside =
    elim (has_zero (part text line)) as (λ v. IfSome (if v then None else user_of_spans text (line_fields text line)) (λ at. Names (fields_of 58 (trimmed (part text line))) (part text at.name) at.uid)) [
      | true ↦ tt
      | false ↦ subst (λ (fields : List (List ℕ)). IfSome (user_of_spans text (line_fields text line)) (λ at. Names fields (part text at.name) at.uid)) (fields_are text line ordered inside) (user_fields text (line_fields text line))
    ]

pub group_names : (text : List ℕ) (line : Span) → line.from ≤ line.to → line.to ≤ length text → HasNames (part text line) (group_places text line) (λ at. part text at.name) (λ at. at.gid)
group_names text line ordered inside =
    elim (has_zero (part text line)) as (λ v. IfSome (if v then None else group_of_spans text (line_fields text line)) (λ at. Names (fields_of 58 (trimmed (part text line))) (part text at.name) at.gid)) [
      | true ↦ tt
      | false ↦ subst (λ (fields : List (List ℕ)). IfSome (group_of_spans text (line_fields text line)) (λ at. Names fields (part text at.name) at.gid)) (fields_are text line ordered inside) (group_fields text (line_fields text line))
    ]

-- ---- by name

-- what stands before the second piece
pieces-second : (cuts : ℕ → Bool) (bytes : List ℕ) (first second : List ℕ) (others : List (List ℕ)) → pieces cuts bytes ≡ first ∷ second ∷ others → (c : ℕ) × ((rest : List ℕ) × ((cuts c ≡ true) × (bytes ≡ first ++ c ∷ rest)))
pieces-second cuts [] first second others h = cc
pieces-second cuts (b ∷ bytes) first second others h =
    let some = pieces-some cuts bytes in
    elim (cuts b) as (λ v. cuts b ≡ v → (if v then [] ∷ pieces cuts bytes else onto_first b (pieces cuts bytes)) ≡ first ∷ second ∷ others → (c : ℕ) × ((rest : List ℕ) × ((cuts c ≡ true) × (b ∷ bytes ≡ first ++ c ∷ rest)))) [
      | true ↦ λ is e.
          let none : [] ≡ first = cc in
          (b, (bytes, (is, ap (λ (f : List ℕ). f ++ b ∷ bytes) none)))
      | false ↦ λ is e.
          let cut : (b ∷ some.0) ∷ some.1.0 ≡ first ∷ second ∷ others = ap (onto_first b) (sym some.1.1) ∙ e in
          let front : b ∷ some.0 ≡ first = cc in
          let later : some.1.0 ≡ second ∷ others = cc in
          let found = pieces-second cuts bytes some.0 second others (some.1.1 ∙ ap (λ l. some.0 ∷ l) later) in
          (found.0, (found.1.0, (found.1.1.0, ap (λ (l : List ℕ). b ∷ l) found.1.1.1 ∙ ap (λ (f : List ℕ). f ++ found.0 ∷ found.1.0) front)))
    ] refl h

-- a line begins with a name and a colon, after its white space
abbrev Begins : List ℕ → List ℕ → Type 0
Begins name line = (rest : List ℕ) × (trimmed line ≡ name ++ 58 ∷ rest)

begins_with_name : (line name : List ℕ) (id : ℕ) → Names (fields_of 58 (trimmed line)) name id → Begins name line
begins_with_name line name id is =
    let second = pieces-second (λ b. b == 58) (trimmed line) name is.second (is.third ∷ is.others) is.are in
    let colon : second.0 ≡ 58 = (Decides-eqb second.0 58).0 second.1.1.0 in
    (second.1.0, second.1.1.1 ∙ ap (λ c. name ++ c ∷ second.1.0) colon)

-- a line that does not begin with a name and a colon is not named
pub unnamed : {A : Type 0} (line name : List ℕ) (o : Option A) (name_of : A → List ℕ) (id_of : A → ℕ) → HasNames line o name_of id_of → ((rest : List ℕ) × (trimmed line ≡ name ++ 58 ∷ rest) → ⊥) → if_named (λ x. bytes_eq (name_of x) name) o ≡ None
unnamed line name None name_of id_of is lacks = refl
unnamed line name (Some x) name_of id_of is lacks =
    let begins = begins_with_name line (name_of x) (id_of x) is in
    let other : bytes_eq (name_of x) name ≡ false = false_from_ne_true _ (λ same. lacks (begins.0, begins.1 ∙ ap (λ (n : List ℕ). n ++ 58 ∷ begins.0) ((bytes_eq-Decides (name_of x) name).0 same))) in
    rw other refl

-- nor is one in which the name stands nowhere
pub lacks_name : {A : Type 0} (line name : List ℕ) (o : Option A) (name_of : A → List ℕ) (id_of : A → ℕ) → HasNames line o name_of id_of → Lacks Counts name line → if_named (λ x. bytes_eq (name_of x) name) o ≡ None
lacks_name line name o name_of id_of is lack =
    unnamed line name o name_of id_of is (λ begins. not_lacking name line (stands_within name (trimmed line) line ([], (58 ∷ begins.0, begins.1)) (trimmed_stands line)) lack)

-- ---- by id

third_is : (line name : List ℕ) (id : ℕ) → Names (fields_of 58 (trimmed line)) name id → third_number (fields_of 58 (trimmed line)) ≡ Some id
third_is line name id is = ap third_number is.are ∙ is.spells

pub no_id : {A : Type 0} (line : List ℕ) (id : ℕ) (o : Option A) (name_of : A → List ℕ) (id_of : A → ℕ) → HasNames line o name_of id_of → None ≡ third_number (fields_of 58 (trimmed line)) → if_named (λ x. id_of x == id) o ≡ None
no_id line id None name_of id_of is none = refl
no_id line id (Some x) name_of id_of is none = let third = third_is line (name_of x) (id_of x) is in cc

pub same_id : {A : Type 0} (line : List ℕ) (n id : ℕ) (o : Option A) (name_of : A → List ℕ) (id_of : A → ℕ) → HasNames line o name_of id_of → Some n ≡ third_number (fields_of 58 (trimmed line)) → n ≡ id → if_named (λ x. id_of x == id) o ≡ o
same_id line n id None name_of id_of is some same = refl
same_id line n id (Some x) name_of id_of is some same =
    let third = third_is line (name_of x) (id_of x) is in
    let value : id_of x ≡ id = cc in
    let is_it : (id_of x == id) ≡ true = (Decides-eqb (id_of x) id).1 value in
    rw is_it refl

pub other_id : {A : Type 0} (line : List ℕ) (n id : ℕ) (o : Option A) (name_of : A → List ℕ) (id_of : A → ℕ) → HasNames line o name_of id_of → Some n ≡ third_number (fields_of 58 (trimmed line)) → (n ≡ id → ⊥) → if_named (λ x. id_of x == id) o ≡ None
other_id line n id None name_of id_of is some differ = refl
other_id line n id (Some x) name_of id_of is some differ =
    let third = third_is line (name_of x) (id_of x) is in
    let value : n ≡ id_of x = cc in
    let other : (id_of x == id) ≡ false = false_from_ne_true _ (λ same. differ (value ∙ (Decides-eqb (id_of x) id).0 same)) in
    rw other refl

-- the digits of its id stand in a line
pub lacks_id : {A : Type 0} (line : List ℕ) (id : ℕ) (o : Option A) (name_of : A → List ℕ) (id_of : A → ℕ) → HasNames line o name_of id_of → Lacks Counts (decimal id) line → if_named (λ x. id_of x == id) o ≡ None
lacks_id line id None name_of id_of is lack = refl
lacks_id line id (Some x) name_of id_of is lack =
    let other : (id_of x == id) ≡ false = false_from_ne_true _ (λ same.
    let spells : decimal_of is.third ≡ Some id = is.spells ∙ ap Some ((Decides-eqb (id_of x) id).0 same) in
    let third : StandsIn is.third (trimmed line) = (subst (λ (fields : List (List ℕ)). AllStand fields (trimmed line)) is.are (pieces_stand (λ b. b == 58) (trimmed line))).1.1.0 in
    not_lacking (decimal id) line (stands_within (decimal id) (trimmed line) line (stands_within (decimal id) is.third (trimmed line) (number_stands is.third id spells) third) (trimmed_stands line)) lack) in
    rw other refl

-- ---- by member

-- the members are those that the last of four fields names
abbrev MembersIn : List (List ℕ) → Group → Type 0
MembersIn fields g = (a : List ℕ) × ((b : List ℕ) × ((c : List ℕ) × ((d : List ℕ) × ((fields ≡ a ∷ b ∷ c ∷ d ∷ []) × (g.members ≡ members_of d)))))

group_members : (fields : List (List ℕ)) → IfSome (group_of_fields fields) (MembersIn fields)
group_members [] = tt
group_members (a ∷ []) = tt
group_members (a ∷ b ∷ []) = tt
group_members (a ∷ b ∷ c ∷ []) = tt
group_members (a ∷ b ∷ c ∷ d ∷ []) = group_made (MembersIn (a ∷ b ∷ c ∷ d ∷ [])) (decimal_of c) (is_name a) (λ group. record { name = a; passwd = b; gid = group; members = members_of d }) (λ group is. (a, (b, (c, (d, (refl, refl))))))
group_members (a ∷ b ∷ c ∷ d ∷ e ∷ more) = tt

-- a line in which the user's name stands nowhere is not that of a group of the user
pub lacks_member : (user line : List ℕ) → Lacks Counts user line → if_named (has_member user) (group_of_line line) ≡ None
lacks_member user line lack =
    elim (has_zero line) as (λ v. if_named (has_member user) (if v then None else group_of_fields (fields_of 58 (trimmed line))) ≡ None) [
      | true ↦ refl
      | false ↦ elim (group_of_fields (fields_of 58 (trimmed line))) as (λ o. IfSome o (MembersIn (fields_of 58 (trimmed line))) → if_named (has_member user) o ≡ None) [
        | None ↦ λ is. refl
        | Some g ↦ λ is.
            let d = is.1.1.1.0 in
            let other : has_member user g ≡ false = false_from_ne_true _ (λ there.
            let field : StandsIn d (trimmed line) = (subst (λ (fields : List (List ℕ)). AllStand fields (trimmed line)) is.1.1.1.1.0 (pieces_stand (λ b. b == 58) (trimmed line))).1.1.1.0 in
            let member : StandsIn user d = any_stands user (fields_of 44 d) d (pieces_stand (λ b. b == 44) d) (ap (λ (ms : List (List ℕ)). list_any (λ m. bytes_eq m user) ms) (sym is.1.1.1.1.1) ∙ there) in
            not_lacking user line (stands_within user (trimmed line) line (stands_within user d (trimmed line) member field) (trimmed_stands line)) lack) in
            rw other refl
      ] (group_members (fields_of 58 (trimmed line)))
    ]

-- ---- by places

-- an entry by places is named where that of its texts is
named_value : {A B : Type 0} (f : A → B) (names : B → Bool) (o : Option A) → option_map f (if_named (λ x. names (f x)) o) ≡ if_named names (option_map f o)
named_value f names None = refl
named_value f names (Some x) =
    elim (names (f x)) as (λ v. option_map f (if v then Some x else None) ≡ (if v then Some (f x) else None)) [
      | true ↦ refl
      | false ↦ refl
    ]

pub user_given : (text : List ℕ) (names : Passwd → Bool) (line : Span) (given : Option PasswdAt) → line.from ≤ line.to → line.to ≤ length text → GivesUser text (λ at. names (user_at text at)) line given → option_map (user_at text) given ≡ if_named names (user_of_line (part text line))
user_given text names line given ordered inside is =
    ap (option_map (user_at text)) is ∙ named_value (user_at text) names (user_places text line) ∙ ap (if_named names) (user_stands text line ordered inside)

pub group_given : (text : List ℕ) (names : Group → Bool) (line : Span) (given : Option GroupAt) → line.from ≤ line.to → line.to ≤ length text → GivesGroup text (λ at. names (group_at text at)) line given → option_map (group_at text) given ≡ if_named names (group_of_line (part text line))
group_given text names line given ordered inside is =
    ap (option_map (group_at text)) is ∙ named_value (group_at text) names (group_places text line) ∙ ap (if_named names) (group_stands text line ordered inside)
