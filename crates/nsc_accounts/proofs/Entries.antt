-- The entry of a line, from where its fields stand.
use Rattle.std.proofs.Common.{◌≡◌, ℕ, ◌≤◌, Bool, true, false, nat_eq, if◌then◌else◌, List, [], ◌∷◌, length, map, All, IfSome, Option, Some, None, refl, sym, ◌∙◌, ap, arith}
use Rattle.std.specs.Option.{option_and_then, option_map}
use Rattle.nsc_base.specs.declared.span.Span.{Span}
use Rattle.nsc_base.specs.Decimal.{decimal_of}
use Rattle.nsc_base.specs.Fields.{exactly}
use Rattle.nsc_base.specs.Text.{LiesIn, fields_of, part, trimmed}
use Rattle.nsc_base.proofs.FirstBytes.{trimmed_part}
use Rattle.nsc_base.proofs.Spans.{field_spans-parts}
use Rattle.nsc_model.specs.Users.{has_zero, is_name, user_of_fields, user_of_line}
use Rattle.nsc_model.specs.Groups.{group_of_fields, group_of_line}
use Rattle.nsc_accounts.specs.Fields.{exact_line_fields, line_fields, trimmed_span}
use Rattle.nsc_accounts.specs.Group.{group_at, group_of_spans, group_places}
use Rattle.nsc_accounts.specs.Passwd.{user_at, user_of_spans, user_places}

-- exactly `n` items
exactly_is : {A : Type 0} (n : ℕ) (items found : List A) → Some found ≡ exactly n items → items ≡ found
exactly_is n items found h =
    elim (nat_eq (length items) n) as (λ v. nat_eq (length items) n ≡ v → Some found ≡ (if v then Some items else None) → items ≡ found) [
      | true ↦ λ is e. cc
      | false ↦ λ is e. cc
    ] refl h

-- a line that lacks the fields makes no entry
unformed_line : {A : Type 0} (n : ℕ) (entry_of : List Span → Option A) → ((fields : List Span) → None ≡ exactly n fields → entry_of fields ≡ None) → (zero : Bool) (fields : List Span) → None ≡ (if zero then None else exactly n fields) → None ≡ (if zero then None else entry_of fields)
unformed_line n entry_of none true fields h = refl
unformed_line n entry_of none false fields h = sym (none fields h)

-- and another line that of its fields
formed_line : {A : Type 0} (n : ℕ) (entry_of : List Span → Option A) (zero : Bool) (fields found : List Span) → Some found ≡ (if zero then None else exactly n fields) → entry_of found ≡ (if zero then None else entry_of fields)
formed_line n entry_of true fields found h = cc
formed_line n entry_of false fields found h = ap entry_of (sym (exactly_is n fields found h))

-- another count of fields makes no entry
unformed : (text : List ℕ) (fields : List Span) → None ≡ exactly 7 fields → user_of_spans text fields ≡ None
unformed text [] h = refl
unformed text (a ∷ []) h = refl
unformed text (a ∷ b ∷ []) h = refl
unformed text (a ∷ b ∷ c ∷ []) h = refl
unformed text (a ∷ b ∷ c ∷ d ∷ []) h = refl
unformed text (a ∷ b ∷ c ∷ d ∷ e ∷ []) h = refl
unformed text (a ∷ b ∷ c ∷ d ∷ e ∷ f ∷ []) h = refl
unformed text (a ∷ b ∷ c ∷ d ∷ e ∷ f ∷ g ∷ []) h = cc
unformed text (a ∷ b ∷ c ∷ d ∷ e ∷ f ∷ g ∷ i ∷ more) h = refl

pub no_user : (text : List ℕ) (line : Span) → None ≡ exact_line_fields 7 text line → None ≡ user_places text line
no_user text line h = unformed_line 7 (user_of_spans text) (unformed text) (has_zero (part text line)) (line_fields text line) h

pub user_is : (text : List ℕ) (line : Span) (fields : List Span) → Some fields ≡ exact_line_fields 7 text line → user_of_spans text fields ≡ user_places text line
user_is text line fields h = formed_line 7 (user_of_spans text) (has_zero (part text line)) (line_fields text line) fields h

unformed_group : (text : List ℕ) (fields : List Span) → None ≡ exactly 4 fields → group_of_spans text fields ≡ None
unformed_group text [] h = refl
unformed_group text (a ∷ []) h = refl
unformed_group text (a ∷ b ∷ []) h = refl
unformed_group text (a ∷ b ∷ c ∷ []) h = refl
unformed_group text (a ∷ b ∷ c ∷ d ∷ []) h = cc
unformed_group text (a ∷ b ∷ c ∷ d ∷ e ∷ more) h = refl

pub no_group : (text : List ℕ) (line : Span) → None ≡ exact_line_fields 4 text line → None ≡ group_places text line
no_group text line h = unformed_line 4 (group_of_spans text) (unformed_group text) (has_zero (part text line)) (line_fields text line) h

pub group_is : (text : List ℕ) (line : Span) (fields : List Span) → Some fields ≡ exact_line_fields 4 text line → group_of_spans text fields ≡ group_places text line
group_is text line fields h = formed_line 4 (group_of_spans text) (has_zero (part text line)) (line_fields text line) fields h

-- what stands in the fields of a line
pub fields_are : (text : List ℕ) (line : Span) → line.from ≤ line.to → line.to ≤ length text → map (part text) (line_fields text line) ≡ fields_of 58 (trimmed (part text line))
fields_are text line ordered inside = field_spans-parts 58 text (trimmed_span text line) ∙ ap (fields_of 58) (trimmed_part text line (trimmed_span text line) ordered inside refl refl)

-- an entry by places is one of the texts that stand there
ids_made : {A B : Type 0} (f : A → B) (u g : Option ℕ) (b : Bool) (at : ℕ → ℕ → A) → option_map f (option_and_then (λ user. option_and_then (λ group. if b then Some (at user group) else None) g) u) ≡ option_and_then (λ user. option_and_then (λ group. if b then Some (f (at user group)) else None) g) u
ids_made f None g b at = refl
ids_made f (Some u) None b at = refl
ids_made f (Some u) (Some g) true at = refl
ids_made f (Some u) (Some g) false at = refl

id_made : {A B : Type 0} (f : A → B) (g : Option ℕ) (b : Bool) (at : ℕ → A) → option_map f (option_and_then (λ group. if b then Some (at group) else None) g) ≡ option_and_then (λ group. if b then Some (f (at group)) else None) g
id_made f None b at = refl
id_made f (Some g) true at = refl
id_made f (Some g) false at = refl

user_made : (text : List ℕ) (spans : List Span) → option_map (user_at text) (user_of_spans text spans) ≡ user_of_fields (map (part text) spans)
user_made text [] = refl
user_made text (a ∷ []) = refl
user_made text (a ∷ b ∷ []) = refl
user_made text (a ∷ b ∷ c ∷ []) = refl
user_made text (a ∷ b ∷ c ∷ d ∷ []) = refl
user_made text (a ∷ b ∷ c ∷ d ∷ e ∷ []) = refl
user_made text (a ∷ b ∷ c ∷ d ∷ e ∷ f ∷ []) = refl
user_made text (a ∷ b ∷ c ∷ d ∷ e ∷ f ∷ g ∷ []) =
    ids_made (user_at text) (decimal_of (part text c)) (decimal_of (part text d)) (is_name (part text a)) (λ user group. record { name = a; passwd = b; uid = user; gid = group; gecos = e; dir = f; shell = g })
user_made text (a ∷ b ∷ c ∷ d ∷ e ∷ f ∷ g ∷ i ∷ more) = refl

group_made : (text : List ℕ) (spans : List Span) → option_map (group_at text) (group_of_spans text spans) ≡ group_of_fields (map (part text) spans)
group_made text [] = refl
group_made text (a ∷ []) = refl
group_made text (a ∷ b ∷ []) = refl
group_made text (a ∷ b ∷ c ∷ []) = refl
group_made text (a ∷ b ∷ c ∷ d ∷ []) = id_made (group_at text) (decimal_of (part text c)) (is_name (part text a)) (λ group. record { name = a; passwd = b; gid = group; members = d })
group_made text (a ∷ b ∷ c ∷ d ∷ e ∷ more) = refl

pub user_stands : (text : List ℕ) (line : Span) → line.from ≤ line.to → line.to ≤ length text → option_map (user_at text) (user_places text line) ≡ user_of_line (part text line)
user_stands text line ordered inside =
    elim (has_zero (part text line)) as (λ v. option_map (user_at text) (if v then None else user_of_spans text (line_fields text line)) ≡ (if v then None else user_of_fields (fields_of 58 (trimmed (part text line))))) [
      | true ↦ refl
      | false ↦ user_made text (line_fields text line) ∙ ap user_of_fields (fields_are text line ordered inside)
    ]

pub group_stands : (text : List ℕ) (line : Span) → line.from ≤ line.to → line.to ≤ length text → option_map (group_at text) (group_places text line) ≡ group_of_line (part text line)
group_stands text line ordered inside =
    elim (has_zero (part text line)) as (λ v. option_map (group_at text) (if v then None else group_of_spans text (line_fields text line)) ≡ (if v then None else group_of_fields (fields_of 58 (trimmed (part text line))))) [
      | true ↦ refl
      | false ↦ group_made text (line_fields text line) ∙ ap group_of_fields (fields_are text line ordered inside)
    ]

-- what lies in a line lies in the text
pub lies_in_text : (text : List ℕ) (line : Span) (spans : List Span) → line.to ≤ length text → All (LiesIn line) spans → All (LiesIn (record { from = 0; to = length text })) spans
lies_in_text text line spans inside lie = λ k d l.
    let there = lie k d l in
    record { begins = omega arith; ordered = there.ordered; ends = omega (arith, there.ends) }

-- an entry lies in the line that its fields lie in
pub entry_lies : {E : Type 0} (EntryIn : Span → E → Type 0) (line : Span) (spans : List Span) (r : Option E) → All (LiesIn line) spans → IfSome r (λ at. (within : Span) → All (LiesIn within) spans → EntryIn within at) → IfSome r (EntryIn line)
entry_lies EntryIn line spans None lie h = tt
entry_lies EntryIn line spans (Some at) lie h = h line lie
