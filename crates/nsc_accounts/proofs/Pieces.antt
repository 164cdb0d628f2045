-- The members of a group, from one comma to the next.
use Rattle.std.proofs.Common.{◌≡◌, ℕ, ◌<◌, ◌≤◌, Bool, true, false, ◌&&◌, ◌||◌, List, [], ◌∷◌, filter, refl, sym, ◌∙◌, ap}
use Rattle.std.specs.List.{list_any}
use Rattle.std.specs.Str.{bytes_eq}
use Rattle.nsc_base.specs.declared.span.Line.{Line}
use Rattle.nsc_base.specs.declared.span.Span.{Span}
use Rattle.nsc_base.specs.Text.{IsField, fields_between, is_filled, part}
use Rattle.nsc_base.proofs.Compare.{is_below, not_below}
use Rattle.nsc_model.specs.Groups.{members_of}

-- whether a user is a member by the pieces from a place on
abbrev pub member_from : List ℕ → List ℕ → ℕ → ℕ → Bool
member_from user text from to = list_any (λ m. bytes_eq m user) (filter is_filled (fields_between 44 text from to))

pub members_left : (user text : List ℕ) (members : Span) → members.from ≤ members.to → member_from user text members.from members.to ≡ list_any (λ m. bytes_eq m user) (members_of (part text members))
members_left user text members ordered = rw (not_below members.to members.from ordered) refl

pub no_member : (user text : List ℕ) (from to : ℕ) → to < from → member_from user text from to ≡ false
no_member user text from to past = rw (is_below to from past) refl

-- one piece
member_or : (user piece : List ℕ) (others : List (List ℕ)) → list_any (λ m. bytes_eq m user) (filter is_filled (piece ∷ others)) ≡ ((is_filled piece && bytes_eq piece user) || list_any (λ m. bytes_eq m user) (filter is_filled others))
member_or user [] others = refl
member_or user (b ∷ bytes) others = refl

member_step : (user text : List ℕ) (members : Span) (from : ℕ) (field : Line) → IsField 44 text members from field → member_from user text from members.to ≡ ((is_filled (part text field.span) && bytes_eq (part text field.span) user) || member_from user text field.next members.to)
member_step user text members from field is =
    ap (λ (pieces : List (List ℕ)). list_any (λ m. bytes_eq m user) (filter is_filled pieces)) is.cut_is ∙ member_or user (part text field.span) (fields_between 44 text field.next members.to)

pub member_here : (user text : List ℕ) (members : Span) (from : ℕ) (field : Line) → IsField 44 text members from field → (is_filled (part text field.span) && bytes_eq (part text field.span) user) ≡ true → member_from user text from members.to ≡ true
member_here user text members from field is h = member_step user text members from field is ∙ ap (λ b. b || member_from user text field.next members.to) h

pub member_later : (user text : List ℕ) (members : Span) (from : ℕ) (field : Line) → IsField 44 text members from field → (is_filled (part text field.span) && bytes_eq (part text field.span) user) ≡ false → member_from user text field.next members.to ≡ member_from user text from members.to
member_later user text members from field is h = sym (member_step user text members from field is ∙ ap (λ b. b || member_from user text field.next members.to) h)
