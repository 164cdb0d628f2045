-- Bytes spell at most one reply of a kind.
use Rattle.std.proofs.Common.{◌≡◌, ℕ, ◌<◌, ◌≤◌, List, length, refl, sym, ap, subst, ◌∙◌, arith}
use Rattle.nsc_model.specs.declared.kind.Kind.{Kind}
use Rattle.nsc_model.specs.declared.row.Row.{Row}
use Rattle.nsc_model.specs.declared.row.Row.TheVariants.{Passwd, Group, Host, Service, Ai, Groups, Netgroup, Member}
use Rattle.nsc_model.specs.declared.row.Reply.{Reply}
use Rattle.nsc_model.specs.declared.row.Reply.TheVariants.{Found, Absent, Disabled}
use Rattle.nsc_model.specs.Answer.{reply_limit}
use Rattle.nsc_model.specs.declared.kind.Shape.{Shape}
use Rattle.nsc_model.specs.declared.kind.Shape.TheVariants as shape
use Rattle.nsc_model.specs.Wire.{IsReplyOf, IsRow, Spells, field_in, lacking, minus_one, row_found, row_shape, shape_of, spelled}
use Rattle.nsc_laws.proofs.Spellings.{same_user}
use Rattle.nsc_laws.proofs.GroupSpellings.{same_group, same_ids}
use Rattle.nsc_laws.proofs.HostSpellings.{same_host, same_addresses}
use Rattle.nsc_laws.proofs.ServiceSpellings.{same_service}
use Rattle.nsc_laws.proofs.NetgroupSpellings.{same_netgroup, same_member}

same_row : (a b : Row) → row_shape a ≡ row_shape b → IsRow a → IsRow b → length (row_found a) ≤ reply_limit → length (row_found b) ≤ reply_limit → row_found a ≡ row_found b → a ≡ b
same_row (Passwd p) (Passwd q) shape a_is b_is a_short b_short e = ap (λ x. Passwd x) (same_user p q a_is b_is a_short b_short e)
same_row (Group g) (Group h) shape a_is b_is a_short b_short e = ap (λ x. Group x) (same_group g h a_is b_is a_short b_short e)
same_row (Host h) (Host k) shape a_is b_is a_short b_short e = ap (λ x. Host x) (same_host h k a_is b_is a_short b_short e)
same_row (Service s) (Service t) shape a_is b_is a_short b_short e = ap (λ x. Service x) (same_service s t a_is b_is a_short b_short e)
same_row (Ai x) (Ai y) shape a_is b_is a_short b_short e = ap (λ z. Ai z) (same_addresses x y a_is b_is a_short b_short e)
same_row (Groups xs) (Groups ys) shape a_is b_is a_short b_short e = ap (λ z. Groups z) (same_ids xs ys a_is b_is a_short b_short e)
same_row (Netgroup xs) (Netgroup ys) shape a_is b_is a_short b_short e = ap (λ z. Netgroup z) (same_netgroup xs ys a_is b_is e)
same_row (Member x) (Member y) shape a_is b_is a_short b_short e = ap (λ z. Member z) (same_member x y e)
same_row _ _ shape a_is b_is a_short b_short e = absurd cc

-- the field found tells the three replies apart
abbrev found_in : List ℕ → ℕ
found_in bytes = field_in bytes 4

row_says : (a : Row) → found_in (row_found a) ≡ 1
row_says (Passwd p) = refl
row_says _ = refl

absent_says : (shape : Shape) → found_in (lacking shape 0 1) ≡ 0
absent_says shape.User = refl
absent_says _ = refl

disabled_says : (shape : Shape) → found_in (lacking shape minus_one minus_one) ≡ minus_one
disabled_says shape.User = refl
disabled_says _ = refl

-- two replies that say different numbers there are different
apart : (m n : ℕ) (x y : List ℕ) → found_in x ≡ m → found_in y ≡ n → m < n → x ≡ y → ⊥
apart m n x y x_says y_says below e = let same : m ≡ n = sym x_says ∙ (ap found_in e ∙ y_says) in absurd (omega arith)

same_reply : (kind : Kind) (a b : Reply) → IsReplyOf kind a → IsReplyOf kind b → length (spelled kind a) ≤ reply_limit → length (spelled kind b) ≤ reply_limit → spelled kind a ≡ spelled kind b → a ≡ b
same_reply kind (Found x) (Found y) a_is b_is a_short b_short e = ap (λ z. Found z) (same_row x y (a_is.0 ∙ sym b_is.0) a_is.1 b_is.1 a_short b_short e)
same_reply kind (Found x) Absent a_is b_is a_short b_short e = absurd (apart 0 1 _ _ (absent_says (shape_of kind)) (row_says x) (omega arith) (sym e))
same_reply kind (Found x) Disabled a_is b_is a_short b_short e = absurd (apart 1 minus_one _ _ (row_says x) (disabled_says (shape_of kind)) (omega arith) e)
same_reply kind Absent (Found y) a_is b_is a_short b_short e = absurd (apart 0 1 _ _ (absent_says (shape_of kind)) (row_says y) (omega arith) e)
same_reply kind Absent Absent a_is b_is a_short b_short e = refl
same_reply kind Absent Disabled a_is b_is a_short b_short e = absurd (apart 0 minus_one _ _ (absent_says (shape_of kind)) (disabled_says (shape_of kind)) (omega arith) e)
same_reply kind Disabled (Found y) a_is b_is a_short b_short e = absurd (apart 1 minus_one _ _ (row_says y) (disabled_says (shape_of kind)) (omega arith) (sym e))
same_reply kind Disabled Absent a_is b_is a_short b_short e = absurd (apart 0 minus_one _ _ (absent_says (shape_of kind)) (disabled_says (shape_of kind)) (omega arith) (sym e))
same_reply kind Disabled Disabled a_is b_is a_short b_short e = refl

pub one_reply : (kind : Kind) (a b : Reply) (bytes : List ℕ) → Spells kind a bytes → Spells kind b bytes → a ≡ b
one_reply kind a b bytes s t =
    same_reply kind a b s.of_kind t.of_kind (subst (λ x. length x ≤ reply_limit) s.spelling s.bound) (subst (λ x. length x ≤ reply_limit) t.spelling s.bound) (sym s.spelling ∙ t.spelling)
