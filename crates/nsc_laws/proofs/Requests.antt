-- A test decides whether requests are the same.
use Rattle.std.proofs.Common.{◌≡◌, ℕ, true, eqb, List, Option, Some, refl, sym, ap, ◌∙◌, rules}
use Rattle.std.proofs.lemmas.Bool.{eqb-true}
use Rattle.std.specs.Str.{bytes_eq}
use Rattle.nsc_model.specs.declared.kind.Kind.{Kind}
use Rattle.nsc_model.specs.declared.kind.Kind.TheVariants.{PwName}
use Rattle.nsc_model.specs.declared.answer.Request.{Request}
use Rattle.nsc_model.specs.Kinds.{type_number, kind_numbered, is_request}
use Rattle.nsc_model.proofs.Contents.{both_true, bytes_same, same_bytes, true_both}

-- a kind is the kind of its number
numbered_again : (k : Kind) → kind_numbered (type_number k) ≡ Some k
numbered_again PwName = refl
numbered_again _ = refl

abbrev given : Kind → Option Kind
given k = Some k

given_is : (a b : Kind) → given a ≡ given b → a ≡ b
given_is a b e = cc

same_kind : (a b : Kind) → type_number a ≡ type_number b → a ≡ b
same_kind a b e = given_is a b (sym (numbered_again a) ∙ (ap kind_numbered e ∙ numbered_again b))

abbrev made : Kind → List ℕ → Request
made kind key = record { kind = kind; key = key }

request_from : (a b : Request) → a.kind ≡ b.kind → a.key ≡ b.key → a ≡ b
request_from a b e f = ap (λ k. made k a.key) e ∙ ap (made b.kind) f

-- a test that answers true found one request
pub same_request : (a b : Request) → is_request a b ≡ true → a ≡ b
same_request a b e =
    let parts = both_true (eqb (type_number a.kind) (type_number b.kind)) (bytes_eq a.key b.key) e in
    request_from a b (same_kind a.kind b.kind (eqb-true _ _ parts.0)) (same_bytes a.key b.key parts.1)

eqb_same : (n : ℕ) → eqb n n ≡ true
eqb_same n = search (rules)

pub request_same : (a : Request) → is_request a a ≡ true
request_same a = true_both (eqb (type_number a.kind) (type_number a.kind)) (bytes_eq a.key a.key) (eqb_same (type_number a.kind)) (bytes_same a.key)
