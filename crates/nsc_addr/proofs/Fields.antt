-- A text cut into fields, and the fields joined to a text.
use Rattle.std.proofs.Common.{◌≡◌, ℕ, ◌==◌, Bool, true, false, if◌then◌else◌, List, [], ◌∷◌, ◌++◌, append_assoc, refl, sym, ◌∙◌, ap}
use Rattle.std.specs.List.{list_any, join_with_byte}
use Rattle.std.proofs.lemmas.Bool.{eqb-true, eq-eqb}
use Rattle.std.proofs.lemmas.List.Folds.{list_any-append}
use Rattle.nsc_base.specs.Text.{onto_first, fields_of}
use Rattle.nsc_base.proofs.Pieces.{pieces-some, pieces-last, pieces-first}

-- the text has no byte that cuts
abbrev pub IsUncut : ℕ → List ℕ → Type 0
IsUncut cut text = list_any (λ b. b == cut) text ≡ false

pub uncut-append : (cut : ℕ) (xs ys : List ℕ) → IsUncut cut xs → IsUncut cut ys → IsUncut cut (xs ++ ys)
uncut-append cut xs ys h k = rw (list_any-append (λ b. b == cut) xs ys, h, k) refl

pub fields-last : (cut : ℕ) (text : List ℕ) → IsUncut cut text → fields_of cut text ≡ text ∷ []
fields-last cut text h = pieces-last (λ b. b == cut) text h

pub fields-first : (cut : ℕ) (text rest : List ℕ) → IsUncut cut text → fields_of cut (text ++ cut ∷ rest) ≡ text ∷ fields_of cut rest
fields-first cut text rest h = pieces-first (λ b. b == cut) text cut rest h (eq-eqb cut cut refl)

-- each of the fields without the byte that cuts
abbrev pub AllUncut : ℕ → List (List ℕ) → Type 0
AllUncut cut [] = Unit {0}
AllUncut cut (field ∷ fields) = IsUncut cut field × AllUncut cut fields

pub fields-join : (cut : ℕ) (field : List ℕ) (fields : List (List ℕ)) → AllUncut cut (field ∷ fields) → fields_of cut (join_with_byte cut (field ∷ fields)) ≡ field ∷ fields
fields-join cut field [] h = fields-last cut field h.0
fields-join cut field (next ∷ fields) h =
    fields-first cut field (join_with_byte cut (next ∷ fields)) h.0 ∙ ap (λ later. field ∷ later) (fields-join cut next fields h.1)

-- a byte at the front of the first field
join-onto_first : (cut b : ℕ) (first : List ℕ) (later : List (List ℕ)) → join_with_byte cut (onto_first b (first ∷ later)) ≡ b ∷ join_with_byte cut (first ∷ later)
join-onto_first cut b first [] = refl
join-onto_first cut b first (next ∷ later) = refl

join-cut : (cut : ℕ) (first : List ℕ) (later : List (List ℕ)) → join_with_byte cut ([] ∷ first ∷ later) ≡ cut ∷ join_with_byte cut (first ∷ later)
join-cut cut first later = refl

pub join-fields : (cut : ℕ) (text : List ℕ) → join_with_byte cut (fields_of cut text) ≡ text
join-fields cut [] = refl
join-fields cut (b ∷ bytes) =
    let some = pieces-some (λ c. c == cut) bytes in
    let rest : join_with_byte cut (some.0 ∷ some.1.0) ≡ bytes = ap (join_with_byte cut) (sym some.1.1) ∙ join-fields cut bytes in
    by (b == cut) refl some.0 some.1.0 some.1.1 rest
  where
    by : (test : Bool) → (b == cut) ≡ test → (first : List ℕ) (later : List (List ℕ)) → fields_of cut bytes ≡ first ∷ later → join_with_byte cut (first ∷ later) ≡ bytes
        → join_with_byte cut (if test then [] ∷ fields_of cut bytes else onto_first b (fields_of cut bytes)) ≡ b ∷ bytes
    by true e first later is rest = let same : b ≡ cut = eqb-true b cut e in rw is (join-cut cut first later ∙ (λ i. sym same i ∷ rest i))
    by false e first later is rest = rw is (join-onto_first cut b first later ∙ ap (λ ys. b ∷ ys) rest)

-- one field more
pub join-push : (cut : ℕ) (field : List ℕ) (fields : List (List ℕ)) (more : List ℕ) → join_with_byte cut ((field ∷ fields) ++ more ∷ []) ≡ join_with_byte cut (field ∷ fields) ++ cut ∷ more
join-push cut field [] more = refl
join-push cut field (next ∷ fields) more =
    ap (λ ys. field ++ cut ∷ ys) (join-push cut next fields more) ∙ sym (append_assoc field (cut ∷ join_with_byte cut (next ∷ fields)) (cut ∷ more))
