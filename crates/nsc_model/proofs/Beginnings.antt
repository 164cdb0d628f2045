-- Beginnings of histories: what holds of two of one history, and of a history that goes on.
use Rattle.std.proofs.Common.{◌≡◌, ◌∙◌, ◌+◌, ◌≤◌, List, [], ◌∷◌, ◌++◌, length, length-append, refl, sym, ap, arith}
use Rattle.nsc_model.specs.declared.record.Record.{Record}
use Rattle.nsc_model.specs.History.{IsPrefix}

pub prefix_all : (h : List Record) → IsPrefix h h
prefix_all h = ([], refl)

pub prefix_none : (h : List Record) → IsPrefix [] h
prefix_none h = (h, sym (append_none h)) where
  append_none : (xs : List Record) → xs ++ [] ≡ xs
  append_none [] = refl
  append_none (x ∷ xs) = ap (λ (l : List Record). x ∷ l) (append_none xs)

pub prefix_more : (r : Record) (seen h : List Record) → IsPrefix seen h → IsPrefix seen (r ∷ h)
prefix_more r seen h p = (r ∷ p.0, ap (λ (l : List Record). r ∷ l) p.1)

-- of two beginnings of one history the shorter one begins the longer one
parts : (p q a b : List Record) → p ++ a ≡ q ++ b → length a ≤ length b → IsPrefix a b
parts p [] a b e low = (p, sym e)
parts [] (y ∷ q) a b e low =
    let long : length a ≡ length (y ∷ (q ++ b)) = ap (λ (l : List Record). length l) e in
    let both : length (q ++ b) ≡ length q + length b = length-append q b in
    absurd (omega arith)
parts (x ∷ p) (y ∷ q) a b e low = parts p q a b (cc) low

pub prefix_between : (a b h : List Record) → IsPrefix a h → IsPrefix b h → length a ≤ length b → IsPrefix a b
prefix_between a b h p q low = parts p.0 q.0 a b (sym p.1 ∙ q.1) low
