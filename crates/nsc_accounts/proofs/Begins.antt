-- Bytes that begin with a field and a colon.
use Rattle.std.proofs.Common.{◌≡◌, ℕ, ◌+◌, ◌<◌, List, ◌∷◌, ◌++◌, length, get_or, take, drop, refl, ◌∙◌, ap, arith, length-append}
use Rattle.std.proofs.lemmas.List.{take_at, get_or_at}
use Rattle.nsc_base.proofs.Places.{split_at}

pub begins : (bytes field : List ℕ) → length field < length bytes → get_or bytes (length field) 0 ≡ 58 → take (length field) bytes ≡ field → bytes ≡ field ++ 58 ∷ drop (length field + 1) bytes
begins bytes field l colon front =
    let rest = drop (length field + 1) bytes in
    split_at bytes (length field) l ∙ ap (λ c. take (length field) bytes ++ c ∷ rest) colon ∙ ap (λ (f : List ℕ). f ++ 58 ∷ rest) front

pub begins_length : (bytes field rest : List ℕ) → bytes ≡ field ++ 58 ∷ rest → length field < length bytes
begins_length bytes field rest is = omega (arith, ap length is, length-append field (58 ∷ rest))

pub begins_colon : (bytes field rest : List ℕ) → bytes ≡ field ++ 58 ∷ rest → get_or bytes (length field) 0 ≡ 58
begins_colon bytes field rest is = ap (λ (bs : List ℕ). get_or bs (length field) 0) is ∙ get_or_at field 58 rest 0 (length field) refl

pub begins_front : (bytes field rest : List ℕ) → bytes ≡ field ++ 58 ∷ rest → take (length field) bytes ≡ field
begins_front bytes field rest is = ap (λ (bs : List ℕ). take (length field) bs) is ∙ take_at field (58 ∷ rest) (length field) refl
