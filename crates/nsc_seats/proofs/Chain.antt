-- The tables that were left, and how they go on.
use Rattle.std.proofs.Common.{◌≡◌, ◌∙◌, ℕ, suc, ◌<◌, List, [], ◌∷◌, ◌++◌, length, map, get_or, sym, ap}
use Rattle.std.proofs.Math.Seq.{get_or-append_seam}
use Rattle.std.proofs.lemmas.List.{get_or-map, get_or_append_left, length-map, map-append}
use Rattle.atomic_table.specs.Seated.{TableId}
use Rattle.nsc_writer.specs.Former.{Former}
use Rattle.nsc_seats.specs.Tables.{IsChain, tables}

-- what follows the first one
pub after : {A : Type 0} (xs ys : List A) (x y d : A) (n : ℕ) → xs ++ x ∷ [] ≡ y ∷ ys → get_or (xs ++ x ∷ []) (suc n) d ≡ get_or ys n d
after xs ys x y d n same = ap (λ l. get_or l (suc n) d) same

-- one more at the end of both
pub grown : {A : Type 0} (xs ys : List A) (x y z : A) → xs ++ x ∷ [] ≡ y ∷ ys → (xs ++ x ∷ []) ++ z ∷ [] ≡ y ∷ (ys ++ z ∷ [])
grown xs ys x y z same = ap (λ l. l ++ z ∷ []) same

-- one more table was left
pub chain_grown : (first newest next : TableId) (left : List Former) (f : Former) → IsChain first left newest → f.table ≡ newest → f.newer.table ≡ next → IsChain first (left ++ f ∷ []) next
chain_grown first newest next left f chain here there =
    let front : map (λ (f : Former). f.table) (left ++ f ∷ []) ≡ map (λ (f : Former). f.table) left ++ newest ∷ [] = map-append (λ (f : Former). f.table) left (f ∷ []) ∙ (λ i. map (λ (f : Former). f.table) left ++ here i ∷ []) in
    let back : map (λ (f : Former). f.newer.table) (left ++ f ∷ []) ≡ map (λ (f : Former). f.newer.table) left ++ next ∷ [] = map-append (λ (f : Former). f.newer.table) left (f ∷ []) ∙ (λ i. map (λ (f : Former). f.newer.table) left ++ there i ∷ []) in
    ap (λ l. l ++ next ∷ []) front ∙ grown (map (λ (f : Former). f.table) left) (map (λ (f : Former). f.newer.table) left) newest first next chain ∙ ap (λ l. first ∷ l) (sym back)

-- the table of a number is the one that was left, and the next one goes on in its place
pub table_left : (first newest : TableId) (left : List Former) (f : Former) (n : ℕ) → n < length left → get_or (tables left newest) n newest ≡ (get_or left n f).table
table_left first newest left f n low = get_or_append_left (map (λ (f : Former). f.table) left) (newest ∷ []) newest n (rw (length-map left (λ (f : Former). f.table)) low) ∙ get_or-map (λ (f : Former). f.table) left n f newest low

pub table_next : (first newest : TableId) (left : List Former) (f : Former) (n : ℕ) → IsChain first left newest → n < length left → get_or (tables left newest) (suc n) newest ≡ (get_or left n f).newer.table
table_next first newest left f n chain low = after (map (λ (f : Former). f.table) left) (map (λ (f : Former). f.newer.table) left) newest first newest n chain ∙ get_or-map (λ (f : Former). f.newer.table) left n f newest low

-- behind those that were left stands the newest
pub table_last : (newest : TableId) (left : List Former) → get_or (tables left newest) (length left) newest ≡ newest
table_last newest left = ap (λ n. get_or (tables left newest) n newest) (sym (length-map left (λ (f : Former). f.table))) ∙ get_or-append_seam (map (λ (f : Former). f.table) left) newest [] newest
