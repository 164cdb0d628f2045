-- No bytes spell two groups, or two lists of ids.
use Rattle.std.proofs.Common.{◌≡◌, ℕ, ◌+◌, ◌*◌, ◌<◌, ◌≤◌, ◌^◌, List, [], ◌∷◌, ◌++◌, length, map, flat_map, All, refl, sym, ap, subst, ◌∙◌, append_assoc, arith, length-append}
use Rattle.std.proofs.lemmas.List.Elements.{All-head, All-tail}
use Rattle.nsc_model.specs.declared.row.Group.{Group}
use Rattle.nsc_model.specs.Answer.{reply_limit}
use Rattle.nsc_model.specs.Wire.{field, text, text_len, group_found, ids_found, IsGroup}
use Rattle.nsc_laws.proofs.Spellings.{same_field, same_text, head_is, tail_is, length_text}

-- ---- ids

ids_size : (ids : List ℕ) → length (flat_map field ids) ≡ 4 * length ids
ids_size [] = refl
ids_size (id ∷ ids) = omega (arith, length-append (field id) (flat_map field ids), ids_size ids)

same_list : (xs ys : List ℕ) → All (λ n. n < 2 ^ 32) xs → All (λ n. n < 2 ^ 32) ys → length xs ≡ length ys → flat_map field xs ≡ flat_map field ys → xs ≡ ys
same_list [] [] a b l e = refl
same_list [] (y ∷ ys) a b l e = absurd (omega arith)
same_list (x ∷ xs) [] a b l e = absurd (omega arith)
same_list (x ∷ xs) (y ∷ ys) a b l e =
    let first = same_field x y (flat_map field xs) (flat_map field ys) (All-head (λ n. n < 2 ^ 32) x xs a) (All-head (λ n. n < 2 ^ 32) y ys b) e in
    let later = same_list xs ys (All-tail (λ n. n < 2 ^ 32) x xs a) (All-tail (λ n. n < 2 ^ 32) y ys b) (omega arith) first.1 in
    subst (λ z. x ∷ xs ≡ z ∷ ys) first.0 (ap (λ more. x ∷ more) later)

count_fits : (ids : List ℕ) → length (ids_found ids) ≤ reply_limit → length ids < 2 ^ 32
count_fits ids bound = let e : length (ids_found ids) ≡ 12 + length (flat_map field ids) = simp length-append (omega arith) in omega (arith, e, ids_size ids)

pub same_ids : (xs ys : List ℕ) → All (λ n. n < 2 ^ 32) xs → All (λ n. n < 2 ^ 32) ys → length (ids_found xs) ≤ reply_limit → length (ids_found ys) ≤ reply_limit → ids_found xs ≡ ids_found ys → xs ≡ ys
same_ids xs ys a b f g e =
    let version = same_field 2 2 _ _ (omega arith) (omega arith) e in
    let found = same_field 1 1 _ _ (omega arith) (omega arith) version.1 in
    let count = same_field (length xs) (length ys) _ _ (count_fits xs f) (count_fits ys g) found.1 in
    same_list xs ys a b count.0 count.1

-- ---- the entry of a group

-- the lengths of texts, with their zero bytes, and what stands after them
pub same_lengths : (xs ys : List (List ℕ)) (r s : List ℕ) → length xs ≡ length ys → length (flat_map text xs) ≤ reply_limit → length (flat_map text ys) ≤ reply_limit → flat_map text_len xs ++ r ≡ flat_map text_len ys ++ s
    → (map (λ x. length x + 1) xs ≡ map (λ x. length x + 1) ys) × (r ≡ s)
same_lengths [] [] r s l f g e = (refl, e)
same_lengths [] (y ∷ ys) r s l f g e = absurd (omega arith)
same_lengths (x ∷ xs) [] r s l f g e = absurd (omega arith)
same_lengths (x ∷ xs) (y ∷ ys) r s l f g e =
    let of_x = length_text x (flat_map text xs) in
    let of_y = length_text y (flat_map text ys) in
    let first = same_field (length x + 1) (length y + 1) (flat_map text_len xs ++ r) (flat_map text_len ys ++ s) (omega (arith, of_x)) (omega (arith, of_y)) e in
    let later = same_lengths xs ys r s (omega arith) (omega (arith, of_x)) (omega (arith, of_y)) first.1 in
    (subst (λ n. (length x + 1) ∷ map (λ z. length z + 1) xs ≡ n ∷ map (λ z. length z + 1) ys) first.0 (ap (λ more. (length x + 1) ∷ more) later.0), later.1)

-- texts whose lengths are known
pub same_texts : (xs ys : List (List ℕ)) → map (λ x. length x + 1) xs ≡ map (λ x. length x + 1) ys → flat_map text xs ≡ flat_map text ys → xs ≡ ys
same_texts [] [] l e = refl
same_texts [] (y ∷ ys) l e = absurd cc
same_texts (x ∷ xs) [] l e = absurd cc
same_texts (x ∷ xs) (y ∷ ys) l e =
    let size = head_is (length x + 1) (length y + 1) (map (λ z. length z + 1) xs) (map (λ z. length z + 1) ys) l in
    let sizes = tail_is (length x + 1) (length y + 1) (map (λ z. length z + 1) xs) (map (λ z. length z + 1) ys) l in
    let first = same_text x y (flat_map text xs) (flat_map text ys) size e in
    let later = same_texts xs ys sizes first.1 in
    subst (λ (z : List ℕ). x ∷ xs ≡ z ∷ ys) first.0 (ap (λ more. x ∷ more) later)

-- what stands after the count
abbrev after_count : Group → List ℕ
after_count g = flat_map text_len g.members ++ (text g.name ++ (text g.passwd ++ flat_map text g.members))

regrouped : (g : Group) → flat_map text_len g.members ++ text g.name ++ text g.passwd ++ flat_map text g.members ≡ after_count g
regrouped g =
    append_assoc (flat_map text_len g.members ++ text g.name) (text g.passwd) (flat_map text g.members)
    ∙ append_assoc (flat_map text_len g.members) (text g.name) (text g.passwd ++ flat_map text g.members)

pub lengths_size : (members : List (List ℕ)) → length (flat_map text_len members) ≡ 4 * length members
lengths_size [] = refl
lengths_size (m ∷ members) = omega (arith, length-append (text_len m) (flat_map text_len members), lengths_size members)

group_length : (g : Group) → length (group_found g) ≡ 26 + length g.name + length g.passwd + length (flat_map text_len g.members) + length (flat_map text g.members)
group_length g = simp length-append (omega arith)

-- its lengths and its count fit their fields
record GroupFits (g : Group) : Type 0 where
  name_fits : length g.name + 1 < 2 ^ 32
  passwd_fits : length g.passwd + 1 < 2 ^ 32
  members_fit : length g.members < 2 ^ 32
  texts_fit : length (flat_map text g.members) ≤ reply_limit

group_sizes : (g : Group) → length (group_found g) ≤ reply_limit → GroupFits g
group_sizes g bound = record {
  name_fits = omega (arith, group_length g);
  passwd_fits = omega (arith, group_length g);
  members_fit = omega (arith, group_length g, lengths_size g.members);
  texts_fit = omega (arith, group_length g);
}

abbrev made : List ℕ → List ℕ → ℕ → List (List ℕ) → Group
made name passwd gid members = record { name = name; passwd = passwd; gid = gid; members = members }

group_from : (p q : Group) → p.name ≡ q.name → p.passwd ≡ q.passwd → p.gid ≡ q.gid → p.members ≡ q.members → p ≡ q
group_from p q h0 h1 h2 h3 =
    ap (λ x. made x p.passwd p.gid p.members) h0 ∙ (ap (λ x. made q.name x p.gid p.members) h1 ∙ (ap (λ x. made q.name q.passwd x p.members) h2 ∙ ap (λ x. made q.name q.passwd q.gid x) h3))

pub same_group : (p q : Group) → IsGroup p → IsGroup q → length (group_found p) ≤ reply_limit → length (group_found q) ≤ reply_limit → group_found p ≡ group_found q → p ≡ q
same_group p q p_is q_is p_short q_short e =
    let f = group_sizes p p_short in
    let g = group_sizes q q_short in
    let version = same_field 2 2 _ _ (omega arith) (omega arith) e in
    let found = same_field 1 1 _ _ (omega arith) (omega arith) version.1 in
    let name_len = same_field (length p.name + 1) (length q.name + 1) _ _ f.name_fits g.name_fits found.1 in
    let passwd_len = same_field (length p.passwd + 1) (length q.passwd + 1) _ _ f.passwd_fits g.passwd_fits name_len.1 in
    let gid = same_field p.gid q.gid _ _ p_is.gid_fits q_is.gid_fits passwd_len.1 in
    let count = same_field (length p.members) (length q.members) _ _ f.members_fit g.members_fit gid.1 in
    let sizes = same_lengths p.members q.members (text p.name ++ (text p.passwd ++ flat_map text p.members)) (text q.name ++ (text q.passwd ++ flat_map text q.members)) count.0 f.texts_fit g.texts_fit (sym (regrouped p) ∙ (count.1 ∙ regrouped q)) in
    let name = same_text p.name q.name (text p.passwd ++ flat_map text p.members) (text q.passwd ++ flat_map text q.members) name_len.0 sizes.1 in
    let passwd = same_text p.passwd q.passwd (flat_map text p.members) (flat_map text q.members) passwd_len.0 name.1 in
    group_from p q name.0 passwd.0 gid.0 (same_texts p.members q.members sizes.0 passwd.1)
