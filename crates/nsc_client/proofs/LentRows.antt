-- Texts and fields at the front of bytes.
use Rattle.std.proofs.Common.{◌≡◌, ◌∙◌, add-one, ℕ, ◌+◌, ◌<◌, ◌≤◌, ◌^◌, ◌==◌, Bool, true, List, [], ◌∷◌, ◌++◌, length, get_or, take, drop, drop-cons, refl, sym, ap, subst, append_assoc, arith, All, flat_map, inl, inr, ◌*◌}
use Rattle.std.specs.List.{after_first, before_first, list_any, position_or_len}
use Rattle.std.proofs.lemmas.Bool.{eq-eqb, ne_eqb}
use Rattle.std.proofs.lemmas.List.{get_or_append_left, get_or_at, length-append, length-drop, take_at}
use Rattle.std.proofs.lemmas.List.Folds.{list_any_at}
use Rattle.std.proofs.lemmas.List.Elements.{All-head, All-tail}
use Rattle.std.proofs.lemmas.List.Sums.{position_or_len_is}
use Rattle.std.proofs.Math.Seq.{drop-append-add, drop-append_seam}
use Rattle.byteorder.specs.Endian.{little_number}
use Rattle.byteorder.specs.Numbers.{little_number-reads_back}
use Rattle.nsc_model.specs.declared.row.Passwd.{Passwd}
use Rattle.nsc_model.specs.declared.row.Group.{Group}
use Rattle.nsc_model.specs.declared.row.Host.{Host}
use Rattle.nsc_model.specs.declared.row.Service.{Service}
use Rattle.nsc_model.specs.ServiceLines.{exchanged}
use Rattle.nsc_model.specs.Wire.{IsAddress, IsText, field, group_found, host_found, passwd_found, service_found, text, text_len}
use Rattle.nsc_client.specs.declared.lent.LentTexts.{LentTexts}
use Rattle.nsc_client.specs.Lent.{LendsTexts}

abbrev pub is_zero : ℕ → Bool
is_zero b = b == 0

past : (one rest : List ℕ) → drop (length one + 1) (one ++ 0 ∷ rest) ≡ rest
past one rest = drop-append-add one (0 ∷ rest) 1

split_zero : (one rest : List ℕ) → IsText one → (list_any is_zero (one ++ 0 ∷ rest) ≡ true) × (before_first is_zero (one ++ 0 ∷ rest) ≡ one) × (after_first is_zero (one ++ 0 ∷ rest) ≡ rest)
split_zero one rest is =
    let all : List ℕ = one ++ 0 ∷ rest in
    let size : length all ≡ length one + length (0 ∷ rest) = length-append one (0 ∷ rest) in
    let last : get_or all (length one) 0 ≡ 0 = get_or_at one 0 rest 0 (length one) refl in
    let at : position_or_len is_zero all ≡ length one = position_or_len_is is_zero all (length one) 0 (omega (arith, size))
    (λ k lt. ne_eqb _ _ (λ zero_is. is k 0 lt (sym (get_or_append_left one (0 ∷ rest) 0 k lt) ∙ zero_is)))
    (λ lt. eq-eqb _ _ last) in (
      list_any_at is_zero all (length one) 0 (omega (arith, size)) (eq-eqb _ _ last),
      ap (λ (n : ℕ). take n all) at ∙ take_at one (0 ∷ rest) (length one) refl,
      ap (λ (n : ℕ). drop (n + 1) all) at ∙ past one rest,
    )

-- a text at the front of bytes ends at the first zero byte
pub split_text : (bytes one rest : List ℕ) → IsText one → bytes ≡ text one ++ rest
    → (list_any is_zero bytes ≡ true) × (before_first is_zero bytes ≡ one) × (after_first is_zero bytes ≡ rest)
split_text bytes one rest is whole =
    subst (λ (b : List ℕ). (list_any is_zero b ≡ true) × (before_first is_zero b ≡ one) × (after_first is_zero b ≡ rest)) (sym (whole ∙ append_assoc one (0 ∷ []) rest)) (split_zero one rest is)

-- a field at a place
pub field_read : (bytes rest : List ℕ) (at n : ℕ) → n < 2 ^ 32 → drop at bytes ≡ field n ++ rest → little_number 4 (drop at bytes) ≡ n
field_read bytes rest at n low there = ap (λ (b : List ℕ). little_number 4 b) there ∙ little_number-reads_back 4 n rest low

pub field_fits : (bytes rest : List ℕ) (at n : ℕ) → drop at bytes ≡ field n ++ rest → at + 4 ≤ length bytes
field_fits bytes rest at n there =
    let size : length (drop at bytes) ≡ 4 + length rest = ap (λ (b : List ℕ). length b) there ∙ omega arith in
    omega (arith, size, length-drop at bytes)

-- ---- rows

pub same_user : (u : Passwd) (name passwd : List ℕ) (uid gid : ℕ) (gecos dir shell : List ℕ) → name ≡ u.name → passwd ≡ u.passwd → uid ≡ u.uid → gid ≡ u.gid → gecos ≡ u.gecos → dir ≡ u.dir → shell ≡ u.shell
    → record { name = name; passwd = passwd; uid = uid; gid = gid; gecos = gecos; dir = dir; shell = shell } ≡ u
same_user u name passwd uid gid gecos dir shell a b c d e f h = rw (a, b, c, d, e, f, h) refl

lengths_size : (texts : List (List ℕ)) → length (flat_map text_len texts) ≡ 4 * length texts
lengths_size [] = refl
lengths_size (one ∷ texts) = (let more = lengths_size texts in let size : length (flat_map text_len (one ∷ texts)) ≡ 4 + length (flat_map text_len texts) = length-append (text_len one) (flat_map text_len texts) in omega (arith, more, size))

-- the lengths of texts, and what stands after them
pub lengths_passed : (texts : List (List ℕ)) (rest : List ℕ) (n : ℕ) → n ≡ length texts → drop (4 * n) (flat_map text_len texts ++ rest) ≡ rest
lengths_passed texts rest n is =
    let size : 4 * n ≡ length (flat_map text_len texts) = ap (λ (k : ℕ). 4 * k) is ∙ sym (lengths_size texts) in
    ap (λ (k : ℕ). drop k (flat_map text_len texts ++ rest)) size ∙ drop-append_seam (flat_map text_len texts) rest

-- there are fewer texts than bytes that spell them
texts_size : (texts : List (List ℕ)) → length texts ≤ length (flat_map text texts)
texts_size [] = omega arith
texts_size (one ∷ texts) =
    let more = texts_size texts in
    let size : length (flat_map text (one ∷ texts)) ≡ length (text one) + length (flat_map text texts) = length-append (text one) (flat_map text texts) in
    let size-2 : length (text one) ≡ length one + 1 = length-append one (0 ∷ []) in
    omega (arith, more, size, size-2)

-- what stands after the fields
pub user_texts : (u : Passwd) → drop 36 (passwd_found u) ≡ text u.name ++ (text u.passwd ++ (text u.gecos ++ (text u.dir ++ text u.shell)))
user_texts u =
    let grouped : (((text u.name ++ text u.passwd) ++ text u.gecos) ++ text u.dir) ++ text u.shell ≡ text u.name ++ (text u.passwd ++ (text u.gecos ++ (text u.dir ++ text u.shell))) = simp append_assoc in grouped

pub group_texts : (g : Group) → drop 24 (group_found g) ≡ flat_map text_len g.members ++ (text g.name ++ (text g.passwd ++ flat_map text g.members))
group_texts g =
    let lengths = flat_map text_len g.members in
    let texts = flat_map text g.members in
    let grouped : ((lengths ++ text g.name) ++ text g.passwd) ++ texts ≡ lengths ++ (text g.name ++ (text g.passwd ++ texts)) = simp append_assoc in grouped

pub host_texts : (h : Host) → drop 32 (host_found h) ≡ text h.name ++ (flat_map text_len h.aliases ++ (h.address ++ flat_map text h.aliases))
host_texts h =
    let lengths = flat_map text_len h.aliases in
    let texts = flat_map text h.aliases in
    let grouped : ((text h.name ++ lengths) ++ h.address) ++ texts ≡ text h.name ++ (lengths ++ (h.address ++ texts)) = simp append_assoc in grouped

pub service_texts : (s : Service) → drop 24 (service_found s) ≡ text s.name ++ (text s.proto ++ (flat_map text_len s.aliases ++ flat_map text s.aliases))
service_texts s =
    let lengths = flat_map text_len s.aliases in
    let texts = flat_map text s.aliases in
    let grouped : ((text s.name ++ text s.proto) ++ lengths) ++ texts ≡ text s.name ++ (text s.proto ++ (lengths ++ texts)) = simp append_assoc in grouped

pub group_counted : (g : Group) → length (group_found g) ≤ 2 ^ 30 → length g.members < 2 ^ 32
group_counted g short =
    let lengths = flat_map text_len g.members in
    let texts = flat_map text g.members in
    let left : length (drop 24 (group_found g)) ≡ length (lengths ++ (text g.name ++ (text g.passwd ++ texts))) = ap (λ (b : List ℕ). length b) (group_texts g) in
    omega (arith, short, left, length-drop 24 (group_found g), texts_size g.members, length-append lengths (text g.name ++ (text g.passwd ++ texts)), length-append (text g.name) (text g.passwd ++ texts), length-append (text g.passwd) texts)

pub host_counted : (h : Host) → length (host_found h) ≤ 2 ^ 30 → length h.aliases < 2 ^ 32
host_counted h short =
    let lengths = flat_map text_len h.aliases in
    let texts = flat_map text h.aliases in
    let left : length (drop 32 (host_found h)) ≡ length (text h.name ++ (lengths ++ (h.address ++ texts))) = ap (λ (b : List ℕ). length b) (host_texts h) in
    omega (arith, short, left, length-drop 32 (host_found h), texts_size h.aliases, length-append (text h.name) (lengths ++ (h.address ++ texts)), length-append lengths (h.address ++ texts), length-append h.address texts)

pub service_counted : (s : Service) → length (service_found s) ≤ 2 ^ 30 → length s.aliases < 2 ^ 32
service_counted s short =
    let lengths = flat_map text_len s.aliases in
    let texts = flat_map text s.aliases in
    let left : length (drop 24 (service_found s)) ≡ length (text s.name ++ (text s.proto ++ (lengths ++ texts))) = ap (λ (b : List ℕ). length b) (service_texts s) in
    omega (arith, short, left, length-drop 24 (service_found s), texts_size s.aliases, length-append (text s.name) (text s.proto ++ (lengths ++ texts)), length-append (text s.proto) (lengths ++ texts), length-append lengths texts)

pub address_size : (family : ℕ) (address : List ℕ) → IsAddress family address → (family < 2 ^ 32) × (length address < 2 ^ 32)
address_size family address (inl v4) = (let f = v4.0 in let l = v4.1 in (omega arith, omega arith))
address_size family address (inr v6) = (let f = v6.0 in let l = v6.1 in (omega arith, omega arith))

pub exchanged_fits : (port : ℕ) → port < 2 ^ 16 → exchanged port < 65536
exchanged_fits port small = omega arith

pub exchanged_twice : (port : ℕ) → port < 2 ^ 16 → exchanged (exchanged port) ≡ port
exchanged_twice port small = omega arith

-- one text more is put
pub put_more : (c at : ℕ) (out put : List ℕ) (all : List (List ℕ)) → at < length all → put ≡ out ++ c ∷ get_or all at [] → put ++ flat_map (λ t. c ∷ t) (drop (at + 1) all) ≡ out ++ flat_map (λ t. c ∷ t) (drop at all)
put_more c at out put all low is =
    let next : drop at all ≡ get_or all at [] ∷ drop (at + 1) all = drop-cons all at [] low ∙ ap (λ (n : ℕ). get_or all at [] ∷ drop n all) (sym (add-one at)) in
    ap (λ (l : List ℕ). l ++ flat_map (λ t. c ∷ t) (drop (at + 1) all)) is ∙ append_assoc out (c ∷ get_or all at []) (flat_map (λ t. c ∷ t) (drop (at + 1) all)) ∙ ap (λ (l : List (List ℕ)). out ++ flat_map (λ t. c ∷ t) l) (sym next)

-- the next text of some
pub next_lent : (at : ℕ) (bytes rest : List ℕ) (all : List (List ℕ)) → at < length all → bytes ≡ flat_map text (drop at all) ++ rest → bytes ≡ text (get_or all at []) ++ (flat_map text (drop (at + 1) all) ++ rest)
next_lent at bytes rest all low is =
    let next : drop at all ≡ get_or all at [] ∷ drop (at + 1) all = drop-cons all at [] low ∙ ap (λ (n : ℕ). get_or all at [] ∷ drop n all) (sym (add-one at)) in
    is ∙ ap (λ (l : List (List ℕ)). flat_map text l ++ rest) next ∙ append_assoc (text (get_or all at [])) (flat_map text (drop (at + 1) all)) rest

-- the first of some texts, and the others
pub first_lent : (lent : LentTexts) (texts : List (List ℕ)) → (lends : LendsTexts lent texts) → 0 < lent.count
    → (first : List ℕ) × (others : List (List ℕ)) × (texts ≡ first ∷ others) × IsText first × (lent.bytes.now ≡ text first ++ (flat_map text others ++ lends.rest)) × All IsText others × (lent.count ≡ length others + 1)
first_lent lent [] lends some = (let none = lends.counted in absurd (omega arith))
first_lent lent (first ∷ others) lends some =
    (first, others, refl, All-head IsText first others lends.are_texts, lends.spelled ∙ append_assoc (text first) (flat_map text others) lends.rest, All-tail IsText first others lends.are_texts, (let size = lends.counted in omega arith))

pub group_put : (out o1 o2 o3 o4 name passwd gid members : List ℕ) → o1 ≡ out ++ name → o2 ≡ o1 ++ 58 ∷ passwd → o3 ≡ o2 ++ 58 ∷ gid → o4 ≡ o3 ++ 58 ∷ []
    → o4 ++ members ≡ out ++ (name ++ 58 ∷ (passwd ++ 58 ∷ (gid ++ 58 ∷ members)))
group_put out o1 o2 o3 o4 name passwd gid members a b c d = rw (d, c, b, a) (simp append_assoc)
