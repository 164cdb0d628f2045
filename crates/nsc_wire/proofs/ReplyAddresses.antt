-- A host and the addresses of a host that are read are those that were written.
use Rattle.std.proofs.Common.{◌≡◌, ℕ, zero, suc, ◌^◌, ◌<◌, ◌≤◌, false, cond, ltb, eqb, List, [], ◌∷◌, ◌++◌, length, take, drop, map, Ok, Err, refl, sym, ap, subst, ◌∙◌, append_assoc, arith, inl, inr}
use Rattle.std.specs.List.{flat_map, AllByRecursion}
use Rattle.std.proofs.lemmas.Bool.{cases_Bool, ltb-false, eqb-true, eqb-false}
use Rattle.std.proofs.lemmas.List.{append-nil, length-take, nil_from_length, take-append-drop}
use Rattle.std.proofs.lemmas.List.Concat.{flat_map-cons}
use Rattle.std.proofs.lemmas.List.Elements.{All-from_recursion}
use Rattle.nsc_model.specs.declared.row.Found6.{Found6}
use Rattle.nsc_model.specs.declared.row.Ai.{Ai}
use Rattle.nsc_model.specs.declared.row.Host.{Host}
use Rattle.nsc_model.specs.Hosts.{ipv4, ipv6}
use Rattle.nsc_model.specs.Wire.{field, text, text_len, IsText, IsAddress, IsHost, AreAddresses}
use Rattle.nsc_wire.specs.Fields.{fields}
use Rattle.nsc_wire.specs.Replies.{◌>>=◌, piece_at, number_at, fixed_at, all_fixed, size_at, sizes_at, text_at, texts_at, address_size, family_at, host_at, found_at, founds_at, addresses_at}
use Rattle.nsc_wire.proofs.ReplyFields.{IsBytes, bind_ok, guard_is, guard_not, ok_is, Takes, Takes-then, piece_takes, number_takes, fixed_takes, all_fixed_takes, size_takes}
use Rattle.nsc_wire.proofs.ReplyTexts.{sized, sizes_fit, text_takes, texts_take}

-- ---- families

-- bytes of the length that a family has are an address of it
is_address : (family : ℕ) (address : List ℕ) → eqb (address_size family) 0 ≡ false → length address ≡ address_size family → IsAddress family address
is_address family address some len =
    elim (cases_Bool (eqb family ipv4)) [
      | inl four ↦ inl (eqb-true family ipv4 four, len ∙ rw four refl)
      | inr not_four ↦ elim (cases_Bool (eqb family ipv6)) [
        | inl six ↦ inr (eqb-true family ipv6 six, len ∙ rw (not_four, six) refl)
        | inr not_six ↦ absurd (eqb-false (address_size family) 0 some (rw (not_four, not_six) refl))
      ]
    ]

-- an address has the length that its family has
pub size_is : (family : ℕ) (address : List ℕ) → IsAddress family address → address_size family ≡ length address
size_is family address (inl four) = ap address_size four.0 ∙ sym four.1
size_is family address (inr six) = ap address_size six.0 ∙ sym six.1

pub size_filled : (family : ℕ) (address : List ℕ) → IsAddress family address → eqb (address_size family) 0 ≡ false
size_filled family address (inl four) = ap (λ (f : ℕ). eqb (address_size f) 0) four.0
size_filled family address (inr six) = ap (λ (f : ℕ). eqb (address_size f) 0) six.0

pub family_fits : (family : ℕ) (address : List ℕ) → IsAddress family address → family < 2 ^ 32
family_fits family address (inl four) = omega (arith, four.0)
family_fits family address (inr six) = omega (arith, six.0)

family_takes : (bytes : List ℕ) (x : ℕ × List ℕ) → IsBytes bytes → family_at bytes ≡ Ok x → Takes bytes (field x.0) x.1 × (eqb (address_size x.0) 0 ≡ false)
unfolding family_at
family_takes bytes x fits e =
    let a = bind_ok (number_at bytes) (λ n. cond (eqb (address_size n.0) 0) (Err (length bytes)) (Ok n)) x e in
    let g = guard_not (eqb (address_size a.0.0) 0) (length bytes) (Ok a.0) x a.2 in
    let n = number_takes bytes a.0 fits a.1 in
    subst (λ (y : ℕ × List ℕ). Takes bytes (field y.0) y.1 × (eqb (address_size y.0) 0 ≡ false)) (ok_is a.0 x g.1) (n.0, g.0)

-- ---- hosts

-- the bytes of a host after the fields version and found
abbrev pub host_body : Host → List ℕ
host_body h =
    text_len h.name ++ (field (length h.aliases) ++ (field h.family ++ (fields (length h.address ∷ 1 ∷ 0 ∷ []) ++ (text h.name ++ (flat_map text_len h.aliases ++ (h.address ++ flat_map text h.aliases))))))

pub host_takes : (bytes : List ℕ) (x : Host × List ℕ) → IsBytes bytes → host_at bytes ≡ Ok x → Takes bytes (host_body x.0) x.1 × IsHost x.0
unfolding host_at
host_takes bytes x fits e =
    let a0 = bind_ok (size_at bytes) _ x e in
    let a1 = bind_ok (number_at a0.0.1) _ x a0.2 in
    let a2 = bind_ok (family_at a1.0.1) _ x a1.2 in
    let a3 = bind_ok (all_fixed (address_size a2.0.0 ∷ 1 ∷ 0 ∷ []) a2.0.1) _ x a2.2 in
    let b0 = bind_ok (text_at a0.0.0 a3.0) _ x a3.2 in
    let b1 = bind_ok (sizes_at a1.0.0 b0.0.1) _ x b0.2 in
    let b2 = bind_ok (piece_at (address_size a2.0.0) b1.0) _ x b1.2 in
    let b3 = bind_ok (texts_at a1.0.0 b0.0.1 b2.0.1) _ x b2.2 in
    let s0 = size_takes bytes a0.0 fits a0.1 in
    let n1 = number_takes a0.0.1 a1.0 s0.rest_fits a1.1 in
    let f2 = family_takes a1.0.1 a2.0 n1.0.rest_fits a2.1 in
    let c3 = all_fixed_takes (address_size a2.0.0 ∷ 1 ∷ 0 ∷ []) a2.0.1 a3.0 f2.0.rest_fits a3.1 in
    let t0 = text_takes a0.0.0 a3.0 b0.0 c3.rest_fits b0.1 in
    let l1 = sizes_fit a1.0.0 b0.0.1 b1.0 t0.0.rest_fits b1.1 in
    let p2 = piece_takes (address_size a2.0.0) b1.0 b2.0 l1 b2.1 in
    let t3 = texts_take a1.0.0 b0.0.1 b2.0.1 b1.0 b3.0 t0.0.rest_fits p2.0.rest_fits b1.1 b3.1 in
    let rest : List ℕ = b3.0.1 in
    let w2 = Takes-then b1.0 b2.0.0 b2.0.1 (flat_map text b3.0.0) rest p2.0 t3.texts_are in
    let w1 = Takes-then b0.0.1 (flat_map text_len b3.0.0) b1.0 (b2.0.0 ++ flat_map text b3.0.0) rest t3.sizes w2 in
    let w0 = Takes-then a3.0 (text b0.0.0) b0.0.1 (flat_map text_len b3.0.0 ++ (b2.0.0 ++ flat_map text b3.0.0)) rest t0.0 w1 in
    let v3 = Takes-then a2.0.1 (fields (length b2.0.0 ∷ 1 ∷ 0 ∷ [])) a3.0 (text b0.0.0 ++ (flat_map text_len b3.0.0 ++ (b2.0.0 ++ flat_map text b3.0.0))) rest
    (subst (λ (n : ℕ). Takes a2.0.1 (fields (n ∷ 1 ∷ 0 ∷ [])) a3.0) (sym p2.1) c3) w0 in
    let v2 = Takes-then a1.0.1 (field a2.0.0) a2.0.1 _ rest f2.0 v3 in
    let v1 = Takes-then a0.0.1 (field (length b3.0.0)) a1.0.1 _ rest (subst (λ (n : ℕ). Takes a0.0.1 (field n) a1.0.1) (sym t3.count_is) n1.0) v2 in
    let v0 = Takes-then bytes (text_len b0.0.0) a0.0.1 _ rest (sized bytes a0.0.0 a0.0.1 b0.0.0 t0.2 s0) v1 in
    let made : Host × List ℕ = (record { name = b0.0.0; aliases = b3.0.0; family = a2.0.0; address = b2.0.0 }, rest) in
    subst (λ (y : Host × List ℕ). Takes bytes (host_body y.0) y.1 × IsHost y.0) {x = made} (ok_is made x b3.2)
    (v0, record { name_is = t0.1; aliases_are = All-from_recursion IsText b3.0.0 t3.each; address_is = is_address a2.0.0 b2.0.0 f2.1 p2.1 })

-- ---- addresses

abbrev pub address_of : Found6 → List ℕ
address_of f = f.address

abbrev pub family_of : Found6 → ℕ
family_of f = f.family

abbrev pub IsFound : Found6 → Type 0
IsFound f = IsAddress f.family f.address

-- an address that was read, with its family
record TakesFound (addresses families : List ℕ) (one : Found6) (others rest : List ℕ) : Type 0 where
  address : addresses ≡ one.address ++ others
  family : Takes families (one.family ∷ []) rest
  is : IsFound one

found_takes : (addresses families : List ℕ) (x : Found6 × List ℕ × List ℕ) → IsBytes families → found_at addresses families ≡ Ok x → TakesFound addresses families x.0 x.1 x.2
unfolding found_at
found_takes addresses [] x fits e = absurd cc
found_takes addresses (family ∷ rest) x fits e =
    let size : ℕ = address_size family in
    let made : Found6 × List ℕ × List ℕ = (record { family = family; address = take size addresses }, drop size addresses, rest) in
    let g = guard_not (eqb size 0) (suc (length rest)) (cond (ltb (length addresses) size) (Err (suc (length rest))) (Ok made)) x e in
    let h = guard_not (ltb (length addresses) size) (suc (length rest)) (Ok made) x g.1 in
    let long : size ≤ length addresses = ltb-false (length addresses) size h.0 in
    let len : length (take size addresses) ≡ size = omega (arith, length-take size addresses, long) in
    subst (λ (y : Found6 × List ℕ × List ℕ). TakesFound addresses (family ∷ rest) y.0 y.1 y.2) {x = made} (ok_is made x h.1)
    (record { address = sym (take-append-drop size addresses); family = record { parts = refl; rest_fits = λ i. fits (suc i) }; is = is_address family (take size addresses) g.0 len })

-- addresses that were read, with their families
record AreFounds (addresses families : List ℕ) (count : ℕ) (list : List Found6) (others rest : List ℕ) : Type 0 where
  addresses_are : addresses ≡ flat_map address_of list ++ others
  families_are : Takes families (map family_of list) rest
  count_is : length list ≡ count
  each : AllByRecursion IsFound list

founds_take : (count : ℕ) (addresses families : List ℕ) (x : List Found6 × List ℕ × List ℕ) → IsBytes families → founds_at count addresses families ≡ Ok x → AreFounds addresses families count x.0 x.1 x.2
unfolding founds_at
founds_take zero addresses families x fits e =
    let made : List Found6 × List ℕ × List ℕ = ([], addresses, families) in
    subst (λ (y : List Found6 × List ℕ × List ℕ). AreFounds addresses families 0 y.0 y.1 y.2) {x = made} (ok_is made x e)
    (record { addresses_are = refl; families_are = record { parts = refl; rest_fits = fits }; count_is = refl; each = tt })
founds_take (suc count) addresses families x fits e =
    let a = bind_ok (found_at addresses families) (λ first. founds_at count first.1 first.2 >>= λ others. Ok (first.0 ∷ others.0, others.1, others.2)) x e in
    let b = bind_ok (founds_at count a.0.1 a.0.2) (λ others. Ok (a.0.0 ∷ others.0, others.1, others.2)) x a.2 in
    let first = found_takes addresses families a.0 fits a.1 in
    let others = founds_take count a.0.1 a.0.2 b.0 first.family.rest_fits b.1 in
    let made : List Found6 × List ℕ × List ℕ = (a.0.0 ∷ b.0.0, b.0.1, b.0.2) in
    let whole : addresses ≡ flat_map address_of (a.0.0 ∷ b.0.0) ++ b.0.1 =
    first.address ∙ ap (λ (r : List ℕ). a.0.0.address ++ r) others.addresses_are ∙ sym (append_assoc a.0.0.address (flat_map address_of b.0.0) b.0.1)
    ∙ ap (λ (r : List ℕ). r ++ b.0.1) (sym (flat_map-cons address_of a.0.0 b.0.0)) in
    subst (λ (y : List Found6 × List ℕ × List ℕ). AreFounds addresses families (suc count) y.0 y.1 y.2) {x = made} (ok_is made x b.2)
    (record {
      addresses_are = whole;
      families_are = Takes-then families (a.0.0.family ∷ []) a.0.2 (map family_of b.0.0) b.0.2 first.family others.families_are;
      count_is = ap suc others.count_is;
      each = (first.is, others.each);
    })

-- the bytes of addresses after the fields version and found
abbrev pub addresses_body : Ai → List ℕ
addresses_body a =
    let addresses = flat_map address_of a.list in
    field (length a.list) ++ (field (length addresses) ++ (text_len a.canon ++ (field 0 ++ (addresses ++ (map family_of a.list ++ text a.canon)))))

pub addresses_take : (bytes : List ℕ) (x : Ai × List ℕ) → IsBytes bytes → addresses_at bytes ≡ Ok x → Takes bytes (addresses_body x.0) x.1 × AreAddresses x.0
unfolding addresses_at
addresses_take bytes x fits e =
    let a0 = bind_ok (number_at bytes) _ x e in
    let a1 = bind_ok (number_at a0.0.1) _ x a0.2 in
    let a2 = bind_ok (size_at a1.0.1) _ x a1.2 in
    let a3 = bind_ok (fixed_at 0 a2.0.1) _ x a2.2 in
    let b0 = bind_ok (piece_at a1.0.0 a3.0) _ x a3.2 in
    let b1 = bind_ok (founds_at a0.0.0 b0.0.0 b0.0.1) _ x b0.2 in
    let g = guard_is (eqb (length b1.0.1) 0) (length a0.0.1) (text_at a2.0.0 b1.0.2 >>= λ canon. Ok (record { list = b1.0.0; canon = canon.0 }, canon.1)) x b1.2 in
    let b2 = bind_ok (text_at a2.0.0 b1.0.2) (λ canon. Ok (record { list = b1.0.0; canon = canon.0 }, canon.1)) x g.1 in
    let n0 = number_takes bytes a0.0 fits a0.1 in
    let n1 = number_takes a0.0.1 a1.0 n0.0.rest_fits a1.1 in
    let s2 = size_takes a1.0.1 a2.0 n1.0.rest_fits a2.1 in
    let c3 = fixed_takes 0 a2.0.1 a3.0 s2.rest_fits a3.1 in
    let p0 = piece_takes a1.0.0 a3.0 b0.0 c3.rest_fits b0.1 in
    let f1 = founds_take a0.0.0 b0.0.0 b0.0.1 b1.0 p0.0.rest_fits b1.1 in
    let t2 = text_takes a2.0.0 b1.0.2 b2.0 f1.families_are.rest_fits b2.1 in
    let none : b1.0.1 ≡ [] = nil_from_length b1.0.1 (eqb-true _ _ g.0) in
    let all : b0.0.0 ≡ flat_map address_of b1.0.0 = f1.addresses_are ∙ ap (λ (r : List ℕ). flat_map address_of b1.0.0 ++ r) none ∙ append-nil (flat_map address_of b1.0.0) in
    let rest : List ℕ = b2.0.1 in
    let w1 = Takes-then b0.0.1 (map family_of b1.0.0) b1.0.2 (text b2.0.0) rest f1.families_are t2.0 in
    let w0 = Takes-then a3.0 (flat_map address_of b1.0.0) b0.0.1 (map family_of b1.0.0 ++ text b2.0.0) rest (subst (λ (p : List ℕ). Takes a3.0 p b0.0.1) all p0.0) w1 in
    let v3 = Takes-then a2.0.1 (field 0) a3.0 (flat_map address_of b1.0.0 ++ (map family_of b1.0.0 ++ text b2.0.0)) rest c3 w0 in
    let v2 = Takes-then a1.0.1 (text_len b2.0.0) a2.0.1 _ rest (sized a1.0.1 a2.0.0 a2.0.1 b2.0.0 t2.2 s2) v3 in
    let v1 = Takes-then a0.0.1 (field (length (flat_map address_of b1.0.0))) a1.0.1 _ rest (subst (λ (n : ℕ). Takes a0.0.1 (field n) a1.0.1) (sym p0.1 ∙ ap (λ (p : List ℕ). length p) all) n1.0) v2 in
    let v0 = Takes-then bytes (field (length b1.0.0)) a0.0.1 _ rest (subst (λ (n : ℕ). Takes bytes (field n) a0.0.1) (sym f1.count_is) n0.0) v1 in
    let made : Ai × List ℕ = (record { list = b1.0.0; canon = b2.0.0 }, rest) in
    subst (λ (y : Ai × List ℕ). Takes bytes (addresses_body y.0) y.1 × AreAddresses y.0) {x = made} (ok_is made x b2.2)
    (v0, record { addresses_are = All-from_recursion IsFound b1.0.0 f1.each; canon_is = t2.1 })
