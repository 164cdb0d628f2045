-- The first `::` of a text.
use Rattle.std.proofs.Common.{◌≡◌, ℕ, ◌<◌, ◌==◌, ◌&&◌, if◌then◌else◌, Bool, true, false, List, [], ◌∷◌, ◌++◌, length, codes, Option, Some, None, refl, sym, ◌∙◌, ap, subst, inl, inr, arith, append_assoc}
use Rattle.std.specs.List.{list_any}
use Rattle.std.specs.Option.{option_map}
use Rattle.std.specs.Net.Grammar.{IsGroupsAfter, IsGroups}
use Rattle.std.proofs.lemmas.List.{append-nil}
use Rattle.std.proofs.lemmas.Bool.{eqb-true}
use Rattle.nsc_base.specs.Addresses.{is_pair, around_pair}
use Rattle.nsc_addr.proofs.Fields.{IsUncut}
use Rattle.nsc_addr.proofs.Options.{map_some, both_true, either_false}
use Rattle.nsc_addr.proofs.Dotted.{dotted_uncut}
use Rattle.nsc_addr.proofs.Groups.{group_uncut, dotted_length}

-- what stands around a pair, with a text more before it
abbrev onto : List ℕ → Option (List ℕ × List ℕ) → Option (List ℕ × List ℕ)
onto text around = option_map (λ halves. (text ++ halves.0, halves.1)) around

onto-nil : (around : Option (List ℕ × List ℕ)) → around ≡ onto [] around
onto-nil None = refl
onto-nil (Some halves) = refl

onto-append : (xs ys : List ℕ) (around : Option (List ℕ × List ℕ)) → onto xs (onto ys around) ≡ onto (xs ++ ys) around
onto-append xs ys None = refl
onto-append xs ys (Some halves) = ap (λ front. Some (front, halves.1)) (sym (append_assoc xs ys halves.0))

-- no pair begins in the text, whatever follows it
abbrev Passes : List ℕ → Type 0
Passes text = (rest : List ℕ) → around_pair (text ++ rest) ≡ onto text (around_pair rest)

passes-nil : Passes []
passes-nil rest = onto-nil (around_pair rest)

passes-append : (xs ys : List ℕ) → Passes xs → Passes ys → Passes (xs ++ ys)
passes-append xs ys p q rest = ap around_pair (append_assoc xs ys rest) ∙ p (ys ++ rest) ∙ ap (onto xs) (q rest) ∙ onto-append xs ys (around_pair rest)

no_pair_at : (b : ℕ) (bytes : List ℕ) → (b == 58) ≡ false → is_pair b bytes ≡ false
no_pair_at b [] h = refl
no_pair_at b (c ∷ bytes) h = rw h refl

passes-byte : (b : ℕ) → (b == 58) ≡ false → Passes (b ∷ [])
passes-byte b h rest = rw (no_pair_at b rest h) refl

passes-uncut : (text : List ℕ) → IsUncut 58 text → Passes text
passes-uncut [] h = passes-nil
passes-uncut (b ∷ bytes) h =
    let parts = either_false (b == 58) (list_any (λ c. c == 58) bytes) h in
    passes-append (b ∷ []) bytes (passes-byte b parts.0) (passes-uncut bytes parts.1)

passes-colon : (text : List ℕ) → 0 < length text → IsUncut 58 text → Passes (58 ∷ text)
passes-colon [] some h rest = absurd (omega arith)
passes-colon (b ∷ bytes) some h rest =
    let parts = either_false (b == 58) (list_any (λ c. c == 58) bytes) h in
    let later = passes-uncut (b ∷ bytes) h rest in
    let none : is_pair 58 ((b ∷ bytes) ++ rest) ≡ false = parts.0 in
    rw none (ap (onto (58 ∷ [])) later ∙ onto-append (58 ∷ []) (b ∷ bytes) (around_pair rest))

passes-after : (ipv4 : Bool) (segments text : List ℕ) → IsGroupsAfter ipv4 (codes ":") text segments → Passes text
passes-after ipv4 [] text empty = subst Passes (sym empty) passes-nil
passes-after ipv4 (s ∷ segments) text (inl more) =
    let here = passes-colon more.0 more.3.0.0.0 (group_uncut more.0 s more.3) in
    subst Passes (sym more.2) (passes-append (58 ∷ more.0) more.1 here (passes-after ipv4 segments more.1 more.4))
passes-after ipv4 (s ∷ segments) text (inr last) =
    subst Passes (sym last.3) (passes-colon last.0 (dotted_length last.0 last.1 last.4) (dotted_uncut last.0 last.1 last.4))

passes-groups : (ipv4 : Bool) (segments text : List ℕ) → IsGroups ipv4 text segments → Passes text
passes-groups ipv4 [] text empty = subst Passes (sym empty) passes-nil
passes-groups ipv4 (s ∷ segments) text (inl more) =
    subst Passes (sym more.2) (passes-append more.0 more.1 (passes-uncut more.0 (group_uncut more.0 s more.3)) (passes-after ipv4 segments more.1 more.4))
passes-groups ipv4 (s ∷ segments) text (inr last) = subst Passes (sym last.3) (passes-uncut last.0 (dotted_uncut last.0 last.1 last.4))

-- groups alone have no pair
pub around_pair_none : (segments text : List ℕ) → IsGroups true text segments → around_pair text ≡ None
around_pair_none segments text groups = ap around_pair (sym (append-nil text)) ∙ passes-groups true segments text groups []

-- the pair after groups is the first
pub around_pair_first : (segments text rest : List ℕ) → IsGroups false text segments → around_pair (text ++ 58 ∷ 58 ∷ rest) ≡ Some (text, rest)
around_pair_first segments text rest groups = passes-groups false segments text groups (58 ∷ 58 ∷ rest) ∙ ap (λ front. Some (front, rest)) (append-nil text)

pub around_pair_is : (text : List ℕ) (halves : List ℕ × List ℕ) → around_pair text ≡ Some halves → text ≡ halves.0 ++ 58 ∷ 58 ∷ halves.1
around_pair_is [] halves h = cc
around_pair_is (b ∷ []) halves h = cc
around_pair_is (b ∷ c ∷ bytes) halves h = by (λ later k. around_pair_is (c ∷ bytes) later k) (b == 58 && c == 58) refl h
  where
    by : ((later : List ℕ × List ℕ) → around_pair (c ∷ bytes) ≡ Some later → c ∷ bytes ≡ later.0 ++ 58 ∷ 58 ∷ later.1) → (test : Bool) → (b == 58 && c == 58) ≡ test → (if test then Some ([], bytes) else option_map (λ later. (b ∷ later.0, later.1)) (around_pair (c ∷ bytes))) ≡ Some halves → b ∷ c ∷ bytes ≡ halves.0 ++ 58 ∷ 58 ∷ halves.1
    by rest true e k =
        let tests = both_true (b == 58) (c == 58) e in
        let first : b ≡ 58 = eqb-true b 58 tests.0 in
        let second : c ≡ 58 = eqb-true c 58 tests.1 in
        let same : ([], bytes) ≡ halves = cc in
        (λ i. first i ∷ second i ∷ bytes) ∙ ap (λ (around : List ℕ × List ℕ). around.0 ++ 58 ∷ 58 ∷ around.1) same
    by rest false e k =
        let found = map_some (λ later. (b ∷ later.0, later.1)) (around_pair (c ∷ bytes)) halves k in
        ap (λ ys. b ∷ ys) (rest found.0 found.1) ∙ ap (λ (around : List ℕ × List ℕ). around.0 ++ 58 ∷ 58 ∷ around.1) found.2
