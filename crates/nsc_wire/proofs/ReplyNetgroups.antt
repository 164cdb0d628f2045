-- A netgroup's reply that is read is spelled by the bytes, and what is spelled is read again.
use Rattle.std.proofs.Common.{◌≡◌, ℕ, zero, suc, ◌+◌, ◌*◌, ◌/◌, ◌<◌, ◌≤◌, Bool, true, false, ltb, eqb, not, if◌then◌else◌, List, [], ◌∷◌, ◌++◌, length, get_or, take, drop, Ok, refl, sym, ap, subst, ◌∙◌, append_assoc, arith, inl, inr}
use Rattle.std.specs.List.{flat_map, AllByRecursion, after_first, position_or_len}
use Rattle.std.proofs.lemmas.Bool.{eqb-true, eqb-false, eq-eqb, ne_eqb, ltb-true, lt-ltb}
use Rattle.std.proofs.lemmas.List.{take_at, drop_at, length-append, length-take, get_or-take, get_or_append_left, get_or_at, append-nil}
use Rattle.std.proofs.lemmas.List.Concat.{flat_map-cons}
use Rattle.std.proofs.lemmas.List.Elements.{All-from_recursion, recursion_from_All}
use Rattle.std.proofs.lemmas.List.Sums.{split_at_first, fails_before_first, passes_at_first, prefix_len-le-length, position_or_len_is}
use Rattle.nsc_model.specs.Answer.{reply_limit}
use Rattle.nsc_model.specs.Wire.{field, text, text_key, AreTriples, IsText}
use Rattle.nsc_wire.specs.Replies.{◌>>=◌, number_at, ended_text_at, ended_texts_at, netgroup_at, member_at}
use Rattle.nsc_wire.proofs.ReplyFields.{IsBytes, IsBytes-drop, bind_ok, chosen, guard_is, ok_is, Takes, Takes-then, number_again, number_takes}
use Rattle.nsc_wire.proofs.ReplyTexts.{is_zero}
use Rattle.nsc_wire.proofs.Sizes.{count_within}

-- ---- a text that ends at its zero byte

-- what is before the first zero byte, and what is behind it
cut_at_zero : (bytes : List ℕ) → length (text_key bytes) < length bytes → (bytes ≡ text (text_key bytes) ++ drop (length (text_key bytes) + 1) bytes) × IsText (text_key bytes)
cut_at_zero bytes within =
    let at : ℕ = position_or_len is_zero bytes in
    let most : at ≤ length bytes = prefix_len-le-length (λ b. not (is_zero b)) bytes in
    let key_len : length (text_key bytes) ≡ at = omega (arith, length-take at bytes, most) in
    let inside : at < length bytes = omega (arith, key_len, within) in
    let last : get_or bytes at 0 ≡ 0 = eqb-true _ _ (passes_at_first is_zero bytes 0 inside) in
    let behind : List ℕ = drop (length (text_key bytes) + 1) bytes in
    let rest : after_first is_zero bytes ≡ behind = ap (λ (n : ℕ). drop (n + 1) bytes) (sym key_len) in
    let whole : bytes ≡ text_key bytes ++ (get_or bytes at 0 ∷ after_first is_zero bytes) = split_at_first is_zero bytes 0 inside in
    let zeroed : text_key bytes ++ (get_or bytes at 0 ∷ after_first is_zero bytes) ≡ text_key bytes ++ (0 ∷ behind) =
    ap (λ (b : ℕ). text_key bytes ++ (b ∷ after_first is_zero bytes)) last ∙ ap (λ (r : List ℕ). text_key bytes ++ (0 ∷ r)) rest in (
      whole ∙ zeroed ∙ sym (append_assoc (text_key bytes) (0 ∷ []) behind),
      λ k d lt is.
          let below : k < at = omega (arith, lt, key_len) in
          let no : eqb (get_or bytes k d) 0 ≡ false = fails_before_first is_zero bytes k d below in
          let same : get_or (text_key bytes) k d ≡ get_or bytes k d = get_or-take at bytes k d below in
          eqb-false _ _ no (sym same ∙ is),
    )

ended_text_takes : (bytes : List ℕ) (x : List ℕ × List ℕ) → IsBytes bytes → ended_text_at bytes ≡ Ok x → Takes bytes (text x.0) x.1 × IsText x.0
unfolding ended_text_at
ended_text_takes bytes x fits e =
    let size : ℕ = length (text_key bytes) in
    let g = guard_is (ltb size (length bytes)) 0 (Ok (text_key bytes, drop (size + 1) bytes)) x e in
    let cut = cut_at_zero bytes (ltb-true size (length bytes) g.0) in
    subst (λ (y : List ℕ × List ℕ). Takes bytes (text y.0) y.1 × IsText y.0) (ok_is (text_key bytes, drop (size + 1) bytes) x g.1)
    (record { parts = cut.0; rest_fits = IsBytes-drop (size + 1) bytes fits }, cut.1)

key_in_front : (one rest : List ℕ) → IsText one → text_key (text one ++ rest) ≡ one
key_in_front one rest is =
    let bytes : List ℕ = one ++ (0 ∷ rest) in
    let len : length bytes ≡ length one + suc (length rest) = length-append one (0 ∷ rest) in
    let at : position_or_len is_zero bytes ≡ length one = position_or_len_is is_zero bytes (length one) 0 (omega (arith, len))
    (λ k lt. ne_eqb _ _ (λ zero_is. is k 0 lt (sym (get_or_append_left one (0 ∷ rest) 0 k lt) ∙ zero_is)))
    (λ lt. eq-eqb _ _ (get_or_at one 0 rest 0 (length one) refl)) in
    ap text_key (append_assoc one (0 ∷ []) rest) ∙ (ap (λ (n : ℕ). take n bytes) at ∙ take_at one (0 ∷ rest) (length one) refl)

ended_text_again : (one rest : List ℕ) → IsText one → ended_text_at (text one ++ rest) ≡ Ok (one, rest)
unfolding ended_text_at
ended_text_again one rest is =
    let bytes : List ℕ = text one ++ rest in
    let key : text_key bytes ≡ one = key_in_front one rest is in
    let key_len : length (text_key bytes) ≡ length one = ap (λ (k : List ℕ). length k) key in
    let len : length (text one) ≡ length one + 1 = length-append one (0 ∷ []) in
    let inside : ltb (length (text_key bytes)) (length bytes) ≡ true = lt-ltb _ _ (omega (arith, key_len, len, length-append (text one) rest)) in
    let behind : drop (length one + 1) bytes ≡ rest = ap (λ (n : ℕ). drop n bytes) (sym len) ∙ drop_at (text one) rest (length (text one)) refl in
    rw (inside, key, behind) refl

-- ---- such texts, one behind the other

abbrev AreEnded : List ℕ → ℕ → List (List ℕ) × List ℕ → Type 0
AreEnded bytes count y = Takes bytes (flat_map text y.0) y.1 × (length y.0 ≡ count) × AllByRecursion IsText y.0

ended_texts_take : (count : ℕ) (bytes : List ℕ) (x : List (List ℕ) × List ℕ) → IsBytes bytes → ended_texts_at count bytes ≡ Ok x → AreEnded bytes count x
unfolding ended_texts_at
ended_texts_take zero bytes x fits e = subst (AreEnded bytes 0) (ok_is ([], bytes) x e) (record { parts = refl; rest_fits = fits }, refl, tt)
ended_texts_take (suc count) bytes x fits e =
    let a = bind_ok (ended_text_at bytes) (λ first. ended_texts_at count first.1 >>= λ others. Ok (first.0 ∷ others.0, others.1)) x e in
    let b = bind_ok (ended_texts_at count a.0.1) (λ others. Ok (a.0.0 ∷ others.0, others.1)) x a.2 in
    let first = ended_text_takes bytes a.0 fits a.1 in
    let others = ended_texts_take count a.0.1 b.0 first.0.rest_fits b.1 in
    let both = Takes-then bytes (text a.0.0) a.0.1 (flat_map text b.0.0) b.0.1 first.0 others.0 in
    subst (AreEnded bytes (suc count)) (ok_is (a.0.0 ∷ b.0.0, b.0.1) x b.2) (rw flat_map-cons both, ap suc others.1, (first.1, others.2))

ended_texts_again : (texts : List (List ℕ)) (rest : List ℕ) → AllByRecursion IsText texts → ended_texts_at (length texts) (flat_map text texts ++ rest) ≡ Ok (texts, rest)
unfolding ended_texts_at
ended_texts_again [] rest are = refl
ended_texts_again (one ∷ texts) rest are =
    let more : List ℕ = flat_map text texts ++ rest in
    let regrouped : flat_map text (one ∷ texts) ++ rest ≡ text one ++ more = ap (λ (x : List ℕ). x ++ rest) (flat_map-cons text one texts) ∙ append_assoc (text one) (flat_map text texts) rest in
    ap (ended_texts_at (suc (length texts))) regrouped ∙ rw (ended_text_again one more are.0, ended_texts_again texts rest are.1) refl

-- ---- the triples of a netgroup

-- their bytes after the fields version and found
abbrev pub netgroup_body : List (List ℕ) → List ℕ
netgroup_body texts = field (length texts / 3) ++ (field (length (flat_map text texts)) ++ flat_map text texts)

abbrev counted : ℕ → ℕ → List (List ℕ) → List ℕ
counted count size texts = field count ++ (field size ++ flat_map text texts)

counted_is : (texts : List (List ℕ)) (count size : ℕ) → length texts ≡ 3 * count → size ≡ length (flat_map text texts) → counted count size texts ≡ netgroup_body texts
counted_is texts count size three size_is =
    let count_is : count ≡ length texts / 3 = omega (arith, three) in
    ap (λ (n : ℕ). counted n size texts) count_is ∙ ap (λ (n : ℕ). counted (length texts / 3) n texts) size_is

pub netgroup_takes : (bytes : List ℕ) (x : List (List ℕ) × List ℕ) → IsBytes bytes → netgroup_at bytes ≡ Ok x → Takes bytes (netgroup_body x.0) x.1 × AreTriples x.0
unfolding netgroup_at
netgroup_takes bytes x fits e =
    let a = bind_ok (number_at bytes) _ x e in
    let b = bind_ok (number_at a.0.1) _ x a.2 in
    let d = bind_ok (ended_texts_at (3 * a.0.0) b.0.1) _ x b.2 in
    let g = guard_is (eqb (length d.0.1 + b.0.0) (length b.0.1)) (length a.0.1) (Ok d.0) x d.2 in
    let count = number_takes bytes a.0 fits a.1 in
    let size = number_takes a.0.1 b.0 count.0.rest_fits b.1 in
    let texts = ended_texts_take (3 * a.0.0) b.0.1 d.0 size.0.rest_fits d.1 in
    let run : List ℕ = flat_map text d.0.0 in
    let all : length b.0.1 ≡ length run + length d.0.1 = ap (λ (l : List ℕ). length l) texts.0.parts ∙ length-append run d.0.1 in
    let size_is : b.0.0 ≡ length run = omega (arith, all, eqb-true (length d.0.1 + b.0.0) (length b.0.1) g.0) in
    let later = Takes-then a.0.1 (field b.0.0) b.0.1 run d.0.1 size.0 texts.0 in
    let whole = Takes-then bytes (field a.0.0) a.0.1 (field b.0.0 ++ run) d.0.1 count.0 later in
    subst (λ (y : List (List ℕ) × List ℕ). Takes bytes (netgroup_body y.0) y.1 × AreTriples y.0) (ok_is d.0 x g.1) (
      subst (λ (p : List ℕ). Takes bytes p d.0.1) (counted_is d.0.0 a.0.0 b.0.0 texts.1 size_is) whole,
      record { whole = omega (arith, texts.1); texts_are = All-from_recursion IsText d.0.0 texts.2 },
    )

pub netgroup_again : (texts : List (List ℕ)) → AreTriples texts → length (netgroup_body texts) ≤ reply_limit → netgroup_at (netgroup_body texts) ≡ Ok (texts, [])
unfolding netgroup_at
netgroup_again texts are few =
    let run : List ℕ = flat_map text texts in
    let count : ℕ = length texts / 3 in
    let size : length (netgroup_body texts) ≡ 8 + length run = omega arith in
    let three : 3 * count ≡ length texts = omega (arith, are.whole) in
    let texts_are : AllByRecursion IsText texts = recursion_from_All IsText texts are.texts_are in
    let last : ended_texts_at (3 * count) run ≡ Ok (texts, []) =
    ap (λ (n : ℕ). ended_texts_at n run) three ∙ (ap (ended_texts_at (length texts)) (sym (append-nil run)) ∙ ended_texts_again texts [] texts_are) in
    let same : eqb (0 + length run) (length run) ≡ true = eq-eqb (0 + length run) (length run) (omega arith) in
    let counted = number_again count (field (length run) ++ run) (omega (arith, few, size, count_within texts)) in
    let sized = number_again (length run) run (omega (arith, few, size)) in
    rw (counted, sized, last, same) refl

-- ---- whether a netgroup has a triple

abbrev pub member_body : Bool → List ℕ
member_body has = field (if has then 1 else 0)

pub member_takes : (bytes : List ℕ) (x : Bool × List ℕ) → IsBytes bytes → member_at bytes ≡ Ok x → Takes bytes (member_body x.0) x.1
unfolding member_at
member_takes bytes x fits e =
    let a = bind_ok (number_at bytes) _ x e in
    let n = number_takes bytes a.0 fits a.1 in
    let valued = λ (value : ℕ) (is : eqb a.0.0 value ≡ true). subst (λ (v : ℕ). Takes bytes (field v) a.0.1) (eqb-true a.0.0 value is) n.0 in
    elim (chosen (eqb a.0.0 1) _ _ _ a.2) [
      | inl one ↦ subst (λ (y : Bool × List ℕ). Takes bytes (member_body y.0) y.1) (ok_is (true, a.0.1) x one.1) (valued 1 one.0)
      | inr other ↦
          let g = guard_is (eqb a.0.0 0) (length bytes) (Ok (false, a.0.1)) x other.1 in
          subst (λ (y : Bool × List ℕ). Takes bytes (member_body y.0) y.1) (ok_is (false, a.0.1) x g.1) (valued 0 g.0)
    ]

pub member_again : (has : Bool) → member_at (member_body has) ≡ Ok (has, [])
unfolding member_at number_at
member_again true = refl
member_again false = refl
