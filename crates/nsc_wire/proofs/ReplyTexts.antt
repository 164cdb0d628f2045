-- A text that is read is the text that was written, and what was written is read again; and so for lists of texts and addresses.
use Rattle.std.proofs.Common.{◌≡◌, ℕ, zero, suc, ◌+◌, ◌^◌, ◌<◌, ◌≤◌, Bool, true, false, cond, eqb, not, List, [], ◌∷◌, ◌++◌, length, get_or, take, Ok, Err, refl, sym, ap, subst, ◌∙◌, append_assoc, arith}
use Rattle.std.specs.List.{flat_map, AllByRecursion, after_first, position_or_len}
use Rattle.std.proofs.lemmas.Bool.{eqb-true, eqb-false, eq-eqb, ne_eqb}
use Rattle.std.proofs.lemmas.List.{take_at, drop_all, length-append, length-take, get_or-take, get_or_append_left, get_or_at, append-nil}
use Rattle.std.proofs.lemmas.List.Concat.{flat_map-cons}
use Rattle.std.proofs.lemmas.List.Sums.{split_at_first, fails_before_first, passes_at_first, prefix_len-le-length, position_or_len_is}
use Rattle.nsc_model.specs.Wire.{field, text, text_len, text_key, IsText}
use Rattle.nsc_wire.specs.Replies.{◌>>=◌, piece_at, number_at, size_at, sizes_at, text_at, texts_at}
use Rattle.nsc_wire.proofs.ReplyFields.{IsBytes, bind_ok, bind_is, guard_is, guard_not, ok_is, Takes, Takes-then, piece_takes, piece_again, number_again, size_takes, size_again}

abbrev pub is_zero : ℕ → Bool
is_zero b = eqb b 0

-- the bytes before the first zero byte, where it is the last byte
key_ends : (piece : List ℕ) → length (text_key piece) + 1 ≡ length piece → (piece ≡ text (text_key piece)) × IsText (text_key piece)
key_ends piece len =
    let at : ℕ = position_or_len is_zero piece in
    let most : at ≤ length piece = prefix_len-le-length (λ b. not (is_zero b)) piece in
    let key_len : length (text_key piece) ≡ at = omega (arith, length-take at piece, most) in
    let inside : at < length piece = omega (arith, key_len, len) in
    let last : get_or piece at 0 ≡ 0 = eqb-true _ _ (passes_at_first is_zero piece 0 inside) in
    let rest : after_first is_zero piece ≡ [] = drop_all (at + 1) piece (omega (arith, key_len, len)) in
    let whole : piece ≡ text_key piece ++ (get_or piece at 0 ∷ after_first is_zero piece) = split_at_first is_zero piece 0 inside in
    let ended : piece ≡ text (text_key piece) = whole ∙ ap (λ (xs : List ℕ). text_key piece ++ (get_or piece at 0 ∷ xs)) rest ∙ ap (λ (b : ℕ). text_key piece ++ b ∷ []) last in (
      ended,
      λ k d lt is.
          let below : k < at = omega (arith, lt, key_len) in
          let no : eqb (get_or piece k d) 0 ≡ false = fails_before_first is_zero piece k d below in
          let same : get_or (text_key piece) k d ≡ get_or piece k d = get_or-take at piece k d below in
          eqb-false _ _ no (sym same ∙ is),
    )

key_of_text : (bytes : List ℕ) → IsText bytes → text_key (text bytes) ≡ bytes
key_of_text bytes is =
    let len : length (text bytes) ≡ length bytes + 1 = length-append bytes (0 ∷ []) in
    let at : position_or_len is_zero (text bytes) ≡ length bytes = position_or_len_is is_zero (text bytes) (length bytes) 0 (omega (arith, len))
    (λ k lt. ne_eqb _ _ (λ zero_is. is k 0 lt (sym (get_or_append_left bytes (0 ∷ []) 0 k lt) ∙ zero_is)))
    (λ lt. eq-eqb _ _ (get_or_at bytes 0 [] 0 (length bytes) refl)) in
    ap (λ (n : ℕ). take n (text bytes)) at ∙ take_at bytes (0 ∷ []) (length bytes) refl

pub text_takes : (size : ℕ) (bytes : List ℕ) (x : List ℕ × List ℕ) → IsBytes bytes → text_at size bytes ≡ Ok x → Takes bytes (text x.0) x.1 × IsText x.0 × (length x.0 + 1 ≡ size)
unfolding text_at
text_takes size bytes x fits e =
    let a = bind_ok (piece_at size bytes) (λ piece. cond (eqb (length (text_key piece.0) + 1) size) (Ok (text_key piece.0, piece.1)) (Err (length bytes))) x e in
    let g = guard_is (eqb (length (text_key a.0.0) + 1) size) (length bytes) (Ok (text_key a.0.0, a.0.1)) x a.2 in
    let t = piece_takes size bytes a.0 fits a.1 in
    let len : length (text_key a.0.0) + 1 ≡ size = eqb-true _ _ g.0 in
    let k = key_ends a.0.0 (len ∙ sym t.1) in
    subst (λ (y : List ℕ × List ℕ). Takes bytes (text y.0) y.1 × IsText y.0 × (length y.0 + 1 ≡ size)) (ok_is (text_key a.0.0, a.0.1) x g.1)
    (subst (λ (p : List ℕ). Takes bytes p a.0.1) k.0 t.0, k.1, len)

pub text_again : (one rest : List ℕ) → IsText one → text_at (length one + 1) (text one ++ rest) ≡ Ok (one, rest)
unfolding text_at
text_again one rest is =
    let key = key_of_text one is in
    let len : length (text one) ≡ length one + 1 = length-append one (0 ∷ []) in
    let piece : piece_at (length one + 1) (text one ++ rest) ≡ Ok (text one, rest) = subst (λ (n : ℕ). piece_at n (text one ++ rest) ≡ Ok (text one, rest)) len (piece_again (text one) rest) in
    let same : eqb (length (text_key (text one)) + 1) (length one + 1) ≡ true = eq-eqb _ _ (ap (λ (xs : List ℕ). length xs + 1) key) in
    bind_is (piece_at (length one + 1) (text one ++ rest)) _ (text one, rest) (Ok (one, rest)) piece (rw (same, key) refl)

pub text_last : (one : List ℕ) → IsText one → text_at (length one + 1) (text one) ≡ Ok (one, [])
text_last one is = ap (text_at (length one + 1)) (sym (append-nil (text one))) ∙ text_again one [] is

-- a field that holds the length of a text
pub sized : (bytes : List ℕ) (size : ℕ) (rest one : List ℕ) → length one + 1 ≡ size → Takes bytes (field size) rest → Takes bytes (text_len one) rest
sized bytes size rest one is t = subst (λ (n : ℕ). Takes bytes (field n) rest) (sym is) t

-- ---- lists of texts

-- the length of a text is a field
size_is_number : (bytes : List ℕ) (x : ℕ × List ℕ) → size_at bytes ≡ Ok x → number_at bytes ≡ Ok x
unfolding size_at
size_is_number bytes x e =
    let a = bind_ok (number_at bytes) (λ n. cond (eqb n.0 0) (Err (length bytes)) (Ok n)) x e in
    a.1 ∙ (guard_not (eqb a.0.0 0) (length bytes) (Ok a.0) x a.2).1

-- texts that were read, with the fields of their lengths
pub record AreTexts (lengths bytes : List ℕ) (count : ℕ) (texts : List (List ℕ)) (after rest : List ℕ) : Type 0 where
  pub sizes : Takes lengths (flat_map text_len texts) after
  pub texts_are : Takes bytes (flat_map text texts) rest
  pub count_is : length texts ≡ count
  pub each : AllByRecursion IsText texts

pub texts_take : (count : ℕ) (lengths bytes after : List ℕ) (x : List (List ℕ) × List ℕ) → IsBytes lengths → IsBytes bytes → sizes_at count lengths ≡ Ok after → texts_at count lengths bytes ≡ Ok x
    → AreTexts lengths bytes count x.0 after x.1
unfolding sizes_at texts_at
texts_take zero lengths bytes after x lengths_fit fits s e =
    subst (λ (y : List (List ℕ) × List ℕ). AreTexts lengths bytes 0 y.0 after y.1) (ok_is ([], bytes) x e)
    (record { sizes = subst (λ (r : List ℕ). Takes lengths [] r) (ok_is lengths after s) (record { parts = refl; rest_fits = lengths_fit }); texts_are = record { parts = refl; rest_fits = fits }; count_is = refl; each = tt })
texts_take (suc count) lengths bytes after x lengths_fit fits s e =
    let a = bind_ok (size_at lengths) (λ first. sizes_at count first.1) after s in
    let n = bind_ok (number_at lengths) (λ size. text_at size.0 bytes >>= λ first. texts_at count size.1 first.1 >>= λ others. Ok (first.0 ∷ others.0, others.1)) x e in
    let same : n.0 ≡ a.0 = ok_is n.0 a.0 (sym n.1 ∙ size_is_number lengths a.0 a.1) in
    let on : (text_at a.0.0 bytes >>= λ first. texts_at count a.0.1 first.1 >>= λ others. Ok (first.0 ∷ others.0, others.1)) ≡ Ok x =
    subst (λ (size : ℕ × List ℕ). (text_at size.0 bytes >>= λ first. texts_at count size.1 first.1 >>= λ others. Ok (first.0 ∷ others.0, others.1)) ≡ Ok x) same n.2 in
    let b = bind_ok (text_at a.0.0 bytes) (λ first. texts_at count a.0.1 first.1 >>= λ others. Ok (first.0 ∷ others.0, others.1)) x on in
    let d = bind_ok (texts_at count a.0.1 b.0.1) (λ others. Ok (b.0.0 ∷ others.0, others.1)) x b.2 in
    let size = size_takes lengths a.0 lengths_fit a.1 in
    let first = text_takes a.0.0 bytes b.0 fits b.1 in
    let others = texts_take count a.0.1 b.0.1 after d.0 size.rest_fits first.0.rest_fits a.2 d.1 in
    let made : List (List ℕ) × List ℕ = (b.0.0 ∷ d.0.0, d.0.1) in
    subst (λ (y : List (List ℕ) × List ℕ). AreTexts lengths bytes (suc count) y.0 after y.1) {x = made} (ok_is made x d.2)
    (record {
      sizes = rw flat_map-cons (Takes-then lengths (text_len b.0.0) a.0.1 (flat_map text_len d.0.0) after (sized lengths a.0.0 a.0.1 b.0.0 first.2 size) others.sizes);
      texts_are = rw flat_map-cons (Takes-then bytes (text b.0.0) b.0.1 (flat_map text d.0.0) d.0.1 first.0 others.texts_are);
      count_is = ap suc others.count_is;
      each = (first.1, others.each);
    })

-- after the lengths of texts bytes are left
pub sizes_fit : (count : ℕ) (bytes rest : List ℕ) → IsBytes bytes → sizes_at count bytes ≡ Ok rest → IsBytes rest
unfolding sizes_at
sizes_fit zero bytes rest fits e = subst IsBytes (ok_is bytes rest e) fits
sizes_fit (suc count) bytes rest fits e =
    let a = bind_ok (size_at bytes) (λ first. sizes_at count first.1) rest e in
    sizes_fit count a.0.1 rest (size_takes bytes a.0 fits a.1).rest_fits a.2

pub sizes_again : (texts : List (List ℕ)) (rest : List ℕ) → AllByRecursion (λ t. length t + 1 < 2 ^ 32) texts → sizes_at (length texts) (flat_map text_len texts ++ rest) ≡ Ok rest
unfolding sizes_at
sizes_again [] rest fit = refl
sizes_again (one ∷ texts) rest fit =
    let regrouped : flat_map text_len (one ∷ texts) ++ rest ≡ text_len one ++ (flat_map text_len texts ++ rest) = ap (λ (x : List ℕ). x ++ rest) (flat_map-cons text_len one texts) ∙ append_assoc (text_len one) (flat_map text_len texts) rest in
    ap (sizes_at (suc (length texts))) regrouped ∙ rw (size_again (length one) (flat_map text_len texts ++ rest) fit.0) (sizes_again texts rest fit.1)

pub texts_again : (texts : List (List ℕ)) (after rest : List ℕ) → AllByRecursion (λ t. length t + 1 < 2 ^ 32) texts → AllByRecursion IsText texts
    → texts_at (length texts) (flat_map text_len texts ++ after) (flat_map text texts ++ rest) ≡ Ok (texts, rest)
unfolding texts_at
texts_again [] after rest fit are = refl
texts_again (one ∷ texts) after rest fit are =
    let lengths : flat_map text_len (one ∷ texts) ++ after ≡ text_len one ++ (flat_map text_len texts ++ after) = ap (λ (x : List ℕ). x ++ after) (flat_map-cons text_len one texts) ∙ append_assoc (text_len one) (flat_map text_len texts) after in
    let regrouped : flat_map text (one ∷ texts) ++ rest ≡ text one ++ (flat_map text texts ++ rest) = ap (λ (x : List ℕ). x ++ rest) (flat_map-cons text one texts) ∙ append_assoc (text one) (flat_map text texts) rest in
    ap (λ (l : List ℕ). texts_at (suc (length texts)) l (flat_map text (one ∷ texts) ++ rest)) lengths ∙ ap (texts_at (suc (length texts)) (text_len one ++ (flat_map text_len texts ++ after))) regrouped
    ∙ rw (number_again (length one + 1) (flat_map text_len texts ++ after) fit.0, text_again one (flat_map text texts ++ rest) are.0, texts_again texts after rest fit.1 are.1) refl
