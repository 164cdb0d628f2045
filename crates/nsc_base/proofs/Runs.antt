-- Texts in a run of bytes: where they stand, and one text more.
use Rattle.std.proofs.Common.{◌≡◌, ℕ, zero, suc, ◌+◌, ◌-◌, ◌<◌, ◌≤◌, List, [], ◌∷◌, ◌++◌, length, get_or, take, drop, refl, sym, subst, ap, ◌∙◌, append_assoc, length-append, arith}
use Rattle.std.specs.List.{flat_map, slice_range}
use Rattle.std.proofs.Math.Seq.{take-append_seam, drop-append_seam}
use Rattle.std.proofs.lemmas.List.{append-nil}
use Rattle.std.proofs.lemmas.Grind.{flat_map-append}
use Rattle.nsc_base.specs.Texts.{IsRun, ended, ends_of, texts_ended}

pub length-texts_ended : (run : List ℕ) (from : ℕ) (ends : List ℕ) → length (texts_ended run from ends) ≡ length ends
length-texts_ended run from [] = refl
length-texts_ended run from (end ∷ ends) = ap suc (length-texts_ended run end ends)

-- ---- where a text stands

pub text_at : (run : List ℕ) (from : ℕ) (ends : List ℕ) (at : ℕ) → at < length ends → slice_range run (get_or (from ∷ ends) at 0) (get_or ends at 0 - 1) ≡ get_or (texts_ended run from ends) at []
text_at run from [] at h = absurd (omega arith)
text_at run from (end ∷ ends) zero h = refl
text_at run from (end ∷ ends) (suc at) h = text_at run end ends at (omega arith)

-- a text ends behind its zero byte
begins_before : (from : ℕ) (texts : List (List ℕ)) (at : ℕ) → at < length texts → get_or (from ∷ ends_of from texts) at 0 < get_or (ends_of from texts) at 0
begins_before from [] at h = absurd (omega arith)
begins_before from (text ∷ texts) zero h = omega arith
begins_before from (text ∷ texts) (suc at) h = begins_before (from + length text + 1) texts at (omega arith)

ends_within : (from : ℕ) (texts : List (List ℕ)) (at : ℕ) → at < length texts → get_or (ends_of from texts) at 0 ≤ from + length (flat_map ended texts)
ends_within from [] at h = absurd (omega arith)
ends_within from (text ∷ texts) zero h = omega (arith, length-append (ended text) (flat_map ended texts), length-append text (0 ∷ []))
ends_within from (text ∷ texts) (suc at) h = omega (arith, length-append (ended text) (flat_map ended texts), length-append text (0 ∷ []), ends_within (from + length text + 1) texts at (omega arith))

pub ordered : (run ends : List ℕ) (at : ℕ) → IsRun run ends → at < length ends → get_or (0 ∷ ends) at 0 < get_or ends at 0
ordered run ends at is h =
    let texts = texts_ended run 0 ends in
    let there : at < length texts = omega (arith, length-texts_ended run 0 ends) in
    subst (λ (places : List ℕ). get_or (0 ∷ places) at 0 < get_or places at 0) (sym is.ends_are) (begins_before 0 texts at there)

pub inside : (run ends : List ℕ) (at : ℕ) → IsRun run ends → at < length ends → get_or ends at 0 ≤ length run
inside run ends at is h =
    let texts = texts_ended run 0 ends in
    let there : at < length texts = omega (arith, length-texts_ended run 0 ends) in
    let within : get_or (ends_of 0 texts) at 0 ≤ length (flat_map ended texts) = omega (arith, ends_within 0 texts at there) in
    let all : get_or ends at 0 ≤ length (flat_map ended texts) = subst (λ (places : List ℕ). get_or places at 0 ≤ length (flat_map ended texts)) (sym is.ends_are) within in
    omega (arith, all, ap length is.run_is)

-- ---- one text more

first_stands : (front text rest : List ℕ) → slice_range (front ++ (ended text ++ rest)) (length front) (length front + length text + 1 - 1) ≡ text
first_stands front text rest =
    let size : length front + length text + 1 - 1 - length front ≡ length text = omega arith in
    ap (λ n. take n (drop (length front) (front ++ (ended text ++ rest)))) size
    ∙ ap (take (length text)) (drop-append_seam front (ended text ++ rest) ∙ append_assoc text (0 ∷ []) rest)
    ∙ take-append_seam text (0 ∷ rest)

-- texts that are put into a run stand there
stand : (front : List ℕ) (texts : List (List ℕ)) → texts_ended (front ++ flat_map ended texts) (length front) (ends_of (length front) texts) ≡ texts
stand front [] = refl
stand front (text ∷ texts) =
    let rest = flat_map ended texts in
    let run = front ++ (ended text ++ rest) in
    let size : length (front ++ ended text) ≡ length front + length text + 1 = omega (arith, length-append front (ended text), length-append text (0 ∷ [])) in
    let others : texts_ended run (length (front ++ ended text)) (ends_of (length (front ++ ended text)) texts) ≡ texts =
    ap (λ (r : List ℕ). texts_ended r (length (front ++ ended text)) (ends_of (length (front ++ ended text)) texts)) (sym (append_assoc front (ended text) rest)) ∙ stand (front ++ ended text) texts in
    let onward : texts_ended run (length front + length text + 1) (ends_of (length front + length text + 1) texts) ≡ texts =
    subst (λ n. texts_ended run n (ends_of n texts) ≡ texts) size others in
    ap (λ (one : List ℕ). one ∷ texts_ended run (length front + length text + 1) (ends_of (length front + length text + 1) texts)) (first_stands front text rest)
    ∙ ap (λ (more : List (List ℕ)). text ∷ more) onward

last_end : (from : ℕ) (texts : List (List ℕ)) (text : List ℕ) → ends_of from (texts ++ text ∷ []) ≡ ends_of from texts ++ (from + length (flat_map ended (texts ++ text ∷ []))) ∷ []
last_end from [] text =
    let same : from + length text + 1 ≡ from + length (ended text ++ []) = omega (arith, length-append (ended text) [], length-append text (0 ∷ [])) in
    ap (λ n. n ∷ []) same
last_end from (one ∷ texts) text =
    let behind = from + length one + 1 in
    let rest = flat_map ended (texts ++ text ∷ []) in
    let same : behind + length rest ≡ from + length (ended one ++ rest) = omega (arith, length-append (ended one) rest, length-append one (0 ∷ [])) in
    ap (λ (ends : List ℕ). behind ∷ ends) (last_end behind texts text ∙ ap (λ n. ends_of behind texts ++ n ∷ []) same)

all_stand : (run ends : List ℕ) (texts : List (List ℕ)) → run ≡ flat_map ended texts → ends ≡ ends_of 0 texts → texts_ended run 0 ends ≡ texts
all_stand run ends texts r e = ap (λ (s : List ℕ). texts_ended s 0 ends) r ∙ ap (λ (s : List ℕ). texts_ended (flat_map ended texts) 0 s) e ∙ stand [] texts

more_run : (run ends text : List ℕ) → IsRun run ends → (run ++ text) ++ 0 ∷ [] ≡ flat_map ended (texts_ended run 0 ends ++ text ∷ [])
more_run run ends text is =
    let texts = texts_ended run 0 ends in
    append_assoc run text (0 ∷ []) ∙ ap (λ (r : List ℕ). r ++ ended text) is.run_is
    ∙ ap (λ (r : List ℕ). flat_map ended texts ++ r) (sym (append-nil (ended text))) ∙ sym (flat_map-append ended texts (text ∷ []))

more_ends : (run ends text : List ℕ) → IsRun run ends → ends ++ length ((run ++ text) ++ 0 ∷ []) ∷ [] ≡ ends_of 0 (texts_ended run 0 ends ++ text ∷ [])
more_ends run ends text is =
    let texts = texts_ended run 0 ends in
    let size : length ((run ++ text) ++ 0 ∷ []) ≡ 0 + length (flat_map ended (texts ++ text ∷ [])) = omega (arith, ap length (more_run run ends text is)) in
    ap (λ n. ends ++ n ∷ []) size ∙ ap (λ (places : List ℕ). places ++ (0 + length (flat_map ended (texts ++ text ∷ []))) ∷ []) is.ends_are ∙ sym (last_end 0 texts text)

pub pushed : (run ends text : List ℕ) → IsRun run ends → texts_ended ((run ++ text) ++ 0 ∷ []) 0 (ends ++ length ((run ++ text) ++ 0 ∷ []) ∷ []) ≡ texts_ended run 0 ends ++ text ∷ []
pushed run ends text is = all_stand _ _ (texts_ended run 0 ends ++ text ∷ []) (more_run run ends text is) (more_ends run ends text is)

pub is_run : (run ends text : List ℕ) → IsRun run ends → IsRun ((run ++ text) ++ 0 ∷ []) (ends ++ length ((run ++ text) ++ 0 ∷ []) ∷ [])
is_run run ends text is = record {
  run_is = more_run run ends text is ∙ ap (flat_map ended) (sym (pushed run ends text is));
  ends_are = more_ends run ends text is ∙ ap (ends_of 0) (sym (pushed run ends text is));
}
