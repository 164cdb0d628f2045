-- A text that is cut into the pieces between certain bytes, those without the empty ones: what stands after a number of its bytes.
use Rattle.std.proofs.Common.{◌≡◌, ℕ, ◌==◌, ◌+◌, ◌<◌, ◌≤◌, true, false, List, [], ◌∷◌, ◌++◌, filter, length, get_or, set, take, drop, refl, sym, ap, subst, ◌∙◌, append_assoc, length-append, arith}
use Rattle.std.specs.List.{list_any}
use Rattle.std.proofs.lemmas.List.{append-nil, drop-append-le, drop_all, drop_more, get_or-set_other, length-set, length-take, length-take-le, take-append-drop, take-append-le, take_all, take_more, take_more_set}
use Rattle.std.proofs.lemmas.List.Folds.{list_any-append}
use Rattle.nsc_base.specs.Text.{fields_of, is_filled}
use Rattle.nsc_base.specs.Texts.{IsRun, texts_ended}
use Rattle.nsc_base.proofs.Pieces.{pieces-first, pieces-last}
use Rattle.nsc_base.proofs.Runs.{is_run, pushed}

-- the run's front has the pieces that were passed, and behind them the bytes of the piece at hand
pub record IsCut (cut : ℕ) (text front ends : List ℕ) (begun : ℕ) (rest : List ℕ) : Type 0 where
  pub ordered : begun ≤ length front
  pub are : IsRun (take begun front) ends
  pub clear : list_any (λ b. b == cut) (drop begun front) ≡ false
  pub all : texts_ended (take begun front) 0 ends ++ filter is_filled (fields_of cut (drop begun front ++ rest)) ≡ filter is_filled (fields_of cut text)

-- a run with room for all, of which the front is made, and all behind it is zero
pub record IsSplit (cut : ℕ) (text run ends : List ℕ) (begun to at : ℕ) : Type 0 where
  pub size : length run ≡ length text + 1
  pub within : to ≤ at
  pub zeros : (k : ℕ) → to ≤ k → get_or run k 0 ≡ 0
  pub cuts : IsCut cut text (take to run) ends begun (drop at text)

-- one byte more of the piece at hand
pub letter : (cut : ℕ) (text front ends : List ℕ) (begun b : ℕ) (rest : List ℕ) → IsCut cut text front ends begun (b ∷ rest) → (b == cut) ≡ false → IsCut cut text (front ++ b ∷ []) ends begun rest
letter cut text front ends begun b rest is other =
    let same : take begun (front ++ b ∷ []) ≡ take begun front = take-append-le begun front (b ∷ []) is.ordered in
    let more : drop begun (front ++ b ∷ []) ≡ drop begun front ++ b ∷ [] = drop-append-le begun front (b ∷ []) is.ordered in
    record {
      ordered = omega (arith, is.ordered, length-append front (b ∷ []));
      are = rw same is.are;
      clear = rw more (list_any-append (λ x. x == cut) (drop begun front) (b ∷ []) ∙ rw (is.clear, other) refl);
      all = rw (same, more) (ap (λ (xs : List ℕ). texts_ended (take begun front) 0 ends ++ filter is_filled (fields_of cut xs)) (append_assoc (drop begun front) (b ∷ []) rest) ∙ is.all);
    }

-- the piece at hand, put among the others
pub put_is_run : (cut : ℕ) (text front ends : List ℕ) (begun : ℕ) (rest : List ℕ) → IsCut cut text front ends begun rest → IsRun (front ++ 0 ∷ []) (ends ++ length (front ++ 0 ∷ []) ∷ [])
put_is_run cut text front ends begun rest is =
    subst (λ (run : List ℕ). IsRun (run ++ 0 ∷ []) (ends ++ length (run ++ 0 ∷ []) ∷ [])) (take-append-drop begun front) (is_run (take begun front) ends (drop begun front) is.are)

put_texts : (cut : ℕ) (text front ends : List ℕ) (begun : ℕ) (rest : List ℕ) → IsCut cut text front ends begun rest
    → texts_ended (front ++ 0 ∷ []) 0 (ends ++ length (front ++ 0 ∷ []) ∷ []) ≡ texts_ended (take begun front) 0 ends ++ drop begun front ∷ []
put_texts cut text front ends begun rest is =
    subst (λ (run : List ℕ). texts_ended (run ++ 0 ∷ []) 0 (ends ++ length (run ++ 0 ∷ []) ∷ []) ≡ texts_ended (take begun front) 0 ends ++ drop begun front ∷ []) (take-append-drop begun front)
    (pushed (take begun front) ends (drop begun front) is.are)

filled : (piece : List ℕ) (others : List (List ℕ)) → 0 < length piece → piece ∷ filter is_filled others ≡ filter is_filled (piece ∷ others)
filled [] others h = absurd (omega arith)
filled (b ∷ piece) others h = refl

at_hand : (front : List ℕ) (begun : ℕ) → begun < length front → 0 < length (drop begun front)
at_hand front begun h = omega (arith, h, ap length (take-append-drop begun front), length-append (take begun front) (drop begun front), length-take begun front)

pub piece : (cut : ℕ) (text front ends : List ℕ) (begun b : ℕ) (rest : List ℕ) → IsCut cut text front ends begun (b ∷ rest) → (b == cut) ≡ true → begun < length front
    → IsCut cut text (front ++ 0 ∷ []) (ends ++ length (front ++ 0 ∷ []) ∷ []) (length (front ++ 0 ∷ [])) rest
piece cut text front ends begun b rest is same_as there =
    let run = front ++ 0 ∷ [] in
    let texts = texts_ended (take begun front) 0 ends in
    let one = drop begun front in
    let all_of : take (length run) run ≡ run = take_all (length run) run (omega arith) in
    let none : drop (length run) run ≡ [] = drop_all (length run) run (omega arith) in
    record {
      ordered = omega arith;
      are = rw all_of (put_is_run cut text front ends begun (b ∷ rest) is);
      clear = rw none refl;
      all = rw (all_of, none, put_texts cut text front ends begun (b ∷ rest) is)
          (append_assoc texts (one ∷ []) (filter is_filled (fields_of cut rest))
          ∙ ap (λ (x : List (List ℕ)). texts ++ x) (filled one (fields_of cut rest) (at_hand front begun there))
          ∙ ap (λ (x : List (List ℕ)). texts ++ filter is_filled x) (sym (pieces-first (λ x. x == cut) one b rest is.clear same_as))
          ∙ is.all);
    }

-- between two bytes that cut stands nothing
pub nothing : (cut : ℕ) (text front ends : List ℕ) (begun b : ℕ) (rest : List ℕ) → IsCut cut text front ends begun (b ∷ rest) → (b == cut) ≡ true → length front ≤ begun → IsCut cut text front ends begun rest
nothing cut text front ends begun b rest is same_as past =
    let none : drop begun front ≡ [] = drop_all begun front past in
    let texts = texts_ended (take begun front) 0 ends in
    record {
      ordered = is.ordered;
      are = is.are;
      clear = is.clear;
      all = rw none (ap (λ (x : List (List ℕ)). texts ++ filter is_filled x) (sym (pieces-first (λ x. x == cut) [] b rest refl same_as))
          ∙ ap (λ (x : List ℕ). texts ++ filter is_filled (fields_of cut (x ++ b ∷ rest))) (sym none) ∙ is.all);
    }

-- the last piece
last_field : (cut : ℕ) (text front ends : List ℕ) (begun : ℕ) → IsCut cut text front ends begun [] → fields_of cut (drop begun front ++ []) ≡ drop begun front ∷ []
last_field cut text front ends begun is = rw (append-nil (drop begun front)) (pieces-last (λ x. x == cut) (drop begun front) is.clear)

pub last : (cut : ℕ) (text front ends : List ℕ) (begun : ℕ) → IsCut cut text front ends begun [] → begun < length front
    → texts_ended (front ++ 0 ∷ []) 0 (ends ++ length (front ++ 0 ∷ []) ∷ []) ≡ filter is_filled (fields_of cut text)
last cut text front ends begun is there =
    let texts = texts_ended (take begun front) 0 ends in
    put_texts cut text front ends begun [] is
    ∙ ap (λ (x : List (List ℕ)). texts ++ x) (filled (drop begun front) [] (at_hand front begun there))
    ∙ ap (λ (x : List (List ℕ)). texts ++ filter is_filled x) (sym (last_field cut text front ends begun is)) ∙ is.all

pub ended_is_run : (cut : ℕ) (text front ends : List ℕ) (begun : ℕ) → IsCut cut text front ends begun [] → length front ≤ begun → IsRun front ends
ended_is_run cut text front ends begun is past = subst (λ (run : List ℕ). IsRun run ends) (take_all begun front past) is.are

pub ended_texts : (cut : ℕ) (text front ends : List ℕ) (begun : ℕ) → IsCut cut text front ends begun [] → length front ≤ begun → texts_ended front 0 ends ≡ filter is_filled (fields_of cut text)
ended_texts cut text front ends begun is past =
    let none : drop begun front ≡ [] = drop_all begun front past in
    let texts = texts_ended (take begun front) 0 ends in
    ap (λ (run : List ℕ). texts_ended run 0 ends) (sym (take_all begun front past)) ∙ sym (append-nil texts)
    ∙ ap (λ (x : List ℕ). texts ++ filter is_filled (x ∷ [])) (sym none)
    ∙ ap (λ (x : List (List ℕ)). texts ++ filter is_filled x) (sym (last_field cut text front ends begun is)) ∙ is.all

-- ---- the run that has room for all

sized_front : (text run : List ℕ) (to : ℕ) → length run ≡ length text + 1 → to ≤ length text → length (take to run) ≡ to
sized_front text run to size within = length-take-le to run (omega (arith, size, within))

-- one byte more of the run, which is zero
zero_more : (run : List ℕ) (to : ℕ) → ((k : ℕ) → to ≤ k → get_or run k 0 ≡ 0) → to < length run → take (to + 1) run ≡ take to run ++ 0 ∷ []
zero_more run to zeros there = take_more run to 0 there ∙ ap (λ (b : ℕ). take to run ++ b ∷ []) (zeros to (omega arith))

pub letter_step : (cut : ℕ) (text run ends : List ℕ) (begun to at : ℕ) → IsSplit cut text run ends begun to at → at < length text → (get_or text at 0 == cut) ≡ false
    → IsSplit cut text (set run to (get_or text at 0)) ends begun (to + 1) (at + 1)
letter_step cut text run ends begun to at is there other =
    let b = get_or text at 0 in
    let here : IsCut cut text (take to run) ends begun (b ∷ drop (at + 1) text) = subst (IsCut cut text (take to run) ends begun) (drop_more text at 0 there) is.cuts in
    record {
      size = length-set run to b ∙ is.size;
      within = omega (arith, is.within);
      zeros = λ k past. get_or-set_other run to k b 0 (λ e. omega (arith, e, past)) ∙ is.zeros k (omega (arith, past));
      cuts = rw (take_more_set run to b (omega (arith, is.size, is.within, there))) (letter cut text (take to run) ends begun b (drop (at + 1) text) here other);
    }

pub piece_step : (cut : ℕ) (text run ends : List ℕ) (begun to at : ℕ) → IsSplit cut text run ends begun to at → at < length text → (get_or text at 0 == cut) ≡ true → begun < to
    → IsSplit cut text run (ends ++ (to + 1) ∷ []) (to + 1) (to + 1) (at + 1)
piece_step cut text run ends begun to at is there same_as filled_one =
    let b = get_or text at 0 in
    let here : IsCut cut text (take to run) ends begun (b ∷ drop (at + 1) text) = subst (IsCut cut text (take to run) ends begun) (drop_more text at 0 there) is.cuts in
    let front : length (take to run) ≡ to = sized_front text run to is.size (omega (arith, is.within, there)) in
    let more : take (to + 1) run ≡ take to run ++ 0 ∷ [] = zero_more run to is.zeros (omega (arith, is.size, is.within, there)) in
    let size : length (take to run ++ 0 ∷ []) ≡ to + 1 = omega (arith, length-append (take to run) (0 ∷ []), front) in
    record {
      size = is.size;
      within = omega (arith, is.within);
      zeros = λ k past. is.zeros k (omega (arith, past));
      cuts = rw more (subst (λ (n : ℕ). IsCut cut text (take to run ++ 0 ∷ []) (ends ++ n ∷ []) n (drop (at + 1) text)) size (piece cut text (take to run) ends begun b (drop (at + 1) text) here same_as (omega (arith, front, filled_one))));
    }

pub nothing_step : (cut : ℕ) (text run ends : List ℕ) (begun to at : ℕ) → IsSplit cut text run ends begun to at → at < length text → (get_or text at 0 == cut) ≡ true → to ≤ begun
    → IsSplit cut text run ends begun to (at + 1)
nothing_step cut text run ends begun to at is there same_as past =
    let b = get_or text at 0 in
    let here : IsCut cut text (take to run) ends begun (b ∷ drop (at + 1) text) = subst (IsCut cut text (take to run) ends begun) (drop_more text at 0 there) is.cuts in
    let front : length (take to run) ≡ to = sized_front text run to is.size (omega (arith, is.within, there)) in
    record {
      size = is.size;
      within = omega (arith, is.within);
      zeros = is.zeros;
      cuts = nothing cut text (take to run) ends begun b (drop (at + 1) text) here same_as (omega (arith, front, past));
    }

-- the texts of a run whose text was passed
pub record AreTexts (cut : ℕ) (text run ends : List ℕ) : Type 0 where
  pub run_is : IsRun run ends
  pub texts_are : texts_ended run 0 ends ≡ filter is_filled (fields_of cut text)

passed : (cut : ℕ) (text front ends : List ℕ) (begun at : ℕ) → length text ≤ at → IsCut cut text front ends begun (drop at text) → IsCut cut text front ends begun []
passed cut text front ends begun at all is = subst (IsCut cut text front ends begun) (drop_all at text all) is

pub last_put : (cut : ℕ) (text run ends : List ℕ) (begun to at : ℕ) → IsSplit cut text run ends begun to at → at ≡ length text → begun < to → AreTexts cut text (take (to + 1) run) (ends ++ (to + 1) ∷ [])
last_put cut text run ends begun to at is all there =
    let done = passed cut text (take to run) ends begun at (omega (arith, all)) is.cuts in
    let front : length (take to run) ≡ to = sized_front text run to is.size (omega (arith, is.within, all)) in
    let more : take (to + 1) run ≡ take to run ++ 0 ∷ [] = zero_more run to is.zeros (omega (arith, is.size, is.within, all)) in
    let size : length (take to run ++ 0 ∷ []) ≡ to + 1 = omega (arith, length-append (take to run) (0 ∷ []), front) in
    let filled_one : begun < length (take to run) = omega (arith, front, there) in
    rw more (subst (λ (n : ℕ). AreTexts cut text (take to run ++ 0 ∷ []) (ends ++ n ∷ [])) size (record {
      run_is = put_is_run cut text (take to run) ends begun [] done;
      texts_are = last cut text (take to run) ends begun done filled_one;
    }))

pub last_is_empty : (cut : ℕ) (text run ends : List ℕ) (begun to at : ℕ) → IsSplit cut text run ends begun to at → at ≡ length text → to ≤ begun → AreTexts cut text (take to run) ends
last_is_empty cut text run ends begun to at is all past =
    let done = passed cut text (take to run) ends begun at (omega (arith, all)) is.cuts in
    let front : length (take to run) ≡ to = sized_front text run to is.size (omega (arith, is.within, all)) in
    record {
      run_is = ended_is_run cut text (take to run) ends begun done (omega (arith, front, past));
      texts_are = ended_texts cut text (take to run) ends begun done (omega (arith, front, past));
    }
