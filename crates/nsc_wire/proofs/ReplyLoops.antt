-- Reading the parts of a list one after the other, as a loop does.
use Rattle.std.proofs.Common.{◌≡◌, ℕ, suc, ◌-◌, ◌+◌, ◌≤◌, ◌<◌, List, [], ◌∷◌, ◌++◌, length, get_or, drop, drop-cons, add-one, Result, Ok, Err, refl, sym, ap, ◌∙◌, append_assoc, arith}
use Rattle.std.proofs.lemmas.List.{append-nil, drop_all}
use Rattle.nsc_model.specs.declared.row.Found6.{Found6}
use Rattle.nsc_wire.specs.declared.fault.Broken.{Broken}
use Rattle.nsc_wire.specs.declared.fault.Broken.TheVariants as broken
use Rattle.nsc_wire.specs.Replies.{◌>>=◌, Breaks, number_at, numbers_at, fixed_at, all_fixed, size_at, sizes_at, text_at, texts_at, ended_text_at, ended_texts_at, found_at, founds_at}

-- what was read before, and what is still read
abbrev pub with_front : {A : Type 0} → List A → Result (List A × List ℕ) ℕ → Result (List A × List ℕ) ℕ
with_front front read = read >>= λ x. Ok (front ++ x.0, x.1)

regroup : {A : Type 0} (front : List A) (one : A) (read : Result (List A × List ℕ) ℕ) → with_front front (read >>= λ x. Ok (one ∷ x.0, x.1)) ≡ with_front (front ++ one ∷ []) read
regroup {A} front one (Ok x) = ap (λ (all : List A). Ok (all, x.1)) (simp append_assoc)
regroup front one (Err left) = refl

-- ---- numbers

pub numbers_go_on : (front : List ℕ) (count i : ℕ) (bytes : List ℕ) (one : ℕ) (after : List ℕ) (total : Result (List ℕ × List ℕ) ℕ) → i < count → number_at bytes ≡ Ok (one, after)
    → with_front front (numbers_at (count - i) bytes) ≡ total → with_front (front ++ one ∷ []) (numbers_at (count - (i + 1)) after) ≡ total
unfolding numbers_at
numbers_go_on front count i bytes one after total lt h so_far =
    let k : count - i ≡ suc (count - (i + 1)) = omega arith in
    let step : with_front front (numbers_at (count - i) bytes) ≡ with_front (front ++ one ∷ []) (numbers_at (count - (i + 1)) after) = rw (k, h) (regroup front one (numbers_at (count - (i + 1)) after)) in
    sym step ∙ so_far

pub numbers_end : (e : Broken) (front : List ℕ) (count i : ℕ) (bytes : List ℕ) (total : Result (List ℕ × List ℕ) ℕ) → i < count → Breaks e (number_at bytes)
    → with_front front (numbers_at (count - i) bytes) ≡ total → Breaks e total
unfolding numbers_at
numbers_end broken.NoMemory front count i bytes total lt h so_far = tt
numbers_end (broken.Left left) front count i bytes total lt h so_far =
    let k : count - i ≡ suc (count - (i + 1)) = omega arith in
    let step : with_front front (numbers_at (count - i) bytes) ≡ Err left = rw (k, h) refl in
    sym so_far ∙ step

pub numbers_done : (front : List ℕ) (count i : ℕ) (bytes : List ℕ) (total : Result (List ℕ × List ℕ) ℕ) → count ≤ i → with_front front (numbers_at (count - i) bytes) ≡ total → total ≡ Ok (front, bytes)
unfolding numbers_at
numbers_done front count i bytes total le so_far =
    let k : count - i ≡ 0 = omega arith in
    let step : with_front front (numbers_at (count - i) bytes) ≡ Ok (front, bytes) = rw k (ap (λ (all : List ℕ). Ok (all, bytes)) (append-nil front)) in
    sym so_far ∙ step

-- ---- fields that have given values

pub fixed_go_on : (values : List ℕ) (i : ℕ) (bytes after : List ℕ) (total : Result (List ℕ) ℕ) → i < length values → fixed_at (get_or values i 0) bytes ≡ Ok after
    → all_fixed (drop i values) bytes ≡ total → all_fixed (drop (i + 1) values) after ≡ total
unfolding all_fixed
fixed_go_on values i bytes after total lt h so_far =
    let k : drop i values ≡ get_or values i 0 ∷ drop (i + 1) values = rw add-one (drop-cons values i 0 lt) in
    let step : all_fixed (drop i values) bytes ≡ all_fixed (drop (i + 1) values) after = rw (k, h) refl in
    sym step ∙ so_far

pub fixed_end : (e : Broken) (values : List ℕ) (i : ℕ) (bytes : List ℕ) (total : Result (List ℕ) ℕ) → i < length values → Breaks e (fixed_at (get_or values i 0) bytes)
    → all_fixed (drop i values) bytes ≡ total → Breaks e total
unfolding all_fixed
fixed_end broken.NoMemory values i bytes total lt h so_far = tt
fixed_end (broken.Left left) values i bytes total lt h so_far =
    let k : drop i values ≡ get_or values i 0 ∷ drop (i + 1) values = rw add-one (drop-cons values i 0 lt) in
    let step : all_fixed (drop i values) bytes ≡ Err left = rw (k, h) refl in
    sym so_far ∙ step

pub fixed_done : (values : List ℕ) (i : ℕ) (bytes : List ℕ) (total : Result (List ℕ) ℕ) → length values ≤ i → all_fixed (drop i values) bytes ≡ total → total ≡ Ok bytes
unfolding all_fixed
fixed_done values i bytes total le so_far =
    let step : all_fixed (drop i values) bytes ≡ Ok bytes = rw (drop_all i values le) refl in
    sym so_far ∙ step

-- ---- the lengths of texts

pub sizes_go_on : (count i : ℕ) (bytes : List ℕ) (one : ℕ) (after : List ℕ) (total : Result (List ℕ) ℕ) → i < count → size_at bytes ≡ Ok (one, after)
    → sizes_at (count - i) bytes ≡ total → sizes_at (count - (i + 1)) after ≡ total
unfolding sizes_at
sizes_go_on count i bytes one after total lt h so_far =
    let k : count - i ≡ suc (count - (i + 1)) = omega arith in
    let step : sizes_at (count - i) bytes ≡ sizes_at (count - (i + 1)) after = rw (k, h) refl in
    sym step ∙ so_far

pub sizes_end : (e : Broken) (count i : ℕ) (bytes : List ℕ) (total : Result (List ℕ) ℕ) → i < count → Breaks e (size_at bytes) → sizes_at (count - i) bytes ≡ total → Breaks e total
unfolding sizes_at
sizes_end broken.NoMemory count i bytes total lt h so_far = tt
sizes_end (broken.Left left) count i bytes total lt h so_far =
    let k : count - i ≡ suc (count - (i + 1)) = omega arith in
    let step : sizes_at (count - i) bytes ≡ Err left = rw (k, h) refl in
    sym so_far ∙ step

pub sizes_done : (count i : ℕ) (bytes : List ℕ) (total : Result (List ℕ) ℕ) → count ≤ i → sizes_at (count - i) bytes ≡ total → total ≡ Ok bytes
unfolding sizes_at
sizes_done count i bytes total le so_far =
    let k : count - i ≡ 0 = omega arith in
    let step : sizes_at (count - i) bytes ≡ Ok bytes = rw k refl in
    sym so_far ∙ step

-- ---- texts

abbrev Texts : Type 0
Texts = Result (List (List ℕ) × List ℕ) ℕ

pub texts_go_on : (front : List (List ℕ)) (count i : ℕ) (lengths bytes : List ℕ) (size : ℕ) (others one after : List ℕ) (total : Texts) → i < count
    → number_at lengths ≡ Ok (size, others) → text_at size bytes ≡ Ok (one, after)
    → with_front front (texts_at (count - i) lengths bytes) ≡ total → with_front (front ++ one ∷ []) (texts_at (count - (i + 1)) others after) ≡ total
unfolding texts_at
texts_go_on front count i lengths bytes size others one after total lt s h so_far =
    let k : count - i ≡ suc (count - (i + 1)) = omega arith in
    let step : with_front front (texts_at (count - i) lengths bytes) ≡ with_front (front ++ one ∷ []) (texts_at (count - (i + 1)) others after) = rw (k, s, h) (regroup front one (texts_at (count - (i + 1)) others after)) in
    sym step ∙ so_far

pub texts_end_early : (e : Broken) (front : List (List ℕ)) (count i : ℕ) (lengths bytes : List ℕ) (total : Texts) → i < count → Breaks e (number_at lengths)
    → with_front front (texts_at (count - i) lengths bytes) ≡ total → Breaks e total
unfolding texts_at
texts_end_early broken.NoMemory front count i lengths bytes total lt h so_far = tt
texts_end_early (broken.Left left) front count i lengths bytes total lt h so_far =
    let k : count - i ≡ suc (count - (i + 1)) = omega arith in
    let step : with_front front (texts_at (count - i) lengths bytes) ≡ Err left = rw (k, h) refl in
    sym so_far ∙ step

pub texts_end : (e : Broken) (front : List (List ℕ)) (count i : ℕ) (lengths bytes : List ℕ) (size : ℕ) (others : List ℕ) (total : Texts) → i < count
    → number_at lengths ≡ Ok (size, others) → Breaks e (text_at size bytes) → with_front front (texts_at (count - i) lengths bytes) ≡ total → Breaks e total
unfolding texts_at
texts_end broken.NoMemory front count i lengths bytes size others total lt s h so_far = tt
texts_end (broken.Left left) front count i lengths bytes size others total lt s h so_far =
    let k : count - i ≡ suc (count - (i + 1)) = omega arith in
    let step : with_front front (texts_at (count - i) lengths bytes) ≡ Err left = rw (k, s, h) refl in
    sym so_far ∙ step

pub texts_done : (front : List (List ℕ)) (count i : ℕ) (lengths bytes : List ℕ) (total : Texts) → count ≤ i → with_front front (texts_at (count - i) lengths bytes) ≡ total → total ≡ Ok (front, bytes)
unfolding texts_at
texts_done front count i lengths bytes total le so_far =
    let k : count - i ≡ 0 = omega arith in
    let step : with_front front (texts_at (count - i) lengths bytes) ≡ Ok (front, bytes) = rw k (ap (λ (all : List (List ℕ)). Ok (all, bytes)) (append-nil front)) in
    sym so_far ∙ step

-- ---- texts that end at their zero bytes

pub ended_go_on : (front : List (List ℕ)) (count i : ℕ) (bytes one after : List ℕ) (total : Texts) → i < count → ended_text_at bytes ≡ Ok (one, after)
    → with_front front (ended_texts_at (count - i) bytes) ≡ total → with_front (front ++ one ∷ []) (ended_texts_at (count - (i + 1)) after) ≡ total
unfolding ended_texts_at
ended_go_on front count i bytes one after total lt h so_far =
    let k : count - i ≡ suc (count - (i + 1)) = omega arith in
    let more : Texts = ended_texts_at (count - (i + 1)) after in
    let step : with_front front (ended_texts_at (count - i) bytes) ≡ with_front (front ++ one ∷ []) more = rw (k, h) (regroup front one more) in
    sym step ∙ so_far

pub ended_end : (e : Broken) (front : List (List ℕ)) (count i : ℕ) (bytes : List ℕ) (total : Texts) → i < count → Breaks e (ended_text_at bytes)
    → with_front front (ended_texts_at (count - i) bytes) ≡ total → Breaks e total
unfolding ended_texts_at
ended_end broken.NoMemory front count i bytes total lt h so_far = tt
ended_end (broken.Left left) front count i bytes total lt h so_far =
    let k : count - i ≡ suc (count - (i + 1)) = omega arith in
    let step : with_front front (ended_texts_at (count - i) bytes) ≡ Err left = rw (k, h) refl in
    sym so_far ∙ step

pub ended_done : (front : List (List ℕ)) (count i : ℕ) (bytes : List ℕ) (total : Texts) → count ≤ i → with_front front (ended_texts_at (count - i) bytes) ≡ total → total ≡ Ok (front, bytes)
unfolding ended_texts_at
ended_done front count i bytes total le so_far =
    let k : count - i ≡ 0 = omega arith in
    let step : with_front front (ended_texts_at (count - i) bytes) ≡ Ok (front, bytes) = rw k (ap (λ (all : List (List ℕ)). Ok (all, bytes)) (append-nil front)) in
    sym so_far ∙ step

-- ---- addresses with their families

abbrev Founds : Type 0
Founds = Result (List Found6 × List ℕ × List ℕ) ℕ

abbrev pub with_founds : List Found6 → Founds → Founds
with_founds front read = read >>= λ x. Ok (front ++ x.0, x.1, x.2)

regroup_founds : (front : List Found6) (one : Found6) (read : Founds) → with_founds front (read >>= λ x. Ok (one ∷ x.0, x.1, x.2)) ≡ with_founds (front ++ one ∷ []) read
regroup_founds front one (Ok x) = ap (λ (all : List Found6). Ok (all, x.1, x.2)) (simp append_assoc)
regroup_founds front one (Err left) = refl

pub founds_go_on : (front : List Found6) (count i : ℕ) (addresses families : List ℕ) (one : Found6) (others after : List ℕ) (total : Founds) → i < count
    → found_at addresses families ≡ Ok (one, others, after)
    → with_founds front (founds_at (count - i) addresses families) ≡ total → with_founds (front ++ one ∷ []) (founds_at (count - (i + 1)) others after) ≡ total
unfolding founds_at
founds_go_on front count i addresses families one others after total lt h so_far =
    let k : count - i ≡ suc (count - (i + 1)) = omega arith in
    let step : with_founds front (founds_at (count - i) addresses families) ≡ with_founds (front ++ one ∷ []) (founds_at (count - (i + 1)) others after) = rw (k, h) (regroup_founds front one (founds_at (count - (i + 1)) others after)) in
    sym step ∙ so_far

pub founds_end : (e : Broken) (front : List Found6) (count i : ℕ) (addresses families : List ℕ) (total : Founds) → i < count → Breaks e (found_at addresses families)
    → with_founds front (founds_at (count - i) addresses families) ≡ total → Breaks e total
unfolding founds_at
founds_end broken.NoMemory front count i addresses families total lt h so_far = tt
founds_end (broken.Left left) front count i addresses families total lt h so_far =
    let k : count - i ≡ suc (count - (i + 1)) = omega arith in
    let step : with_founds front (founds_at (count - i) addresses families) ≡ Err left = rw (k, h) refl in
    sym so_far ∙ step

pub founds_done : (front : List Found6) (count i : ℕ) (addresses families : List ℕ) (total : Founds) → count ≤ i → with_founds front (founds_at (count - i) addresses families) ≡ total
    → total ≡ Ok (front, addresses, families)
unfolding founds_at
founds_done front count i addresses families total le so_far =
    let k : count - i ≡ 0 = omega arith in
    let step : with_founds front (founds_at (count - i) addresses families) ≡ Ok (front, addresses, families) = rw k (ap (λ (all : List Found6). Ok (all, addresses, families)) (append-nil front)) in
    sym so_far ∙ step
