-- Bytes read word by word.
use Rattle.std.proofs.Common.{◌≡◌, ℕ, ◌+◌, ◌-◌, ◌*◌, ◌<◌, ◌≤◌, ⊎_elim, min, List, ◌++◌, length, take, drop, slice_index, sym, ap, ◌∙◌, arith}
use Rattle.std.proofs.Math.Seq.{take-add}
use Rattle.std.proofs.lemmas.List.{length-drop, take_all, get_or_past}
use Rattle.std.proofs.lemmas.List.Sums.{fold-append}
use Rattle.std.proofs.lemmas.Bool.{cases_lt}
use Rattle.std.specs.List.{All}
use Rattle.byteorder.specs.Endian.{little_bytes}
use Rattle.nsc_words.specs.Hash.{hash_from, hash_step}
use Rattle.nsc_words.specs.Words.{word_of}
use Rattle.nsc_words.proofs.Lows.{low_of_word}

-- bytes are numbers below 256, and what stands past them is 0
pub all_below : (bytes : List ℕ) → All (λ b. b < 256) bytes → (i : ℕ) → slice_index bytes i < 256
all_below bytes all i = ⊎_elim (λ (h : i < length bytes). all i 0 h) (λ (h : length bytes ≤ i). let e : slice_index bytes i ≡ 0 = get_or_past bytes i 0 h in omega arith) (cases_lt i (length bytes))

-- the first eight bytes, if there are eight, and all of them if there are fewer
first_eight : (xs : List ℕ) (c : ℕ) → c ≡ min (length xs) 8 → take 8 xs ≡ take c xs
first_eight xs c is = ⊎_elim
    (λ (h : length xs < 8). let e : take 8 xs ≡ xs = take_all 8 xs (omega arith) in let f : take c xs ≡ xs = take_all c xs (omega arith) in e ∙ sym f)
    (λ (h : 8 ≤ length xs). let e : 8 ≡ c = omega arith in ap (λ (n : ℕ). take n xs) e)
    (cases_lt (length xs) 8)

-- one word more
pub one_more_word : (bytes : List ℕ) (i c word : ℕ) → All (λ b. b < 256) bytes → 8 * i < length bytes → c ≡ min (length bytes - 8 * i) 8 → word ≡ word_of bytes i → take (8 * (i + 1)) bytes ≡ take (8 * i) bytes ++ little_bytes c word
one_more_word bytes i c word all more is holds =
    let at : 8 * (i + 1) ≡ 8 * i + 8 = omega arith in
    let size : length (drop (8 * i) bytes) ≡ length bytes - 8 * i = length-drop (8 * i) bytes in
    let few = first_eight (drop (8 * i) bytes) c (is ∙ ap (λ (n : ℕ). min n 8) (sym size)) in
    let low = low_of_word bytes i c (all_below bytes all) (omega arith) (omega arith) in
    ap (λ (n : ℕ). take n bytes) at ∙ take-add (8 * i) 8 bytes ∙ ap (λ (xs : List ℕ). take (8 * i) bytes ++ xs) (few ∙ sym low ∙ ap (little_bytes c) (sym holds))

-- one word more in a hash
pub hash_more : (hash start i c word : ℕ) (bytes : List ℕ) → All (λ b. b < 256) bytes → 8 * i < length bytes → c ≡ min (length bytes - 8 * i) 8 → word ≡ word_of bytes i → hash ≡ hash_from start (take (8 * i) bytes) → hash_from hash (little_bytes c word) ≡ hash_from start (take (8 * (i + 1)) bytes)
hash_more hash start i c word bytes all more is holds sofar =
    ap (λ (h : ℕ). hash_from h (little_bytes c word)) sofar ∙ sym (fold-append hash_step start (take (8 * i) bytes) (little_bytes c word)) ∙ ap (hash_from start) (sym (one_more_word bytes i c word all more is holds))
