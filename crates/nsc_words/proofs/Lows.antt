-- The bytes of a word, and the word of bytes.
use Rattle.std.proofs.Common.{◌≡◌, ℕ, zero, suc, ◌+◌, ◌*◌, ◌/◌, ◌%◌, ◌^◌, ◌<◌, ◌≤◌, List, [], ◌∷◌, ◌++◌, replicate, length, take, drop, slice_index, refl, sym, ap, ◌∙◌, arith}
use Rattle.std.proofs.Math.Nat.{div-div-eq-div-mul, div-one, pow-succ'}
use Rattle.std.proofs.Math.Seq.{drop-cons}
use Rattle.std.proofs.lemmas.List.{get_or-drop, get_or-take, length-drop}
use Rattle.std.proofs.lemmas.Grind.{same_number_lists}
use Rattle.std.specs.Int.{byte_at, bytes_low_first}
use Rattle.nsc_base.specs.Nodes.{words_for}
use Rattle.byteorder.specs.Endian.{little_from}
use Rattle.nsc_words.specs.Words.{word_of}

-- the first of the lowest bytes
pub take_low : (c k i x : ℕ) → c ≤ k → take c (bytes_low_first i k x) ≡ bytes_low_first i c x
take_low zero k i x h = refl
take_low (suc c) zero i x h = absurd (omega arith)
take_low (suc c) (suc k) i x h = ap (λ (bs : List ℕ). byte_at i x ∷ bs) (take_low c k (suc i) x (omega arith))

-- the number reads each byte by its place
pub little_from-same : (i n : ℕ) (xs ys : List ℕ) → ((k : ℕ) → slice_index xs k ≡ slice_index ys k) → little_from i n xs ≡ little_from i n ys
little_from-same i zero xs ys h = refl
little_from-same i (suc n) xs ys h = let e = h i in let r = little_from-same (suc i) n xs ys h in cc

byte_at-pow : (k x : ℕ) → byte_at k x ≡ x / 256 ^ k % 256
byte_at-pow zero x = ap (λ (y : ℕ). y % 256) (sym (div-one x))
byte_at-pow (suc k) x = refl

-- a byte of a number whose lowest byte is split off
byte_at-up : (i x r : ℕ) → x < 256 → byte_at (suc i) (x + 256 * r) ≡ byte_at i r
byte_at-up i x r h =
    let q : (x + 256 * r) / 256 ≡ r = omega arith in
    let s : (x + 256 * r) / 256 ^ suc i ≡ (x + 256 * r) / 256 / 256 ^ i = ap (λ (p : ℕ). (x + 256 * r) / p) (pow-succ' 256 i) ∙ sym (div-div-eq-div-mul (x + 256 * r) 256 (256 ^ i)) in
    let t : (x + 256 * r) / 256 ^ suc i % 256 ≡ r / 256 ^ i % 256 = ap (λ (y : ℕ). y % 256) (s ∙ ap (λ (y : ℕ). y / 256 ^ i) q) in
    t ∙ sym (byte_at-pow i r)

low_up : (c i x r : ℕ) → x < 256 → bytes_low_first (suc i) c (x + 256 * r) ≡ bytes_low_first i c r
low_up zero i x r h = refl
low_up (suc c) i x r h = let e = byte_at-up i x r h in let f = low_up c (suc i) x r h in cc

-- the lowest bytes of the number that bytes make
pub low_of : (c n j : ℕ) (xs : List ℕ) → ((k : ℕ) → slice_index xs k < 256) → c ≤ n → j + c ≤ length xs → bytes_low_first 0 c (little_from j n xs) ≡ take c (drop j xs)
low_of zero n j xs b h l = refl
low_of (suc c) zero j xs b h l = absurd (omega arith)
low_of (suc c) (suc n) j xs b h l =
    let rest = low_of c n (suc j) xs b (omega arith) (omega arith) in
    let at : drop j xs ≡ slice_index xs j ∷ drop (suc j) xs = drop-cons xs j 0 (omega arith) in
    let x = slice_index xs j in
    let r = little_from (suc j) n xs in
    let small : x < 256 = b j in
    let low : (x + 256 * r) % 256 ≡ x = omega arith in
    let up = low_up c 0 x r small in
    ap (λ (y : ℕ). y ∷ bytes_low_first 1 c (x + 256 * r)) low ∙ ap (λ (ys : List ℕ). x ∷ ys) (up ∙ rest) ∙ sym (ap (take (suc c)) at)

-- zeros after the bytes are read as what stands past their end
zeros : (n k : ℕ) → slice_index (replicate n 0) k ≡ 0
zeros zero k = refl
zeros (suc n) zero = refl
zeros (suc n) (suc k) = zeros n k

before_zeros : (bytes rest : List ℕ) → ((k : ℕ) → slice_index rest k ≡ 0) → (k : ℕ) → slice_index (bytes ++ rest) k ≡ slice_index bytes k
before_zeros [] rest h k = h k
before_zeros (b ∷ bytes) rest h zero = refl
before_zeros (b ∷ bytes) rest h (suc k) = before_zeros bytes rest h k

pub padded : (bytes : List ℕ) (n m k : ℕ) → slice_index (bytes ++ drop m (replicate n 0)) k ≡ slice_index bytes k
padded bytes n m k = before_zeros bytes (drop m (replicate n 0)) (λ j. rw get_or-drop (zeros n (m + j))) k

-- a whole word of bytes, and the last one
pub low_of_word : (bytes : List ℕ) (i c : ℕ) → ((k : ℕ) → slice_index bytes k < 256) → c ≤ 8 → 8 * i + c ≤ length bytes → bytes_low_first 0 c (word_of bytes i) ≡ take c (drop (8 * i) bytes)
unfolding word_of
low_of_word bytes i c b h l =
    let below : (k : ℕ) → slice_index (drop (8 * i) bytes) k < 256 = λ k. rw get_or-drop (b (8 * i + k)) in
    low_of c 8 0 (drop (8 * i) bytes) below h (simp length-drop (omega arith))

-- ---- bytes by their words

-- a byte by the word that it stands in
pub byte_of : (bytes : List ℕ) (k : ℕ) → ((i : ℕ) → slice_index bytes i < 256) → k < length bytes → slice_index bytes k ≡ slice_index (bytes_low_first 0 (k % 8 + 1) (word_of bytes (k / 8))) (k % 8)
byte_of bytes k b h =
    let low = low_of_word bytes (k / 8) (k % 8 + 1) b (omega arith) (omega arith) in
    let at : slice_index (take (k % 8 + 1) (drop (8 * (k / 8)) bytes)) (k % 8) ≡ slice_index bytes (8 * (k / 8) + k % 8) = get_or-take (k % 8 + 1) (drop (8 * (k / 8)) bytes) (k % 8) 0 (omega arith) ∙ get_or-drop (8 * (k / 8)) bytes (k % 8) 0 in
    let whole : 8 * (k / 8) + k % 8 ≡ k = omega arith in
    sym (ap (λ (xs : List ℕ). slice_index xs (k % 8)) low ∙ at ∙ ap (slice_index bytes) whole)

-- bytes that have one length and the same words are the same
pub same_words : (a b : List ℕ) → ((i : ℕ) → slice_index a i < 256) → ((i : ℕ) → slice_index b i < 256) → length a ≡ length b → ((i : ℕ) → i < words_for (length a) → word_of a i ≡ word_of b i) → a ≡ b
same_words a b below_a below_b size words = same_number_lists a b size (λ k h.
    let i : k / 8 < words_for (length a) = omega arith in
    let l : k < length b = omega arith in
    byte_of a k below_a h ∙ ap (λ (w : ℕ). slice_index (bytes_low_first 0 (k % 8 + 1) w) (k % 8)) (words (k / 8) i) ∙ sym (byte_of b k below_b l))
