-- Bytes of words, gathered in blocks.
use Rattle.std.proofs.Common.{◌≡◌, ℕ, ◌+◌, ◌-◌, ◌*◌, ◌/◌, ◌%◌, ◌<◌, ◌≤◌, ⊎_elim, List, ◌++◌, length, take, slice_index, ap, ◌∙◌, arith}
use Rattle.std.proofs.Math.Seq.{get_or-append_right}
use Rattle.std.proofs.lemmas.Bool.{cases_lt}
use Rattle.std.proofs.lemmas.List.{get_or_append_left, get_or-take, length-append, length-take}
use Rattle.std.proofs.lemmas.List.FromFn.{fill_by_all, get_or-map-range_with_len, length-map-range_with_len}
use borrow.Rule.Slice.PartMut.{put_mid, post_of}
use Rattle.byteorder.specs.Endian.{little_bytes}
use Rattle.byteorder.specs.Numbers.{length-bytes_low_first}
use Rattle.nsc_arena.specs.ReadBack.{byte_in, bytes_in}

-- a byte by the word that has it
byte_of_word : (words : List ℕ) (at i k : ℕ) → 8 * i ≤ k → k < 8 * (i + 1) → slice_index (little_bytes 8 (slice_index words (at + i))) (k - 8 * i) ≡ byte_in words at k
unfolding byte_in
byte_of_word words at i k low high =
    let word : i ≡ k / 8 = omega arith in
    let rest : k - 8 * i ≡ k % 8 = omega arith in
    ap (λ (n : ℕ). slice_index (little_bytes 8 (slice_index words (at + n))) (k - 8 * i)) word ∙ ap (λ (n : ℕ). slice_index (little_bytes 8 (slice_index words (at + k / 8))) n) rest

-- a byte of words that begin `j` words later
byte_later : (words : List ℕ) (at j k : ℕ) → byte_in words (at + j) k ≡ byte_in words at (8 * j + k)
unfolding byte_in
byte_later words at j k =
    let word : at + j + k / 8 ≡ at + (8 * j + k) / 8 = omega arith in
    let rest : k % 8 ≡ (8 * j + k) % 8 = omega arith in
    ap (λ (n : ℕ). slice_index (little_bytes 8 (slice_index words n)) (k % 8)) word ∙ ap (λ (n : ℕ). slice_index (little_bytes 8 (slice_index words (at + (8 * j + k) / 8))) n) rest

-- one word more in a block
pub word_in_block : (words : List ℕ) (at i : ℕ) (block bytes : List ℕ) → 8 * i + 8 ≤ length block → bytes ≡ little_bytes 8 (slice_index words (at + i)) → ((k : ℕ) → k < 8 * i → slice_index block k ≡ byte_in words at k)
    → (k : ℕ) → k < 8 * (i + 1) → slice_index (put_mid (8 * i) (8 * i + 8 - 8 * i) block bytes) k ≡ byte_in words at k
word_in_block words at i block bytes room is before k h =
    let size : length (take (8 * i) block) ≡ 8 * i = length-take (8 * i) block ∙ omega arith in
    let eight : length bytes ≡ 8 = ap length is ∙ length-bytes_low_first 0 8 (slice_index words (at + i)) in
    let rest = bytes ++ post_of (8 * i) (8 * i + 8 - 8 * i) block in
    ⊎_elim
    (λ (low : k < 8 * i). get_or_append_left (take (8 * i) block) rest 0 k (omega arith) ∙ get_or-take (8 * i) block k 0 low ∙ before k low)
    (λ (high : 8 * i ≤ k).
    get_or-append_right (take (8 * i) block) rest k 0 (omega arith)
    ∙ ap (λ (n : ℕ). slice_index rest (k - n)) size
    ∙ get_or_append_left bytes (post_of (8 * i) (8 * i + 8 - 8 * i) block) 0 (k - 8 * i) (omega arith)
    ∙ ap (λ (bs : List ℕ). slice_index bs (k - 8 * i)) is
    ∙ byte_of_word words at i k high h)
    (cases_lt k (8 * i))

-- one block more
pub block_more : (words : List ℕ) (at j count : ℕ) (block : List ℕ) → count ≤ length block → ((k : ℕ) → k < count → slice_index block k ≡ byte_in words (at + j) k)
    → bytes_in words at (8 * j) ++ take count block ≡ bytes_in words at (8 * j + count)
block_more words at j count block room is =
    let front : length (bytes_in words at (8 * j)) ≡ 8 * j = length-map-range_with_len (byte_in words at) 0 (8 * j) in
    let part : length (take count block) ≡ count = length-take count block ∙ omega arith in
    let size : length (bytes_in words at (8 * j) ++ take count block) ≡ 8 * j + count = length-append (bytes_in words at (8 * j)) (take count block) ∙ omega arith in
    fill_by_all (byte_in words at) (bytes_in words at (8 * j) ++ take count block) (8 * j + count) 0 size (λ k h.
    ⊎_elim
    (λ (low : k < 8 * j). get_or_append_left (bytes_in words at (8 * j)) (take count block) 0 k (omega arith) ∙ get_or-map-range_with_len (byte_in words at) 0 (8 * j) k k 0 low (omega arith))
    (λ (high : 8 * j ≤ k).
    let there : 8 * j + (k - 8 * j) ≡ k = omega arith in
    get_or-append_right (bytes_in words at (8 * j)) (take count block) k 0 (omega arith)
    ∙ ap (λ (n : ℕ). slice_index (take count block) (k - n)) front
    ∙ get_or-take count block (k - 8 * j) 0 (omega arith)
    ∙ is (k - 8 * j) (omega arith)
    ∙ byte_later words at j (k - 8 * j)
    ∙ ap (byte_in words at) there)
    (cases_lt k (8 * j)))
