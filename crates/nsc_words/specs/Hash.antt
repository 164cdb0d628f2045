-- The hash of a request: that of Daniel J. Bernstein, which begins at 5381 and takes thirty-three times itself and the next
-- byte, here modulo 2^32. The number of the kind is the first byte, and those of the key follow.
use Rattle.std.specs.Prelude.{ℕ, ◌+◌, ◌*◌, ◌%◌, ◌^◌, List, ◌∷◌}
use Rattle.std.specs.List.{fold}

abbrev pub hash_step : ℕ → ℕ → ℕ
hash_step hash byte = (hash * 33 + byte) % 2 ^ 32

abbrev pub hash_from : ℕ → List ℕ → ℕ
hash_from hash bytes = fold hash_step hash bytes

abbrev pub hash_of : ℕ → List ℕ → ℕ
hash_of kind key = hash_from 5381 (kind ∷ key)
