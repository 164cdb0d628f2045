-- Two numbers in one word.
use Rattle.std.specs.Prelude.{ℕ, ◌+◌, ◌*◌, Bool, if◌then◌else◌}

-- a kind, and the length of a key in bytes, which is below 65,536
abbrev pub shape_word : ℕ → ℕ → ℕ
shape_word kind key = kind * 65536 + key

-- the length of a reply in bytes, doubled, and one more where it is a not-found reply
abbrev pub size_word : ℕ → Bool → ℕ
size_word reply not_found = reply * 2 + (if not_found then 1 else 0)
