-- Bytes in words of eight bytes each, the lowest byte of a word first (little-endian). A word that bytes do not fill has zeros
-- after them.
use Rattle.std.specs.Prelude.{◌≡◌, ℕ, ◌+◌, ◌*◌, ◌<◌, List, drop, length, slice_index}
use Rattle.byteorder.specs.Endian.{little_number}
use Rattle.nsc_base.specs.Nodes.{words_for}

-- a word of the bytes, by its number from 0 on: the eight bytes from this many times eight on, zeros past the end
unfoldable pub word_of : List ℕ → ℕ → ℕ
word_of bytes index = little_number 8 (drop (8 * index) bytes)

-- the words from a place on hold these bytes
abbrev pub HoldsBytes : List ℕ → ℕ → List ℕ → Type 0
HoldsBytes words place bytes = (i : ℕ) → i < words_for (length bytes) → slice_index words (place + i) ≡ word_of bytes i
