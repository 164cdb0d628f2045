-- What can be served of the bytes that came from a peer of the gate.
use Rattle.std.specs.Prelude.{◌≡◌, ℕ, ◌+◌, Bool, false, true, List, Option, Some, None, length, nat_lt, if◌then◌else◌}
use Rattle.nsc_model.specs.Entry.{line_limit}
use Rattle.memchr.specs.Find.{IsLastByte, is_byte}

-- how many of `count` bytes can be served, by the place of the last newline among them: the whole lines, or all where they are one
-- line that is too long
abbrev pub size_by : Option ℕ → ℕ → ℕ
size_by (Some last) count = last + 1
size_by None count = if nat_lt line_limit count then count else 0

-- how many of these bytes can be served: all where no more will come
abbrev pub AreWholeLines : Bool → List ℕ → ℕ → Type 0
AreWholeLines true seen size = size ≡ length seen
AreWholeLines false seen size = (last : Option ℕ) × IsLastByte (is_byte 10) seen last × (size ≡ size_by last (length seen))
