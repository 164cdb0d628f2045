-- The part of a line that holds an entry.
use Rattle.std.specs.Prelude.{ℕ, ◌+◌, List, length}
use Rattle.nsc_base.specs.declared.span.Span.{Span}
use Rattle.nsc_base.specs.Text.{before_remark, part}

-- a line up to its remark
abbrev pub entry_part : List ℕ → Span → Span
entry_part text line = record { from = line.from; to = line.from + length (before_remark (part text line)) }
