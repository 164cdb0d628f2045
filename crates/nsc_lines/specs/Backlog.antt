-- What a bounded list of lines keeps, and what it counts.
use Rattle.std.specs.Prelude.{◌≡◌, ◌⊎◌, ◌+◌, ◌<◌, ◌++◌, ℕ, List, Option, Some, None, [], ◌∷◌, length, min, true, false}
use Rattle.std.specs.declared.string.String.{String}
use Rattle.std.specs.declared.alloc.Global.{Global}
use Rattle.nsc_lines.specs.declared.backlog.Backlog.{Backlog}
use Rattle.nsc_lines.specs.declared.backlog.Entry.{Entry}

-- the most lines that wait
abbrev pub line_limit : ℕ
line_limit = 64

-- one more than a count, which stops at the greatest number of 64 bits
abbrev pub dropped_more : ℕ → ℕ
dropped_more count = min (count + 1) 18446744073709551615

-- a line was put at the end, among fewer than the limit; or it was dropped and counted
abbrev pub AddsOrDrops : String Global → Backlog → Backlog → Type 0
AddsOrDrops line before after =
    ((length before.lines.items < line_limit) × (after.lines.items ≡ before.lines.items ++ line ∷ []) × (after ≡ record before { lines = after.lines }))
    ⊎ ((after.lines.items ≡ before.lines.items) × (after ≡ record before { lines = after.lines; dropped = dropped_more before.dropped }))

-- a line is the first of those that waited; if there is none, none waited
abbrev pub IsFirst : Option (String Global) → (before after : List (String Global)) → Type 0
IsFirst None before after = (before ≡ []) × (after ≡ [])
IsFirst (Some line) before after = before ≡ line ∷ after

-- The oldest line was taken, if there was one, with the count of those that were dropped, which begins anew. There is a line, or one was
-- dropped.
pub record TakesFirst (entry : Entry) (before after : Backlog) : Type 0 where
  pub first : IsFirst entry.line before.lines.items after.lines.items
  pub some : (entry.line ≡ None) → 0 < entry.dropped
  pub dropped : entry.dropped ≡ before.dropped
  pub rest : after ≡ record before { lines = after.lines; dropped = 0; is_writing = true }

-- there was no line and no count, and nothing is being written
pub record RunsDry (before after : Backlog) : Type 0 where
  pub lines : before.lines.items ≡ []
  pub dropped : before.dropped ≡ 0
  pub none : after.lines.items ≡ []
  pub rest : after ≡ record before { lines = after.lines; is_writing = false }
