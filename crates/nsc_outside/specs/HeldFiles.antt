-- A set of files in memory that changes once, and whose reads may wait.
use Rattle.std.specs.Prelude.{ℕ, List, replicate, Bool, if◌then◌else◌, Option, None}
use Rattle.std.specs.Option.{option_map}
use Rattle.nsc_model.specs.Content.{Content}
use Rattle.nsc_outside.specs.Release.{Release}
use Rattle.nsc_outside.specs.Hold.{Gate, unknown, shared_gate}
use Rattle.nsc_outside.specs.Tally.{Tally, no_counts}

-- what it holds first and, once a flag is set, from then on; which reads wait; its configuration, absent or its bytes; what the
-- latest read of each file gave, by number, and what it counts
pub record HeldFiles : Type 0 where
  pub first : Content
  pub second : Content
  pub changed : Release
  pub gate : Option Gate
  pub conf : Option (List ℕ)
  pub latest : List (Option (Option (List ℕ)))
  pub counts : Tally

-- it holds this and does not change, no read waits, no configuration is there, and no read was made
abbrev pub steady : Content → Release → HeldFiles
steady content changed = record { first = content; second = content; changed = changed; gate = None; conf = None; latest = replicate 8 None; counts = no_counts }

-- what a set gives that found the flag set, or did not
abbrev pub given : Bool → HeldFiles → Content
given found set = if found then set.second else set.first

-- the same files, of which nothing was read, for another set, which knows nothing of the flags
abbrev pub shared_files : HeldFiles → HeldFiles
shared_files set = record set { changed = unknown set.changed; gate = option_map shared_gate set.gate; latest = replicate 8 None; counts = no_counts }
