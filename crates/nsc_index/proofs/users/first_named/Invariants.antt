use Rattle.std.proofs.Common.{◌≡◌, drop, filter}
use Rattle.std.specs.List.{filter_map}
use Rattle.std.specs.Str.{bytes_eq}
use Rattle.nsc_base.specs.Text.{part}
use Rattle.nsc_model.specs.Entries.{first_of}
use Rattle.nsc_accounts.specs.Passwd.{user_places}
use Rattle.nsc_index.specs.Indexes.{on_line}
use Rattle.nsc_index.proofs.LineRows.{first_left}
use Rattle.nsc_index.proofs.users.first_named.Given as goal

-- the first one is on a line of the places that are left
abbrev pub invariant-loop-place : goal.invariant-loop-place
invariant-loop-place l = first_left (on_line (user_places l.text) l.text) (λ at. bytes_eq (part l.text at.name) l.name) (drop l.place-index l.places) ≡ first_of (filter (λ at. bytes_eq (part l.text at.name) l.name) (filter_map (on_line (user_places l.text) l.text) l.places))
