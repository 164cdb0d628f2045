use Rattle.std.proofs.Common.{◌≡◌, ◌==◌, drop, filter}
use Rattle.std.specs.List.{filter_map}
use Rattle.nsc_model.specs.Entries.{first_of}
use Rattle.nsc_accounts.specs.Passwd.{user_places}
use Rattle.nsc_index.specs.Indexes.{on_line}
use Rattle.nsc_index.proofs.LineRows.{first_left}
use Rattle.nsc_index.proofs.users.first_numbered.Given as goal

-- the first one is on a line of the places that are left
abbrev pub invariant-loop-place : goal.invariant-loop-place
invariant-loop-place l = first_left (on_line (user_places l.text) l.text) (λ at. at.uid == l.uid) (drop l.place-index l.places) ≡ first_of (filter (λ at. at.uid == l.uid) (filter_map (on_line (user_places l.text) l.text) l.places))
