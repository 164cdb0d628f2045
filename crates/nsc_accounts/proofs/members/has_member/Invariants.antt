use Rattle.std.proofs.Common.{◌≡◌, ◌+◌, ◌-◌, filter}
use Rattle.std.specs.List.{list_any}
use Rattle.std.specs.Str.{bytes_eq}
use Rattle.nsc_base.specs.Text.{fields_between, is_filled, part}
use Rattle.nsc_model.specs.Groups.{members_of}
use Rattle.nsc_accounts.proofs.members.has_member.Given as goal

abbrev pub invariant-loop-member : goal.invariant-loop-member
invariant-loop-member l = list_any (λ m. bytes_eq m l.user) (filter is_filled (fields_between 44 l.text l.from l.members.to)) ≡ list_any (λ m. bytes_eq m l.user) (members_of (part l.text l.members))

abbrev pub decreases-loop-member : goal.decreases-loop-member
decreases-loop-member l = l.members.to + 1 - l.from
