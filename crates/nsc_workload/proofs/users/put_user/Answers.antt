use Rattle.std.proofs.Common.{rules, append_assoc}
use Rattle.nsc_workload.proofs.users.put_user.Goals as goal

pub returns-clause-line : goal.returns-clause-line
returns-clause-line c = rw (c.in_ok-extend_from_slice-3.ensures.items, c.in_ok-put_name-2.ensures.name, c.in_ok-extend_from_slice-2.ensures.items, c.in_ok-put_number.ensures.number, c.in_ok-extend_from_slice.ensures.items, c.in_ok-put_name.ensures.name) (search (rules, append_assoc))
