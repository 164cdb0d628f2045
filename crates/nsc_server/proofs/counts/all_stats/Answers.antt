use Rattle.nsc_model.proofs.Beginnings.{prefix_all}
use Rattle.nsc_server.proofs.counts.all_stats.Goals as goal

pub returns-in_err-passwd-clause-before : goal.returns-in_err-passwd-clause-before
returns-in_err-passwd-clause-before g c = record { passwd_saw = c.stats.ensures.seen.before; group_saw = prefix_all _; hosts_saw = prefix_all _; services_saw = prefix_all _ }

pub returns-in_err-group-clause-before : goal.returns-in_err-group-clause-before
returns-in_err-group-clause-before g c = record { passwd_saw = c.stats.ensures.seen.before; group_saw = c.stats-2.ensures.seen.before; hosts_saw = prefix_all _; services_saw = prefix_all _ }

pub returns-in_err-hosts-clause-before : goal.returns-in_err-hosts-clause-before
returns-in_err-hosts-clause-before g c = record { passwd_saw = c.stats.ensures.seen.before; group_saw = c.stats-2.ensures.seen.before; hosts_saw = c.stats-3.ensures.seen.before; services_saw = prefix_all _ }
