use Rattle.nsc_model.specs.declared.kind.Db.TheVariants as db
use Rattle.nsc_connection_trials.proofs.four.in_room.Goals as goal

pub connections-requires-clause-named : goal.connections-requires-clause-named
connections-requires-clause-named g c db.Passwd = c.enter-stores.ensures.named.0
connections-requires-clause-named g c db.Group = c.enter-stores.ensures.named.1
connections-requires-clause-named g c db.Hosts = c.enter-stores.ensures.named.2
connections-requires-clause-named g c db.Services = c.enter-stores.ensures.named.3

pub connections-requires-clause-passes : goal.connections-requires-clause-passes
connections-requires-clause-passes g c db.Passwd = c.enter-stores.ensures.passes.0
connections-requires-clause-passes g c db.Group = c.enter-stores.ensures.passes.1
connections-requires-clause-passes g c db.Hosts = c.enter-stores.ensures.passes.2
connections-requires-clause-passes g c db.Services = c.enter-stores.ensures.passes.3
