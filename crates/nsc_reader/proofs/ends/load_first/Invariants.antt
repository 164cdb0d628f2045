use Rattle.nsc_reader.proofs.ends.load_first.Given as goal

abbrev pub ghost-first_cycle : goal.ghost-first_cycle
ghost-first_cycle g a = g.request
