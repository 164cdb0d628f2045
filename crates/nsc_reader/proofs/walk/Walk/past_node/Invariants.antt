use Rattle.nsc_reader.proofs.walk.Walk.past_node.Given as goal

abbrev pub ghost-past_key : goal.ghost-past_key
ghost-past_key g a = g.content

abbrev pub ghost-past_reloads : goal.ghost-past_reloads
ghost-past_reloads g a = g.content

abbrev pub ghost-past_answer : goal.ghost-past_answer
ghost-past_answer g a = g.content
