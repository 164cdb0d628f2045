use Rattle.nsc_reader.proofs.walk.past_answer.Given as goal

abbrev pub ghost-past_state : goal.ghost-past_state
ghost-past_state g a = g.content

abbrev pub ghost-past_size : goal.ghost-past_size
ghost-past_size g a = g.content

abbrev pub ghost-past_number : goal.ghost-past_number
ghost-past_number g a = g.content
