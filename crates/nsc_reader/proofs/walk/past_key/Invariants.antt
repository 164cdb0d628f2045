use Rattle.nsc_reader.proofs.walk.past_key.Given as goal

abbrev pub ghost-past_bucket : goal.ghost-past_bucket
ghost-past_bucket g a = g.content

abbrev pub ghost-past_first_word : goal.ghost-past_first_word
ghost-past_first_word g a = g.content

abbrev pub ghost-past_shape : goal.ghost-past_shape
ghost-past_shape g a = g.content

abbrev pub ghost-past_key_words : goal.ghost-past_key_words
ghost-past_key_words g a = g.content
