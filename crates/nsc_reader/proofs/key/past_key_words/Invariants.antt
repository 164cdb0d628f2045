use Rattle.nsc_reader.specs.Stages.{Comes, left_at}
use Rattle.nsc_reader.proofs.key.past_key_words.Given as goal

abbrev pub invariant-words : goal.invariant-words
invariant-words g l = Comes l.map.layout l.fn.pass l.pass g.content (left_at l.map.layout l.fn.stage) l.next

abbrev pub decreases-words : goal.decreases-words
decreases-words g l = left_at l.map.layout l.next
