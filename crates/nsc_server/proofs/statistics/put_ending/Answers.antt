use Rattle.nsc_server.proofs.Texts.{four_texts}
use Rattle.nsc_server.proofs.statistics.put_ending.Goals as goal

pub returns : goal.returns
returns c = four_texts _ _ _ _ _ _ _ _ _ c.in_ok-put_line.ensures c.in_ok-put_line-2.ensures c.in_ok-put_line-3.ensures c.in_ok-extend_from_slice.ensures.items
