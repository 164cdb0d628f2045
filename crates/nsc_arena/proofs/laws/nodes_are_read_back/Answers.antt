use Rattle.nsc_arena.proofs.ReadBack.{read_back}
use Rattle.nsc_arena.proofs.laws.nodes_are_read_back.Goals as goal

pub returns : goal.returns
returns c = read_back
