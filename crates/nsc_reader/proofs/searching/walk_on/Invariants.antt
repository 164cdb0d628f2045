use Rattle.std.proofs.Common.{◌≡◌}
use Rattle.nsc_reader.specs.Stages.{IsOpen, asked, left}
use Rattle.nsc_reader.proofs.Steps.{SoFar}
use Rattle.nsc_reader.proofs.searching.walk_on.Given as goal

abbrev pub invariant-walk : goal.invariant-walk
invariant-walk l = record {
  kind : l.walk.kind ≡ l.fn.kind;
  limit : l.out.limit ≡ l.fn.out.limit;
  unanswered : IsOpen l.walk.progress;
  so_far : SoFar l.map.layout (asked l.fn.kind l.key) l.fn.pass l.pass l.out.content l.walk.progress;
}

abbrev pub decreases-walk : goal.decreases-walk
decreases-walk l = left l.map.layout l.walk.progress

abbrev pub ghost-past_node : goal.ghost-past_node
ghost-past_node a = a.out.now.content
