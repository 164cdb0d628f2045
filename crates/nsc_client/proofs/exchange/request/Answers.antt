use Rattle.std.proofs.Common.{◌≡◌, ◌∙◌, List, ℕ, ap, arith}
use Rattle.std.proofs.lemmas.Grind.{common_steps}
use Rattle.nsc_model.specs.Wire.{request_of}
use Rattle.nsc_client.specs.SocketLink.{request_for}
use Rattle.nsc_client.proofs.Requests.{asks}
use Rattle.nsc_client.proofs.exchange.request.Goals as goal

pub returns-clause-asks : goal.returns-clause-asks
returns-clause-asks c =
    let sent : c.from_vec.result ≡ request_for c.args.kind c.args.key.now = grind (arith, common_steps) in
    ap request_of sent ∙ asks c.args.kind c.args.key.now c.requires
