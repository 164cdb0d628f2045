use Rattle.std.proofs.Common.{◌∙◌}
use Rattle.nsc_daemonconf.proofs.Tables.{found-entry}
use Rattle.nsc_daemonconf.proofs.attributes.ServiceName.named.Goals as goal

pub returns : goal.returns
returns c = c.named.ensures ∙ found-entry _ c.args.word.now
