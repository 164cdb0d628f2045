use Rattle.std.proofs.Common.{◌∙◌}
use Rattle.nsc_base.specs.Text.{part}
use Rattle.nsc_nets.proofs.Formed.{host_is}
use Rattle.nsc_nets.proofs.hosts.host_line.Goals as goal

pub returns-clause-entry : goal.returns-clause-entry
returns-clause-entry c = c.formed_host.ensures.entry ∙ host_is (part c.args.text.now c.args.line) _ c.in_ok-line_words.ensures.words
