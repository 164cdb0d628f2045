use Rattle.std.proofs.Common.{sym, ◌∙◌}
use Rattle.nsc_base.specs.Text.{part}
use Rattle.nsc_nets.proofs.Called.{called, uncalled}
use Rattle.nsc_nets.proofs.find.called_host.Goals as goal

pub returns-then-not-has_name-clause-entry : goal.returns-then-not-has_name-clause-entry
returns-then-not-has_name-clause-entry c = sym (uncalled c.args.name.now (part c.args.text.now c.args.line) _ c.in_ok-words.ensures.words (sym c.if-not-has_name.ensures))

pub returns-clause-entry : goal.returns-clause-entry
returns-clause-entry c = c.formed_host.ensures.entry ∙ sym (called c.args.name.now (part c.args.text.now c.args.line) _ c.in_ok-words.ensures.words (sym c.if-not-has_name.ensures))
