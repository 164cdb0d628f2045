use Rattle.std.proofs.Common.{◌≡◌, [], ◌∷◌, ◌∙◌}
use Rattle.nsc_base.specs.Text.{words_of}
use Rattle.nsc_daemonconf.proofs.Effects.{daemon_told}
use Rattle.nsc_daemonconf.proofs.lines.with_daemon_line.Goals as goal

pub returns-clause-told : goal.returns-clause-told
returns-clause-told c =
    let value = c.in_ok-value.ensures.ok_part in
    let only : words_of c.args.rest.now ≡ c.in_ok-value.value.now ∷ [] = rw value at c.only_word.ensures in
    c.ok_or-2.ensures.value
    ∙ daemon_told c.args.number c.args.conf (words_of c.args.rest.now) c.in_ok-value.value.now c.args.attribute c.applied_to.result only c.applied_to.ensures.applied
