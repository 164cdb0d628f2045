use Rattle.std.proofs.Common.{get_or, sym}
use Rattle.std.proofs.lemmas.List.{get_or_default}
use Rattle.nsc_model.specs.Hosts.{host_of_line}
use Rattle.nsc_index.specs.declared.names.NameAt.{NameAt}
use Rattle.nsc_index.specs.Hosts.{is_other_than}
use Rattle.nsc_index.specs.Indexes.{line_entry, on_line}
use Rattle.nsc_index.proofs.LineRows.{left_here, left_next}
use Rattle.nsc_index.proofs.hosts.other_host.Goals as goal

none : NameAt
none = record { from = 0; to = 0; line = 0 }

pub returns-in-Some-clause-entry : goal.returns-in-Some-clause-entry
unfolding none
returns-in-Some-clause-entry c =
    let text = c.args.text.now in
    let lines = c.args.lines.now in
    let row : NameAt = get_or lines c.loop-at.at-index none in
    left_here (λ (at : NameAt). on_line (line_entry host_of_line text) text at.line) (is_other_than c.args.family) lines c.loop-at.at-index row _ _ c.loop-at-test.true (get_or_default lines c.loop-at.at-index none row c.loop-at-test.true) (sym c.in-Some.ensures.entry) c.loop-at.invariant

pub loop-at-preserved : goal.loop-at-preserved
unfolding none
loop-at-preserved c =
    let text = c.args.text.now in
    let lines = c.args.lines.now in
    let row : NameAt = get_or lines c.loop-at.at-index none in
    left_next (λ (at : NameAt). on_line (line_entry host_of_line text) text at.line) (is_other_than c.args.family) lines c.loop-at.at-index row _ c.loop-at-test.true (get_or_default lines c.loop-at.at-index none row c.loop-at-test.true) (sym c.in_default.ensures.entry) c.loop-at.invariant
