use Rattle.std.proofs.Common.{Some, sym, ◌∙◌, ap}
use Rattle.nsc_model.specs.declared.row.Ai.{Ai}
use Rattle.nsc_model.specs.Hosts.{host_has_name, host_of_line}
use Rattle.nsc_nets.proofs.Families.{addresses_are, no_addresses}
use Rattle.nsc_nets.proofs.Remaining.{named_after, named_end}
use Rattle.nsc_nets.proofs.Unnamed.{no_host_called}
use Rattle.nsc_base.specs.declared.search.Case.TheVariants.{Ignored}
use Rattle.nsc_nets.proofs.addresses.ai_of.Goals as goal

pub returns-in-Some-called_host : goal.returns-in-Some-called_host
returns-in-Some-called_host c =
    ap (λ (ai : Ai). Some ai) c.in_ok-ai_row.ensures
    ∙ addresses_are c.args.name.now c.args.text.now c.loop-line.from c.in-Some.line c.in-Some-called_host.first c.other_from-other.result c.in-Some.ensures c.in-Some-called_host.ensures.entry c.other_from-other.ensures c.loop-line.invariant.left

pub loop-line-preserved : goal.loop-line-preserved
loop-line-preserved c = record {
  inside = c.in-Some.ensures.next_ends;
  left = named_after Ignored c.args.name.now host_of_line (host_has_name c.args.name.now) c.args.text.now c.loop-line.from c.in-Some.line (no_host_called c.args.name.now) c.in-Some.ensures c.in_default-called_host.ensures.entry ∙ c.loop-line.invariant.left;
}

pub returns : goal.returns
returns c = no_addresses c.args.name.now c.args.text.now (sym c.loop-line.invariant.left ∙ named_end Ignored c.args.name.now host_of_line (host_has_name c.args.name.now) c.args.text.now c.loop-line.from (no_host_called c.args.name.now) c.in_default.ensures)
