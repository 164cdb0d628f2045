use Rattle.std.proofs.Common.{◌==◌, not, Some, sym, ◌∙◌, ap}
use Rattle.nsc_base.specs.declared.search.Case.TheVariants.{Ignored}
use Rattle.nsc_model.specs.Entries.{first_of}
use Rattle.nsc_model.specs.Hosts.{host_of_line}
use Rattle.nsc_nets.specs.Addresses.{of_other_family}
use Rattle.nsc_nets.specs.Hosts.{host_at}
use Rattle.nsc_nets.proofs.Remaining.{named_after, named_end, named_step}
use Rattle.nsc_nets.proofs.Unnamed.{no_host_of}
use Rattle.nsc_nets.proofs.addresses.other_from.Goals as goal

pub returns-in-Some-other_host : goal.returns-in-Some-other_host
returns-in-Some-other_host c =
    sym (ap first_of (named_step Ignored c.args.name.now host_of_line (of_other_family c.args.family c.args.name.now) c.args.text.now c.loop-line.from c.in-Some.line (Some (host_at c.args.text.now c.in-Some-other_host.other)) (no_host_of (λ h. not (h.family == c.args.family)) c.args.name.now) c.in-Some.ensures c.in-Some-other_host.ensures))
    ∙ c.loop-line.invariant.left

pub loop-line-preserved : goal.loop-line-preserved
loop-line-preserved c = record {
  inside = c.in-Some.ensures.next_ends;
  left = ap first_of (named_after Ignored c.args.name.now host_of_line (of_other_family c.args.family c.args.name.now) c.args.text.now c.loop-line.from c.in-Some.line (no_host_of (λ h. not (h.family == c.args.family)) c.args.name.now) c.in-Some.ensures c.in_default-other_host.ensures) ∙ c.loop-line.invariant.left;
}

pub returns : goal.returns
returns c = sym (ap first_of (named_end Ignored c.args.name.now host_of_line (of_other_family c.args.family c.args.name.now) c.args.text.now c.loop-line.from (no_host_of (λ h. not (h.family == c.args.family)) c.args.name.now) c.in_default.ensures)) ∙ c.loop-line.invariant.left
