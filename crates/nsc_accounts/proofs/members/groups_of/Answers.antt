use Rattle.std.proofs.Common.{ap, ◌∙◌, arith}
use Rattle.nsc_accounts.specs.Once.{all_ids}
use Rattle.nsc_accounts.proofs.Collected.{ids_after, ids_end, ids_more, ids_start, member_ids}
use Rattle.nsc_accounts.proofs.members.groups_of.Goals as goal

pub loop-line-init : goal.loop-line-init
loop-line-init c = record {
  inside = omega arith;
  left = ap (λ ids. all_ids ids (member_ids c.args.user.now c.args.text.now)) c.new-ids.ensures ∙ ids_start c.args.user.now c.args.text.now;
}

pub loop-line-preserved : goal.loop-line-preserved
loop-line-preserved c = record {
  inside = c.in-Some.ensures.next_ends;
  left = ids_after c.args.user.now c.args.text.now c.loop-line.from c.in-Some.line c.loop-line.ids _ c.in-Some.ensures c.in_default-gid_of_member.ensures c.loop-line.invariant.left;
}

pub returns : goal.returns
returns c = c.into_ids.ensures ∙ ids_end c.args.user.now c.args.text.now c.loop-line.from c.loop-line.ids _ c.in_default.ensures c.loop-line.invariant.left

pub loop-line-preserved-in_ok-add : goal.loop-line-preserved-in_ok-add
loop-line-preserved-in_ok-add c = record {
  inside = c.in-Some.ensures.next_ends;
  left = ids_more c.args.user.now c.args.text.now c.loop-line.from c.in-Some.line c.loop-line.ids _ c.in-Some-gid_of_member.gid _ c.in-Some.ensures c.in-Some-gid_of_member.ensures c.in_ok-add.ensures.ok c.loop-line.invariant.left;
}
