use Rattle.std.proofs.Common.{[], ◌∷◌, ◌++◌, drop, map, sym, ap, ◌∙◌}
use Rattle.std.specs.Option.{option_map}
use Rattle.std.proofs.lemmas.List.{map-append}
use Rattle.nsc_accounts.specs.NamedId.{pair_of}
use Rattle.nsc_accounts.proofs.NamedGroups.{all_collected, none_more, one_more, pairs_left}
use Rattle.nsc_accounts.proofs.named_id.named_groups.Goals as goal

pub loop-line-preserved-in_ok-push : goal.loop-line-preserved-in_ok-push
loop-line-preserved-in_ok-push c =
    let user = c.args.user.now in
    let text = c.args.text.now in
    let left = pairs_left user (drop c.in-Some.line.next text) in
    let group = c.in-Some-2.group in
    record {
      inside = c.in-Some.ensures.next_ends;
      all = ap (λ groups. map pair_of groups ++ left) c.in_ok-push.ensures.items
          ∙ ap (λ pairs. pairs ++ left) (map-append pair_of c.loop-line.groups.items (group ∷ []))
          ∙ one_more user text c.loop-line.from c.in-Some.line _ _ (pair_of group) c.in-Some.ensures (ap (option_map pair_of) (sym c.in-Some-2.is) ∙ c.in_ok-group.ensures) c.loop-line.invariant.all;
    }

pub loop-line-preserved : goal.loop-line-preserved
loop-line-preserved c = record {
  inside = c.in-Some.ensures.next_ends;
  all = none_more c.args.user.now c.args.text.now c.loop-line.from c.in-Some.line _ _ c.in-Some.ensures (ap (option_map pair_of) (sym c.in_default-2.is) ∙ c.in_ok-group.ensures) c.loop-line.invariant.all;
}

pub returns : goal.returns
returns c = all_collected c.args.user.now c.args.text.now c.loop-line.from _ _ c.in_default.ensures c.loop-line.invariant.all
