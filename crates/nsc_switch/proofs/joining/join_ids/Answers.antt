use Rattle.std.proofs.Common.{◌+◌, ◌++◌, drop, sym, ap, subst, ◌∙◌}
use Rattle.std.specs.BTreeSet.{IsFromIterResult}
use Rattle.std.specs.Ordering.{nat_cmp}
use Rattle.nsc_switch.proofs.Ids.{id_appended, id_passed, lacking}
use Rattle.nsc_switch.proofs.joining.join_ids.Goals as goal
use Rattle.nsc_switch.proofs.joining.join_ids.Goals.{then-not-contains+in_ok-push, else-not-contains}

pub loop-id-preserved : goal.loop-id-preserved
loop-id-preserved c =
    let left = lacking c.args.held (drop (c.loop-id.id-index + 1) c.args.found.now) in
    let set = subst (λ ids. IsFromIterResult nat_cmp ids c.in_ok-seen.seen) c.as_slice.ensures c.in_ok-seen.ensures in
    elim c.if-not-contains.branch [
      | then-not-contains+in_ok-push w ↦
          ap (λ ids. ids.items ++ left) w.ids-is ∙ ap (λ ids. ids ++ left) w.in_ok-push.ensures.items
          ∙ id_appended c.args.held c.loop-id.ids.items c.args.found.now _ c.loop-id.id-index 0 c.in_ok-seen.seen set c.loop-id-test.true (sym c.contains.ensures ∙ w.if-not-contains.true) c.loop-id.invariant
      | else-not-contains w ↦
          ap (λ ids. ids.items ++ left) w.ids-is
          ∙ id_passed c.args.held c.loop-id.ids.items c.args.found.now _ c.loop-id.id-index 0 c.in_ok-seen.seen set c.loop-id-test.true (sym c.contains.ensures ∙ w.if-not-contains.false) c.loop-id.invariant
    ]
