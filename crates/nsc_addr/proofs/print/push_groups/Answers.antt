use Rattle.std.proofs.Common.{◌≡◌, ◌+◌, ◌-◌, ℕ, List, [], ◌∷◌, false, take, drop, length, get_or, refl, ap, arith, length-append, ◌∙◌}
use Rattle.std.specs.Fmt.{digits}
use Rattle.nsc_base.specs.Buf.{Buf}
use Rattle.nsc_addr.proofs.Printed.{with_joined-more}
use Rattle.nsc_addr.proofs.print.push_groups.Goals as goal

pub loop-group-preserved : goal.loop-group-preserved
loop-group-preserved c =
    let later : List ℕ = take (length c.args.groups.now - 1) (drop 1 c.args.groups.now) in
    let more = with_joined-more 58 (digits 16 false) (get_or c.args.groups.now 0 0) later c.loop-group.group-index (get_or later c.loop-group.group-index 0) c.args.out.now c.loop-group.out c.push.new.self c.push_group-in-loop-group.new.out c.loop-group-test.true refl c.loop-group.invariant.text c.push.ensures c.push_group-in-loop-group.ensures.text in
    let colon : length c.push.new.self.content ≡ length c.loop-group.out.content + 1 = ap (λ (room : Buf). length room.content) c.push.ensures ∙ length-append c.loop-group.out.content (58 ∷ []) in
    let limits : c.push_group-in-loop-group.new.out.limit ≡ c.loop-group.out.limit = ap (λ (room : Buf). room.limit) c.push_group-in-loop-group.ensures.text ∙ ap (λ (room : Buf). room.limit) c.push.ensures in
    record {
      text = more;
      room = omega arith;
      size = omega arith;
    }
