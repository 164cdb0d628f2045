use Rattle.std.proofs.Common.{◌∙◌, ◌+◌, List, subst}
use Rattle.nsc_writer.specs.Former.{Former}
use Rattle.nsc_writer.proofs.Later.{prefix_through}
use Rattle.nsc_seats.specs.Seats.{AreAt}
use Rattle.nsc_seats.proofs.seats.go_on.Goals as goal

pub returns-in_err-go_on_at-clause-before : goal.returns-in_err-go_on_at-clause-before
returns-in_err-go_on_at-clause-before c = prefix_through c.args.present.now.seen c.loop-number.present.seen c.go_on_at.new.present.seen c.loop-number.invariant.before c.in_err-go_on_at.ensures.before

pub loop-number-preserved : goal.loop-number-preserved
loop-number-preserved c =
    let was = c.loop-number.invariant in
    let on = c.in_ok-go_on_at.ensures in
    let new = c.go_on_at.new in
    record {
      left = on.left ∙ was.left;
      seats = on.seats;
      first = on.first ∙ was.first;
      before = prefix_through c.args.present.now.seen c.loop-number.present.seen new.present.seen was.before on.before;
      searches = on.searches ∙ was.searches;
      number = on.number;
      here = subst (λ (left : List Former). AreAt (c.loop-number.number + 1) new.former.items new.present left c.args.writer.now.table) was.left on.next;
    }
