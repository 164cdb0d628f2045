use Rattle.std.proofs.Common.{◌≡◌, length, arith}
use Rattle.std.proofs.lemmas.Bool.{eq-eqb, ne_eqb}
use Rattle.nsc_base.proofs.Splits.{AreTexts, last_is_empty, last_put, letter_step, nothing_step, piece_step}
use Rattle.nsc_base.proofs.texts.Texts.split.Goals as goal
use Rattle.nsc_base.proofs.texts.Texts.split.Goals.{then-byte-cut, else-byte-cut+then-begun-to+in_ok-push, else-byte-cut+else-begun-to, then-begun-to-2+in_ok-push-2, else-begun-to-2}

pub loop-at-preserved : goal.loop-at-preserved
loop-at-preserved c =
    let l = c.loop-at in
    let here = c.loop-at-test.true in
    elim c.if-byte-cut.branch [
      | then-byte-cut w ↦ rw (w.run-is, w.ends-is, w.begun-is, w.to-is) (letter_step c.args.cut c.args.text.now l.run.items l.ends.items l.begun l.to l.at l.invariant here (ne_eqb _ _ w.if-byte-cut.true))
      | else-byte-cut+then-begun-to+in_ok-push w ↦
          let ends = w.in_ok-push.ensures.items in
          rw (w.run-is, w.ends-is, w.begun-is, w.to-is, ends) (piece_step c.args.cut c.args.text.now l.run.items l.ends.items l.begun l.to l.at l.invariant here (eq-eqb _ _ w.if-byte-cut.false) w.if-begun-to.true)
      | else-byte-cut+else-begun-to w ↦ rw (w.run-is, w.ends-is, w.begun-is, w.to-is) (nothing_step c.args.cut c.args.text.now l.run.items l.ends.items l.begun l.to l.at l.invariant here (eq-eqb _ _ w.if-byte-cut.false) w.if-begun-to.false)
    ]

-- what is left of the run when all was passed
made : (c : goal.After-truncate) → AreTexts c.args.cut c.args.text.now c.truncate.new.self.items c.if-begun-to-2.ends.items
made c =
    let l = c.loop-at in
    let all : l.at ≡ length c.args.text.now = omega (arith, c.loop-at-test.false, l.auto.at-end) in
    rw c.truncate.ensures.items (elim c.if-begun-to-2.branch [
      | then-begun-to-2+in_ok-push-2 w ↦ rw (w.ends-is, w.to-is, w.in_ok-push-2.ensures.items) (last_put c.args.cut c.args.text.now l.run.items l.ends.items l.begun l.to l.at l.invariant all w.if-begun-to-2.true)
      | else-begun-to-2 w ↦ rw (w.ends-is, w.to-is) (last_is_empty c.args.cut c.args.text.now l.run.items l.ends.items l.begun l.to l.at l.invariant all w.if-begun-to-2.false)
    ])

pub invariant_of-result : goal.invariant_of-result
invariant_of-result c = (made c).run_is

pub returns : goal.returns
returns c = (made c).texts_are
