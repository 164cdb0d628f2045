use Rattle.std.proofs.Common.{◌≡◌, ◌*◌, ◌+◌, ◌-◌, [], drop, refl, length, ap, arith}
use Rattle.std.specs.List.{slice_range}
use borrow.Rule.Slice.PartMut.{post_of}
use Rattle.byteorder.proofs.Slices.{write_step}
use Rattle.nsc_model.specs.Wire.{text_len}
use Rattle.nsc_wire.proofs.Sizes.{text_within}
use Rattle.nsc_wire.proofs.texts.write_lengths.Goals as goal

pub overflow_cast-size : goal.overflow_cast-size
overflow_cast-size c = omega (arith, c.requires.within, ap length c.get.ensures, text_within c.args.texts.now c.loop-at.at (omega arith))

pub loop-at-preserved : goal.loop-at-preserved
loop-at-preserved c =
    let e : 4 * (c.loop-at.at + 1) ≡ 4 * c.loop-at.at + 4 = omega arith in
    let len = c.loop-at.auto.fields in
    let fields = c.loop-at.fields in
    let from = 4 * c.loop-at.at in
    rw (e, c.write_u32.ensures)
    (write_step text_len 4 c.args.texts.now [] fields (text_len c.get.result.now) (drop 4 (slice_range fields from (length fields))) (post_of from (length fields - from) fields) c.loop-at.at (omega (arith, len, c.requires.size)) (omega arith) refl (ap text_len c.get.ensures) c.loop-at.invariant)
