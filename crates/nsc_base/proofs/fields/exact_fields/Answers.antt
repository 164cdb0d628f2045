use Rattle.std.proofs.Common.{◌≡◌, ◌≤◌, ◌<◌, Some, None, length, take, length-set, length-take, arith, refl, sym, ◌∙◌, ap}
use Rattle.std.proofs.lemmas.List.{length-replicate}
use Rattle.nsc_base.specs.Fields.{exactly}
use Rattle.nsc_base.specs.Text.{field_spans}
use Rattle.nsc_base.proofs.FieldCounts.{all_found, fields_there, just_enough, lie_more, spans_between, spans_left, spans_none, spans_some, stands_more, too_few, too_many}
use Rattle.nsc_base.proofs.fields.exact_fields.Goals as goal

pub loop-span-preserved : goal.loop-span-preserved
loop-span-preserved g c =
    let size : c.loop-span.span-index < length c.loop-span.span-items = omega (arith, c.loop-span-test.true, c.loop-span.invariant.size) in
    record {
      size = length-set c.loop-span.span-items c.loop-span.span-index c.in_ok-field.field.span ∙ c.loop-span.invariant.size;
      no_earlier = omega (arith, c.in_ok-field.ensures.field.begins, c.in_ok-field.ensures.field.ordered, c.in_ok-field.ensures.field.next_is);
      stand = stands_more c.args.cut c.args.text.now c.args.within c.loop-span.from c.loop-span.span-items c.loop-span.span-index c.in_ok-field.field _ c.requires size c.loop-span.invariant.stand c.in_ok-field.ensures.field;
      lie = lie_more c.args.cut c.args.text.now c.args.within c.loop-span.from c.loop-span.span-items c.loop-span.span-index c.in_ok-field.field size c.loop-span.invariant.no_earlier c.loop-span.invariant.lie c.in_ok-field.ensures.field;
    }

pub loop-span-init : goal.loop-span-init
loop-span-init g c =
    let cut = c.args.cut in
    let text = c.args.text.now in
    record {
      size = length-replicate g.row.N c.new-spans.result;
      no_earlier = omega (arith, c.from-from.ensures.place);
      stand = spans_left cut text c.args.within c.from-from.ensures.ordered ∙ ap (λ n. spans_between cut text n c.args.within.to) (sym c.from-from.ensures.place);
      lie = λ k d low high. absurd (omega arith);
    }

pub returns-in_err-field : goal.returns-in_err-field
returns-in_err-field g c =
    let text = c.args.text.now in
    let all = field_spans c.args.cut text c.args.within in
    let found = take c.loop-span.span-index c.loop-span.span-items in
    let left = spans_between c.args.cut text c.loop-span.from c.args.within.to in
    let few : length found < g.row.N = omega (arith, c.loop-span-test.true, c.loop-span.invariant.size, length-take c.loop-span.span-index c.loop-span.span-items) in
    let none : None ≡ exactly g.row.N all = too_few g.row.N all found left c.loop-span.invariant.stand (spans_none c.args.cut text c.loop-span.from c.args.within.to (c.in_err-field.ensures.none.0 refl)) few in
    rw c.from_residual.ensures (record {
      places = none;
      fields = fields_there c.args.cut g.row.N text c.args.within None none;
      inside = tt;
    })

pub returns-then-from-to : goal.returns-then-from-to
returns-then-from-to g c =
    let text = c.args.text.now in
    let all = field_spans c.args.cut text c.args.within in
    let left = spans_between c.args.cut text c.loop-span.from c.args.within.to in
    let whole = all_found c.loop-span.span-index g.row.N c.loop-span.span-items all left c.loop-span.invariant.size c.loop-span-test.false c.loop-span.invariant.stand in
    let none : None ≡ exactly g.row.N all = too_many g.row.N all c.loop-span.span-items left whole (spans_some c.args.cut text c.loop-span.from c.args.within.to (omega (arith, c.to.ensures.place))) c.loop-span.invariant.size in
    record {
      places = none;
      fields = fields_there c.args.cut g.row.N text c.args.within None none;
      inside = tt;
    }

pub returns : goal.returns
returns g c =
    let text = c.args.text.now in
    let all = field_spans c.args.cut text c.args.within in
    let left = spans_between c.args.cut text c.loop-span.from c.args.within.to in
    let whole = all_found c.loop-span.span-index g.row.N c.loop-span.span-items all left c.loop-span.invariant.size c.loop-span-test.false c.loop-span.invariant.stand in
    let some : Some c.loop-span.span-items ≡ exactly g.row.N all = just_enough g.row.N all c.loop-span.span-items left whole (spans_none c.args.cut text c.loop-span.from c.args.within.to (omega (arith, c.to.ensures.place))) c.loop-span.invariant.size in
    let size : length c.loop-span.span-items ≤ c.loop-span.span-index = omega (arith, c.loop-span.invariant.size, c.loop-span-test.false) in
    record {
      places = some;
      fields = fields_there c.args.cut g.row.N text c.args.within (Some c.loop-span.span-items) some;
      inside = λ k d l. c.loop-span.invariant.lie k d (omega arith) (omega arith);
    }
