use Rattle.std.proofs.Common.{◌∙◌, ap}
use Rattle.std.specs.List.{filter_map}
use Rattle.std.proofs.lemmas.Result.{IfOk-weaker}
use Rattle.nsc_base.specs.Text.{line_spans}
use Rattle.nsc_model.specs.Entries.{first_of}
use Rattle.nsc_index.proofs.PlaceRows.{the_lines}
use Rattle.nsc_index.proofs.places.lines_at.Goals as goal

pub returns : goal.returns
returns c =
    let text = c.args.text.now in
    let places = c.in_order-places.result.items in
    IfOk-weaker c.lines_on.result _ _
    (λ lines is test are. the_lines text test c.args.places.items places lines.items are c.in_order-places.ensures.same c.in_order-places.ensures.rises (is ∙ ap (filter_map (λ place. first_of (line_spans text place))) c.deref.ensures.value))
    c.lines_on.ensures
