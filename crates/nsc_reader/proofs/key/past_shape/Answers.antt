use Rattle.std.proofs.Common.{◌+◌, ◌*◌, sym, ap}
use Rattle.nsc_reader.specs.Stages.{left_at}
use Rattle.nsc_reader.proofs.Runs.{comes_one}
use Rattle.nsc_reader.proofs.key.past_shape.Goals as goal

pub returns-in-Shape : goal.returns-in-Shape
returns-in-Shape g c =
    let layout = c.args.map.now.layout in
    record { comes = comes_one layout c.args.pass.now c.load_shape.new.pass g.content (20000 * c.in-Shape.place + 9400) c.args.stage c.load_shape.result (sym (ap (left_at layout) c.in-Shape.is)) (c.load_shape.ensures.goes g.content) }
