use Rattle.std.proofs.Common.{◌+◌, ◌*◌, sym, ap}
use Rattle.nsc_reader.specs.Stages.{left_at}
use Rattle.nsc_reader.proofs.Runs.{comes_one}
use Rattle.nsc_reader.proofs.reply.past_size.Goals as goal

pub returns-in-Size : goal.returns-in-Size
returns-in-Size g c =
    let layout = c.args.map.now.layout in
    record { comes = comes_one layout c.args.pass.now c.load_size.new.pass g.content (20000 * c.in-Size.place + 9003) c.args.stage c.load_size.result (sym (ap (left_at layout) c.in-Size.is)) (c.load_size.ensures.goes g.content) }
