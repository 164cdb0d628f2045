use Rattle.std.proofs.Common.{◌+◌, ◌*◌, sym, ap}
use Rattle.nsc_reader.specs.Stages.{left_at}
use Rattle.nsc_reader.proofs.Runs.{comes_one}
use Rattle.nsc_reader.proofs.reply.past_number.Goals as goal

pub returns-in-Number : goal.returns-in-Number
returns-in-Number g c =
    let layout = c.args.map.now.layout in
    record { comes = comes_one layout c.args.pass.now c.load_number.new.pass g.content (20000 * c.in-Number.place + 9002) c.args.stage c.load_number.result (sym (ap (left_at layout) c.in-Number.is)) (c.load_number.ensures.goes g.content) }
