use Rattle.std.proofs.Common.{◌+◌, ◌*◌, sym, ap}
use Rattle.nsc_reader.specs.Stages.{left_at}
use Rattle.nsc_reader.proofs.Runs.{comes_one}
use Rattle.nsc_reader.proofs.reply.past_state.Goals as goal

pub returns-in-State : goal.returns-in-State
returns-in-State g c =
    let layout = c.args.map.now.layout in
    record { comes = comes_one layout c.args.pass.now c.load_state.new.pass g.content (20000 * c.in-State.place + 9004) c.args.stage c.load_state.result (sym (ap (left_at layout) c.in-State.is)) (c.load_state.ensures.goes g.content) }
