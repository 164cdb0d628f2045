use Rattle.std.proofs.Common.{◌+◌, ◌*◌, sym, ap}
use Rattle.nsc_reader.specs.Stages.{left_at}
use Rattle.nsc_reader.proofs.Runs.{comes_one}
use Rattle.nsc_reader.proofs.key.past_first_word.Goals as goal

pub returns-in-FirstWord : goal.returns-in-FirstWord
returns-in-FirstWord g c =
    let layout = c.args.map.now.layout in
    record { comes = comes_one layout c.args.pass.now c.load_first_word.new.pass g.content (20000 * c.in-FirstWord.place + 9500) c.args.stage c.load_first_word.result (sym (ap (left_at layout) c.in-FirstWord.is)) (c.load_first_word.ensures.goes g.content) }
