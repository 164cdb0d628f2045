use Rattle.nsc_reader.specs.Stages.{left_at}
use Rattle.nsc_reader.proofs.Runs.{comes_then}
use Rattle.nsc_reader.proofs.walk.past_answer.Goals as goal

pub returns-clause-comes : goal.returns-clause-comes
returns-clause-comes g c =
    let layout = c.args.map.now.layout in
    let p = c.args.pass.now in
    let most = left_at layout c.args.stage in
    let state = c.past_state-stage in
    let size = c.past_size-stage in
    let number = c.past_number-stage in
    let version = c.past_version-stage in
    let reply = c.past_reply in
    let two = comes_then layout p state.new.pass size.new.pass g.content g.content most state.result size.result state.ensures.comes size.ensures.comes in
    let three = comes_then layout p size.new.pass number.new.pass g.content g.content most size.result number.result two number.ensures.comes in
    let four = comes_then layout p number.new.pass version.new.pass g.content version.new.out.content most number.result version.result three version.ensures.comes in
    comes_then layout p version.new.pass reply.new.pass version.new.out.content reply.new.out.content most version.result reply.result four reply.ensures.comes
