use Rattle.nsc_reader.specs.Stages.{left_at}
use Rattle.nsc_reader.proofs.Runs.{comes_then}
use Rattle.nsc_reader.proofs.walk.past_key.Goals as goal

pub returns : goal.returns
returns g c =
    let layout = c.args.map.now.layout in
    let p = c.args.pass.now in
    let most = left_at layout c.args.stage in
    let bucket = c.past_bucket-stage in
    let first = c.past_first_word-stage in
    let shape = c.past_shape-stage in
    let words = c.past_key_words in
    let two = comes_then layout p bucket.new.pass first.new.pass g.content g.content most bucket.result first.result bucket.ensures.comes first.ensures.comes in
    let three = comes_then layout p first.new.pass shape.new.pass g.content g.content most first.result shape.result two shape.ensures.comes in
    record { comes = comes_then layout p shape.new.pass words.new.pass g.content g.content most shape.result words.result three words.ensures.comes }
