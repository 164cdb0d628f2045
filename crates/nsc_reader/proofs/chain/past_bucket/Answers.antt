use Rattle.std.proofs.Common.{◌*◌, sym, ap}
use Rattle.nsc_words.specs.Layout.{table_words}
use Rattle.nsc_reader.specs.Stages.{left_at}
use Rattle.nsc_reader.proofs.Runs.{comes_one}
use Rattle.nsc_reader.proofs.chain.past_bucket.Goals as goal

pub returns-in-Bucket : goal.returns-in-Bucket
returns-in-Bucket g c =
    let layout = c.args.map.now.layout in
    record { comes = comes_one layout c.args.pass.now c.load_bucket.new.pass g.content (20000 * table_words layout) c.args.stage c.load_bucket.result (sym (ap (left_at layout) c.in-Bucket.is)) (c.load_bucket.ensures.goes g.content) }
