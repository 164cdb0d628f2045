use Rattle.std.proofs.Common.{◌+◌, ◌-◌, ◌*◌, ◌<◌, sym, ap, subst}
use Rattle.nsc_reader.specs.declared.stage.Stage.{Stage}
use Rattle.nsc_reader.specs.Stages.{left_at}
use Rattle.nsc_reader.proofs.Runs.{comes_one, comes_then}
use Rattle.nsc_reader.proofs.key.past_key_words.Goals as goal

pub words-smaller : goal.words-smaller
words-smaller g c =
    let layout = c.args.map.now.layout in
    subst (λ (s : Stage). left_at layout c.load_key_word-next.result < left_at layout s) (sym c.in-KeyWord.is) (c.load_key_word-next.ensures.goes g.content).fewer

pub words-preserved : goal.words-preserved
words-preserved g c =
    let layout = c.args.map.now.layout in
    let new = c.load_key_word-next.new.pass in
    comes_then layout c.args.pass.now c.words.pass new g.content g.content (left_at layout c.args.stage) c.words.next c.load_key_word-next.result c.words.invariant
    (comes_one layout c.words.pass new g.content (20000 * c.in-KeyWord.place + 9300 - c.in-KeyWord.compared) c.words.next c.load_key_word-next.result (sym (ap (left_at layout) c.in-KeyWord.is)) (c.load_key_word-next.ensures.goes g.content))
