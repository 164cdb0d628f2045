use Rattle.std.proofs.Common.{◌+◌, ◌-◌, ◌*◌, sym, ap}
use Rattle.nsc_words.specs.Layout.{table_words}
use Rattle.nsc_reader.specs.Stages.{asked, left_at}
use Rattle.nsc_reader.proofs.Steps.{steps_on}
use Rattle.nsc_reader.proofs.walk.go_on.Goals as goal

pub returns-in-Bucket-clause-steps : goal.returns-in-Bucket-clause-steps
returns-in-Bucket-clause-steps c =
    let layout = c.args.map.now.layout in
    let content = c.args.out.now.content in
    steps_on layout (asked c.args.kind c.args.key.now) c.args.first c.args.stage c.args.pass.now c.load_bucket-stage.new.pass content (20000 * table_words layout) c.load_bucket-stage.result c.requires.first c.requires.request (sym (ap (left_at layout) c.in-Bucket.is)) (c.load_bucket-stage.ensures.goes content)

pub returns-in-FirstWord-clause-steps : goal.returns-in-FirstWord-clause-steps
returns-in-FirstWord-clause-steps c =
    let layout = c.args.map.now.layout in
    let content = c.args.out.now.content in
    steps_on layout (asked c.args.kind c.args.key.now) c.args.first c.args.stage c.args.pass.now c.load_first_word-stage.new.pass content (20000 * c.in-FirstWord.place + 9500) c.load_first_word-stage.result c.requires.first c.requires.request (sym (ap (left_at layout) c.in-FirstWord.is)) (c.load_first_word-stage.ensures.goes content)

pub returns-in-Shape-clause-steps : goal.returns-in-Shape-clause-steps
returns-in-Shape-clause-steps c =
    let layout = c.args.map.now.layout in
    let content = c.args.out.now.content in
    steps_on layout (asked c.args.kind c.args.key.now) c.args.first c.args.stage c.args.pass.now c.load_shape-stage.new.pass content (20000 * c.in-Shape.place + 9400) c.load_shape-stage.result c.requires.first c.requires.request (sym (ap (left_at layout) c.in-Shape.is)) (c.load_shape-stage.ensures.goes content)

pub returns-in-KeyWord-clause-steps : goal.returns-in-KeyWord-clause-steps
returns-in-KeyWord-clause-steps c =
    let layout = c.args.map.now.layout in
    let content = c.args.out.now.content in
    steps_on layout (asked c.args.kind c.args.key.now) c.args.first c.args.stage c.args.pass.now c.load_key_word-stage.new.pass content (20000 * c.in-KeyWord.place + 9300 - c.in-KeyWord.compared) c.load_key_word-stage.result c.requires.first c.requires.request (sym (ap (left_at layout) c.in-KeyWord.is)) (c.load_key_word-stage.ensures.goes content)

pub returns-in-State-clause-steps : goal.returns-in-State-clause-steps
returns-in-State-clause-steps c =
    let layout = c.args.map.now.layout in
    let content = c.args.out.now.content in
    steps_on layout (asked c.args.kind c.args.key.now) c.args.first c.args.stage c.args.pass.now c.load_state-stage.new.pass content (20000 * c.in-State.place + 9004) c.load_state-stage.result c.requires.first c.requires.request (sym (ap (left_at layout) c.in-State.is)) (c.load_state-stage.ensures.goes content)

pub returns-in-Next-clause-steps : goal.returns-in-Next-clause-steps
returns-in-Next-clause-steps c =
    let layout = c.args.map.now.layout in
    let content = c.args.out.now.content in
    steps_on layout (asked c.args.kind c.args.key.now) c.args.first c.args.stage c.args.pass.now c.load_next-stage.new.pass content (20000 * c.in-Next.place + 2) c.load_next-stage.result c.requires.first c.requires.request (sym (ap (left_at layout) c.in-Next.is)) (c.load_next-stage.ensures.goes content)

pub returns-in-Size-clause-steps : goal.returns-in-Size-clause-steps
returns-in-Size-clause-steps c =
    let layout = c.args.map.now.layout in
    let content = c.args.out.now.content in
    steps_on layout (asked c.args.kind c.args.key.now) c.args.first c.args.stage c.args.pass.now c.load_size-stage.new.pass content (20000 * c.in-Size.place + 9003) c.load_size-stage.result c.requires.first c.requires.request (sym (ap (left_at layout) c.in-Size.is)) (c.load_size-stage.ensures.goes content)

pub returns-in-Number-clause-steps : goal.returns-in-Number-clause-steps
returns-in-Number-clause-steps c =
    let layout = c.args.map.now.layout in
    let content = c.args.out.now.content in
    steps_on layout (asked c.args.kind c.args.key.now) c.args.first c.args.stage c.args.pass.now c.load_number-stage.new.pass content (20000 * c.in-Number.place + 9002) c.load_number-stage.result c.requires.first c.requires.request (sym (ap (left_at layout) c.in-Number.is)) (c.load_number-stage.ensures.goes content)
