use Rattle.std.proofs.Common.{◌≡◌, ◌+◌, ◌*◌, not, eqb, true, ap, arith}
use Rattle.std.proofs.lemmas.Bool.{ne_eqb}
use Rattle.nsc_reader.specs.declared.stage.Stage.TheVariants.{Next, Size}
use Rattle.nsc_reader.proofs.Tellings.{goes_stays}
use Rattle.nsc_reader.proofs.Replies.{ended_at, live_at, usable_at}
use Rattle.nsc_reader.proofs.reply.load_state.Goals as goal

pub returns-then-state-eq1 : goal.returns-then-state-eq1
returns-then-state-eq1 c =
    let p = c.args.pass.now in
    let layout = c.args.map.now.layout in
    let new = c.state.new.self in
    let told = c.state.ensures in
    let gone = not (eqb c.state.result 1) in
    let live = live_at p new gone told.table told.searching (λ steady e on. told.live steady e on c.if-state-eq1.true) in
    record { goes = λ content. goes_stays layout p new gone content (20000 * c.args.place + 9004) (Size c.args.place) told.table told.retired told.before told.searching (usable_at layout c.args.place new.seen new.searching.known gone p told.before told.known c.requires.at live) (omega arith) }

pub returns-else-state-eq1 : goal.returns-else-state-eq1
returns-else-state-eq1 c =
    let p = c.args.pass.now in
    let layout = c.args.map.now.layout in
    let new = c.state.new.self in
    let told = c.state.ensures in
    let gone = not (eqb c.state.result 1) in
    let is : gone ≡ true = ap not (ne_eqb c.state.result 1 c.if-state-eq1.false) in
    record { goes = λ content. goes_stays layout p new gone content (20000 * c.args.place + 9004) (Next c.args.place) told.table told.retired told.before told.searching (ended_at layout c.args.place new.seen new.searching.known gone p told.before told.known c.requires.at is) (omega arith) }
