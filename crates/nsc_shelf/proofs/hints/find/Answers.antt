use Rattle.std.proofs.Common.{sym}
use Rattle.nsc_arena.specs.ReadBack.{nodes_in}
use Rattle.nsc_shelf.proofs.Hinted.{hints_noted, walked}
use Rattle.nsc_shelf.proofs.hints.find.Goals as goal

pub returns-in-Some-clause-newest : goal.returns-in-Some-clause-newest
returns-in-Some-clause-newest g c alone = sym (c.in-Some.ensures.newest alone)

pub note-requires-clause-from : goal.note-requires-clause-from
note-requires-clause-from g c = (walked c.args.kind c.args.key.now c.in_ok-place.place c.requires.laid c.find_hinted.ensures.same c.in_ok-place.ensures.newest).from

pub note-requires-clause-to : goal.note-requires-clause-to
note-requires-clause-to g c = (walked c.args.kind c.args.key.now c.in_ok-place.place c.requires.laid c.find_hinted.ensures.same c.in_ok-place.ensures.newest).to

pub returns-clause-newest : goal.returns-clause-newest
returns-clause-newest g c alone = (walked c.args.kind c.args.key.now c.in_ok-place.place c.requires.laid c.find_hinted.ensures.same c.in_ok-place.ensures.newest).newest

pub returns-clause-hinted : goal.returns-clause-hinted
returns-clause-hinted g c =
    let n = walked c.args.kind c.args.key.now c.in_ok-place.place c.requires.laid c.find_hinted.ensures.same c.in_ok-place.ensures.newest in
    hints_noted c.args.hints.now c.note.new.hints c.args.map (nodes_in (g.W.Words.words c.args.words.now) c.args.map) n.node c.in_ok-place.place c.requires.hints n.among n.place c.note.ensures.count c.note.ensures.hints
