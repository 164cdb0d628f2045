use Rattle.std.proofs.Common.{◌≡◌, ℕ, List, length, Some, None, sym, ap, subst, ◌∙◌, arith}
use Rattle.nsc_words.specs.Laid.{Stands}
use Rattle.nsc_arena.specs.ReadBack.{nodes_in}
use Rattle.nsc_arena.specs.declared.reading.Head.{Head}
use Rattle.nsc_model.specs.Machine.{live_entry}
use Rattle.nsc_shelf.specs.Shelf.{Shelf, number_of, slide_of}
use Rattle.nsc_shelf.proofs.Hinted.{Answering, answering, unanswered}
use Rattle.nsc_shelf.proofs.Still.{still, still_view}
use Rattle.nsc_writer.specs.Writer.{Writer}
use Rattle.nsc_writer.proofs.writer.Writer.number_of.Goals as goal
use Rattle.nsc_writer.proofs.writer.Writer.number_of.Goals.{In-Some}

found : (c : In-Some) → Answering c.self.inside.sheet.plan.words c.self.inside.layout c.args.kind c.args.key.now c.in-Some.at
found c =
    let w = c.self.inside in
    let none : slide_of w.sheet.plan.words ≡ None = ap (λ (v : Writer). v.slide) c.self.view_is ∙ c.requires in
    let rests = still none c.self.invariant.held in
    let is = rests.shelf in
    answering w.sheet.plan.words w.layout w.live w.mark c.args.kind c.args.key.now c.number-number.result c.in-Some.at is c.number-number.ensures (c.in-Some.ensures.newest (nodes_in w.sheet.plan.words w.layout) is.laid)

pub head_at-requires-clause-inside : goal.head_at-requires-clause-inside
head_at-requires-clause-inside c =
    let n = found (goal.at.head_at-requires-clause-inside c).In-Some in
    let same : length c.walk.new.table.plan.words ≡ length c.self.inside.sheet.plan.words = ap length c.walk.ensures.same in
    omega (arith, n.here.inside, same)

pub returns-in-Some-clause-number : goal.returns-in-Some-clause-number
returns-in-Some-clause-number c =
    let w = c.self.inside in
    let none : slide_of w.sheet.plan.words ≡ None = ap (λ (v : Writer). v.slide) c.self.view_is ∙ c.requires in
    let n = found (goal.at.returns-in-Some-clause-number c).In-Some in
    let stands = subst (λ (ws : List ℕ). Stands ws n.node) (sym c.walk.ensures.same) n.here.stands in
    let number = ap (λ (h : Head). h.number) (c.head_at.ensures.head n.node stands n.here.place) in
    ap (λ (k : ℕ). Some k) number ∙ sym (ap number_of n.live)
    ∙ ap (λ (s : Shelf). number_of (live_entry (record { kind = c.args.kind; key = c.args.key.now }) s.entries)) (still_view w.sheet.plan w.layout (still none c.self.invariant.held).back)
    ∙ ap (λ (v : Writer). number_of (live_entry (record { kind = c.args.kind; key = c.args.key.now }) v.cache.entries)) c.self.view_is

pub returns-in-None-clause-number : goal.returns-in-None-clause-number
returns-in-None-clause-number c =
    let w = c.self.inside in
    let none : slide_of w.sheet.plan.words ≡ None = ap (λ (v : Writer). v.slide) c.self.view_is ∙ c.requires in
    let rests = still none c.self.invariant.held in
    let is = rests.shelf in
    let unfound = unanswered w.sheet.plan.words w.layout w.live w.mark c.args.kind c.args.key.now c.number-number.result is c.number-number.ensures (c.in-None.ensures.newest (nodes_in w.sheet.plan.words w.layout) is.laid) in
    sym (ap number_of unfound)
    ∙ ap (λ (s : Shelf). number_of (live_entry (record { kind = c.args.kind; key = c.args.key.now }) s.entries)) (still_view w.sheet.plan w.layout (still none c.self.invariant.held).back)
    ∙ ap (λ (v : Writer). number_of (live_entry (record { kind = c.args.kind; key = c.args.key.now }) v.cache.entries)) c.self.view_is
