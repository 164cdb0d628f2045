use Rattle.std.proofs.Common.{◌≡◌, ◌≢◌, ℕ, ◌+◌, ◌<◌, inl, inr, slice_index, sym, ap, subst, ◌∙◌, arith}
use Rattle.nsc_words.specs.declared.node.Placed.{Placed}
use Rattle.nsc_words.specs.Laid.{Laid}
use Rattle.nsc_words.specs.Layout.{table_words}
use Rattle.nsc_rule.specs.Pen.{Pen}
use Rattle.nsc_rule.specs.Plans.{IsEven}
use Rattle.nsc_rule.specs.Strokes.{MayUnlink, stored}
use Rattle.nsc_shelf.specs.Sheet.{IsEndedFront}
use Rattle.nsc_shelf.proofs.Fronts.{Front, ended_front, front_of, may_unlink, none_ended}
use Rattle.nsc_shelf.proofs.sheet.Sheet.unlink.Goals as goal
use Rattle.nsc_shelf.proofs.sheet.Sheet.unlink.Goals.{After-load-at, After-load, then-at-eq0-via-then-at-eq0, then-at-eq0-via-else-at-eq0+then-load-eq1}

even : (c : After-load-at) → IsEven c.self.inside.pen.plan
even c = subst (λ (p : Pen). IsEven p.plan) (sym c.self.view_is) c.requires.even

low : (c : After-load-at) → c.args.bucket < c.self.inside.pen.plan.layout.buckets
low c = subst (λ (p : Pen). c.args.bucket < p.plan.layout.buckets) (sym c.self.view_is) c.requires.bucket

laid : (c : After-load-at) → Laid c.self.inside.pen.plan.words c.self.inside.pen.plan.layout c.self.inside.pen.plan.nodes
laid c = c.learn.ensures.laid (ap (λ (p : Pen). p.plan.counted) c.self.view_is ∙ c.requires.counted) (even c)

front : (c : After-load-at) → c.load-at.result ≢ 0 → Front c.self.inside.pen.plan c.args.bucket c.load-at.result
front c other = front_of c.self.inside.pen.plan c.args.bucket c.load-at.result c.learn.ensures.sound (laid c) (low c) c.load-at.ensures.word other

read : (c : After-load) → c.load.result ≡ slice_index c.self.inside.pen.plan.words (c.load-at.result + 6)
read c = c.load.ensures.word ∙ ap (λ (p : Pen). slice_index p.plan.words (c.load-at.result + 6)) c.load-at.ensures.same

gone : (c : After-load) → Laid c.self.inside.pen.plan.words c.self.inside.pen.plan.layout c.self.inside.pen.plan.nodes → (f : Front c.self.inside.pen.plan c.args.bucket c.load-at.result) → c.load.result ≢ 1 → IsEndedFront c.self.inside.pen.plan c.args.bucket f.node
gone c lies f other = ended_front c.self.inside.pen.plan c.args.bucket c.load-at.result c.load.result c.learn.ensures.sound lies f (read c) other

pub load-requires-clause-inside : goal.load-requires-clause-inside
load-requires-clause-inside c =
    let f = front (goal.at.load-requires-clause-inside c).After-load-at c.if-at-eq0.false in
    subst (λ (p : Pen). c.load-at.result + 6 < table_words p.plan.layout) (sym c.load-at.ensures.same) (omega (arith, f.inside))

pub load-to-requires-clause-inside : goal.load-to-requires-clause-inside
load-to-requires-clause-inside c =
    let f = front (goal.at.load-to-requires-clause-inside c).After-load-at c.if-at-eq0.false in
    subst (λ (p : Pen). c.load-at.result + 7 < table_words p.plan.layout) (sym (c.load.ensures.same ∙ c.load-at.ensures.same)) (omega (arith, f.inside))

pub returns-then-at-eq0-clause-none : goal.returns-then-at-eq0-clause-none
returns-then-at-eq0-clause-none c =
    let at = (goal.at.returns-then-at-eq0-clause-none c).After-load-at in
    let p = c.self.inside.pen.plan in
    let none = none_ended p c.args.bucket c.load-at.result c.learn.ensures.sound (laid at) c.load-at.ensures.word
    (elim c.then-at-eq0.branch [
      | then-at-eq0-via-then-at-eq0 w ↦ inl w.if-at-eq0.true
      | then-at-eq0-via-else-at-eq0+then-load-eq1 w ↦ inr (ap (λ (q : Pen). slice_index q.plan.words (c.load-at.result + 6)) (sym c.load-at.ensures.same) ∙ sym w.load.ensures.word ∙ w.if-load-eq1.true)
    ]) in
    subst (λ (q : Pen). (gone : Placed) → IsEndedFront q.plan c.args.bucket gone → ⊥) c.self.view_is none

pub unlink-requires-clause-link : goal.unlink-requires-clause-link
unlink-requires-clause-link c =
    let at = goal.at.unlink-requires-clause-link c in
    let f = front at.After-load-at c.if-at-eq0.false in
    let lies = laid at.After-load-at in
    let same = c.load-to.ensures.same ∙ c.load.ensures.same ∙ c.load-at.ensures.same in
    let to = c.load-to.ensures.word ∙ ap (λ (q : Pen). slice_index q.plan.words (c.load-at.result + 7)) (c.load.ensures.same ∙ c.load-at.ensures.same) in
    subst (λ (q : Pen). MayUnlink q.plan (16 + c.args.bucket) c.load-to.result) (sym same)
    (may_unlink c.self.inside.pen.plan c.args.bucket c.load-at.result c.load-to.result (even at.After-load-at) (low at.After-load-at) f (gone at.After-load lies f c.if-load-eq1.false) to)

pub returns-clause-unlinked : goal.returns-clause-unlinked
returns-clause-unlinked c =
    let at = goal.at.returns-clause-unlinked c in
    let f = front at.After-load-at c.if-at-eq0.false in
    let lies = laid at.After-load-at in
    let ends = gone at.After-load lies f c.if-load-eq1.false in
    let same = c.load-to.ensures.same ∙ c.load.ensures.same ∙ c.load-at.ensures.same in
    let to = c.load-to.ensures.word ∙ ap (λ (q : Pen). slice_index q.plan.words (c.load-at.result + 7)) (c.load.ensures.same ∙ c.load-at.ensures.same) ∙ ap (λ (n : ℕ). slice_index c.self.inside.pen.plan.words (n + 7)) (sym f.place) in
    subst (λ (q : Pen). (x : Placed) × IsEndedFront q.plan c.args.bucket x × (c.unlink.new.self ≡ record q { plan = stored (16 + c.args.bucket) (slice_index q.plan.words (x.place + 7)) q.plan })) c.self.view_is
    (f.node, ends, c.unlink.ensures ∙ (λ i. record (same i) { plan = stored (16 + c.args.bucket) (to i) (same i).plan }))
