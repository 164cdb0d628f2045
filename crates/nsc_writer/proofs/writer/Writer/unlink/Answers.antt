use Rattle.std.proofs.Common.{◌≡◌, ℕ, ◌+◌, ◌%◌, None, slice_index, set, refl, ap, subst, ◌∙◌, arith, get_or-set_other}
use Rattle.std.specs.Arc.{arc_value}
use Rattle.nsc_words.specs.declared.layout.Layout.{Layout}
use Rattle.nsc_words.specs.Laid.{Laid}
use Rattle.nsc_rule.specs.Pen.{Pen}
use Rattle.nsc_rule.specs.Plans.{IsEven, Sound}
use Rattle.nsc_rule.specs.Strokes.{stored}
use Rattle.nsc_rule.proofs.Callers.{whole}
use Rattle.nsc_shelf.specs.Shelf.{slide_of}
use Rattle.nsc_shelf.proofs.Still.{Moved, Rests, kept_by, still}
use Rattle.nsc_writer.specs.Writer.{Writer}
use Rattle.nsc_writer.proofs.Moved.{moved_still, moved_view}
use Rattle.nsc_writer.proofs.writer.Writer.unlink.Goals as goal
use Rattle.nsc_writer.proofs.writer.Writer.unlink.Goals.{After-learn}

rests : (c : After-learn) → Rests c.self.inside.sheet.plan c.self.inside.layout c.self.inside.live c.self.inside.mark c.self.inside.hints.items
rests c = let none : slide_of c.self.inside.sheet.plan.words ≡ None = ap (λ (v : Writer). v.slide) c.self.view_is ∙ c.requires.still in still none c.self.invariant.held

-- the word of the bucket leads past the node
abbrev next_word : After-learn → ℕ
next_word c = slice_index c.self.inside.sheet.plan.words (c.if-not-unlink.ensures.unlinked.0.place + 7)

keeps : (c : After-learn) → Moved c.self.inside.sheet.plan (stored (16 + c.args.bucket) (next_word c) c.self.inside.sheet.plan) c.self.inside.layout c.self.inside.live c.self.inside.mark c.self.inside.hints.items (λ s. s)
keeps c =
    let p = c.self.inside.sheet.plan in
    let r = rests c in
    let new = c.if-not-unlink.ensures.unlinked.2 in
    let apart = get_or-set_other p.words (16 + c.args.bucket) 0 (next_word c) 0 (omega arith) in
    let even : IsEven (stored (16 + c.args.bucket) (next_word c) p) = ap (λ (n : ℕ). n % 2) apart ∙ r.even in
    let sound = subst (λ (q : Pen). Sound q.plan) new c.learn.ensures in
    kept_by (16 + c.args.bucket) (next_word c) (omega arith) r c.self.invariant.held (subst (λ (l : Layout). Laid (set p.words (16 + c.args.bucket) (next_word c)) l p.nodes) r.laid_out (whole (stored (16 + c.args.bucket) (next_word c) p) sound r.settled even))

pub invariant_of-self-2 : goal.invariant_of-self-2
invariant_of-self-2 c =
    let at = (goal.at.invariant_of-self-2 c).After-learn in
    moved_still c.self.inside.sheet c.self.inside.sheet.plan.seen c.if-not-unlink.ensures.unlinked.2 refl (keeps at) c.self.invariant.tells

pub returns : goal.returns
returns c =
    let at = (goal.at.returns c).After-learn in
    moved_view c.self.inside.sheet (arc_value c.self.inside.content) c.self.inside.sheet.plan.seen c.if-not-unlink.ensures.unlinked.2 refl (keeps at) ∙ c.self.view_is
