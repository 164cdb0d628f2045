use Rattle.std.proofs.Common.{◌≡◌, ◌∙◌, ◌+◌, ap, sym, slice_index, subst}
use Rattle.nsc_words.specs.declared.layout.Layout.{Layout}
use Rattle.nsc_rule.specs.declared.view.View.{View}
use Rattle.nsc_rule.specs.Pass.{Pass}
use Rattle.nsc_rule.specs.Seats.{Fits, retired_by, seen_by, searching_by}
use Rattle.nsc_rule.specs.Searches.{NextTells, MayPass}
use Rattle.nsc_rule.proofs.Searched.{along, nexts}
use Rattle.nsc_rule.proofs.pass.Pass.next.Goals as goal

pub look-requires-clause-tells : goal.look-requires-clause-tells
look-requires-clause-tells c p sound layout =
    let me = c.self.inside.seat.me.0 in
    let T : Layout → View → Type 0 = λ l v. c.args.at ≡ (searching_by v).place + 7 → MayPass (searching_by v) → Fits p c.self.inside.seat.id v → (w : View) × Fits p c.self.inside.seat.id w × NextTells l v (slice_index p.words c.args.at) w in
    along T c.args.map.now.layout me p (ap (λ m. m.0) c.self.invariant.0) layout (λ is may fits. nexts c.self.inside.seat.id (seen_by me) (retired_by me) (searching_by me) p c.args.at is may sound fits) (c.requires.place ∙ sym (ap (λ (x : Pass). x.searching.place + 7) c.self.view_is)) (subst (λ (x : Pass). MayPass x.searching) (sym c.self.view_is) c.requires.passed)
