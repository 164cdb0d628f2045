use Rattle.std.proofs.Common.{◌≡◌, ◌∙◌, ◌+◌, ap, sym, slice_index}
use Rattle.nsc_words.specs.declared.layout.Layout.{Layout}
use Rattle.nsc_rule.specs.declared.view.View.{View}
use Rattle.nsc_rule.specs.Pass.{Pass}
use Rattle.nsc_rule.specs.Seats.{Fits, retired_by, seen_by, searching_by}
use Rattle.nsc_rule.specs.Searches.{StateTells}
use Rattle.nsc_rule.proofs.Searched.{along, states}
use Rattle.nsc_rule.proofs.pass.Pass.state.Goals as goal

pub look-requires-clause-tells : goal.look-requires-clause-tells
look-requires-clause-tells c p sound layout =
    let me = c.self.inside.seat.me.0 in
    let T : Layout → View → Type 0 = λ l v. c.args.at ≡ (searching_by v).place + 6 → Fits p c.self.inside.seat.id v → (w : View) × Fits p c.self.inside.seat.id w × StateTells v (slice_index p.words c.args.at) w in
    along T c.args.map.now.layout me p (ap (λ m. m.0) c.self.invariant.0) layout (λ is fits. states c.self.inside.seat.id (seen_by me) (retired_by me) (searching_by me) p c.args.at is sound fits) (c.requires.place ∙ sym (ap (λ (x : Pass). x.searching.place + 6) c.self.view_is))
