use Rattle.std.proofs.Common.{ap, slice_index}
use Rattle.nsc_words.specs.declared.layout.Layout.{Layout}
use Rattle.nsc_rule.specs.declared.view.View.{View}
use Rattle.nsc_rule.specs.Seats.{Fits, retired_by, seen_by, searching_by}
use Rattle.nsc_rule.specs.Searches.{LastTells}
use Rattle.nsc_rule.proofs.Searched.{along, ends}
use Rattle.nsc_rule.proofs.pass.Pass.last_cycle.Goals as goal

pub look-requires-clause-tells : goal.look-requires-clause-tells
look-requires-clause-tells c p sound layout =
    let me = c.self.inside.seat.me.0 in
    let T : Layout → View → Type 0 = λ l v. Fits p c.self.inside.seat.id v → (w : View) × Fits p c.self.inside.seat.id w × LastTells v (slice_index p.words 0) w in
    along T c.args.map.now.layout me p (ap (λ m. m.0) c.self.invariant.0) layout (λ fits. ends c.self.inside.seat.id (seen_by me) (retired_by me) (searching_by me) p sound fits)
