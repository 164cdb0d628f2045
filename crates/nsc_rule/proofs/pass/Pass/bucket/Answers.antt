use Rattle.std.proofs.Common.{◌≡◌, ◌∙◌, ap, sym, slice_index}
use Rattle.nsc_words.specs.declared.layout.Layout.{Layout}
use Rattle.nsc_rule.specs.declared.view.View.{View}
use Rattle.nsc_rule.specs.Entries.{request_bucket}
use Rattle.nsc_rule.specs.Pass.{Pass}
use Rattle.nsc_rule.specs.Seats.{Fits, retired_by, seen_by, searching_by}
use Rattle.nsc_rule.specs.Searches.{BucketTells}
use Rattle.nsc_rule.proofs.Searched.{along, buckets}
use Rattle.nsc_rule.proofs.pass.Pass.bucket.Goals as goal

pub look-requires-clause-tells : goal.look-requires-clause-tells
look-requires-clause-tells c p sound layout =
    let me = c.self.inside.seat.me.0 in
    let T : Layout → View → Type 0 = λ l v. c.args.bucket ≡ request_bucket l (searching_by v).request → Fits p c.self.inside.seat.id v → (w : View) × Fits p c.self.inside.seat.id w × BucketTells l v (slice_index p.words c.args.bucket) w in
    along T c.args.map.now.layout me p (ap (λ m. m.0) c.self.invariant.0) layout (λ is fits. buckets c.self.inside.seat.id (seen_by me) (retired_by me) (searching_by me) p c.args.bucket is sound fits) (c.requires.bucket ∙ sym (ap (λ (x : Pass). request_bucket c.args.map.now.layout x.searching.request) c.self.view_is))
