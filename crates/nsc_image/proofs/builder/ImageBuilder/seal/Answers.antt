use Rattle.std.proofs.Common.{List, ℕ, sym, subst, ◌∙◌}
use Rattle.nsc_image.specs.Draft.{Draft, draft_of}
use Rattle.nsc_model.specs.Image.{ImageBytes, image_version}
use Rattle.nsc_image.proofs.Drafts.{sealed_image}
use Rattle.nsc_image.proofs.builder.ImageBuilder.seal.Goals as goal

pub returns : goal.returns
returns c =
    let image = sealed_image c.self.inside.db c.self.inside.count c.self.inside.bytes.items c.self.invariant in
    let whole = c.from_vec.ensures ∙ c.in_ok-sealed.ensures in
    subst (λ (d : Draft). ImageBytes d.db image_version d.entries c.from_vec.result) c.self.view_is
    (subst (λ (x : List ℕ). ImageBytes c.self.inside.db image_version (draft_of c.self.inside.db c.self.inside.count c.self.inside.bytes.items).entries x) (sym whole) image)
