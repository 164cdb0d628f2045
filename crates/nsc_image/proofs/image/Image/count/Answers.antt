use Rattle.std.proofs.Common.{List, length, ap, sym, ◌∙◌}
use Rattle.nsc_model.specs.Image.{Saved}
use Rattle.nsc_image.specs.Versions.{number_of}
use Rattle.nsc_image.proofs.ListsBack.{length-saved_in}
use Rattle.nsc_image.proofs.image.Image.count.Goals as goal

pub returns-clause-value : goal.returns-clause-value
returns-clause-value c =
    c.from.ensures ∙ sym (length-saved_in (number_of c.self.inside.version) c.self.inside.count c.self.inside.bytes.now) ∙ ap (λ (l : List Saved). length l) c.self.view_is
