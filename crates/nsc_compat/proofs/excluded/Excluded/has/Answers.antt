use Rattle.std.proofs.Common.{◌∙◌, ap}
use Rattle.nsc_model.specs.Compat.{is_excluded}
use Rattle.nsc_compat.proofs.Held.{has_name}
use Rattle.nsc_compat.proofs.excluded.Excluded.has.Goals as goal

pub returns : goal.returns
returns c = c.contains.ensures ∙ has_name c.args.name.now c.self.inside.names.keys ∙ ap (λ names. is_excluded names c.args.name.now) c.self.view_is
