use Rattle.std.proofs.Common.{◌∷◌, ◌∙◌, ap}
use Rattle.nsc_model.specs.Compat.{is_excluded}
use Rattle.nsc_compat.proofs.Held.{one_more}
use Rattle.nsc_compat.proofs.excluded.Excluded.add.Goals as goal

pub returns : goal.returns
returns c = λ q. one_more c.args.name.now c.self.inside.names c.insert.new.self c.in_ok-insert.ensures.updates q ∙ ap (λ names. is_excluded (c.args.name.now ∷ names) q) c.self.view_is
