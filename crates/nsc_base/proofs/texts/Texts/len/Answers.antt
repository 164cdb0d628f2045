use Rattle.std.proofs.Common.{◌∙◌}
use Rattle.nsc_base.proofs.Runs.{length-texts_ended}
use Rattle.nsc_base.proofs.texts.Texts.len.Goals as goal

pub returns : goal.returns
returns c = rw (← c.self.view_is, length-texts_ended) (c.len.ensures ∙ c.self.inside.ends.ok.0)
