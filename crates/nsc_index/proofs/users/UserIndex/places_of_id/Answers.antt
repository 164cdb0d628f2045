use Rattle.std.proofs.Common.{◌∙◌}
use Rattle.std.proofs.lemmas.Result.{IfOk-weaker}
use Rattle.nsc_index.proofs.UserRows.{lines_of_id}
use Rattle.nsc_index.proofs.users.UserIndex.places_of_id.Goals as goal

pub returns : goal.returns
returns c = IfOk-weaker c.with_id.result _ _ (λ numbered is. lines_of_id c.args.text.now c.args.self.now c.requires c.args.uid c.deref.result.now numbered.items (c.deref.ensures.value ∙ c.in_ok-lines.ensures) is) c.with_id.ensures
