use Rattle.std.proofs.Common.{◌∙◌, sym}
use Rattle.nsc_database.proofs.Shown.{was_full}
use Rattle.nsc_database.proofs.desk.Desk.keep.Goals as goal

pub grow-requires-clause-full : goal.grow-requires-clause-full
grow-requires-clause-full g c = (was_full c.in-Some.need c.insert-said.result.0 c.args.loaded c.args.self.now.writer c.insert-said.new.self.writer _ (sym c.needed_by.ensures ∙ c.in-Some.is) c.insert-said.ensures.full c.insert-said.ensures.inserted).full
