use Rattle.std.proofs.Common.{◌∙◌, List, ap, subst}
use Rattle.nsc_model.specs.declared.answer.Request.{Request}
use Rattle.nsc_model.specs.declared.record.Record.{Record}
use Rattle.nsc_model.specs.Machine.{live_entry}
use Rattle.nsc_database.specs.Holds.{IsLooked}
use Rattle.nsc_database.specs.Rests.{Desk}
use Rattle.nsc_database.proofs.Gained.{looked_stays}
use Rattle.nsc_database.proofs.Rests.{rests_looked}
use Rattle.nsc_database.proofs.Shown.{is_looked}
use Rattle.nsc_database.proofs.Standing.{at_rest_on}
use Rattle.nsc_database.proofs.desk.Desk.look.Goals as goal

pub invariant_of-self : goal.invariant_of-self
invariant_of-self g c =
    let request : Request = record { kind = c.args.kind; key = c.args.key.now } in
    let w = c.self.inside.writer in
    at_rest_on c.self.inside.left w c.look.new.writer (rests_looked (live_entry request w.cache.entries) request c.look.result w c.look.new.writer c.look.new.reply.content c.look.ensures.looks) c.self.invariant

pub returns-clause-looked : goal.returns-clause-looked
returns-clause-looked g c =
    let request : Request = record { kind = c.args.kind; key = c.args.key.now } in
    subst (λ (h : List Record). IsLooked c.look.result h request c.look.new.reply.content) (ap (λ (d : Desk). d.writer.seen) c.self.view_is)
    (is_looked c.look.result request c.self.inside.writer c.look.new.writer c.look.new.reply.content c.learn.ensures.told c.look.ensures.looks)

pub returns-clause-stays : goal.returns-clause-stays
returns-clause-stays g c =
    let request : Request = record { kind = c.args.kind; key = c.args.key.now } in
    looked_stays (live_entry request c.self.inside.writer.cache.entries) request c.look.result c.self.inside.writer c.look.new.writer c.look.new.reply.content c.look.ensures.looks ∙ ap (λ (d : Desk). d.writer.seen) c.self.view_is
