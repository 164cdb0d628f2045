use Rattle.std.proofs.Common.{◌∙◌, Option, ap, subst}
use Rattle.nsc_model.specs.declared.answer.Request.{Request}
use Rattle.nsc_model.specs.Content.{Content}
use Rattle.nsc_model.specs.Reads.{IsOfHeld}
use Rattle.nsc_model.specs.Stores.{reply_of}
use Rattle.nsc_workload.proofs.Told.{held_reply}
use Rattle.nsc_workload.proofs.assignment.Assignment.reply.Goals as goal

pub returns-in-Ok-clause-reply : goal.returns-in-Ok-clause-reply
returns-in-Ok-clause-reply g c =
    let assignment = c.args.self.now in
    let asked = c.in_ok-asked.asked in
    let request : Request = record { kind = asked.kind; key = c.as_slice-key.result.now } in
    let told = subst (λ (held : Option Content). IsOfHeld held assignment.database.now.db request (reply_of c.in-Ok.given)) assignment.held c.in-Ok.ensures.files.of_held in
    c.bytes_of.ensures ∙ held_reply assignment.number c.args.place assignment.database.now.db request (reply_of c.in-Ok.given) assignment.users (ap (λ key. record asked { key = key }) c.as_slice-key.ensures ∙ c.in_ok-asked.ensures.request) told
