use Rattle.std.proofs.Common.{List, ℕ, subst, sym}
use Rattle.nsc_model.specs.Stores.{reply_of}
use Rattle.nsc_client.specs.Sent.{SpellsReply}
use Rattle.nsc_client.proofs.Spelling.{answered_spells}
use Rattle.nsc_client.proofs.store_link.StoreLinkLinkPass.call.Goals as goal

pub returns-clause-answer : goal.returns-clause-answer
returns-clause-answer g c =
    let gave = c.in_ok-given.ensures in
    let spelled = answered_spells (g.S.Store.at c.args.pass.now).seen (g.S.Store.at c.lookup.new.pass).seen (record { kind = c.args.kind; key = c.args.key.now }) (reply_of c.in_ok-given.given) gave.seen gave.answer.answered in
    record {
      left = record { is_pass = gave.pass; seen = gave.seen; searches = gave.searches };
      gave = c.in_ok-given.given;
      said = sym c.reply.ensures;
      spelled = subst (λ (bytes : List ℕ). SpellsReply c.args.kind bytes) (sym c.reply.ensures) spelled;
      answer = gave.answer;
      files = gave.files;
      no_fault = gave.no_fault;
    }
