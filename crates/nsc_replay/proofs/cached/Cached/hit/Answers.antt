use Rattle.std.proofs.Common.{◌≡◌, ◌∙◌, ℕ, List, ◌++◌, ap, subst, sym}
use Rattle.nsc_model.specs.declared.answer.Request.{Request}
use Rattle.nsc_model.specs.Machine.{lookup}
use Rattle.nsc_turns.specs.Turns.{CompletesWith}
use Rattle.nsc_turns.proofs.Polled.{lookup_hits}
use Rattle.nsc_replay.specs.Cached.{Cached}
use Rattle.nsc_replay.proofs.cached.Cached.hit.Goals as goal

pub returns-in-Hit-clause-hit : goal.returns-in-Hit-clause-hit
returns-in-Hit-clause-hit g c now =
    let d = c.self.inside in
    let request : Request = record { kind = c.args.kind; key = c.args.key.now } in
    let w' = c.look.new.writer in
    let pushed : c.extend_from_slice.new.self.items ≡ c.in_ok-copy.copy.items ++ c.bytes.result.now = rw c.unwrap.ensures at c.extend_from_slice.ensures.items in
    let copied = c.from_vec.ensures ∙ pushed ∙ ap (λ (bytes : List ℕ). bytes ++ c.bytes.result.now) c.in_ok-copy.ensures.items ∙ c.bytes.ensures.content in
    subst (λ (x : Cached). CompletesWith (lookup x.settings now x.files request x.writer.cache) x.writer w' c.from_vec.result) c.self.view_is
    (subst (λ (reply : List ℕ). CompletesWith (lookup d.settings now d.files request d.writer.cache) d.writer w' reply) (sym copied)
    (lookup_hits d.settings now d.files request c.in-Hit.field-0 d.writer w' c.look.new.reply.content c.if-not-self.false c.in-Hit.ensures.looks))
