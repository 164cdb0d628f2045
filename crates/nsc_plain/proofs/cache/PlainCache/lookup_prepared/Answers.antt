use Rattle.std.proofs.Common.{◌≡◌, inr, sym, ◌∙◌, subst}
use Rattle.std.proofs.lemmas.Result.{err_from_is_err_and}
use Rattle.nsc_model.specs.declared.answer.Request.{Request}
use Rattle.nsc_model.specs.declared.conf.DbConf.{DbConf}
use Rattle.nsc_model.specs.Machine.{Cache, kept_answer, polled}
use Rattle.nsc_model.specs.Events.{ComesTo}
use Rattle.nsc_model.specs.Faults.{GivesUpBy}
use Rattle.nsc_plain.proofs.Events.{hits, misses, loads, lookup_faults}
use Rattle.nsc_plain.proofs.cache.PlainCache.lookup_prepared.Goals as goal

pub returns-in-Some-clause-turn : goal.returns-in-Some-clause-turn
returns-in-Some-clause-turn g c =
    let request : Request = record { kind = c.args.kind; key = c.args.key.now } in
    let before = c.args.self.now.cache in
    hits c.args.self.now.settings c.args.now c.args.files.now.files request before c.hit.new.self.cache _ c.in-Some.reply c.in-Some.is c.in_ok-reply.ensures.hit

pub returns-in_err-poll-clause-fault : goal.returns-in_err-poll-clause-fault
returns-in_err-poll-clause-fault g c =
    let request : Request = record { kind = c.args.kind; key = c.args.key.now } in
    let before = c.args.self.now.cache in
    let files = c.args.files.now.files in
    let missed = misses c.args.self.now.settings request before c.hit.new.self.cache _ c.in_default.is c.in_ok-reply.ensures.hit in
    let p = err_from_is_err_and c.from_residual-in_err-poll.result c.from_residual-in_err-poll.ensures.1 in
    rw (p.1, p.2)
    (lookup_faults c.args.self.now.settings c.args.now files request before c.poll.new.self.cache c.in_err-poll.field-0.0 missed.0
    (subst (λ (mid : Cache). GivesUpBy (polled files mid) mid c.poll.new.self.cache c.in_err-poll.field-0.0) missed.1 c.in_err-poll.ensures.fault))

pub returns-in_err-load-clause-fault : goal.returns-in_err-load-clause-fault
returns-in_err-load-clause-fault g c =
    let request : Request = record { kind = c.args.kind; key = c.args.key.now } in
    let before = c.args.self.now.cache in
    let files = c.args.files.now.files in
    let missed = misses c.args.self.now.settings request before c.hit.new.self.cache _ c.in_default.is c.in_ok-reply.ensures.hit in
    let p = err_from_is_err_and c.from_residual-in_err-load.result c.from_residual-in_err-load.ensures.1 in
    rw (p.1, p.2)
    (inr (subst (λ (after : Cache). ComesTo (polled files before) after) (sym c.in_err-load.ensures.stays)
    (subst (λ (mid : Cache). ComesTo (polled files mid) c.poll.new.self.cache) missed.1 c.in_ok-poll.ensures.turn)))

pub returns-clause-turn : goal.returns-clause-turn
returns-clause-turn g c =
    let request : Request = record { kind = c.args.kind; key = c.args.key.now } in
    let before = c.args.self.now.cache in
    let files = c.args.files.now.files in
    let missed = misses c.args.self.now.settings request before c.hit.new.self.cache _ c.in_default.is c.in_ok-reply.ensures.hit in
    loads c.args.self.now.settings c.args.now files request before c.poll.new.self.cache c.load.new.self.cache c.in_ok-load.field-0 missed.0
    (subst (λ (mid : Cache). ComesTo (polled files mid) c.poll.new.self.cache) missed.1 c.in_ok-poll.ensures.turn)
    (subst (λ (s : DbConf). (kept_answer s c.args.now request c.poll.new.self.cache).cache ≡ c.load.new.self.cache) (c.in_ok-poll.ensures.settings ∙ c.in_ok-reply.ensures.settings) c.in_ok-load.ensures.kept)
    c.in_ok-load.ensures.reply
