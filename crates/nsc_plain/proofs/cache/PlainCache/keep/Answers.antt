-- The insertion of a lookup, and of what goes beside its answer.
use Rattle.std.proofs.Common.{◌≡◌, ◌∙◌, Option, ap, sym, subst}
use Rattle.std.specs.Arc.{arc_value}
use Rattle.nsc_model.specs.declared.answer.Request.{Request}
use Rattle.nsc_model.specs.Answers.{answer_of}
use Rattle.nsc_model.specs.Content.{Content}
use Rattle.nsc_plain.specs.PlainCache.{PlainCache}
use Rattle.nsc_plain.specs.Insertion.{Insertion, beside}
use Rattle.nsc_plain.specs.EntryList.{EntryList, over, put_with}
use Rattle.nsc_plain.proofs.Events.{bare, keeps}
use Rattle.nsc_plain.proofs.cache.PlainCache.keep.Goals as goal

pub returns-clause-kept : goal.returns-clause-kept
returns-clause-kept g c =
    let conf = c.self.inside.conf in
    let version = c.self.inside.newest_version in
    let request : Request = record { kind = c.args.kind; key = c.args.key.now } in
    let held = arc_value c.self.inside.content in
    let base = bare held version c.self.inside.epoch in
    let sources : held ≡ c.args.self.now.cache.sources = ap (λ (s : PlainCache). s.cache.sources) c.self.view_is in
    let fresh : c.new-fresh.result ≡ record { request = request; answer = answer_of held request; reloads = 0 } = cc (c.new-fresh.ensures, c.in_ok-key.ensures, c.requires.answer, sources) in
    let files : c.args.files.now.files ≡ held = sym (sources ∙ c.requires.sources) in
    let said = c.requires.answer ∙ ap (λ (f : Content). answer_of f request) c.requires.sources in
    let goes : c.in_ok-beside.beside ≡ beside conf held request = c.in_ok-beside.ensures.beside c.args.key.now said ∙ ap (λ (f : Content). beside conf f request) files in
    let at = subst (λ (s : EntryList). put_with conf c.args.now version c.new-fresh.result c.in_ok-beside.beside (over base s) ≡ over base c.insert_with.new.self) c.in_ok-reserve.ensures.stays (c.insert_with.ensures base) in
    rw (← c.self.view_is)
    (keeps conf c.args.now request (over base c.self.inside.table) (over base c.insert_with.new.self) c.if-not-conf.false
    (subst (λ (x : Insertion × Option Insertion). put_with conf c.args.now version x.0 x.1 (over base record c.self.inside.table { capacity = c.reserve.new.self.capacity }) ≡ over base c.insert_with.new.self) (λ i. (fresh i, goes i)) at))
