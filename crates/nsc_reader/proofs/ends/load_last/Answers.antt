use Rattle.std.proofs.Common.{◌≡◌, ℕ, List, [], refl, sym, ap, subst}
use Rattle.nsc_base.specs.Buf.{Buf}
use Rattle.nsc_model.specs.declared.in_place.InPlace.{InPlace}
use Rattle.nsc_model.specs.declared.in_place.InPlace.TheVariants.{NoEntry}
use Rattle.nsc_rule.specs.declared.view.Search.{Search}
use Rattle.nsc_reader.specs.Stages.{AtLast}
use Rattle.nsc_reader.proofs.Outcomes.{Answers, Loaded, held, keeps_last, no_entry}
use Rattle.nsc_reader.proofs.ends.load_last.Goals as goal

pub returns-in-NoEntry-clause-answer : goal.returns-in-NoEntry-clause-answer
returns-in-NoEntry-clause-answer c =
    let p = c.args.pass.now in
    let new = c.last_cycle-last.new.self in
    let told = c.last_cycle-last.ensures in
    let is : Loaded p new c.last_cycle-last.result = record { table = told.table; before = told.before; searching = told.searching; later = told.known; legal = c.learn.ensures.legal; none = told.none } in
    let at = subst (λ (a : InPlace). AtLast c.args.out.now.content a p) c.in-NoEntry.is c.requires.at in
    let empty : c.clear-in-NoEntry.new.self.content ≡ [] = ap (λ (b : Buf). b.content) c.clear-in-NoEntry.ensures in
    subst (λ (content : List ℕ). Answers new content NoEntry) (sym empty) (no_entry p new c.last_cycle-last.result c.args.first c.args.out.now.content is at c.requires.first c.if-last-first.false)

pub returns : goal.returns
returns c =
    let p = c.args.pass.now in
    let new = c.last_cycle-last.new.self in
    let told = c.last_cycle-last.ensures in
    let is : Loaded p new c.last_cycle-last.result = record { table = told.table; before = told.before; searching = told.searching; later = told.known; legal = c.learn.ensures.legal; none = told.none } in
    record {
      keeps = keeps_last p new c.last_cycle-last.result is;
      steps = ap (λ (w : Search). w.steps) told.searching;
      answer = held p new c.last_cycle-last.result c.args.first c.args.out.now.content c.args.answer c.in_default.not-NoEntry is c.requires.at c.requires.first c.if-last-first.false;
      limit = refl;
    }
