-- A step of a search under way is a step of the search.
use Rattle.std.proofs.Common.{◌≡◌, ◌∙◌, ℕ, ◌+◌, ◌<◌, List, Some, None, refl, sym, ap, subst}
use Rattle.nsc_words.specs.declared.layout.Layout.{Layout}
use Rattle.nsc_model.specs.History.{IsPrefix}
use Rattle.nsc_model.specs.declared.answer.Request.{Request}
use Rattle.nsc_model.specs.declared.record.Record.{Record}
use Rattle.nsc_model.proofs.Beginnings.{prefix_all}
use Rattle.nsc_rule.specs.Pass.{Pass}
use Rattle.nsc_rule.proofs.Numbers.{prefix_through}
use Rattle.nsc_reader.specs.declared.stage.Progress.{Progress}
use Rattle.nsc_reader.specs.declared.stage.Progress.TheVariants.{New, Under, Answered}
use Rattle.nsc_model.specs.declared.in_place.InPlace.{InPlace}
use Rattle.nsc_reader.specs.declared.stage.Stage.{Stage}
use Rattle.nsc_reader.specs.Stages.{Goes, HasBegun, IsOpen, HasCome, Steps, answer_in, left_at, searches_with, seen_before}
use Rattle.nsc_model.specs.InPlace.{InPlaceClause}
use Rattle.nsc_reader.proofs.Outcomes.{clause_before}

same_began : (old new : List Record) → new ≡ old → IsPrefix old new
same_began old new is = subst (IsPrefix old) (sym is) (prefix_all old)

pub steps_on : (layout : Layout) (request : Request) (first : ℕ) (was : Stage) (old new : Pass) (content : List ℕ) (most : ℕ) (stage : Stage) → old.searching.first ≡ first → old.searching.request ≡ request → most ≡ left_at layout was → Goes layout old new content most stage
    → Steps layout request (Under first was) old new content (Under first stage)
steps_on layout request first was old new content most stage begun asked_is left_is goes = record {
  table = goes.keeps.table;
  before = goes.keeps.before;
  began = same_began old.searching.began new.searching.began goes.keeps.began;
  steps = goes.steps;
  searches = goes.keeps.searches;
  stands = (goes.keeps.first ∙ begun, goes.keeps.request ∙ asked_is, goes.at);
  has_begun = tt;
  fewer = subst (λ (n : ℕ). left_at layout stage < n) left_is goes.fewer;
}

-- ---- whole searches

pub open_still : (progress : Progress) → answer_in progress ≡ None → IsOpen progress
open_still New is = tt
open_still (Under first stage) is = tt
open_still (Answered answer) is = cc

answered_by : (progress : Progress) (answer : InPlace) → answer_in progress ≡ Some answer → progress ≡ Answered answer
answered_by New answer is = cc
answered_by (Under first stage) answer is = cc
answered_by (Answered other) answer is = let same : other ≡ answer = cc in ap (λ (a : InPlace). Answered a) same

began_then : (progress : Progress) (p : Pass) → HasBegun progress → seen_before progress p ≡ p.searching.began
began_then New p begun = absurd begun
began_then (Under first stage) p begun = refl
began_then (Answered answer) p begun = refl

searches_then : (progress : Progress) (p : Pass) → HasBegun progress → searches_with progress p ≡ p.searching.searches
searches_then New p begun = absurd begun
searches_then (Under first stage) p begun = refl
searches_then (Answered answer) p begun = refl

-- what a loop of steps knows: of the pass at the search's beginning, of the pass now, of the buffer and of the progress
pub record SoFar (layout : Layout) (request : Request) (entry p : Pass) (content : List ℕ) (progress : Progress) : Type 0 where
  pub table : p.table ≡ entry.table
  pub stands : HasCome layout request content p progress
  pub before : IsPrefix entry.seen p.seen
  pub began : IsPrefix entry.seen (seen_before progress p)
  pub searches : searches_with progress p ≡ entry.searching.searches + 1

pub one_step : (layout : Layout) (request : Request) (entry p new : Pass) (content after : List ℕ) (was progress : Progress) → SoFar layout request entry p content was → Steps layout request was p new after progress → SoFar layout request entry new after progress
one_step layout request entry p new content after was progress so step = record {
  table = step.table ∙ so.table;
  stands = step.stands;
  before = prefix_through entry.seen p.seen new.seen so.before step.before;
  began = subst (IsPrefix entry.seen) (sym (began_then progress new step.has_begun)) (prefix_through entry.seen (seen_before was p) new.searching.began so.began step.began);
  searches = searches_then progress new step.has_begun ∙ step.searches ∙ so.searches;
}

pub last_step : (layout : Layout) (request : Request) (entry p : Pass) (content : List ℕ) (progress : Progress) (answer : InPlace) → SoFar layout request entry p content progress → answer_in progress ≡ Some answer
    → InPlaceClause entry.seen p.seen request p.searching.first p.searching.last content answer
last_step layout request entry p content progress answer so is =
    let same = answered_by progress answer is in
    let stands = subst (λ (q : Progress). HasCome layout request content p q) same so.stands in
    let began = subst (λ (q : Progress). IsPrefix entry.seen (seen_before q p)) same so.began in
    clause_before entry.seen p.searching.began p.seen request p.searching.first p.searching.last content answer began stands
