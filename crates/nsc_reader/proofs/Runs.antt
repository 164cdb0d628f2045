-- Any number of steps, one after the other.
use Rattle.std.proofs.Common.{◌≡◌, ◌∙◌, ℕ, ◌≤◌, List, refl, sym, subst, arith}
use Rattle.nsc_words.specs.declared.layout.Layout.{Layout}
use Rattle.nsc_model.specs.History.{IsPrefix}
use Rattle.nsc_model.specs.declared.answer.Request.{Request}
use Rattle.nsc_model.proofs.Beginnings.{prefix_all}
use Rattle.nsc_rule.specs.Pass.{Pass}
use Rattle.nsc_rule.proofs.Numbers.{prefix_through}
use Rattle.nsc_reader.specs.declared.stage.Progress.{Progress}
use Rattle.nsc_reader.specs.declared.stage.Progress.TheVariants.{Under}
use Rattle.nsc_reader.specs.declared.stage.Stage.{Stage}
use Rattle.nsc_reader.specs.Stages.{AtStage, Comes, Goes, HasCome, Keeps, Nears, left_at}
use Rattle.nsc_reader.proofs.Steps.{SoFar}

keeps_all : (p : Pass) → Keeps p p
keeps_all p = record { table = refl; before = prefix_all p.seen; began = refl; searches = refl; first = refl; request = refl }

pub keeps_then : (p q r : Pass) → Keeps p q → Keeps q r → Keeps p r
keeps_then p q r a b = record {
  table = b.table ∙ a.table;
  before = prefix_through p.seen q.seen r.seen a.before b.before;
  began = b.began ∙ a.began;
  searches = b.searches ∙ a.searches;
  first = b.first ∙ a.first;
  request = b.request ∙ a.request;
}

-- none
pub comes_none : (layout : Layout) (p : Pass) (content : List ℕ) (stage : Stage) → AtStage layout content stage p → Comes layout p p content (left_at layout stage) stage
comes_none layout p content stage at = record { keeps = keeps_all p; at = at; within = omega arith }

-- one
pub comes_one : (layout : Layout) (p q : Pass) (content : List ℕ) (most : ℕ) (was stage : Stage) → most ≡ left_at layout was → Goes layout p q content most stage → Comes layout p q content (left_at layout was) stage
comes_one layout p q content most was stage is goes = let fewer = goes.fewer in record { keeps = goes.keeps; at = goes.at; within = omega arith }

-- some, and then some more
pub comes_then : (layout : Layout) (p q r : Pass) (before content : List ℕ) (most : ℕ) (was stage : Stage) → Comes layout p q before most was → Comes layout q r content (left_at layout was) stage → Comes layout p r content most stage
comes_then layout p q r before content most was stage a b =
    let first = a.within in
    let second = b.within in
    record { keeps = keeps_then p q r a.keeps b.keeps; at = b.at; within = omega arith }

-- fewer than was asked
pub comes_below : (layout : Layout) (p q : Pass) (content : List ℕ) (low high : ℕ) (stage : Stage) → low ≤ high → Comes layout p q content low stage → Comes layout p q content high stage
comes_below layout p q content low high stage less comes = let within = comes.within in record { keeps = comes.keeps; at = comes.at; within = omega arith }

-- ---- of a whole search

pub nears_none : (layout : Layout) (request : Request) (p : Pass) (content : List ℕ) (progress : Progress) → HasCome layout request content p progress → Nears layout request progress p p content progress
nears_none layout request p content progress stands = record { table = refl; before = prefix_all p.seen; began = refl; searches = refl; stands = stands; unanswered = λ is. is; within = omega arith }

pub nears_by : (layout : Layout) (request : Request) (first : ℕ) (was : Stage) (p q : Pass) (content : List ℕ) (stage : Stage) → p.searching.first ≡ first → p.searching.request ≡ request → Comes layout p q content (left_at layout was) stage
    → Nears layout request (Under first was) p q content (Under first stage)
nears_by layout request first was p q content stage begun asked_is comes = record {
  table = comes.keeps.table;
  before = comes.keeps.before;
  began = comes.keeps.began;
  searches = comes.keeps.searches;
  stands = (comes.keeps.first ∙ begun, comes.keeps.request ∙ asked_is, comes.at);
  unanswered = λ is. tt;
  within = comes.within;
}

pub nearer : (layout : Layout) (request : Request) (entry p q : Pass) (before content : List ℕ) (was progress : Progress) → SoFar layout request entry p before was → Nears layout request was p q content progress → SoFar layout request entry q content progress
nearer layout request entry p q before content was progress so nears = record {
  table = nears.table ∙ so.table;
  stands = nears.stands;
  before = prefix_through entry.seen p.seen q.seen so.before nears.before;
  began = subst (IsPrefix entry.seen) (sym nears.began) so.began;
  searches = nears.searches ∙ so.searches;
}
