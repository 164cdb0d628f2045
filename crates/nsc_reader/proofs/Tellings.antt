-- What was told of the entry where a search stands holds on while the search stands there.
use Rattle.std.proofs.Common.{◌≡◌, ◌∙◌, ℕ, ◌+◌, ◌<◌, ◌≤◌, Bool, List, Option, Some, refl, sym, ap, subst, inl, arith}
use Rattle.atomic_table.specs.Seated.{TableId}
use Rattle.nsc_words.specs.declared.layout.Layout.{Layout}
use Rattle.nsc_model.specs.Entry.{Entry}
use Rattle.nsc_model.specs.History.{IsPrefix}
use Rattle.nsc_model.specs.declared.record.Record.{Record}
use Rattle.nsc_model.proofs.Beginnings.{prefix_all}
use Rattle.nsc_rule.specs.declared.view.Search.{Search}
use Rattle.nsc_rule.specs.Pass.{Pass}
use Rattle.nsc_rule.specs.Searches.{IsFixed, IsSteady}
use Rattle.nsc_rule.proofs.Numbers.{prefix_through}
use Rattle.nsc_reader.specs.declared.stage.Stage.{Stage}
use Rattle.nsc_reader.specs.Stages.{AtNext, AtStage, Begun, Goes, Keeps, OnNode, Tells, left_at}

-- a pass that loaded another word of the same node, and has seen so much then
abbrev pub stays : List Record → ℕ → Bool → Pass → Pass
stays seen known gone p = record p { seen = seen; searching = record p.searching { steps = p.searching.steps + 1; known = known; gone = gone } }

-- a fixed one
abbrev pub fixed_at : ℕ → Pass → Pass
fixed_at known p = stays p.seen known p.searching.gone p

pub keeps_at : (seen : List Record) (known : ℕ) (gone : Bool) (p : Pass) → IsPrefix p.seen seen → Keeps p (stays seen known gone p)
keeps_at seen known gone p more = record { table = refl; before = more; began = refl; searches = refl; first = refl; request = refl }

pub begun_at : (seen : List Record) (known : ℕ) (gone : Bool) (p : Pass) → IsPrefix p.seen seen → p.searching.known ≤ known → Begun p → Begun (stays seen known gone p)
begun_at seen known gone p more later b = let low = b.known in record { even = b.even; known = omega arith; began = prefix_through p.searching.began p.seen seen b.began more }

-- a search that is steady was so before
pub steady_before : (seen : List Record) (known : ℕ) (gone : Bool) (p : Pass) → p.searching.known ≤ known → Begun p → IsSteady (stays seen known gone p).searching → IsSteady p.searching
steady_before seen known gone p later b steady = let low = b.known in let same : known ≡ p.searching.first = steady.0 in (omega arith, steady.1)

pub tells_at : (P : Entry → Type 0) (seen : List Record) (known : ℕ) (gone : Bool) (p : Pass) → p.searching.known ≤ known → Begun p → Tells p P → Tells (stays seen known gone p) P
tells_at P seen known gone p later b tells steady e on = tells (steady_before seen known gone p later b steady) e on

pub node_at : (layout : Layout) (place : ℕ) (seen : List Record) (known : ℕ) (gone : Bool) (p : Pass) → IsPrefix p.seen seen → p.searching.known ≤ known → OnNode layout place p → OnNode layout place (stays seen known gone p)
node_at layout place seen known gone p more later n = record {
  begun = begun_at seen known gone p more later n.begun;
  place_is = n.place_is;
  inside = n.inside;
  on = n.on;
  within = λ steady e on. n.within (steady_before seen known gone p later n.begun steady) e on;
}

-- ---- a fixed word

-- a load told that a word is the one of this number of the entry's node
abbrev pub Read : Pass → ℕ → ℕ → ℕ → Type 0
Read p known index word = Tells (fixed_at known p) (λ e. IsFixed e index word)

pub read_from : (p new : Pass) (place index at word : ℕ) → new ≡ fixed_at new.searching.known p → p.searching.place ≡ place → at ≡ place + index
    → (IsSteady new.searching → (e : Entry) (i : ℕ) → p.searching.on ≡ Some e → at ≡ p.searching.place + i → IsFixed e i word)
    → Read p new.searching.known index word
read_from p new place index at word is place_is at_is fixed steady e on =
    fixed (subst (λ (q : Pass). IsSteady q.searching) (sym is) steady) e index on (at_is ∙ ap (λ (n : ℕ). n + index) (sym place_is))

pub goes_fixed : (layout : Layout) (p new : Pass) (content : List ℕ) (most : ℕ) (stage : Stage) → new ≡ fixed_at new.searching.known p → AtStage layout content stage (fixed_at new.searching.known p) → left_at layout stage < most → Goes layout p new content most stage
goes_fixed layout p new content most stage is at fewer = record {
  keeps = subst (λ (q : Pass). Keeps p q) (sym is) (keeps_at p.seen new.searching.known p.searching.gone p (prefix_all p.seen));
  steps = ap (λ (q : Pass). q.searching.steps) is;
  at = subst (λ (q : Pass). AtStage layout content stage q) (sym is) at;
  fewer = fewer;
}

-- ---- a node is passed whose entry is of another request

pub passed_by : (layout : Layout) (place known : ℕ) (p : Pass) → p.searching.known ≤ known → OnNode layout place p → Tells (fixed_at known p) (λ e. e.request ≡ p.searching.request → ⊥) → AtNext layout place (fixed_at known p)
passed_by layout place known p later n other = record {
  node = node_at layout place p.seen known p.searching.gone p (prefix_all p.seen) later n;
  passed = (n.on.0, n.on.1, λ steady. inl (other steady n.on.0 n.on.1));
}

-- ---- a STATE

abbrev made : TableId → List Record → Option TableId → Search → Pass
made table seen retired w = record { table = table; seen = seen; retired = retired; searching = w }

pub stays_is : (p new : Pass) (gone : Bool) → new.table ≡ p.table → new.retired ≡ p.retired → new.searching ≡ record p.searching { steps = p.searching.steps + 1; known = new.searching.known; gone = gone } → new ≡ stays new.seen new.searching.known gone p
stays_is p new gone table retired is = (λ i. made (table i) new.seen (retired i) new.searching) ∙ ap (made p.table new.seen p.retired) is

pub goes_stays : (layout : Layout) (p new : Pass) (gone : Bool) (content : List ℕ) (most : ℕ) (stage : Stage) → new.table ≡ p.table → new.retired ≡ p.retired → IsPrefix p.seen new.seen → new.searching ≡ record p.searching { steps = p.searching.steps + 1; known = new.searching.known; gone = gone }
    → AtStage layout content stage (stays new.seen new.searching.known gone p) → left_at layout stage < most → Goes layout p new content most stage
goes_stays layout p new gone content most stage table retired more searching at fewer =
    let is = stays_is p new gone table retired searching in
    record {
      keeps = subst (λ (q : Pass). Keeps p q) (sym is) (keeps_at new.seen new.searching.known gone p more);
      steps = ap (λ (q : Pass). q.searching.steps) is;
      at = subst (λ (q : Pass). AtStage layout content stage q) (sym is) at;
      fewer = fewer;
    }
