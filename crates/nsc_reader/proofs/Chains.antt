-- Where a word of a chain leads.
use Rattle.std.proofs.Common.{◌≡◌, ◌≢◌, ◌∙◌, ℕ, ◌+◌, ◌%◌, ◌<◌, ◌≤◌, List, length, sym, ap, subst, arith}
use Rattle.nsc_words.specs.declared.layout.Layout.{Layout}
use Rattle.nsc_words.specs.Layout.{table_words}
use Rattle.nsc_model.specs.History.{IsPrefix}
use Rattle.nsc_model.specs.declared.record.Record.{Record}
use Rattle.nsc_model.proofs.Beginnings.{prefix_all}
use Rattle.nsc_rule.specs.declared.view.Search.{Search}
use Rattle.nsc_rule.specs.Pass.{Pass}
use Rattle.nsc_rule.specs.Searches.{IsSteady, Lands}
use Rattle.nsc_model.specs.declared.in_place.InPlace.TheVariants.{NoEntry}
use Rattle.nsc_reader.specs.Stages.{Arrives, AtFirstWord, AtLast, AtShape, Begun, Keeps, OnNode}

-- ---- a pass that went to where a word of a chain led

pub keeps_went : (layout : Layout) (p new : Pass) (found : ℕ) → new.table ≡ p.table → new.seen ≡ p.seen → Lands layout p.searching new.searching found → Keeps p new
keeps_went layout p new found table seen lands = record {
  table = table;
  before = subst (IsPrefix p.seen) (sym seen) (prefix_all p.seen);
  began = ap (λ (w : Search). w.began) lands.searching;
  searches = ap (λ (w : Search). w.searches) lands.searching;
  first = ap (λ (w : Search). w.first) lands.searching;
  request = ap (λ (w : Search). w.request) lands.searching;
}

pub arrives : (layout : Layout) (p new : Pass) (found : ℕ) → new.seen ≡ p.seen → Lands layout p.searching new.searching found → Begun p → Arrives layout found new
arrives layout p new found seen lands b =
    let first : new.searching.first ≡ p.searching.first = ap (λ (w : Search). w.first) lands.searching in
    let began : new.searching.began ≡ p.searching.began = ap (λ (w : Search). w.began) lands.searching in
    let low = b.known in
    let later = lands.known in
    record {
      begun = record {
        even = ap (λ (n : ℕ). n % 2) first ∙ b.even;
        known = omega arith;
        began = subst (λ (h : List Record). IsPrefix h new.seen) (sym began) (subst (IsPrefix p.searching.began) (sym seen) b.began);
      };
      place_is = ap (λ (w : Search). w.place) lands.searching;
      on = lands.on;
      within = λ other steady e on. lands.within steady e on other;
    }

-- a NEXT that is not lower was read of no node
pub next_wrong : (layout : Layout) (content : List ℕ) (p new : Pass) (place found : ℕ) → Arrives layout found new → (IsSteady new.searching → found < place) → place ≤ found → AtLast content NoEntry new
next_wrong layout content p new place found at lower high = record { begun = at.begun; may = λ steady. let low = lower steady in absurd (omega arith) }

-- ---- what is loaded first there

pub none_there : (layout : Layout) (content : List ℕ) (p : Pass) (found : ℕ) → Arrives layout found p → found ≡ 0 → AtLast content NoEntry p
none_there layout content p found at is = record { begun = at.begun; may = λ steady. at.place_is ∙ is }

pub wrong_there : (layout : Layout) (content : List ℕ) (p : Pass) (found : ℕ) → Arrives layout found p → found ≢ 0 → table_words layout < found + 8 → AtLast content NoEntry p
wrong_there layout content p found at other far = record {
  begun = at.begun;
  may = λ steady. let on = at.on other in let high = (at.within other steady on.0 on.1).high in absurd (omega arith);
}

pub node_there : (layout : Layout) (p : Pass) (found : ℕ) → Arrives layout found p → found ≢ 0 → found + 8 ≤ table_words layout → OnNode layout found p
node_there layout p found at other room = record { begun = at.begun; place_is = at.place_is; inside = room; on = at.on other; within = at.within other }

pub shape_there : (layout : Layout) (p : Pass) (found : ℕ) → Arrives layout found p → found ≢ 0 → found + 8 ≤ table_words layout → AtShape layout found 0 p
shape_there layout p found at other room = record { node = node_there layout p found at other room; few = omega arith; same = λ steady e on i low inside. absurd (omega arith) }

pub first_there : (layout : Layout) (p : Pass) (found : ℕ) → Arrives layout found p → found ≢ 0 → found + 8 < table_words layout → 0 < length p.searching.request.key → AtFirstWord layout found p
first_there layout p found at other room some = record { node = node_there layout p found at other (omega arith); some = some; room = room }
