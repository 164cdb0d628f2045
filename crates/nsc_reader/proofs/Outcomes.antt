-- What a search answers at its end.
use Rattle.std.proofs.Common.{◌≡◌, ◌∙◌, ℕ, ◌+◌, ◌<◌, ◌≤◌, Bool, ⊎_elim, List, [], ◌∷◌, ◌++◌, refl, sym, ap, subst, arith}
use Rattle.nsc_model.specs.Entry.{Entry}
use Rattle.nsc_model.specs.History.{EndedAfter, HasEnd, HasLoad, IsPrefix, Legal, loads}
use Rattle.nsc_model.specs.declared.answer.Request.{Request}
use Rattle.nsc_model.specs.declared.record.Record.{Record}
use Rattle.nsc_laws.proofs.CoreLawRecords.{ended_or_not, load_more, not_ended_before}
use Rattle.nsc_laws.proofs.Prefixes.{prefix_legal}
use Rattle.nsc_rule.specs.declared.view.Search.{Search}
use Rattle.nsc_rule.specs.Pass.{Pass}
use Rattle.nsc_rule.specs.Searches.{IsSteady, NoneOlder}
use Rattle.nsc_rule.proofs.Numbers.{load_below, prefix_through}
use Rattle.nsc_model.specs.declared.in_place.InPlace.{InPlace}
use Rattle.nsc_model.specs.declared.in_place.InPlace.TheVariants.{Hit, Odd, Moved, NoEntry}
use Rattle.nsc_model.specs.InPlace.{InPlaceClause}
use Rattle.nsc_reader.specs.Stages.{AtLast, Keeps}

-- ---- histories that go on

load_on : (more h : List Record) (e : Entry) → HasLoad h e → HasLoad (more ++ h) e
load_on [] h e a = a
load_on (r ∷ more) h e a = load_more r (more ++ h) e (load_on more h e a)

pub load_stays : (seen h : List Record) (e : Entry) → IsPrefix seen h → HasLoad seen e → HasLoad h e
load_stays seen h e p a = subst (λ (l : List Record). HasLoad l e) (sym p.1) (load_on p.0 seen e a)

-- a beginning in which an entry was inserted is legal
legal_then : (seen h : List Record) (e : Entry) → IsPrefix seen h → HasLoad seen e → Legal h → Legal seen
legal_then seen h e p a legal = prefix_legal p.0 seen (λ none. subst (λ (l : List Record). HasLoad l e) none a) (subst Legal p.1 legal)

-- where no live entry of a request is older than a moment, each that was inserted before it is ended
ended_all : (began h : List Record) (request : Request) → IsPrefix began h → Legal h → ((e : Entry) → HasLoad h e → (HasEnd h e.number → ⊥) → e.request ≡ request → loads began ≤ e.number) → EndedAfter began h request
ended_all began h request p legal older e a is =
    ⊎_elim
    (λ (ended : HasEnd h e.number). ended)
    (λ (never : HasEnd h e.number → ⊥).
    let high : loads began ≤ e.number = older e (load_stays began h e p a) never is in
    let low : e.number < loads began = load_below began e (legal_then began h e p a legal) a in
    absurd (omega arith))
    (ended_or_not h e.number)

-- ---- the last load

-- a pass after its last load, which found this CYCLE
pub record Loaded (p new : Pass) (last : ℕ) : Type 0 where
  pub table : new.table ≡ p.table
  pub before : IsPrefix p.seen new.seen
  pub searching : new.searching ≡ record p.searching { steps = p.searching.steps + 1; known = last; last = last }
  pub later : p.searching.known ≤ last
  pub legal : Legal new.seen
  pub none : IsSteady new.searching → p.searching.place ≡ 0 → NoneOlder new.seen p.searching

pub keeps_last : (p new : Pass) (last : ℕ) → Loaded p new last → Keeps p new
keeps_last p new last is = record {
  table = is.table;
  before = is.before;
  began = ap (λ (w : Search). w.began) is.searching;
  searches = ap (λ (w : Search). w.searches) is.searching;
  first = ap (λ (w : Search). w.first) is.searching;
  request = ap (λ (w : Search). w.request) is.searching;
}

abbrev pub Answers : Pass → List ℕ → InPlace → Type 0
Answers p content answer = InPlaceClause p.searching.began p.seen p.searching.request p.searching.first p.searching.last content answer

pub no_entry : (p new : Pass) (last first : ℕ) (content : List ℕ) → Loaded p new last → AtLast content NoEntry p → p.searching.first ≡ first → last ≡ first → Answers new [] NoEntry
no_entry p new last first content is at same unmoved =
    let b = at.begun in
    let low = b.known in
    let later = is.later in
    let all : last ≡ p.searching.first = unmoved ∙ sym same in
    let was : IsSteady p.searching = (omega arith, b.even) in
    let now : IsSteady new.searching = subst (λ (w : Search). IsSteady w) (sym is.searching) (all, b.even) in
    let older = is.none now (at.may was) in
    subst (λ (w : Search). InPlaceClause w.began new.seen w.request w.first w.last [] NoEntry) (sym is.searching)
    (sym all, b.even, ended_all p.searching.began new.seen p.searching.request (prefix_through p.searching.began p.seen new.seen b.began is.before) is.legal (λ e a never of. older e (record { inserted = a; not_ended = never }) of), refl)

pub hit : (p new : Pass) (last first : ℕ) (content : List ℕ) (number version : ℕ) (not_found : Bool) → Loaded p new last → AtLast content (Hit number version not_found) p → p.searching.first ≡ first → last ≡ first → Answers new content (Hit number version not_found)
hit p new last first content number version not_found is at same unmoved =
    let b = at.begun in
    let low = b.known in
    let later = is.later in
    let all : last ≡ p.searching.first = unmoved ∙ sym same in
    let was : IsSteady p.searching = (omega arith, b.even) in
    let e = at.may.0.0 in
    let copied = at.may.1 was e at.may.0.1 in
    subst (λ (w : Search). InPlaceClause w.began new.seen w.request w.first w.last content (Hit number version not_found)) (sym is.searching) (
      sym all,
      b.even,
      record {
        entry = e;
        inserted = load_stays p.seen new.seen e is.before copied.live.inserted;
        numbered = copied.numbered;
        answers = copied.answers;
        of_version = copied.of_version;
        said = copied.said;
        marked = copied.marked;
        not_seen_to_end = subst (λ (n : ℕ). HasEnd p.searching.began n → ⊥) copied.numbered (not_ended_before p.searching.began p.seen e.number b.began copied.live.not_ended);
      },
    )

-- what it was to answer where the chain was not at its end
pub held : (p new : Pass) (last first : ℕ) (content : List ℕ) (answer : InPlace) → (answer ≡ NoEntry → ⊥) → Loaded p new last → AtLast content answer p → p.searching.first ≡ first → last ≡ first → Answers new content answer
held p new last first content (Hit number version not_found) other is at same unmoved = hit p new last first content number version not_found is at same unmoved
held p new last first content (Odd cycle) other is at same unmoved = absurd at.may
held p new last first content (Moved from to) other is at same unmoved = absurd at.may
held p new last first content NoEntry other is at same unmoved = absurd (other refl)

-- ---- a caller who had seen less

pub clause_before : (seen began h : List Record) (request : Request) (first last : ℕ) (content : List ℕ) (answer : InPlace) → IsPrefix seen began → InPlaceClause began h request first last content answer → InPlaceClause seen h request first last content answer
clause_before seen began h request first last content (Hit number version not_found) p c =
    let f = c.2 in (
      c.0,
      c.1,
      record {
        entry = f.entry;
        inserted = f.inserted;
        numbered = f.numbered;
        answers = f.answers;
        of_version = f.of_version;
        said = f.said;
        marked = f.marked;
        not_seen_to_end = not_ended_before seen began number p f.not_seen_to_end;
      },
    )
clause_before seen began h request first last content (Odd cycle) p c = c
clause_before seen began h request first last content (Moved from to) p c = c
clause_before seen began h request first last content NoEntry p c = (c.0, c.1, λ e a is. c.2 e (load_stays seen began e p a) is, c.3)
