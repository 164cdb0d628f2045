-- A legal history whose records have their origins is made by moves of the core, record by record.
use Rattle.std.proofs.Common.{◌≡◌, ◌≢◌, ℕ, ◌+◌, ◌<◌, Bool, true, false, eqb, List, [], ◌∷◌, ◌++◌, refl, sym, ap, subst, ◌∙◌, arith, inl, inr}
use Rattle.std.specs.Prelude.{◌⊎◌, Option, Some, None}
use Rattle.std.proofs.lemmas.Bool.{eqb-true, eqb-false}
use Rattle.std.proofs.lemmas.List.{append-nil}
use Rattle.nsc_model.specs.declared.kind.Db.{Db}
use Rattle.nsc_model.specs.declared.answer.Request.{Request}
use Rattle.nsc_model.specs.declared.record.Ending.{Ending}
use Rattle.nsc_model.specs.declared.record.Record.{Record}
use Rattle.nsc_model.specs.declared.record.Record.TheVariants.{Change, Poll, Load, End, Invalid}
use Rattle.nsc_model.specs.Content.{Content}
use Rattle.nsc_model.specs.Files.{part_of}
use Rattle.nsc_model.specs.Entry.{Entry}
use Rattle.nsc_model.specs.History.{changes, invalidations, newest, Legal, IsPrefix, LooksAt}
use Rattle.nsc_laws.specs.Core.{Caller, Core, opening, Move, Begin, Insert, Finish, Empty, IsInsertion, AreMoves}
use Rattle.nsc_model.specs.Live.{AreLive}
use Rattle.nsc_laws.specs.Origins.{IsSourced, IsRun}
use Rattle.nsc_laws.proofs.Prefixes.{more_after, prefix_legal}
use Rattle.nsc_laws.proofs.CoreLaw.{begun}
use Rattle.nsc_laws.proofs.CoreLawRecords.{prefix_more}
use Rattle.nsc_laws.proofs.MachineLawSteps.{at_own, runs_append, same_prefix}
use Rattle.nsc_laws.proofs.RunSteps.{Holder, WasAsked, Ready, other_callers, begins, IsNewest, Looks, looks}

-- the core moves on to this history
pub record Reaches (db : Db) (old : Core) (history : List Record) : Type 0 where
  pub moves : List Move
  pub new : Core
  pub runs : AreMoves db moves old new
  pub ready : Ready new
  pub history_is : new.history ≡ history

pub nothing_seen : (h : List Record) → IsPrefix [] h
nothing_seen h = (h, sym (append-nil h))

-- ---- looks

abbrev given : Content → Option Content
given content = Some content

-- a version that is not the first differs from the newest
pub change_differs : (v : ℕ) (c : Content) (h : List Record) → h ≢ [] → Legal (Change v c ∷ h) → (v ≡ changes h) × (newest h ≢ Some c)
change_differs v c [] some l = absurd (some refl)
change_differs v c (r ∷ h) some l = (l.1, l.2)

newest_change : (v : ℕ) (c : Content) (h : List Record) → h ≢ [] → IsNewest (Change v c) h v
newest_change v c [] some = absurd (some refl)
newest_change v c (r ∷ h) some = record { same_epoch = refl; asked = λ m asked. elim asked.0 [ inl same ↦ inl same | inr was ↦ inr (was, asked.1) ] }

newest_poll : (v : ℕ) (h : List Record) → IsNewest (Poll v) h v
newest_poll v h = record { same_epoch = refl; asked = λ m asked. by_test m (eqb v m) refl asked } where
  by_test : (m : ℕ) (b : Bool) → eqb v m ≡ b → WasAsked (Poll v ∷ h) m → (v ≡ m) ⊎ WasAsked h m
  by_test m true e asked = inl (eqb-true v m e)
  by_test m false e asked = elim asked.0 [
    | inl same ↦ inl same
    | inr was ↦ inr (was, λ first. elim (asked.1 first) [ inl same ↦ absurd (eqb-false v m e same) | inr polled ↦ polled ])
  ]

-- the newest content is what the database reads of some files
newest_read : (db : Db) (h : List Record) → Legal h → IsSourced db h → (sources : Content) × (newest h ≡ Some (part_of db sources))
newest_read db [] l s = absurd l
newest_read db (Change v c ∷ h) l s = (s.1.0, ap (λ (x : Content). given x) s.1.1)
newest_read db (Poll v ∷ h) l s = newest_read db h l.0 s
newest_read db (Load e ∷ h) l s = newest_read db h l.0 s.0
newest_read db (End n cause ∷ h) l s = newest_read db h l.0 s
newest_read db (Invalid n ∷ h) l s = newest_read db h l.0 s

pub looks_at : (db : Db) (core : Core) (request : Option Request) (seen : List Record) (r : Record) (n : ℕ) → Ready core → core.history ≢ [] → LooksAt (r ∷ core.history) n → Legal (r ∷ core.history) → IsSourced db (r ∷ core.history) → IsPrefix seen core.history
    → Looks db core request seen r n
looks_at db core request seen (Change v c) n ready some at l s q =
    let differs = change_differs v c core.history some l in
    let is = s.1.1 in
    subst (Looks db core request seen (Change v c)) at (looks db core s.1.0 request seen (Change v c) v ready (newest_change v c core.history some) q
    (inr ((λ same. differs.1 (same ∙ ap (λ (x : Content). given x) (sym is))), differs.0, ap (λ (x : Content). Change v x) is)))
looks_at db core request seen (Poll v) n ready some at l s q =
    let read = newest_read db core.history l.0 s in
    subst (Looks db core request seen (Poll v)) at (looks db core read.0 request seen (Poll v) v ready (newest_poll v core.history) q (inl (read.1, l.1, refl)))
looks_at db core request seen (Load e) n ready some at l s q = absurd at
looks_at db core request seen (End k cause) n ready some at l s q = absurd at
looks_at db core request seen (Invalid k) n ready some at l s q = absurd at

look_step : (db : Db) (core : Core) (r : Record) (n : ℕ) → Looks db core None [] r n → Reaches db core (r ∷ core.history)
look_step db core r n w = record { moves = w.moves; new = w.new; runs = w.runs; ready = w.ready; history_is = w.history_is }

-- ---- loads

abbrev loads_in : Core → ℕ → Entry → Core
loads_in core a e = let c1 = begins core a (Some e.request) core.history in record c1 { history = Load e ∷ core.history }

load_holder : (core : Core) (a : ℕ) (e : Entry) (fresh n : ℕ) → a < fresh → Holder core fresh n → Holder (loads_in core a e) fresh n
load_holder core a e fresh n low h = by_test (eqb a h.caller) refl where
  by_test : (b : Bool) → eqb a h.caller ≡ b → Holder (loads_in core a e) fresh n
  by_test true t =
      let same = eqb-true a h.caller t in
      let is = at_own core.callers a (begun (core.callers a) (Some e.request) core.history) in
      record {
        caller = a;
        known = low;
        version_is = ap (λ (c : Caller). c.version) is ∙ (ap (λ (x : ℕ). (core.callers x).version) same ∙ h.version_is);
        noted_is = ap (λ (c : Caller). c.noted) is ∙ (ap (λ (x : ℕ). (core.callers x).noted) same ∙ h.noted_is);
        seen_before = subst (λ (c : Caller). IsPrefix c.seen (Load e ∷ core.history)) (sym is) (prefix_more (Load e) core.history core.history (same_prefix core.history));
      }
  by_test false t =
      let is = other_callers core.callers a h.caller (begun (core.callers a) (Some e.request) core.history) (eqb-false a h.caller t) in
      record {
        caller = h.caller;
        known = h.known;
        version_is = ap (λ (c : Caller). c.version) is ∙ h.version_is;
        noted_is = ap (λ (c : Caller). c.noted) is ∙ h.noted_is;
        seen_before = subst (λ (c : Caller). IsPrefix c.seen (Load e ∷ core.history)) (sym is) (prefix_more (Load e) (core.callers h.caller).seen core.history h.seen_before);
      }

load_step : (db : Db) (core : Core) (e : Entry) → Ready core → Legal (Load e ∷ core.history) → IsSourced db (Load e ∷ core.history) → Reaches db core (Load e ∷ core.history)
load_step db core e ready l s =
    let h = ready.holders e.version (l.4, s.1) in
    let a = h.caller in
    let c1 = begins core a (Some e.request) core.history in
    let is = at_own core.callers a (begun (core.callers a) (Some e.request) core.history) in
    let inserts : IsInsertion core.history (c1.callers a) e.request e.timeout e = record {
      content = l.3.0;
      request_is = refl;
      allowed = inl (ap (λ (c : Caller). c.request) is);
      version_is = ap (λ (c : Caller). c.version) is ∙ h.version_is;
      noted_is = ap (λ (c : Caller). c.noted) is ∙ h.noted_is;
      none_live = l.2;
      held = l.3.1;
      number_is = l.1;
      answer_is = l.3.2;
      timeout_is = refl;
    } in
    record {
      moves = Begin a (Some e.request) core.history ∷ Insert a e.request e.timeout ∷ [];
      new = loads_in core a e;
      runs = (c1, (h.seen_before, same_prefix core.history, refl), (loads_in core a e, inl (e, inserts, refl), refl));
      ready = record {
        fresh = ready.fresh;
        unused = λ b high. let low : a < ready.fresh = h.known in other_callers core.callers a b (begun (core.callers a) (Some e.request) core.history) (λ same. omega arith) ∙ ready.unused b high;
        holders = λ n was. load_holder core a e ready.fresh n h.known (ready.holders n was);
      };
      history_is = refl;
    }

-- ---- ends and invalidations

end_step : (db : Db) (core : Core) (n : ℕ) (cause : Ending) → Ready core → Legal (End n cause ∷ core.history) → Reaches db core (End n cause ∷ core.history)
end_step db core n cause ready l =
    let new = record core { history = End n cause ∷ core.history } in
    record {
      moves = Finish n cause ∷ [];
      new = new;
      runs = (new, (l.1, l.2, l.3, l.4, refl), refl);
      ready = record {
        fresh = ready.fresh;
        unused = ready.unused;
        holders = λ m was. let h = ready.holders m was in record {
          caller = h.caller;
          known = h.known;
          version_is = h.version_is;
          noted_is = h.noted_is;
          seen_before = prefix_more (End n cause) (core.callers h.caller).seen core.history h.seen_before;
        };
      };
      history_is = refl;
    }

invalid_step : (db : Db) (core : Core) (n : ℕ) → Ready core → Legal (Invalid n ∷ core.history) → Reaches db core (Invalid n ∷ core.history)
invalid_step db core n ready l =
    let new = record core { history = Invalid (invalidations core.history + 1) ∷ core.history } in
    let none : AreLive core.history [] = record { live = λ e a. absurd a; all = λ e lives. absurd (lives.not_ended (l.2 e lives.inserted)); rising = tt } in
    record {
      moves = Empty ∷ [];
      new = new;
      runs = (new, ([], none, refl), refl);
      ready = record { fresh = ready.fresh; unused = ready.unused; holders = λ m was. absurd was.0 };
      history_is = ap (λ (k : ℕ). Invalid k ∷ core.history) (sym l.1);
    }

-- ---- histories

step : (db : Db) (r : Record) (core : Core) → Ready core → core.history ≢ [] → Legal (r ∷ core.history) → IsSourced db (r ∷ core.history) → Reaches db core (r ∷ core.history)
step db (Change v c) core ready some l s = look_step db core (Change v c) v (looks_at db core None [] (Change v c) v ready some refl l s (nothing_seen core.history))
step db (Poll v) core ready some l s = look_step db core (Poll v) v (looks_at db core None [] (Poll v) v ready some refl l s (nothing_seen core.history))
step db (Load e) core ready some l s = load_step db core e ready l s
step db (End n cause) core ready some l s = end_step db core n cause ready l
step db (Invalid n) core ready some l s = invalid_step db core n ready l

sourced_after : (db : Db) (r : Record) (h : List Record) → IsSourced db (r ∷ h) → IsSourced db h
sourced_after db (Change v c) h s = s.0
sourced_after db (Poll v) h s = s
sourced_after db (Load e) h s = s.0
sourced_after db (End n cause) h s = s
sourced_after db (Invalid n) h s = s

pub sourced_before : (db : Db) (more h : List Record) → IsSourced db (more ++ h) → IsSourced db h
sourced_before db [] h s = s
sourced_before db (r ∷ more) h s = sourced_before db more h (sourced_after db r (more ++ h) s)

-- one record more
step_on : (db : Db) (r : Record) (old : Core) (h : List Record) → h ≢ [] → Legal (r ∷ h) → IsSourced db (r ∷ h) → Reaches db old h → Reaches db old (r ∷ h)
step_on db r old h some l s w =
    let is = sym w.history_is in
    let x = step db r w.new w.ready (λ none. some (is ∙ none)) (subst (λ (y : List Record). Legal (r ∷ y)) is l) (subst (λ (y : List Record). IsSourced db (r ∷ y)) is s) in
    record { moves = w.moves ++ x.moves; new = x.new; runs = runs_append db w.moves x.moves old w.new x.new w.runs x.runs; ready = x.ready; history_is = x.history_is ∙ ap (λ (y : List Record). r ∷ y) w.history_is }

pub reaches_on : (db : Db) (more : List Record) (old : Core) → Ready old → old.history ≢ [] → Legal (more ++ old.history) → IsSourced db (more ++ old.history) → Reaches db old (more ++ old.history)
reaches_on db [] old ready some l s = record { moves = []; new = old; runs = refl; ready = ready; history_is = refl }
reaches_on db (r ∷ more) old ready some l s =
    let h = more ++ old.history in
    let holds = more_after more old.history some in
    step_on db r old h holds l s (reaches_on db more old ready some (prefix_legal (r ∷ []) h holds l) (sourced_after db r h s))

-- some opening moves on to the history
pub record Begins (db : Db) (history : List Record) : Type 0 where
  pub first : Content
  pub reaches : Reaches db (opening db first) history

opening_ready : (db : Db) (sources : Content) → Ready (opening db sources)
opening_ready db sources = record { fresh = 0; unused = λ b high. refl; holders = λ n was. elim was.0 [ inl same ↦ absurd (was.1 (sym same)) | inr none ↦ absurd none ] }

more_begun : (db : Db) (r x : Record) (h : List Record) → Legal (r ∷ x ∷ h) → IsSourced db (r ∷ x ∷ h) → Begins db (x ∷ h) → Begins db (r ∷ x ∷ h)
more_begun db r x h l s w = record { first = w.first; reaches = step_on db r (opening db w.first) (x ∷ h) (λ none. cc) l s w.reaches }

pub begins_with : (db : Db) (h : List Record) → Legal h → IsSourced db h → Begins db h
begins_with db [] l s = absurd l
begins_with db (Change v c ∷ []) l s = record {
  first = s.1.0;
  reaches = record {
    moves = [];
    new = opening db s.1.0;
    runs = refl;
    ready = opening_ready db s.1.0;
    history_is = ap (λ (k : ℕ). Change k (part_of db s.1.0) ∷ []) (sym l) ∙ ap (λ (x : Content). Change v x ∷ []) (sym s.1.1);
  };
}
begins_with db (Poll v ∷ []) l s = absurd l.0
begins_with db (Load e ∷ []) l s = absurd l.0
begins_with db (End n cause ∷ []) l s = absurd l.0
begins_with db (Invalid n ∷ []) l s = absurd l.0
begins_with db (r ∷ x ∷ h) l s = more_begun db r x h l s (begins_with db (x ∷ h) (prefix_legal (r ∷ []) (x ∷ h) (λ none. cc) l) (sourced_after db r (x ∷ h) s))

pub legal_run : (db : Db) (history : List Record) → Legal history → IsSourced db history → IsRun db history
legal_run db history l s =
    let w = begins_with db history l s in
    record { first = w.first; moves = w.reaches.moves; core = w.reaches.new; runs = w.reaches.runs; history_is = w.reaches.history_is }
