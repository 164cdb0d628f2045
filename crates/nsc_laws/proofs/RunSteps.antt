-- Each record that a legal history gains is made by moves of the core: how a new caller looks at a version.
use Rattle.std.proofs.Common.{◌≡◌, ◌≢◌, ℕ, ◌+◌, ◌<◌, ◌≤◌, false, eqb, List, [], ◌∷◌, refl, sym, ap, subst, ◌∙◌, arith, inl, inr}
use Rattle.std.specs.Prelude.{◌⊎◌, Option, Some}
use Rattle.std.proofs.lemmas.Bool.{ne_eqb}
use Rattle.std.proofs.lemmas.List.{append-nil}
use Rattle.nsc_model.specs.declared.kind.Db.{Db}
use Rattle.nsc_model.specs.declared.answer.Request.{Request}
use Rattle.nsc_model.specs.declared.record.Record.{Record}
use Rattle.nsc_model.specs.Content.{Content}
use Rattle.nsc_model.specs.Files.{part_of}
use Rattle.nsc_model.specs.History.{invalidations, WasPolled, IsPrefix}
use Rattle.nsc_laws.specs.Core.{Caller, Core, new_caller, with_caller, Move, Files, Begin, Note, Fetch, PollStep, IsPoll, AreMoves}
use Rattle.nsc_laws.specs.Origins.{HasPoll}
use Rattle.nsc_laws.proofs.CoreLaw.{changed, begun, noting, fetching, polling, after_poll}
use Rattle.nsc_laws.proofs.CoreLawRecords.{prefix_more}
use Rattle.nsc_laws.proofs.MachineLawSteps.{at_own}

-- a caller that may insert entries of the version
pub record Holder (core : Core) (fresh n : ℕ) : Type 0 where
  pub caller : ℕ
  pub known : caller < fresh
  pub version_is : (core.callers caller).version ≡ Some n
  pub noted_is : (core.callers caller).noted ≡ Some (invalidations core.history)
  pub seen_before : IsPrefix (core.callers caller).seen core.history

-- the version was looked at since the last invalidation, and not only by the record that begins the history
abbrev pub WasAsked : List Record → ℕ → Type 0
WasAsked history n = WasPolled history n × (n ≡ 0 → HasPoll history n)

-- from some number on every caller is new, and each version that was looked at since the last invalidation has a caller
pub record Ready (core : Core) : Type 0 where
  pub fresh : ℕ
  pub unused : (b : ℕ) → fresh ≤ b → core.callers b ≡ new_caller
  pub holders : (n : ℕ) → WasAsked core.history n → Holder core fresh n

-- ---- callers

pub other_callers : (callers : ℕ → Caller) (a b : ℕ) (c : Caller) → a ≢ b → with_caller callers a c b ≡ callers b
other_callers callers a b c other = let e : eqb a b ≡ false = ne_eqb a b other in rw e refl

-- ---- a caller that looks

abbrev over : Core → Content → Core
over core sources = record core { sources = sources }

abbrev pub begins : Core → ℕ → Option Request → List Record → Core
begins core a request seen = changed core a (begun (core.callers a) request seen)

abbrev notes : Core → ℕ → Core
notes core a = changed core a (noting (core.callers a) (invalidations core.history))

abbrev fetches : Db → Core → ℕ → Core
fetches db core a = changed core a (fetching (core.callers a) (part_of db core.sources))

-- the core before the poll
abbrev ready_to_poll : Db → Core → Content → ℕ → Option Request → List Record → Core
ready_to_poll db core sources a request seen = fetches db (notes (begins (over core sources) a request seen) a) a

abbrev looks_in : Db → Core → Content → ℕ → Option Request → List Record → Record → ℕ → Core
looks_in db core sources a request seen r n = after_poll (ready_to_poll db core sources a request seen) a r n

abbrev looking : Content → ℕ → Option Request → List Record → List Move
looking sources a request seen = Files sources ∷ Begin a request seen ∷ Note a ∷ Fetch a ∷ PollStep a ∷ []

look_runs : (db : Db) (core : Core) (sources : Content) (a : ℕ) (request : Option Request) (seen : List Record) (r : Record) (n : ℕ) → IsPrefix (core.callers a).seen seen → IsPrefix seen core.history → IsPoll core.history (part_of db sources) r n
    → AreMoves db (looking sources a request seen) core (looks_in db core sources a request seen r n)
look_runs db core sources a request seen r n p q poll =
    let c1 = over core sources in
    let c2 = begins c1 a request seen in
    let c3 = notes c2 a in
    let c4 = fetches db c3 a in
    let noted = ap (λ (c : Caller). c.noted) (at_own c2.callers a (noting (c2.callers a) (invalidations core.history))) in
    let fetched = ap (λ (c : Caller). c.fetched) (at_own c3.callers a (fetching (c3.callers a) (part_of db sources))) in
    (c1, refl, (c2, (p, q, refl), (c3, refl, (c4, ((invalidations core.history, noted), refl), (after_poll c4 a r n, (part_of db sources, r, n, fetched, poll, refl), refl)))))

abbrev looked_caller : Caller → ℕ → Content → Option Request → List Record → ℕ → Caller
looked_caller c epoch content request seen n = polling (fetching (noting (begun c request seen) epoch) content) n

-- the caller that looked, and the others
looked_is : (db : Db) (core : Core) (sources : Content) (a : ℕ) (request : Option Request) (seen : List Record) (r : Record) (n : ℕ)
    → (looks_in db core sources a request seen r n).callers a ≡ looked_caller (core.callers a) (invalidations core.history) (part_of db sources) request seen n
looked_is db core sources a request seen r n =
    let c2 = begins (over core sources) a request seen in
    let c3 = notes c2 a in
    let c4 = fetches db c3 a in
    let first = at_own core.callers a (begun (core.callers a) request seen) in
    let second = at_own c2.callers a (noting (c2.callers a) (invalidations core.history)) ∙ ap (λ (c : Caller). noting c (invalidations core.history)) first in
    let third = at_own c3.callers a (fetching (c3.callers a) (part_of db sources)) ∙ ap (λ (c : Caller). fetching c (part_of db sources)) second in
    at_own c4.callers a (polling (c4.callers a) n) ∙ ap (λ (c : Caller). polling c n) third

others_are : (db : Db) (core : Core) (sources : Content) (a : ℕ) (request : Option Request) (seen : List Record) (r : Record) (n b : ℕ) → a ≢ b → (looks_in db core sources a request seen r n).callers b ≡ core.callers b
others_are db core sources a request seen r n b other =
    let c2 = begins (over core sources) a request seen in
    let c3 = notes c2 a in
    let c4 = fetches db c3 a in
    other_callers c4.callers a b (polling (c4.callers a) n) other
    ∙ (other_callers c3.callers a b (fetching (c3.callers a) (part_of db sources)) other
    ∙ (other_callers c2.callers a b (noting (c2.callers a) (invalidations core.history)) other ∙ other_callers core.callers a b (begun (core.callers a) request seen) other))

-- ---- what is known after it

-- the newest record is of a look at the version
pub record IsNewest (r : Record) (h : List Record) (n : ℕ) : Type 0 where
  pub same_epoch : invalidations (r ∷ h) ≡ invalidations h
  pub asked : (m : ℕ) → WasAsked (r ∷ h) m → (n ≡ m) ⊎ WasAsked h m

abbrev given : ℕ → Option ℕ
given n = Some n

own_holder : (db : Db) (core : Core) (sources : Content) (a : ℕ) (request : Option Request) (seen : List Record) (r : Record) (n m : ℕ) → IsNewest r core.history n → IsPrefix seen core.history → n ≡ m → Holder (looks_in db core sources a request seen r n) (a + 1) m
own_holder db core sources a request seen r n m newest q same =
    let is = looked_is db core sources a request seen r n in
    record {
      caller = a;
      known = omega arith;
      version_is = ap (λ (c : Caller). c.version) is ∙ ap (λ (x : ℕ). given x) same;
      noted_is = ap (λ (c : Caller). c.noted) is ∙ ap (λ (x : ℕ). given x) (sym newest.same_epoch);
      seen_before = subst (λ (c : Caller). IsPrefix c.seen (r ∷ core.history)) (sym is) (prefix_more r seen core.history q);
    }

older_holder : (db : Db) (core : Core) (sources : Content) (a : ℕ) (request : Option Request) (seen : List Record) (r : Record) (n m : ℕ) → IsNewest r core.history n → Holder core a m → Holder (looks_in db core sources a request seen r n) (a + 1) m
older_holder db core sources a request seen r n m newest h =
    let low : h.caller < a = h.known in
    let is = others_are db core sources a request seen r n h.caller (λ same. omega arith) in
    record {
      caller = h.caller;
      known = omega arith;
      version_is = ap (λ (c : Caller). c.version) is ∙ h.version_is;
      noted_is = ap (λ (c : Caller). c.noted) is ∙ (h.noted_is ∙ ap (λ (x : ℕ). given x) (sym newest.same_epoch));
      seen_before = subst (λ (c : Caller). IsPrefix c.seen (r ∷ core.history)) (sym is) (prefix_more r (core.callers h.caller).seen core.history h.seen_before);
    }

looks_ready : (db : Db) (core : Core) (sources : Content) (request : Option Request) (seen : List Record) (r : Record) (n : ℕ) → (ready : Ready core) → IsNewest r core.history n → IsPrefix seen core.history → Ready (looks_in db core sources ready.fresh request seen r n)
looks_ready db core sources request seen r n ready newest q = record {
  fresh = ready.fresh + 1;
  unused = λ b high. others_are db core sources ready.fresh request seen r n b (λ same. omega arith) ∙ ready.unused b (omega arith);
  holders = λ m asked. elim (newest.asked m asked) [
    | inl same ↦ own_holder db core sources ready.fresh request seen r n m newest q same
    | inr before ↦ older_holder db core sources ready.fresh request seen r n m newest (ready.holders m before)
  ];
}

-- a new caller looks at the version, for a request or none, and has seen so much
pub record Looks (db : Db) (old : Core) (request : Option Request) (seen : List Record) (r : Record) (n : ℕ) : Type 0 where
  pub moves : List Move
  pub new : Core
  pub runs : AreMoves db moves old new
  pub ready : Ready new
  pub history_is : new.history ≡ r ∷ old.history
  pub caller : ℕ
  pub request_is : (new.callers caller).request ≡ request
  pub seen_is : (new.callers caller).seen ≡ seen
  pub asked_is : (new.callers caller).asked ≡ Some n

pub looks : (db : Db) (core : Core) (sources : Content) (request : Option Request) (seen : List Record) (r : Record) (n : ℕ) → Ready core → IsNewest r core.history n → IsPrefix seen core.history → IsPoll core.history (part_of db sources) r n → Looks db core request seen r n
looks db core sources request seen r n ready newest q poll =
    let a = ready.fresh in
    let is = looked_is db core sources a request seen r n in
    record {
      moves = looking sources a request seen;
      new = looks_in db core sources a request seen r n;
      runs = look_runs db core sources a request seen r n (subst (λ (c : Caller). IsPrefix c.seen seen) (sym (ready.unused a (omega arith))) (seen, sym (append-nil seen))) q poll;
      ready = looks_ready db core sources request seen r n ready newest q;
      history_is = refl;
      caller = a;
      request_is = ap (λ (c : Caller). c.request) is;
      seen_is = ap (λ (c : Caller). c.seen) is;
      asked_is = ap (λ (c : Caller). c.asked) is;
    }
