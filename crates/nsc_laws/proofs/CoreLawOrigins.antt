-- In every run of the core the records of the history have their origins.
use Rattle.std.proofs.Common.{◌≡◌, ℕ, ◌+◌, ◌<◌, ◌≤◌, Bool, true, false, cond, eqb, List, [], ◌∷◌, Some, refl, sym, subst, ◌∙◌, arith, inl, inr}
use Rattle.std.specs.Prelude.{None}
use Rattle.std.proofs.lemmas.Option.{none-some, same_Some}
use Rattle.nsc_model.specs.declared.kind.Db.{Db}
use Rattle.nsc_model.specs.declared.record.Ending.TheVariants.{Invalidated}
use Rattle.nsc_model.specs.declared.record.Record.{Record}
use Rattle.nsc_model.specs.declared.record.Record.TheVariants.{Change, Poll, Load, End, Invalid}
use Rattle.nsc_model.specs.Content.{Content}
use Rattle.nsc_model.specs.Files.{part_of}
use Rattle.nsc_model.specs.Entry.{Entry}
use Rattle.nsc_model.specs.History.{changes, invalidations}
use Rattle.nsc_laws.specs.Core.{Caller, Core, new_caller, opening, with_caller, Move, Files, Begin, Look, Note, Fetch, PollStep, Insert, Finish, Empty, Compact, Reply, IsPoll, ended_all, IsMove, AreMoves}
use Rattle.nsc_laws.specs.Origins.{IsRead, HasPoll, IsSourced}
use Rattle.nsc_laws.proofs.CoreLaw.{changed, begun, taking, noting, fetching, polling, after_poll}
use Rattle.nsc_laws.proofs.CoreLawRecords.{changes_rise}

-- what a caller fetched was read of some files, and the first version has a poll where a caller polled it
record Knows (db : Db) (history : List Record) (c : Caller) : Type 0 where
  polled : (n : ℕ) → c.version ≡ Some n → n ≡ 0 → HasPoll history n
  read : (content : Content) → c.fetched ≡ Some content → IsRead db content

record Founded (db : Db) (core : Core) : Type 0 where
  begun_with : 0 < changes core.history
  sourced : IsSourced db core.history
  knows : (a : ℕ) → Knows db core.history (core.callers a)

-- ---- more records

polled_more : (r : Record) (h : List Record) (n : ℕ) → HasPoll h n → HasPoll (r ∷ h) n
polled_more (Change v c) h n p = p
polled_more (Poll v) h n p = inr p
polled_more (Load f) h n p = p
polled_more (End m cause) h n p = p
polled_more (Invalid m) h n p = p

knows_more : (db : Db) (r : Record) (h : List Record) (c : Caller) → Knows db h c → Knows db (r ∷ h) c
knows_more db r h c w = record { polled = λ n is first. polled_more r h n (w.polled n is first); read = w.read }

abbrev gaining : Core → Record → Core
gaining core r = record core { history = r ∷ core.history }

begun_more : (r : Record) (h : List Record) → 0 < changes h → 0 < changes (r ∷ h)
begun_more r h some = let rise : changes h ≤ changes (r ∷ h) = changes_rise r h in omega arith

founded_more : (db : Db) (core : Core) (r : Record) → Founded db core → IsSourced db (r ∷ core.history) → Founded db (gaining core r)
founded_more db core r f s = record { begun_with = begun_more r core.history f.begun_with; sourced = s; knows = λ a. knows_more db r core.history (core.callers a) (f.knows a) }

founded_ended : (db : Db) (entries : List Entry) (core : Core) → Founded db core → Founded db (record core { history = ended_all entries core.history })
founded_ended db [] core f = record { begun_with = f.begun_with; sourced = f.sourced; knows = f.knows }
founded_ended db (e ∷ entries) core f = founded_ended db entries (gaining core (End e.number Invalidated)) (founded_more db core (End e.number Invalidated) f f.sourced)

-- ---- one caller

knows_with : (db : Db) (h : List Record) (callers : ℕ → Caller) (a : ℕ) (c : Caller) → Knows db h c → ((b : ℕ) → Knows db h (callers b)) → (b : ℕ) → Knows db h (with_caller callers a c b)
knows_with db h callers a c own others b = by_test (eqb a b) where
  by_test : (same : Bool) → Knows db h (cond same c (callers b))
  by_test true = own
  by_test false = others b

becomes : (db : Db) (core : Core) (a : ℕ) (c : Caller) → Founded db core → Knows db core.history c → Founded db (changed core a c)
becomes db core a c f own = record { begun_with = f.begun_with; sourced = f.sourced; knows = knows_with db core.history core.callers a c own f.knows }

-- a caller that differs only in its call knows as much
same_known : (db : Db) (h : List Record) (c d : Caller) → d.version ≡ c.version → d.fetched ≡ c.fetched → Knows db h c → Knows db h d
same_known db h c d version fetched w = record { polled = λ n is. w.polled n (sym version ∙ is); read = λ content is. w.read content (sym fetched ∙ is) }

notes : (db : Db) (h : List Record) (c : Caller) → Knows db h (noting c (invalidations h))
notes db h c = record { polled = λ n is. absurd (none-some n is); read = λ content is. absurd (none-some content is) }

fetches : (db : Db) (h : List Record) (c : Caller) (sources : Content) → Knows db h c → Knows db h (fetching c (part_of db sources))
fetches db h c sources w = record { polled = w.polled; read = λ content is. (sources, sym (same_Some (part_of db sources) content is)) }

-- ---- a poll

-- a poll that finds the first version is no change
first_polled : (h : List Record) (content : Content) (poll : Record) (n : ℕ) → 0 < changes h → IsPoll h content poll n → n ≡ 0 → HasPoll (poll ∷ h) n
first_polled h content poll n some (inl same) first = subst (λ (r : Record). HasPoll (r ∷ h) n) (sym same.2) (inl refl)
first_polled h content poll n some (inr other) first = let new : n ≡ changes h = other.1 in absurd (omega arith)

poll_sourced : (db : Db) (h : List Record) (content : Content) (poll : Record) (n : ℕ) → IsSourced db h → IsRead db content → IsPoll h content poll n → IsSourced db (poll ∷ h)
poll_sourced db h content poll n s read (inl same) = subst (λ (r : Record). IsSourced db (r ∷ h)) (sym same.2) s
poll_sourced db h content poll n s read (inr other) = subst (λ (r : Record). IsSourced db (r ∷ h)) (sym other.2) (s, read)

polls : (db : Db) (h : List Record) (c : Caller) (poll : Record) (n : ℕ) → (n ≡ 0 → HasPoll (poll ∷ h) n) → Knows db h c → Knows db (poll ∷ h) (polling c n)
polls db h c poll n polled w = record { polled = λ m is. subst (λ (x : ℕ). x ≡ 0 → HasPoll (poll ∷ h) x) (same_Some n m is) polled; read = w.read }

poll_founded : (db : Db) (core : Core) (a : ℕ) (content : Content) (poll : Record) (n : ℕ) → Founded db core → (core.callers a).fetched ≡ Some content → IsPoll core.history content poll n → Founded db (after_poll core a poll n)
poll_founded db core a content poll n f fetched is =
    let h = core.history in
    record {
      begun_with = begun_more poll h f.begun_with;
      sourced = poll_sourced db h content poll n f.sourced ((f.knows a).read content fetched) is;
      knows = knows_with db (poll ∷ h) core.callers a (polling (core.callers a) n) (polls db h (core.callers a) poll n (first_polled h content poll n f.begun_with is) (f.knows a))
          (λ b. knows_more db poll h (core.callers b) (f.knows b));
    }

-- ---- moves and runs

kept : (db : Db) (move : Move) (old new : Core) → Founded db old → IsMove db move old new → Founded db new
kept db (Files content) old new f m = subst (Founded db) (sym m) (record { begun_with = f.begun_with; sourced = f.sourced; knows = f.knows })
kept db (Begin a request seen) old new f m = subst (Founded db) (sym m.2) (becomes db old a (begun (old.callers a) request seen) f (same_known db old.history (old.callers a) (begun (old.callers a) request seen) refl refl (f.knows a)))
kept db (Look a None) old new f m = subst (Founded db) (sym m) (becomes db old a (record (old.callers a) { taken = None }) f (same_known db old.history (old.callers a) (record (old.callers a) { taken = None }) refl refl (f.knows a)))
kept db (Look a (Some e)) old new f m = subst (Founded db) (sym m.2) (becomes db old a (taking (old.callers a) e) f (same_known db old.history (old.callers a) (taking (old.callers a) e) refl refl (f.knows a)))
kept db (Note a) old new f m = subst (Founded db) (sym m) (becomes db old a (noting (old.callers a) (invalidations old.history)) f (notes db old.history (old.callers a)))
kept db (Fetch a) old new f m = subst (Founded db) (sym m.1) (becomes db old a (fetching (old.callers a) (part_of db old.sources)) f (fetches db old.history (old.callers a) old.sources (f.knows a)))
kept db (PollStep a) old new f m = subst (Founded db) (sym m.5) (poll_founded db old a m.0 m.1 m.2 f m.3 m.4)
kept db (Insert a request timeout) old new f (inl m) =
    subst (Founded db) (sym m.2) (founded_more db old (Load m.0) f (f.sourced, (f.knows a).polled m.0.version m.1.version_is))
kept db (Insert a request timeout) old new f (inr m) = subst (Founded db) (sym m.1) f
kept db (Finish number cause) old new f m = subst (Founded db) (sym m.4) (founded_more db old (End number cause) f f.sourced)
kept db Empty old new f m =
    let mid = record old { history = ended_all m.0 old.history } in
    let ended = founded_ended db m.0 old f in
    subst (Founded db) (sym m.2) (founded_more db mid (Invalid (invalidations old.history + 1)) ended ended.sourced)
kept db Compact old new f m = subst (Founded db) (sym m) f
kept db (Reply a bytes) old new f m = subst (Founded db) (sym m.1) f

run_kept : (db : Db) (moves : List Move) (old new : Core) → Founded db old → AreMoves db moves old new → Founded db new
run_kept db [] old new f r = subst (Founded db) (sym r) f
run_kept db (move ∷ moves) old new f r = run_kept db moves r.0 new (kept db move old r.0 f r.1) r.2

new_knows : (db : Db) (h : List Record) → Knows db h new_caller
new_knows db h = record { polled = λ n is. absurd (none-some n is); read = λ content is. absurd (none-some content is) }

opening_founded : (db : Db) (sources : Content) → Founded db (opening db sources)
opening_founded db sources = record { begun_with = omega arith; sourced = (tt, (sources, refl)); knows = λ a. new_knows db (Change 0 (part_of db sources) ∷ []) }

pub sourced_law : (db : Db) (sources : Content) (moves : List Move) (new : Core) → AreMoves db moves (opening db sources) new → IsSourced db new.history
sourced_law db sources moves new r = (run_kept db moves (opening db sources) new (opening_founded db sources) r).sourced
