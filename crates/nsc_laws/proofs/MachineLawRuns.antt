-- The law of whole runs of the machine: in each the history stays legal, and each reply is an answer.
use Rattle.std.proofs.Common.{ℕ, List, [], ◌∷◌, subst}
use Rattle.std.specs.Prelude.{Option, Result, Ok, Err}
use Rattle.nsc_model.specs.declared.kind.Db.{Db}
use Rattle.nsc_model.specs.declared.answer.Request.{Request}
use Rattle.nsc_model.specs.declared.record.Record.{Record}
use Rattle.nsc_model.specs.declared.record.Record.TheVariants.{Change}
use Rattle.nsc_model.specs.Content.{Content}
use Rattle.nsc_model.specs.Files.{part_of}
use Rattle.nsc_model.specs.declared.conf.DbConf.{DbConf}
use Rattle.nsc_model.specs.History.{Legal, Answered}
use Rattle.nsc_laws.specs.Core.{Core, opening}
use Rattle.nsc_model.specs.Machine.{Cache, new_cache, Passed, Stopped, Turn, lookup, tick, ticked_by, invalidated}
use Rattle.nsc_laws.specs.Calls.{Drives, PassesBy, TurnsBy, Event, Lookup, Tick, Invalidation, AnsweredThen, LegalThen, EachAnswered}
use Rattle.nsc_laws.proofs.MachineLaw.{opening_drives, files_drive, lookup_turns, tick_passes, invalidation_passes}

-- what comes after an event, in each core that the caller drives there
abbrev Onward : Db → (Cache → List Record → Type 0) → Type 0
Onward db others = (new : Core) (cache : Cache) → Drives db 0 new cache → others cache new.history

answered_then : (db : Db) (others : Cache → List Record → Type 0) (old : Core) (request : Request) (r : Result Turn Stopped) → TurnsBy db 0 old request r → Onward db others → AnsweredThen others old.history request r
answered_then db others old request (Ok turn) w next =
    let m = w.1.moved in
    (subst (λ (h : List Record). Answered old.history h request turn.reply) m.history_is w.1.answered, subst (others turn.cache) m.history_is (next w.0 turn.cache m.drives))
answered_then db others old request (Err stop) w next = subst Legal w.1.history_is w.1.drives.tells.legal

legal_then : (db : Db) (others : Cache → List Record → Type 0) (old : Core) (r : Result Passed Stopped) → PassesBy db 0 old r → Onward db others → LegalThen others old.history r
legal_then db others old (Ok passed) w next = subst (others passed.cache) w.1.history_is (next w.0 passed.cache w.1.drives)
legal_then db others old (Err stop) w next = subst Legal w.1.history_is w.1.drives.tells.legal

each_answered : (db : Db) (settings : DbConf) (reloads : Option ℕ) (events : List Event) (ticked : ℕ) (core : Core) (cache : Cache) → Drives db 0 core cache → EachAnswered db settings reloads events ticked cache core.history
each_answered db settings reloads [] ticked core cache d = d.tells.legal
each_answered db settings reloads (Lookup content now request ∷ events) ticked core cache d = (
  d.tells.legal,
  answered_then db (EachAnswered db settings reloads events ticked) (record core { sources = content }) request (lookup settings now (part_of db content) request cache)
      (lookup_turns db 0 settings now request (record core { sources = content }) cache (files_drive db 0 core cache content d)) (λ new after e. each_answered db settings reloads events ticked new after e),
)
each_answered db settings reloads (Tick content now ∷ events) ticked core cache d = (
  d.tells.legal,
  legal_then db (λ after. EachAnswered db settings reloads events (ticked_by settings ticked after) after) (record core { sources = content }) (tick settings reloads now (part_of db content) ticked cache)
      (tick_passes db 0 settings reloads now ticked (record core { sources = content }) cache (files_drive db 0 core cache content d)) (λ new after e. each_answered db settings reloads events (ticked_by settings ticked after) new after e),
)
each_answered db settings reloads (Invalidation ∷ events) ticked core cache d =
    (d.tells.legal, legal_then db (EachAnswered db settings reloads events ticked) core (invalidated cache) (invalidation_passes db 0 core cache d) (λ new after e. each_answered db settings reloads events ticked new after e))

pub runs_law : (db : Db) (settings : DbConf) (reloads : Option ℕ) (sources : Content) (events : List Event) → EachAnswered db settings reloads events 0 (new_cache (part_of db sources)) (Change 0 (part_of db sources) ∷ [])
runs_law db settings reloads sources events = each_answered db settings reloads events 0 (opening db sources) (new_cache (part_of db sources)) (opening_drives db 0 sources)
