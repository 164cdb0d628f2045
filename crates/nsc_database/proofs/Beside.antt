-- What a lookup inserts beside its own entry.
use Rattle.std.proofs.Common.{◌≡◌, ℕ, Bool, true, false, cond, List, Option, Some, None, refl, sym, ap, subst, ◌∙◌, arith}
use Rattle.std.specs.Prelude.{IfSome}
use Rattle.nsc_model.specs.declared.answer.Request.{Request}
use Rattle.nsc_model.specs.declared.conf.DbConf.{DbConf}
use Rattle.nsc_model.specs.declared.kind.Db.{Db}
use Rattle.nsc_model.specs.declared.kind.Kind.{Kind}
use Rattle.nsc_model.specs.declared.kind.Kind.TheVariants as kind
use Rattle.nsc_model.specs.declared.record.Record.{Record}
use Rattle.nsc_model.specs.declared.row.Looked.{Looked}
use Rattle.nsc_model.specs.declared.row.Looked.TheVariants.{Found}
use Rattle.nsc_model.specs.declared.row.Row.TheVariants as row
use Rattle.nsc_model.specs.Answers.{answer_of, id_request, looked_up, request_beside}
use Rattle.nsc_model.specs.Content.{Content}
use Rattle.nsc_model.specs.History.{IsPrefix, Legal, PolledSince, version_in}
use Rattle.nsc_model.specs.Kinds.{database_of}
use Rattle.nsc_turns.specs.declared.answering.Answering.{Answering}
use Rattle.nsc_turns.specs.Loads.{beside_of, loaded_id}
use Rattle.nsc_turns.specs.Turns.{InsertsBeside}
use Rattle.nsc_turns.proofs.Renewed.{answered_on}
use Rattle.nsc_writer.specs.declared.loaded.Inserted.{Inserted}
use Rattle.nsc_writer.specs.declared.loaded.Inserted.TheVariants as inserted
use Rattle.nsc_writer.specs.Loaded.{Loaded}
use Rattle.nsc_writer.specs.Writer.{Writer}
use Rattle.nsc_writer.proofs.Later.{load_on}
use Rattle.nsc_database.specs.Holds.{IsKept}
use Rattle.nsc_database.specs.Rests.{IsFirstLoad, IsLoadedOf, Rests}
use Rattle.nsc_database.specs.Ticks.{EndsInTime}
use Rattle.nsc_database.proofs.Reloading.{cycle_inserted}
use Rattle.nsc_database.proofs.Rests.{rests_inserted, rests_same}

-- ---- what it is

-- the request by id is of the same database
id_of : (k : Kind) (l : Looked) → IfSome (id_request k l) (λ id. database_of id.kind ≡ database_of k)
id_of kind.PwName (Found (row.Passwd p)) = refl
id_of kind.PwName l = tt
id_of kind.GrName (Found (row.Group g)) = refl
id_of kind.GrName l = tt
id_of k l = tt

pub beside_own : (which : Db) (a : Answering) (files : Content) (request : Request) → database_of request.kind ≡ which → EndsInTime a → IfSome (beside_of a files request) (IsLoadedOf which)
beside_own which a files request of soon = by_test a.settings.propagate where
  by_id : (o : Option Request) → IfSome o (λ id. database_of id.kind ≡ database_of request.kind) → IfSome (loaded_id a files o) (IsLoadedOf which)
  by_id None same = tt
  by_id (Some id) same = (same ∙ of, soon (answer_of files id))

  by_test : (b : Bool) → IfSome (cond b (loaded_id a files (request_beside files request)) None) (IsLoadedOf which)
  by_test true = by_id (request_beside files request) (id_of request.kind (looked_up files request))
  by_test false = tt

-- it may be inserted over a version that was polled
pub beside_first : (which : Db) (a : Answering) (files : Content) (request : Request) (h : List Record) → version_in h a.stamp.version ≡ Some files → PolledSince h a.stamp.version a.stamp.epoch → IfSome (beside_of a files request) (IsLoadedOf which) → IfSome (beside_of a files request) (IsFirstLoad which h)
beside_first which a files request h version since = by_test a.settings.propagate where
  by_id : (o : Option Request) → IfSome (loaded_id a files o) (IsLoadedOf which) → IfSome (loaded_id a files o) (IsFirstLoad which h)
  by_id None own = tt
  by_id (Some id) own = record { answered = record { files = files; version = version; answer = refl; polled = since }; new = refl; own = own }

  by_test : (b : Bool) → IfSome (cond b (loaded_id a files (request_beside files request)) None) (IsLoadedOf which) → IfSome (cond b (loaded_id a files (request_beside files request)) None) (IsFirstLoad which h)
  by_test true own = by_id (request_beside files request) own
  by_test false own = tt

-- as the history goes on
pub first_on : (which : Db) (a b : List Record) (o : Option Loaded) → Legal b → Legal a → IsPrefix a b → IfSome o (IsFirstLoad which a) → IfSome o (IsFirstLoad which b)
first_on which a b None legal legal_a p first = tt
first_on which a b (Some l) legal legal_a p first = record { answered = answered_on a b l legal legal_a p first.answered; new = first.new; own = first.own }

-- ---- its insertion

pub rests_beside : {which : Db} {brought : Request → ℕ} (said : Inserted) (o : Option Loaded) (h : List Record) (w w' : Writer) → InsertsBeside said o w w' → IfSome o (IsFirstLoad which h) → Rests which brought w w'
rests_beside (inserted.Done number) None h w w' is first = rests_same w w' is
rests_beside (inserted.Done number) (Some l) h w w' (said, i, why) first = rests_inserted said l w w' i (let none = first.new in omega arith) first.own
rests_beside (inserted.TooLarge size) o h w w' is first = rests_same w w' is
rests_beside (inserted.Discarded noted epoch) o h w w' is first = rests_same w w' is
rests_beside (inserted.Present number) o h w w' is first = rests_same w w' is
rests_beside (inserted.Spent count) o h w w' is first = rests_same w w' is
rests_beside (inserted.Full need free) o h w w' is first = rests_same w w' is

-- no compaction was made
pub cycle_beside : (said : Inserted) (o : Option Loaded) (w w' : Writer) → InsertsBeside said o w w' → w'.cache.cycle ≡ w.cache.cycle
cycle_beside (inserted.Done number) None w w' is = ap (λ (x : Writer). x.cache.cycle) is
cycle_beside (inserted.Done number) (Some l) w w' (said, i, why) = cycle_inserted said l w w' i
cycle_beside (inserted.TooLarge size) o w w' is = ap (λ (x : Writer). x.cache.cycle) is
cycle_beside (inserted.Discarded noted epoch) o w w' is = ap (λ (x : Writer). x.cache.cycle) is
cycle_beside (inserted.Present number) o w w' is = ap (λ (x : Writer). x.cache.cycle) is
cycle_beside (inserted.Spent count) o w w' is = ap (λ (x : Writer). x.cache.cycle) is
cycle_beside (inserted.Full need free) o w w' is = ap (λ (x : Writer). x.cache.cycle) is

-- what became of the first insertion is known still
pub kept_beside : (settings : DbConf) (words : ℕ) (last_cycle : Type 0) (said : Inserted) (loaded : Loaded) (seen : List Record) (o : Option Loaded) (w w' : Writer) → InsertsBeside said o w w' → IsPrefix w.seen w'.seen
    → IsKept settings words last_cycle said loaded seen w.seen → IsKept settings words last_cycle said loaded seen w'.seen
kept_beside settings words last_cycle (inserted.Done number) loaded seen o w w' b on i = (load_on w.seen w'.seen _ on i.0, i.1)
kept_beside settings words last_cycle (inserted.TooLarge size) loaded seen o w w' same on i = i
kept_beside settings words last_cycle (inserted.Discarded noted epoch) loaded seen o w w' same on i = subst (λ (x : Writer). IsKept settings words last_cycle (inserted.Discarded noted epoch) loaded seen x.seen) (sym same) i
kept_beside settings words last_cycle (inserted.Present number) loaded seen o w w' same on i = subst (λ (x : Writer). IsKept settings words last_cycle (inserted.Present number) loaded seen x.seen) (sym same) i
kept_beside settings words last_cycle (inserted.Spent count) loaded seen o w w' same on i = subst (λ (x : Writer). IsKept settings words last_cycle (inserted.Spent count) loaded seen x.seen) (sym same) i
kept_beside settings words last_cycle (inserted.Full need free) loaded seen o w w' same on i = subst (λ (x : Writer). IsKept settings words last_cycle (inserted.Full need free) loaded seen x.seen) (sym same) i
