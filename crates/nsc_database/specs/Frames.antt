-- What a call leaves of a pass.
use Rattle.std.specs.Prelude.{◌≡◌, ◌≤◌, ℕ, All, List}
use Rattle.std.specs.Option.{is_some}
use Rattle.nsc_model.specs.declared.answer.Request.{Request}
use Rattle.nsc_model.specs.declared.in_place.InPlace.{InPlace}
use Rattle.nsc_model.specs.InPlace.{InPlaceClause}
use Rattle.nsc_model.specs.History.{IsFit, IsPrefix, Legal}
use Rattle.nsc_model.specs.Stores.{FoundLastCycle, PassAt}
use Rattle.nsc_outside.specs.declared.files.FileSet as file_set
use Rattle.nsc_database.specs.declared.room.Room as room
use Rattle.nsc_database.specs.declared.pass.DbPass.{DbPass}

-- it is of the same database, and has seen more of the same history
pub record Goes {F B : Type 0} {G : file_set.Ghosts F} {R : room.Ghosts B} (p p' : DbPass F B G R) : Type 0 where
  pub db : p'.db ≡ p.db
  pub before : IsPrefix p.pass.seen p'.pass.seen
  pub legal : Legal p'.pass.seen
  pub fit : All IsFit p'.pass.seen
  pub searches : p.pass.searching.searches ≤ p'.pass.searching.searches

-- the same, and it has read no file, as under a hold of the writer's lock
pub record Held {F B : Type 0} {G : file_set.Ghosts F} {R : room.Ghosts B} (p p' : DbPass F B G R) : Type 0 where
  pub db : p'.db ≡ p.db
  pub files : p'.files ≡ p.files
  pub before : IsPrefix p.pass.seen p'.pass.seen
  pub legal : Legal p'.pass.seen
  pub fit : All IsFit p'.pass.seen
  pub searches : p.pass.searching.searches ≤ p'.pass.searching.searches

-- it loaded CYCLE as 2^62 in the call, at which there are no more compactions
abbrev pub LoadedLastCycle : {F B : Type 0} {G : file_set.Ghosts F} {R : room.Ghosts B} → DbPass F B G R → DbPass F B G R → Type 0
LoadedLastCycle p p' = FoundLastCycle p.pass.searching.searches p'.pass.searching.searches p'.pass.searching.last

-- what a search without a lock gives it: the answer, and the bytes that the buffer then holds
abbrev pub AnswersInPlace : {F B : Type 0} {G : file_set.Ghosts F} {R : room.Ghosts B} → DbPass F B G R → DbPass F B G R → Request → List ℕ → InPlace → Type 0
AnswersInPlace p p' request bytes answer = InPlaceClause p.pass.seen p'.pass.seen request p'.pass.searching.first p'.pass.searching.last bytes answer

-- what the trait of stores tells of it
abbrev pub pass_at : {F B : Type 0} {G : file_set.Ghosts F} {R : room.Ghosts B} → DbPass F B G R → PassAt
pass_at {F} {B} {G} {R} p = record {
  seen = p.pass.seen;
  made = p.made;
  faults = G.faults p.files;
  file_faults = G.file_faults p.files;
  reads = G.reads p.files;
  latest = G.latest p.files;
  searches = p.pass.searching.searches;
  first = p.pass.searching.first;
  last = p.pass.searching.last;
  words = p.pass.present.words;
  retired = is_some p.pass.retired;
}
