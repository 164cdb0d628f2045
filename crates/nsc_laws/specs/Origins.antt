-- Where the records of a history come from: contents from files, and entries of the first version from callers who polled it.
use Rattle.std.specs.Prelude.{◌≡◌, ◌⊎◌, ◌<◌, ℕ, List, [], ◌∷◌, length, Some}
use Rattle.std.proofs.Common.{inl, inr}
use Rattle.nsc_model.specs.declared.kind.Db.{Db}
use Rattle.nsc_model.specs.declared.answer.Request.{Request}
use Rattle.nsc_model.specs.declared.record.Record.{Record}
use Rattle.nsc_model.specs.declared.record.Record.TheVariants.{Change, Poll, Load, End, Invalid}
use Rattle.nsc_model.specs.Content.{Content}
use Rattle.nsc_model.specs.Files.{part_of}
use Rattle.nsc_model.specs.History.{Answered, FromEntry, FromPoll}
use Rattle.nsc_laws.specs.Core.{Core, Move, AreMoves, Replies, opening}

-- what the database reads of some files
abbrev pub IsRead : Db → Content → Type 0
IsRead db content = (sources : Content) × (content ≡ part_of db sources)

-- some caller found the version to be still the newest
abbrev pub HasPoll : List Record → ℕ → Type 0
HasPoll [] n = ⊥
HasPoll (Change version content ∷ before) n = HasPoll before n
HasPoll (Poll version ∷ before) n = (version ≡ n) ⊎ HasPoll before n
HasPoll (Load entry ∷ before) n = HasPoll before n
HasPoll (End number cause ∷ before) n = HasPoll before n
HasPoll (Invalid epoch ∷ before) n = HasPoll before n

-- each content is what the database reads of some files; and an entry of the first version stands after some caller's poll of
-- it, since the record that begins a history is no caller's
abbrev pub IsSourced : Db → List Record → Type 0
IsSourced db [] = Unit {0}
IsSourced db (Change version content ∷ before) = IsSourced db before × IsRead db content
IsSourced db (Poll version ∷ before) = IsSourced db before
IsSourced db (Load entry ∷ before) = IsSourced db before × (entry.version ≡ 0 → HasPoll before entry.version)
IsSourced db (End number cause ∷ before) = IsSourced db before
IsSourced db (Invalid epoch ∷ before) = IsSourced db before

-- an answer over a version is of a caller that looked at it, so not at the record that begins the history
abbrev pub IsOfCallers : {seen history : List Record} {request : Request} {bytes : List ℕ} → FromEntry seen history request bytes ⊎ FromPoll seen history request bytes → Type 0
IsOfCallers (inl from) = Unit {0}
IsOfCallers (inr from) = 1 < length from.moment

-- an answer that callers may get
pub record IsAnswer (seen history : List Record) (request : Request) (bytes : List ℕ) : Type 0 where
  pub answered : Answered seen history request bytes
  pub of_callers : IsOfCallers answered.source

-- some run from an opening makes this history
pub record IsRun (db : Db) (history : List Record) : Type 0 where
  pub first : Content
  pub moves : List Move
  pub core : Core
  pub runs : AreMoves db moves (opening db first) core
  pub history_is : core.history ≡ history

-- in some run that makes this history a caller asks, has seen so much at the start of its call, and may get this reply
pub record IsRunReply (db : Db) (seen history : List Record) (request : Request) (bytes : List ℕ) : Type 0 where
  pub first : Content
  pub moves : List Move
  pub core : Core
  pub runs : AreMoves db moves (opening db first) core
  pub caller : ℕ
  pub requested : (core.callers caller).request ≡ Some request
  pub seen_is : (core.callers caller).seen ≡ seen
  pub replies : Replies core caller bytes
  pub later : List Move
  pub new : Core
  pub runs_on : AreMoves db later core new
  pub history_is : new.history ≡ history
