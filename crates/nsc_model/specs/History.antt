-- The history of a database: a list of records, the newest first.
use Rattle.std.specs.Prelude.{◌≡◌, ◌≢◌, ℕ, ◌+◌, ◌<◌, ◌≤◌, ◌==◌, if◌then◌else◌, List, [], ◌∷◌, ◌++◌, length, Option, Some, None, ◌⊎◌}
use Rattle.nsc_model.specs.declared.answer.Request.{Request}
use Rattle.nsc_model.specs.declared.record.Ending.{Ending}
use Rattle.nsc_model.specs.declared.record.Ending.TheVariants.{Expired, Invalidated, Replaced}
use Rattle.nsc_model.specs.declared.record.Record.{Record}
use Rattle.nsc_model.specs.declared.record.Record.TheVariants.{Change, Poll, Load, End, Invalid}
use Rattle.nsc_model.specs.Content.{Content}
use Rattle.nsc_model.specs.Files.{FilesFit}
use Rattle.nsc_model.specs.Entry.{Entry}
use Rattle.nsc_model.specs.Answers.{answer_of}

-- how many versions, entries and invalidations a history has
abbrev pub changes : List Record → ℕ
changes [] = 0
changes (Change version content ∷ before) = changes before + 1
changes (Poll version ∷ before) = changes before
changes (Load entry ∷ before) = changes before
changes (End number cause ∷ before) = changes before
changes (Invalid epoch ∷ before) = changes before

abbrev pub loads : List Record → ℕ
loads [] = 0
loads (Change version content ∷ before) = loads before
loads (Poll version ∷ before) = loads before
loads (Load entry ∷ before) = loads before + 1
loads (End number cause ∷ before) = loads before
loads (Invalid epoch ∷ before) = loads before

abbrev pub invalidations : List Record → ℕ
invalidations [] = 0
invalidations (Change version content ∷ before) = invalidations before
invalidations (Poll version ∷ before) = invalidations before
invalidations (Load entry ∷ before) = invalidations before
invalidations (End number cause ∷ before) = invalidations before
invalidations (Invalid epoch ∷ before) = invalidations before + 1

-- the content of the newest version
abbrev pub newest : List Record → Option Content
newest [] = None
newest (Change version content ∷ before) = Some content
newest (Poll version ∷ before) = newest before
newest (Load entry ∷ before) = newest before
newest (End number cause ∷ before) = newest before
newest (Invalid epoch ∷ before) = newest before

-- the content of a version
abbrev pub version_in : List Record → ℕ → Option Content
version_in [] n = None
version_in (Change version content ∷ before) n = if version == n then Some content else version_in before n
version_in (Poll version ∷ before) n = version_in before n
version_in (Load entry ∷ before) n = version_in before n
version_in (End number cause ∷ before) n = version_in before n
version_in (Invalid epoch ∷ before) n = version_in before n

-- the entry was inserted
abbrev pub HasLoad : List Record → Entry → Type 0
HasLoad [] e = ⊥
HasLoad (Change version content ∷ before) e = HasLoad before e
HasLoad (Poll version ∷ before) e = HasLoad before e
HasLoad (Load entry ∷ before) e = (entry ≡ e) ⊎ HasLoad before e
HasLoad (End number cause ∷ before) e = HasLoad before e
HasLoad (Invalid epoch ∷ before) e = HasLoad before e

-- the entry of this number ended
abbrev pub HasEnd : List Record → ℕ → Type 0
HasEnd [] n = ⊥
HasEnd (Change version content ∷ before) n = HasEnd before n
HasEnd (Poll version ∷ before) n = HasEnd before n
HasEnd (Load entry ∷ before) n = HasEnd before n
HasEnd (End number cause ∷ before) n = (number ≡ n) ⊎ HasEnd before n
HasEnd (Invalid epoch ∷ before) n = HasEnd before n

-- live: inserted and not ended
pub record IsLive (history : List Record) (e : Entry) : Type 0 where
  pub inserted : HasLoad history e
  pub not_ended : HasEnd history e.number → ⊥

-- of the entries that were inserted and answer the request, none is live
abbrev pub NoneLiveOf : List Record → Request → Type 0
NoneLiveOf history request = (e : Entry) → HasLoad history e → e.request ≡ request → HasEnd history e.number

abbrev pub NoneLive : List Record → Type 0
NoneLive history = (e : Entry) → HasLoad history e → HasEnd history e.number

-- the version was looked at after the last invalidation, or at any time where there was none
abbrev pub WasPolled : List Record → ℕ → Type 0
WasPolled [] n = ⊥
WasPolled (Change version content ∷ before) n = (version ≡ n) ⊎ WasPolled before n
WasPolled (Poll version ∷ before) n = (version ≡ n) ⊎ WasPolled before n
WasPolled (Load entry ∷ before) n = WasPolled before n
WasPolled (End number cause ∷ before) n = WasPolled before n
WasPolled (Invalid epoch ∷ before) n = ⊥

-- a cause lets an entry end: time ends it only where it is over
abbrev pub Allows : Ending → Entry → Type 0
Allows (Expired now) e = e.timeout < now
Allows Invalidated e = Unit {0}
Allows Replaced e = Unit {0}

-- the version has a content over which the entry's answer is the answer
abbrev pub IsTrueAnswer : List Record → Entry → Type 0
IsTrueAnswer history e = (files : Content) × (version_in history e.version ≡ Some files) × (e.answer ≡ answer_of files e.request)

-- the entry of a number
abbrev pub load_of : List Record → ℕ → Option Entry
load_of [] n = None
load_of (Change version content ∷ before) n = load_of before n
load_of (Poll version ∷ before) n = load_of before n
load_of (Load entry ∷ before) n = if entry.number == n then Some entry else load_of before n
load_of (End number cause ∷ before) n = load_of before n
load_of (Invalid epoch ∷ before) n = load_of before n

-- a history as a cache may make it, record by record
abbrev pub Legal : List Record → Type 0
Legal [] = ⊥
Legal (Change version content ∷ []) = version ≡ 0
Legal (Change version content ∷ record' ∷ before) =
    Legal (record' ∷ before) × (version ≡ changes (record' ∷ before)) × (newest (record' ∷ before) ≢ Some content)
Legal (Poll version ∷ before) = Legal before × (version + 1 ≡ changes before)
Legal (Load entry ∷ before) =
    Legal before × (entry.number ≡ loads before) × NoneLiveOf before entry.request × IsTrueAnswer before entry × WasPolled before entry.version
Legal (End number cause ∷ before) = Legal before × (e : Entry) × IsLive before e × (e.number ≡ number) × Allows cause e
Legal (Invalid epoch ∷ before) = Legal before × (epoch ≡ invalidations before + 1) × NoneLive before

-- no file of the version is longer than a file may be, where the record is a version
abbrev pub IsFit : Record → Type 0
IsFit (Change version content) = FilesFit content
IsFit (Poll version) = Unit {0}
IsFit (Load entry) = Unit {0}
IsFit (End number cause) = Unit {0}
IsFit (Invalid epoch) = Unit {0}

-- the first of two histories is where the second began
abbrev pub IsPrefix : List Record → List Record → Type 0
IsPrefix seen history = (more : List Record) × (history ≡ more ++ seen)

-- the reply is of an entry that its caller had not seen to end
pub record FromEntry (seen history : List Record) (request : Request) (bytes : List ℕ) : Type 0 where
  pub entry_is : Entry
  pub inserted : HasLoad history entry_is
  pub answers : entry_is.request ≡ request
  pub said : entry_is.answer.bytes ≡ bytes
  pub not_seen_to_end : HasEnd seen entry_is.number → ⊥

-- the newest record looked at this version
abbrev pub LooksAt : List Record → ℕ → Type 0
LooksAt [] n = ⊥
LooksAt (Change version content ∷ before) n = version ≡ n
LooksAt (Poll version ∷ before) n = version ≡ n
LooksAt (Load entry ∷ before) n = ⊥
LooksAt (End number cause ∷ before) n = ⊥
LooksAt (Invalid epoch ∷ before) n = ⊥

-- each entry that was inserted for the request in the first of two histories is ended in the second
abbrev pub EndedAfter : List Record → List Record → Request → Type 0
EndedAfter seen history request = (e : Entry) → HasLoad seen e → e.request ≡ request → HasEnd history e.number

-- the version was looked at in the second of two histories, after the first
abbrev pub LookedBetween : List Record → List Record → ℕ → Type 0
LookedBetween seen history n = (moment : List Record) × IsPrefix moment history × (length seen < length moment) × LooksAt moment n

-- the version was looked at after at least `epoch` invalidations
abbrev pub PolledSince : List Record → ℕ → ℕ → Type 0
PolledSince history n epoch = (moment : List Record) × IsPrefix moment history × LooksAt moment n × (epoch ≤ invalidations moment)

-- the reply is the answer over a version that was looked at during the call
pub record FromPoll (seen history : List Record) (request : Request) (bytes : List ℕ) : Type 0 where
  pub version_is : ℕ
  pub files_are : Content
  pub moment : List Record
  pub is_moment : IsPrefix moment history
  pub later : length seen < length moment
  pub looks : LooksAt moment version_is
  pub holds : version_in history version_is ≡ Some files_are
  pub said : (answer_of files_are request).bytes ≡ bytes

-- a reply to a call whose caller had seen this much at its beginning
pub record Answered (seen history : List Record) (request : Request) (bytes : List ℕ) : Type 0 where
  pub seen_before : IsPrefix seen history
  pub source : FromEntry seen history request bytes ⊎ FromPoll seen history request bytes
