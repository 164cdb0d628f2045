-- What a search knows at each of its stages. What it was told of the entry on which it stands holds where it is steady: where CYCLE, at
-- its latest load, was still what it began with. Its last load tells whether it was.
use Rattle.std.specs.Prelude.{◌≡◌, ◌≢◌, ℕ, ◌+◌, ◌-◌, ◌*◌, ◌/◌, ◌%◌, ◌<◌, ◌≤◌, ◌^◌, Bool, List, length, take, Option, Some, None}
use Rattle.nsc_base.specs.Nodes.{words_for}
use Rattle.nsc_words.specs.declared.layout.Layout.{Layout}
use Rattle.nsc_words.specs.Layout.{table_words}
use Rattle.nsc_words.specs.Packing.{size_word}
use Rattle.nsc_words.specs.Words.{word_of}
use Rattle.nsc_model.specs.Entry.{Entry, kept_limit}
use Rattle.nsc_model.specs.History.{IsLive, IsPrefix}
use Rattle.nsc_model.specs.declared.answer.Request.{Request}
use Rattle.nsc_model.specs.declared.kind.Kind.{Kind}
use Rattle.nsc_model.specs.declared.record.Record.{Record}
use Rattle.nsc_rule.specs.Entries.{request_bucket}
use Rattle.nsc_rule.specs.Pass.{Pass}
use Rattle.nsc_rule.specs.Searches.{IsSteady, IsWithin, MayPass}
use Rattle.nsc_model.specs.declared.in_place.InPlace.{InPlace}
use Rattle.nsc_model.specs.declared.in_place.InPlace.TheVariants.{Hit, Odd, Moved, NoEntry}
use Rattle.nsc_reader.specs.declared.stage.Progress.{Progress}
use Rattle.nsc_reader.specs.declared.stage.Progress.TheVariants.{New, Under, Answered}
use Rattle.nsc_reader.specs.declared.stage.Stage.{Stage}
use Rattle.nsc_reader.specs.declared.stage.Stage.TheVariants.{Bucket, FirstWord, Shape, KeyWord, State, Next, Size, Number, Version, Reply, Last}
use Rattle.nsc_model.specs.InPlace.{InPlaceClause}

abbrev pub asked : Kind → List ℕ → Request
asked kind key = record { kind = kind; key = key }

-- ---- what is known throughout

-- a search began while CYCLE was even
pub record Begun (p : Pass) : Type 0 where
  pub even : p.searching.first % 2 ≡ 0
  pub known : p.searching.first ≤ p.searching.known
  pub began : IsPrefix p.searching.began p.seen

-- the entry on which the pass stands is such a one, if its search is steady
abbrev pub Tells : Pass → (Entry → Type 0) → Type 0
Tells p P = IsSteady p.searching → (e : Entry) → p.searching.on ≡ Some e → P e

-- a word of the chain led to a place: to no node, or to one
pub record Arrives (layout : Layout) (found : ℕ) (p : Pass) : Type 0 where
  pub begun : Begun p
  pub place_is : p.searching.place ≡ found
  pub on : found ≢ 0 → (e : Entry) × (p.searching.on ≡ Some e)
  pub within : found ≢ 0 → Tells p (λ e. IsWithin layout found e)

-- the search stands on a node at a place, whose first eight words can be loaded
pub record OnNode (layout : Layout) (place : ℕ) (p : Pass) : Type 0 where
  pub begun : Begun p
  pub place_is : p.searching.place ≡ place
  pub inside : place + 8 ≤ table_words layout
  pub on : (e : Entry) × (p.searching.on ≡ Some e)
  pub within : Tells p (λ e. IsWithin layout place e)

-- how many words the key takes that is searched for
abbrev pub key_words : Pass → ℕ
key_words p = words_for (length p.searching.request.key)

-- the first `compared` words of an entry's key are those of the key that is searched for
abbrev pub HasWords : Pass → ℕ → Entry → Type 0
HasWords p compared e = (i : ℕ) → i < compared → i < words_for (length e.request.key) → word_of e.request.key i ≡ word_of p.searching.request.key i

-- ---- the stages

-- the bucket's word
pub record AtBucket (layout : Layout) (bucket : ℕ) (p : Pass) : Type 0 where
  pub begun : Begun p
  pub bucket_is : bucket ≡ request_bucket layout p.searching.request

-- the first word of the key
pub record AtFirstWord (layout : Layout) (place : ℕ) (p : Pass) : Type 0 where
  pub node : OnNode layout place p
  pub some : 0 < length p.searching.request.key
  pub room : place + 8 < table_words layout

-- SHAPE
pub record AtShape (layout : Layout) (place compared : ℕ) (p : Pass) : Type 0 where
  pub node : OnNode layout place p
  pub few : compared ≤ key_words p
  pub same : Tells p (HasWords p compared)

-- the next word of the key, which has the kind and the length of the one that is searched for
pub record AtKeyWord (layout : Layout) (place compared : ℕ) (p : Pass) : Type 0 where
  pub node : OnNode layout place p
  pub few : compared < key_words p
  pub room : place + 8 + key_words p ≤ table_words layout
  pub kind : Tells p (λ e. e.request.kind ≡ p.searching.request.kind)
  pub size : Tells p (λ e. length e.request.key ≡ length p.searching.request.key)
  pub same : Tells p (HasWords p compared)

-- STATE
pub record AtState (layout : Layout) (place : ℕ) (p : Pass) : Type 0 where
  pub node : OnNode layout place p
  pub room : place + 8 + key_words p ≤ table_words layout
  pub answers : Tells p (λ e. e.request ≡ p.searching.request)

-- NEXT
pub record AtNext (layout : Layout) (place : ℕ) (p : Pass) : Type 0 where
  pub node : OnNode layout place p
  pub passed : MayPass p.searching

-- SIZE: the entry answers, and was usable
pub record AtSize (layout : Layout) (place : ℕ) (p : Pass) : Type 0 where
  pub node : OnNode layout place p
  pub room : place + 8 + key_words p ≤ table_words layout
  pub answers : Tells p (λ e. e.request ≡ p.searching.request)
  pub live : Tells p (λ e. IsLive p.seen e)

-- the length of a reply in a SIZE, whatever word that is
abbrev pub reply_in : ℕ → ℕ
reply_in size = size / 2 % 2 ^ 32

-- NUMBER: the reply stands within the words
pub record AtNumber (layout : Layout) (place size : ℕ) (p : Pass) : Type 0 where
  pub found : AtSize layout place p
  pub short : reply_in size ≤ kept_limit
  pub fits : place + 8 + key_words p + words_for (reply_in size) ≤ table_words layout
  pub sized : Tells p (λ e. size ≡ size_word (length e.answer.bytes) e.answer.not_found)

-- VERSION
pub record AtVersion (layout : Layout) (place size number : ℕ) (p : Pass) : Type 0 where
  pub found : AtNumber layout place size p
  pub numbered : Tells p (λ e. e.number ≡ number)

-- the next word of the reply: those before it are in the buffer
pub record AtReply (layout : Layout) (place size number version copied : ℕ) (content : List ℕ) (p : Pass) : Type 0 where
  pub found : AtVersion layout place size number p
  pub of_version : Tells p (λ e. e.version ≡ version)
  pub few : copied < words_for (reply_in size)
  pub filled : length content ≡ 8 * copied
  pub said : Tells p (λ e. take (8 * copied) e.answer.bytes ≡ content)

-- the entry answers and was usable, and has this number, version and mark, and the reply that the buffer holds
pub record IsCopied (p : Pass) (content : List ℕ) (number version : ℕ) (not_found : Bool) (e : Entry) : Type 0 where
  pub answers : e.request ≡ p.searching.request
  pub live : IsLive p.seen e
  pub numbered : e.number ≡ number
  pub of_version : e.version ≡ version
  pub marked : e.answer.not_found ≡ not_found
  pub said : e.answer.bytes ≡ content

-- what it may answer at its end: a hit, or that the chain is at its end
abbrev pub MayAnswer : List ℕ → Pass → InPlace → Type 0
MayAnswer content p (Hit number version not_found) = ((e : Entry) × (p.searching.on ≡ Some e)) × Tells p (IsCopied p content number version not_found)
MayAnswer content p (Odd cycle) = ⊥
MayAnswer content p (Moved from to) = ⊥
MayAnswer content p NoEntry = IsSteady p.searching → p.searching.place ≡ 0

-- CYCLE, for the last time
pub record AtLast (content : List ℕ) (answer : InPlace) (p : Pass) : Type 0 where
  pub begun : Begun p
  pub may : MayAnswer content p answer

-- at any stage
abbrev pub AtStage : Layout → List ℕ → Stage → Pass → Type 0
AtStage layout content (Bucket bucket) p = AtBucket layout bucket p
AtStage layout content (FirstWord place) p = AtFirstWord layout place p
AtStage layout content (Shape place compared) p = AtShape layout place compared p
AtStage layout content (KeyWord place compared) p = AtKeyWord layout place compared p
AtStage layout content (State place) p = AtState layout place p
AtStage layout content (Next place) p = AtNext layout place p
AtStage layout content (Size place) p = AtSize layout place p
AtStage layout content (Number place size) p = AtNumber layout place size p
AtStage layout content (Version place size number) p = AtVersion layout place size number p
AtStage layout content (Reply place size number version copied) p = AtReply layout place size number version copied content p
AtStage layout content (Last answer) p = AtLast content answer p

-- ---- steps

-- the most steps that are left. A node takes fewer than 20,000
abbrev pub left_at : Layout → Stage → ℕ
left_at layout (Bucket bucket) = 20000 * table_words layout
left_at layout (FirstWord place) = 20000 * place + 9500
left_at layout (Shape place compared) = 20000 * place + 9400
left_at layout (KeyWord place compared) = 20000 * place + 9300 - compared
left_at layout (State place) = 20000 * place + 9004
left_at layout (Size place) = 20000 * place + 9003
left_at layout (Number place size) = 20000 * place + 9002
left_at layout (Version place size number) = 20000 * place + 9001
left_at layout (Reply place size number version copied) = 20000 * place + 9000 - copied
left_at layout (Next place) = 20000 * place + 2
left_at layout (Last answer) = 1

abbrev pub left : Layout → Progress → ℕ
left layout New = 20000 * table_words layout + 1
left layout (Under first stage) = left_at layout stage
left layout (Answered answer) = 0

-- what a search under way keeps at each step
pub record Keeps (old new : Pass) : Type 0 where
  pub table : new.table ≡ old.table
  pub before : IsPrefix old.seen new.seen
  pub began : new.searching.began ≡ old.searching.began
  pub searches : new.searching.searches ≡ old.searching.searches
  pub first : new.searching.first ≡ old.searching.first
  pub request : new.searching.request ≡ old.searching.request

-- a step of a search under way, which loads one word, and then is at a stage with fewer steps left
pub record Goes (layout : Layout) (old new : Pass) (content : List ℕ) (most : ℕ) (stage : Stage) : Type 0 where
  pub keeps : Keeps old new
  pub steps : new.searching.steps ≡ old.searching.steps + 1
  pub at : AtStage layout content stage new
  pub fewer : left_at layout stage < most

-- any number of steps of a search under way, which then is at a stage with at most `most` left
pub record Comes (layout : Layout) (old new : Pass) (content : List ℕ) (most : ℕ) (stage : Stage) : Type 0 where
  pub keeps : Keeps old new
  pub at : AtStage layout content stage new
  pub within : left_at layout stage ≤ most

-- ---- whole searches

-- how far it has come, with what the pass and the buffer have then
abbrev pub HasCome : Layout → Request → List ℕ → Pass → Progress → Type 0
HasCome layout request content p New = Unit {0}
HasCome layout request content p (Under first stage) = (p.searching.first ≡ first) × (p.searching.request ≡ request) × AtStage layout content stage p
HasCome layout request content p (Answered answer) = InPlaceClause p.searching.began p.seen request p.searching.first p.searching.last content answer

-- it has not answered
abbrev pub IsOpen : Progress → Type 0
IsOpen New = Unit {0}
IsOpen (Under first stage) = Unit {0}
IsOpen (Answered answer) = ⊥

-- it has taken a step
abbrev pub HasBegun : Progress → Type 0
HasBegun New = ⊥
HasBegun (Under first stage) = Unit {0}
HasBegun (Answered answer) = Unit {0}

abbrev pub answer_in : Progress → Option InPlace
answer_in New = None
answer_in (Under first stage) = None
answer_in (Answered answer) = Some answer

-- it is that a compaction is under way, or that another table goes on in place of this one
abbrev pub SaysOdd : Option InPlace → Type 0
SaysOdd answer = (cycle : ℕ) × (answer ≡ Some (Odd cycle))

-- what the pass had seen when the search began
abbrev pub seen_before : Progress → Pass → List Record
seen_before New p = p.seen
seen_before (Under first stage) p = p.searching.began
seen_before (Answered answer) p = p.searching.began

-- how many searches it has begun, once this one has
abbrev pub searches_with : Progress → Pass → ℕ
searches_with New p = p.searching.searches + 1
searches_with (Under first stage) p = p.searching.searches
searches_with (Answered answer) p = p.searching.searches

-- one step, which loads one word
pub record Steps (layout : Layout) (request : Request) (was : Progress) (old new : Pass) (content : List ℕ) (progress : Progress) : Type 0 where
  pub table : new.table ≡ old.table
  pub before : IsPrefix old.seen new.seen
  pub began : IsPrefix (seen_before was old) new.searching.began
  pub steps : new.searching.steps ≡ old.searching.steps + 1
  pub searches : new.searching.searches ≡ searches_with was old
  pub stands : HasCome layout request content new progress
  pub has_begun : HasBegun progress
  pub fewer : left layout progress < left layout was

-- any number of steps that do not begin a search
pub record Nears (layout : Layout) (request : Request) (was : Progress) (old new : Pass) (content : List ℕ) (progress : Progress) : Type 0 where
  pub table : new.table ≡ old.table
  pub before : IsPrefix old.seen new.seen
  pub began : seen_before progress new ≡ seen_before was old
  pub searches : searches_with progress new ≡ searches_with was old
  pub stands : HasCome layout request content new progress
  pub unanswered : IsOpen was → IsOpen progress
  pub within : left layout progress ≤ left layout was
