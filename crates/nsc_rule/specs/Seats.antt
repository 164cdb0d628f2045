-- The rule of the shared words: they are those of the plan that the writing seat knows, which is sound, and what each other seat
-- knows follows that plan.
use Rattle.std.specs.Prelude.{◌≡◌, ℕ, ◌+◌, ◌%◌, ◌<◌, ◌≤◌, max, nat_lt, if◌then◌else◌, true, false, List, [], length, slice_index, Option, Some, None}
use mathlib.Core.Option as maybe
use lib.ListN.{get_elem?}
use Rattle.atomic_table.specs.Table.{State, Me, Step}
use Rattle.nsc_words.specs.declared.layout.Layout.{Layout}
use Rattle.nsc_words.specs.declared.node.Placed.{Placed}
use Rattle.nsc_words.specs.Laid.{Among}
use Rattle.nsc_model.specs.Entry.{Entry}
use Rattle.nsc_model.specs.History.{loads, IsPrefix}
use Rattle.nsc_model.specs.declared.kind.Kind.TheVariants as kind
use Rattle.nsc_model.specs.declared.record.Record.{Record}
use Rattle.nsc_rule.specs.declared.view.Origin.{Origin}
use Rattle.nsc_rule.specs.declared.view.Origin.TheVariants.{Fresh, After}
use Rattle.nsc_rule.specs.declared.view.Plan.{Plan}
use Rattle.nsc_rule.specs.declared.view.Search.{Search}
use Rattle.atomic_table.specs.Seated.{TableId}
use Rattle.nsc_rule.specs.declared.view.View.{View}
use Rattle.nsc_rule.specs.declared.view.View.TheVariants.{Writes, Reads}
use Rattle.nsc_rule.specs.Entries.{entry_of, request_bucket, request_in}
use Rattle.nsc_rule.specs.Plans.{cycle_of, Sound, first_plan, succeeding}

-- ---- the views of the seats

-- no search has begun
abbrev pub resting : Search
resting = record { steps = 0; searches = 0; first = 0; last = 0; began = []; request = record { kind = kind.PwName; key = [] }; known = 0; place = 0; on = None; gone = false }

-- no search has begun, and CYCLE is known to have been this
abbrev pub rested : ℕ → Search
rested cycle = record resting { known = cycle }

-- the seat that writes
abbrev pub writing : Plan → View
writing p = Writes p [] None

abbrev pub reading : List Record → Option TableId → Search → View
reading seen retired searching = Reads seen [] None retired searching

abbrev pub nobody : View
nobody = reading [] None resting

-- the parts of a view
abbrev pub seen_by : View → List Record
seen_by (Writes plan told over) = plan.seen
seen_by (Reads seen told over retired searching) = seen

abbrev pub told_to : View → List Record
told_to (Writes plan told over) = told
told_to (Reads seen told over retired searching) = told

-- which table goes on in place of this one, as far as it knows
abbrev pub retired_by : View → Option TableId
retired_by (Writes plan told over) = plan.retired
retired_by (Reads seen told over retired searching) = retired

-- which table it was told goes on in place of this one
abbrev pub over_by : View → Option TableId
over_by (Writes plan told over) = over
over_by (Reads seen told over retired searching) = over

-- the search of a seat; that of the writing one rests, and knows CYCLE
abbrev pub searching_by : View → Search
searching_by (Writes plan told over) = rested (cycle_of plan)
searching_by (Reads seen told over retired searching) = searching

-- no plan
abbrev pub no_plan : Plan
no_plan = record { layout = record { buckets = 0; arena = 0 }; seen = []; words = []; nodes = []; counted = true; retired = None }

-- the plan of the seat that writes
abbrev pub plan_by : View → Plan
plan_by (Writes plan told over) = plan
plan_by (Reads seen told over retired searching) = no_plan

-- the plan with which a table begins
abbrev pub opening_plan : Layout → Origin → Plan
opening_plan layout (Fresh content) = first_plan layout content.value
opening_plan layout (After pen) = succeeding layout (plan_by pen.value.me.0)

abbrev pub opening_view : Layout → Origin → View
opening_view layout origin = writing (opening_plan layout origin)

-- a new seat beside this one, which reads
abbrev pub reader_of : View → View
reader_of v = reading (seen_by v) (retired_by v) (searching_by v)

-- this seat, told what another one has seen
abbrev pub told_of : View → View → View
told_of (Writes plan told over) w = Writes plan (seen_by w) (retired_by w)
told_of (Reads seen told over retired searching) w = Reads seen (seen_by w) (retired_by w) retired searching

-- the same, and it counts the searches of the other one too
abbrev pub absorbed : View → View → View
absorbed (Writes plan told over) w = Writes plan (seen_by w) (retired_by w)
absorbed (Reads seen told over retired searching) w = Reads seen (seen_by w) (retired_by w) retired (record searching { searches = searching.searches + (searching_by w).searches })

-- a search with a CYCLE that may be a later one
abbrev pub informed : Search → ℕ → Search
informed w cycle = record w { known = max w.known cycle }

-- this seat, which has seen what another one has seen
abbrev pub shown : View → View → View
shown (Writes plan told over) w = Writes plan told over
shown (Reads seen told over retired searching) w = Reads (seen_by w) told over (retired_by w) (informed searching (searching_by w).known)

-- the longer of two lists of records, and the first one of two that are equally long
abbrev pub longer : List Record → List Record → List Record
longer seen told = if nat_lt (length seen) (length told) then told else seen

-- ---- a search under way

-- the entry that a search stands on stands at its place, in the bucket that it follows, ended where the search found it so; and the
-- usable nodes that answer its request, of those that stood when it began, are at its place or below
pub record Reaches (p : Plan) (w : Search) : Type 0 where
  pub at : (e : Entry) → w.on ≡ Some e → (q : Placed) × Among q p.nodes × (q.place ≡ w.place) × (entry_of q ≡ e) × (request_bucket p.layout e.request ≡ request_bucket p.layout w.request) × (w.gone ≡ true → q.usable ≡ false)
  pub bound : (q : Placed) → Among q p.nodes → q.usable ≡ true → request_in q ≡ w.request → q.node.number < loads w.began → q.place ≤ w.place

-- where a table is named here, it is the one that goes on in place of the plan's
abbrev pub IsSuccessor : Option TableId → Plan → Type 0
IsSuccessor over p = (newer : TableId) → over ≡ Some newer → p.retired ≡ Some newer

-- what a seat that reads knows follows the plan: it has seen, and was told of, beginnings of the history; it knows no later CYCLE;
-- and where CYCLE is still what its search began with, and even, the search reaches what it is to reach
pub record Follows (p : Plan) (v : View) : Type 0 where
  pub seen : IsPrefix (seen_by v) p.seen
  pub told : IsPrefix (told_to v) p.seen
  pub began : IsPrefix (searching_by v).began p.seen
  pub first : (searching_by v).first ≤ (searching_by v).known
  pub known : (searching_by v).known ≤ cycle_of p
  pub retired : (newer : TableId) → retired_by v ≡ Some newer → (p.retired ≡ Some newer) × (seen_by v ≡ p.seen)
  pub over : IsSuccessor (over_by v) p
  pub reaches : (searching_by v).first ≡ cycle_of p → (searching_by v).first % 2 ≡ 0 → Reaches p (searching_by v)

-- what a seat knows is so. The one that writes is the first one, and its plan is the plan
abbrev pub Fits : Plan → ℕ → View → Type 0
Fits p seat (Writes plan told over) = (seat ≡ 0) × (plan ≡ p) × IsPrefix told p.seen × IsSuccessor over p
Fits p seat (Reads seen told over retired searching) = Follows p (Reads seen told over retired searching)

-- the rule
pub record IsKept (key : Layout) (s : State (Unit {0}) View) : Type 0 where
  pub plan : Plan
  pub layout : plan.layout ≡ key
  pub words : s.words ≡ plan.words
  pub sound : Sound plan
  pub fits : (seat : ℕ) (v : View) → get_elem? s.views seat ≡ maybe.some v → Fits plan seat v

-- ---- what the steps tell

-- the writing seat has this plan
abbrev pub WriteTells : Plan → Step (Unit {0}) → Me (Unit {0}) View → ℕ → Me (Unit {0}) View → Type 0
WriteTells plan s me found me' = me' ≡ (writing plan, me.1)

-- the word is that of the plan
abbrev pub LoadTells : Step (Unit {0}) → Me (Unit {0}) View → ℕ → Me (Unit {0}) View → Type 0
LoadTells s me found me' = (found ≡ slice_index (plan_by me.0).words s.word) × (me' ≡ me)

-- what the writing seat was told of begins its history, and the table that it was told of goes on in place of its own
abbrev pub LearnTells : Step (Unit {0}) → Me (Unit {0}) View → ℕ → Me (Unit {0}) View → Type 0
LearnTells s me found me' = IsPrefix (told_to me.0) (seen_by me.0) × IsSuccessor (over_by me.0) (plan_by me.0) × (me' ≡ (writing (plan_by me.0), me.1))

-- where both name a table, it is the same one
abbrev pub AreOne : Option TableId → Option TableId → Type 0
AreOne over retired = (other newer : TableId) → over ≡ Some other → retired ≡ Some newer → other ≡ newer

-- both lists begin the longer one, which was then seen. Where another table goes on, it is what was seen before, and that table is the one
-- of which the seat was told
abbrev pub MeetTells : Step (Unit {0}) → Me (Unit {0}) View → ℕ → Me (Unit {0}) View → Type 0
MeetTells s me found me' =
    let both = longer (seen_by me.0) (told_to me.0) in
    IsPrefix (seen_by me.0) both × IsPrefix (told_to me.0) both × ((newer : TableId) → retired_by me.0 ≡ Some newer → both ≡ seen_by me.0) × AreOne (over_by me.0) (retired_by me.0) × (me' ≡ (reading both (retired_by me.0) (searching_by me.0), me.1))
