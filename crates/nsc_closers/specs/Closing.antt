-- Which job a closer begins, what is left open, and when closers are held.
use Rattle.std.specs.Prelude.{◌≡◌, ◌⊎◌, ℕ, ◌+◌, ◌-◌, ◌/◌, ◌<◌, ◌≤◌, ◌↔◌, Bool, true, false, ◌∷◌, Option, Some, None, count_by, length, min, nat_le, nat_lt, slice_set, IsTrue, List, []}
use Rattle.std.specs.Duration.{as_nanos, max_nanos}
use Rattle.std.specs.declared.time.Duration.{Duration}
use Rattle.nsc_closers.specs.declared.queue.Queue.{Queue}
use Rattle.nsc_closers.specs.declared.queue.Timed.{Timed}
use Rattle.nsc_closers.specs.declared.queue.Begun.{Begun}
use Rattle.nsc_closers.specs.declared.queue.Watch.{Watch}
use Rattle.nsc_closers.specs.declared.queue.Watch.TheVariants as watch

-- the most closers
abbrev pub most_closers : ℕ
most_closers = 32

-- a closer that is at one job for 100 milliseconds is held
abbrev pub is_held : (now : Duration) → Option Duration → Bool
is_held now None = false
is_held now (Some since) = nat_le 100000000 (as_nanos now - as_nanos since)

-- how many closers are held
abbrev pub held : {T : Type 0} → (now : Duration) → Queue T → ℕ
held now queue = count_by (is_held now) queue.at_work.items

-- a closer's rest ends: the list holds a quarter of the jobs that fill it
abbrev pub WakesRest : (count full : ℕ) → Bool → Type 0
WakesRest count full is_resting = IsTrue is_resting × (full / 4 ≤ count)

-- A closer is to be called: one rests, and the job is urgent or the list is a quarter full; or one sleeps, none was called, and none rests.
abbrev pub IsWanted : {T : Type 0} → Bool → Queue T → Type 0
IsWanted is_urgent queue =
    (IsTrue is_urgent × (0 < queue.resting))
    ⊎ WakesRest (length queue.jobs.items) queue.full (nat_lt 0 queue.resting)
    ⊎ ((0 < queue.sleeping) × (queue.is_called ≡ false) × (queue.resting ≡ 0))

-- A closer began the first job. It looks at the job first exactly while jobs are to be looked at.
pub record Begins {T : Type 0} (closer : ℕ) (now : Duration) (begun : Begun T) (before after : Queue T) : Type 0 where
  pub first : (since : Duration) × (before.jobs.items ≡ record { job = begun.job; since = since } ∷ after.jobs.items)
  pub wary : IsTrue begun.is_wary ↔ (as_nanos now < as_nanos before.wary_until)
  pub noted : closer < length before.at_work.items → after.at_work.items ≡ slice_set before.at_work.items closer (Some now)
  pub rest : after ≡ record before { jobs = after.jobs; at_work = after.at_work }

-- a minute of looks began, or goes on
abbrev pub IsWary : {T : Type 0} → (now : Duration) → Queue T → Type 0
IsWary now queue = as_nanos queue.wary_until ≡ min (as_nanos now + 60000000000) max_nanos

-- What a job that comes back does: it is left open, each job is looked at for a minute, and it is over once as many are left open as may be.
pub record LeavesOpen {T : Type 0} (now : Duration) (job : T) (before after : Queue T) : Type 0 where
  pub wary : IsWary now after
  pub over : (before.is_over ≡ true) → after.is_over ≡ true
  pub full : before.most_aside ≤ length after.aside.items → after.is_over ≡ true
  pub jobs : after.jobs.items ≡ before.jobs.items

-- a closer ended its job
abbrev pub Ends : {T : Type 0} → (closer : ℕ) → Option T → (now : Duration) → Queue T → Queue T → Type 0
Ends closer None now before after =
    (closer < length before.at_work.items → after.at_work.items ≡ slice_set before.at_work.items closer None)
    × (after ≡ record before { at_work = after.at_work })
Ends closer (Some job) now before after =
    (closer < length before.at_work.items → after.at_work.items ≡ slice_set before.at_work.items closer None)
    × LeavesOpen now job before after

-- the first of these jobs has waited for 100 milliseconds
abbrev pub is_late_in : {T : Type 0} → (now : Duration) → List (Timed T) → Bool
is_late_in now [] = false
is_late_in now (first ∷ rest) = is_held now (Some first.since)

-- the first job is late
abbrev pub is_late : {T : Type 0} → (now : Duration) → Queue T → Bool
is_late now queue = is_late_in now queue.jobs.items

-- all closers are held, or the first job is late
abbrev pub IsPressed : {T : Type 0} → (now : Duration) → Queue T → Type 0
IsPressed now queue = (is_late now queue ≡ true) ⊎ (held now queue ≡ length queue.at_work.items)

-- What a look at the closers finds. It is over once 32 closers are held, and stays so; else one more closer is wanted exactly if all are
-- held, or the first job is late.
pub record WatchesSo {T : Type 0} (now : Duration) (before after : Queue T) (found : Watch) : Type 0 where
  pub wary : (0 < held now before) ⊎ (is_late now before ≡ true) → IsWary now after
  pub over : (found ≡ watch.Over) ↔ (after.is_over ≡ true)
  pub ends : (after.is_over ≡ true) ↔ ((before.is_over ≡ true) ⊎ (held now before ≡ most_closers))
  pub short : found ≡ watch.Short → IsPressed now before
  pub enough : found ≡ watch.Enough → ¬ (IsPressed now before)
  pub rest : after ≡ record before { wary_until = after.wary_until; is_over = after.is_over }
