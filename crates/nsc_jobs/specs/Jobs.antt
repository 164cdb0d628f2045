-- What a list of jobs knows of its workers, when it calls one, and what a worker does next.
use Rattle.std.specs.Prelude.{◌≡◌, ◌⊎◌, ◌+◌, ◌-◌, ◌<◌, ◌≤◌, ◌++◌, ℕ, Bool, false, true, List, [], ◌∷◌, Option, Some, None, length, min}
use Rattle.std.specs.Duration.{as_nanos}
use Rattle.std.specs.declared.time.Duration.{Duration}
use Rattle.nsc_jobs.specs.declared.queue.Timed.{Timed}
use Rattle.nsc_jobs.specs.declared.queue.Queue.{Queue}
use Rattle.nsc_jobs.specs.declared.queue.Next.{Next}
use Rattle.nsc_jobs.specs.declared.queue.Next.TheVariants as next

-- no worker sleeps or looks for a job, and none is on its way
pub record HasNoWorker {T : Type 0} (queue : Queue T) : Type 0 where
  pub sleeping : queue.sleeping ≡ 0
  pub looking : queue.looking ≡ 0
  pub called : queue.is_called ≡ false

-- one more worker is wanted: one sleeps, none is on its way, and there are more jobs than workers that look for one
abbrev pub IsWorkerWanted : {T : Type 0} → Queue T → Type 0
IsWorkerWanted queue = (0 < queue.sleeping) × (queue.is_called ≡ false) × (queue.looking < length queue.jobs.items)

-- a job was put at the end; where there are more then than there may be, the oldest has left
abbrev pub Puts : {T : Type 0} → (most : ℕ) → Timed T → (oldest : Option T) → (before after : List (Timed T)) → Type 0
Puts most put None before after = (length before < most) × (after ≡ before ++ put ∷ [])
Puts most put (Some oldest) before after =
    (most ≤ length before) × (since : Duration) × (record { job = oldest; since = since } ∷ after ≡ before ++ put ∷ [])

-- the client of a job that was put at a moment has gone by now: it waits for five seconds
abbrev pub HasGone : (since now : Duration) → Type 0
HasGone since now = 5000000000 < as_nanos now - as_nanos since

-- the first job, which was put at this moment, was taken
pub record TakesFirst {T : Type 0} (job : T) (since : Duration) (before after : Queue T) : Type 0 where
  pub first : before.jobs.items ≡ record { job = job; since = since } ∷ after.jobs.items
  pub rest : after ≡ record before { jobs = after.jobs }

-- there was no job, and is none
abbrev pub HasNoJob : {T : Type 0} → Queue T → Queue T → Type 0
HasNoJob before after = (before.jobs.items ≡ []) × (after.jobs.items ≡ [])

-- A worker takes the first job, to do it, or to drop it where its client has gone. Where there is none, it leaves a closed list; it
-- looks for a job where it may, jobs are near each other, and no other looks; and else it sleeps. The list counts the workers that look,
-- and those that sleep up to the greatest number.
abbrev pub DoesNext : {T : Type 0} → Next T → (may_look : Bool) → (now : Duration) → Queue T → Queue T → Type 0
DoesNext (next.Job job) may_look now before after = (since : Duration) × TakesFirst job since before after × ¬ (HasGone since now)
DoesNext (next.Old job) may_look now before after = (since : Duration) × TakesFirst job since before after × HasGone since now
DoesNext next.Leave may_look now before after = HasNoJob before after × (before.is_closed ≡ true) × (after ≡ record before { jobs = after.jobs })
DoesNext next.Look may_look now before after =
    HasNoJob before after × (before.is_closed ≡ false) × (may_look ≡ true) × (before.is_near ≡ true) × (before.looking ≡ 0)
    × (after ≡ record before { jobs = after.jobs; looking = 1 })
DoesNext next.Sleep may_look now before after =
    HasNoJob before after × (before.is_closed ≡ false) × ((may_look ≡ false) ⊎ (before.is_near ≡ false) ⊎ (0 < before.looking))
    × (after ≡ record before { jobs = after.jobs; sleeping = min (before.sleeping + 1) 18446744073709551615 })
