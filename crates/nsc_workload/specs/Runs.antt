-- A workload that runs: the replies of each worker, and how it ends.
use Rattle.std.specs.Prelude.{◌≡◌, ℕ, ◌<◌, ◌+◌, ◌*◌, ◌-◌, ◌/◌, ◌==◌, not, Bool, List, All, count_by, length, map, sum_by, zip, Option, Some, None}
use Rattle.std.specs.List.{slice_index_or}
use Rattle.std.specs.Str.{bytes_eq}
use Rattle.nsc_outside.specs.Stream.{Grows, GrowsByFront}
use Rattle.nsc_outside.specs.StreamAt.{StreamAt}
use Rattle.nsc_model.specs.Reads.{Rose}
use Rattle.nsc_model.specs.declared.exit.Exit.{Exit}
use Rattle.nsc_model.specs.declared.exit.Exit.TheVariants as exits
use Rattle.nsc_workload.specs.Workload.{answers_from, request_count}

-- the replies to as many requests in order, from one on
abbrev pub replies_from : ℕ → ℕ → ℕ → List (List ℕ)
replies_from n from count = map (λ a. a.bytes) (answers_from n from count)

-- the first request of a worker: each has as many as the others, but for one
abbrev pub first_of : ℕ → ℕ → ℕ → ℕ
first_of n workers worker = request_count n * worker / workers

-- the replies of a worker, where memory did not run out
abbrev pub IsShare : ℕ → ℕ → ℕ → Option (List (List ℕ)) → Type 0
IsShare n workers worker None = Unit {0}
IsShare n workers worker (Some replies) = replies ≡ replies_from n (first_of n workers worker) (first_of n workers (worker + 1) - first_of n workers worker)

abbrev pub AreShares : ℕ → ℕ → List (Option (List (List ℕ))) → Type 0
AreShares n workers shares = (worker : ℕ) (d : Option (List (List ℕ))) → worker < workers → IsShare n workers worker (slice_index_or shares worker d)

-- the second field of a reply tells whether it has a row
abbrev pub has_row : List ℕ → Bool
has_row reply = slice_index_or reply 4 0 == 1

-- what the output took of a text, by the exit: all of it, a front of it as it failed, or nothing
abbrev pub PutsText : Exit → List ℕ → StreamAt → StreamAt → Type 0
PutsText exits.Ok text before after = Grows before.bytes after.bytes text × (after.faults ≡ before.faults)
PutsText exits.WriteFault text before after = GrowsByFront before.bytes after.bytes text × Rose before.faults after.faults
PutsText exits.NoMemory text before after = after ≡ before
PutsText _ text before after = ⊥

-- ---- readers

-- how many requests a reader asks, and how many readers there are
abbrev pub asked_count : ℕ
asked_count = 64

abbrev pub reader_count : ℕ
reader_count = 2

-- what a reader was answered, where memory did not run out: an answer to each request that it asked
abbrev pub IsRead : Option (List (List ℕ)) → Type 0
IsRead None = Unit {0}
IsRead (Some answers) = length answers ≡ asked_count

abbrev pub AreRead : List (Option (List (List ℕ))) → Type 0
AreRead given = (reader : ℕ) (d : Option (List (List ℕ))) → reader < reader_count → IsRead (slice_index_or given reader d)

-- how many answers differ from the reply to the same request
abbrev pub differing_of : List (List ℕ) → List (List ℕ) → ℕ
differing_of replies answers = count_by (λ p. not (bytes_eq p.0 p.1)) (zip replies answers)

-- each reader has an answer to each request that it asked, and `count` answers of all differ from the reply to the same request
pub record CountsDiffering (replies : List (List ℕ)) (count : ℕ) : Type 0 where
  pub answers : List (List (List ℕ))
  pub readers : length answers ≡ reader_count
  pub asked : All (λ a. length a ≡ asked_count) answers
  pub counted : count ≡ sum_by (λ a. differing_of replies a) answers

-- what is told of them, by the exit
abbrev pub TellsDiffering : Exit → List (List ℕ) → ℕ → Type 0
TellsDiffering exits.Ok replies count = CountsDiffering replies count
TellsDiffering exits.WriteFault replies count = CountsDiffering replies count
TellsDiffering exits.NoMemory replies count = count ≡ 0
TellsDiffering _ replies count = ⊥
