-- What a search without a lock gives a caller who had seen one beginning of the database's history before, and has seen another one
-- after it.
use Rattle.std.specs.Prelude.{◌≡◌, ℕ, ◌%◌, ◌<◌, Bool, List, []}
use Rattle.nsc_model.specs.Entry.{Entry}
use Rattle.nsc_model.specs.History.{EndedAfter, HasEnd, HasLoad}
use Rattle.nsc_model.specs.declared.answer.Request.{Request}
use Rattle.nsc_model.specs.declared.record.Record.{Record}
use Rattle.nsc_model.specs.declared.in_place.InPlace.{InPlace}
use Rattle.nsc_model.specs.declared.in_place.InPlace.TheVariants.{Hit, Odd, Moved, NoEntry}

-- the reply of an entry that was inserted for the request, and that the caller had not seen to end
pub record IsFoundInPlace (seen after : List Record) (request : Request) (bytes : List ℕ) (number version : ℕ) (not_found : Bool) : Type 0 where
  pub entry : Entry
  pub inserted : HasLoad after entry
  pub numbered : entry.number ≡ number
  pub answers : entry.request ≡ request
  pub of_version : entry.version ≡ version
  pub said : entry.answer.bytes ≡ bytes
  pub marked : entry.answer.not_found ≡ not_found
  pub not_seen_to_end : HasEnd seen number → ⊥

-- a compaction was under way, or another table goes on in place of the one that was searched
abbrev pub IsOdd : InPlace → Type 0
IsOdd answer = (cycle : ℕ) × (answer ≡ Odd cycle)

-- the answer, by what CYCLE was at the search's first and at its last load, and the bytes that the buffer then holds. Only a hit leaves
-- some
abbrev pub InPlaceClause : List Record → List Record → Request → ℕ → ℕ → List ℕ → InPlace → Type 0
InPlaceClause seen after request first last bytes (Hit number version not_found) = (first ≡ last) × (first % 2 ≡ 0) × IsFoundInPlace seen after request bytes number version not_found
InPlaceClause seen after request first last bytes (Odd cycle) = (first ≡ cycle) × (cycle % 2 ≡ 1) × (bytes ≡ [])
InPlaceClause seen after request first last bytes (Moved from to) = (first ≡ from) × (from % 2 ≡ 0) × (last ≡ to) × (from < to) × (bytes ≡ [])
InPlaceClause seen after request first last bytes NoEntry = (first ≡ last) × (first % 2 ≡ 0) × EndedAfter seen after request × (bytes ≡ [])
