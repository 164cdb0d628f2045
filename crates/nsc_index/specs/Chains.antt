-- Chains of rows: how rows of one bucket follow one another.
use Rattle.std.specs.Prelude.{◌≡◌, ℕ, ◌+◌, ◌*◌, ◌/◌, ◌%◌, ◌^◌, ◌<◌, ◌≤◌, Bool, ◌==◌, List, length, drop, slice_index, slice_index_or}
use Rattle.std.specs.List.{position_or_len}
use Rattle.nsc_index.specs.declared.numbers.NumberAt.{NumberAt}
use Rattle.nsc_index.specs.declared.chains.Chains.TheInside.{Inside}

-- the bucket of a number, of `count` buckets: what is said of chains holds for any function
unfoldable pub bucket : ℕ → ℕ → ℕ
bucket count number = number * 2654435761 % 2 ^ 32 * count / 2 ^ 32

abbrev pub in_bucket : ℕ → ℕ → NumberAt → Bool
in_bucket count of row = bucket count row.number == of

-- where the first row of a bucket stands from a place on, or the end of the rows
abbrev pub next_in : ℕ → ℕ → List NumberAt → ℕ → ℕ
next_in count of rows place = place + position_or_len (in_bucket count of) (drop place rows)

-- the first row of each bucket from a place on
abbrev pub AreHeads : ℕ → List NumberAt → List ℕ → ℕ → Type 0
AreHeads count rows heads place = (of : ℕ) → of < count → slice_index heads of ≡ next_in count of rows place

-- from a place on, after each row the next one of its bucket
abbrev pub AreNexts : ℕ → List NumberAt → List ℕ → ℕ → Type 0
AreNexts count rows nexts place = (i : ℕ) (row : NumberAt) → place ≤ i → i < length rows → slice_index nexts i ≡ next_in count (bucket count (slice_index_or rows i row).number) rows (i + 1)

-- the rows of each bucket are a chain that rises
pub record AreChained (c : Inside) : Type 0 where
  pub count : length c.rows.items < 2 ^ 32
  pub some : 0 < length c.heads.items
  pub fits : length c.heads.items < 2 ^ 32
  pub room : length c.nexts.items ≡ length c.rows.items
  pub heads : AreHeads (length c.heads.items) c.rows.items c.heads.items 0
  pub nexts : AreNexts (length c.heads.items) c.rows.items c.nexts.items 0
