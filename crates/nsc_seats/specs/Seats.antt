-- A caller's seats: one at each table from the first one to the one that it has come to, where it is present.
use Rattle.std.specs.Prelude.{◌≡◌, ℕ, ◌+◌, ◌⊎◌, All, List, [], ◌∷◌, ◌++◌, length, map, sum_by, slice_index_or, Option, Some}
use Rattle.atomic_table.specs.Seated.{TableId}
use Rattle.nsc_model.specs.declared.record.Record.{Record}
use Rattle.nsc_model.specs.History.{IsPrefix}
use Rattle.nsc_rule.specs.declared.view.Search.{Search}
use Rattle.nsc_rule.specs.Pass.{Pass}
use Rattle.nsc_writer.specs.Former.{Former}
use Rattle.nsc_seats.specs.Tables.{tables}

-- the first table, and how many follow it up to the present one; what was seen of the history; which table was seen to go on in place of
-- the present one; and the search at the present table, with the number of those at all of them
pub record Seats : Type 0 where
  pub table : TableId
  pub number : ℕ
  pub present : TableId
  pub seen : List Record
  pub retired : Option TableId
  pub searching : Search

-- the tables at which these passes are, and then the present one
abbrev pub seated : List Pass → Pass → List TableId
seated former present = map (λ (p : Pass). p.table) former ++ present.table ∷ []

-- the first of them
abbrev pub first_of : List Pass → Pass → TableId
first_of former present = slice_index_or (seated former present) 0 present.table

-- all searches of these passes
abbrev pub searches_of : List Pass → ℕ
searches_of passes = sum_by (λ (p : Pass). p.searching.searches) passes

abbrev pub seats_of : List Pass → Pass → Seats
seats_of former present = record {
  table = first_of former present;
  number = length former;
  present = present.table;
  seen = present.seen;
  retired = present.retired;
  searching = record present.searching { searches = searches_of former + present.searching.searches };
}

-- each has seen that the table of the next one goes on in place of its own, and nothing that the present one has not seen
pub record AreSeats (former : List Pass) (present : Pass) : Type 0 where
  pub onward : map Some (seated former present) ≡ Some (first_of former present) ∷ map (λ (p : Pass). p.retired) former
  pub less : All (λ (p : Pass). IsPrefix p.seen present.seen) former

-- the seat of a number is at the table of that number
abbrev pub AreAt : ℕ → List Pass → Pass → List Former → TableId → Type 0
AreAt number former present left newest = slice_index_or (seated former present) number newest ≡ slice_index_or (tables left newest) number newest

-- it had been seen by the time that some table that was left went on in another one
abbrev pub IsBefore : List Record → List Former → Type 0
IsBefore seen [] = ⊥
IsBefore seen (f ∷ left) = IsPrefix seen f.stock.seen ⊎ IsBefore seen left
