-- The lines of a group file by name, by group id, by member and by sign.
use Rattle.std.specs.Prelude.{ℕ, List, [], filter, map}
use Rattle.std.specs.Option.{option_map, option_map_or, option_to_list}
use Rattle.std.specs.Ordering.{nat_cmp}
use Rattle.std.specs.Cmp.Lexicographic.{slice_cmp}
use Rattle.nsc_base.specs.declared.search.Case.TheVariants.{Counts}
use Rattle.nsc_base.specs.declared.span.Span.{Span}
use Rattle.nsc_base.specs.Text.{field_spans, is_filled, part}
use Rattle.nsc_accounts.specs.Group.{group_places}
use Rattle.nsc_index.specs.declared.groups.GroupIndex.{GroupIndex}
use Rattle.nsc_index.specs.declared.names.NameAt.{NameAt}
use Rattle.nsc_index.specs.declared.numbers.NumberAt.{NumberAt}
use Rattle.nsc_index.specs.Indexes.{Indexes, rows_from}
use Rattle.nsc_index.specs.Names.{name_key, place_of_name}
use Rattle.nsc_index.specs.Numbers.{number_in, place_of_number}
use Rattle.nsc_index.specs.Signs.{IsSignIndex}

-- the name of a line that has the form, and its group id
abbrev pub group_names : List ℕ → Span → List NameAt
group_names text line = option_to_list (option_map (λ at. place_of_name line at.name) (group_places text line))

abbrev pub group_ids : List ℕ → Span → List NumberAt
group_ids text line = option_to_list (option_map (λ at. place_of_number line at.gid) (group_places text line))

-- the pieces between commas that are not empty
abbrev pub member_spans : List ℕ → Span → List Span
member_spans text within = filter (λ span. is_filled (part text span)) (field_spans 44 text within)

abbrev pub members_at : List ℕ → Span → Span → List NameAt
members_at text line within = map (place_of_name line) (member_spans text within)

-- the names of its members
abbrev pub group_members : List ℕ → Span → List NameAt
group_members text line = option_map_or (λ at. members_at text line at.members) (group_places text line) []

-- each line that has the form, under its name, under its group id and under the name of each member, and each that speaks by a sign
pub record IsGroupIndex (text : List ℕ) (index : GroupIndex) : Type 0 where
  pub names : Indexes (slice_cmp nat_cmp) (name_key Counts text) (rows_from (group_names text) text 0) index.names.items
  pub ids : Indexes nat_cmp number_in (rows_from (group_ids text) text 0) index.ids.items
  pub members : Indexes (slice_cmp nat_cmp) (name_key Counts text) (rows_from (group_members text) text 0) index.members.items
  pub signs : IsSignIndex text index.signs.items
