-- The first line of a group file that is named, by its index.
use Rattle.std.proofs.Common.{◌≡◌, ℕ, ◌==◌, List, ◌++◌, filter, map, Option, option_and_then, refl, sym, ◌∙◌, ap}
use Rattle.std.specs.List.{slice_get}
use Rattle.std.specs.Option.{is_some, option_map}
use Rattle.std.specs.Str.{bytes_eq}
use Rattle.std.specs.Cmp.{unsigned_ties}
use Rattle.std.specs.Cmp.Lexicographic.{texts_ties}
use Rattle.nsc_base.specs.declared.search.Case.TheVariants.{Counts}
use Rattle.nsc_base.specs.Text.{part}
use Rattle.nsc_model.specs.Entries.{first_named, if_named}
use Rattle.nsc_model.specs.Groups.{group_of_line}
use Rattle.nsc_model.proofs.Firsts.{first_is}
use Rattle.nsc_accounts.specs.Group.{GivesGroup, group_at, group_places}
use Rattle.nsc_accounts.specs.declared.group.GroupAt.{GroupAt}
use Rattle.nsc_accounts.proofs.Named.{group_given}
use Rattle.nsc_index.specs.declared.names.NameAt.{NameAt}
use Rattle.nsc_index.specs.declared.numbers.NumberAt.{NumberAt}
use Rattle.nsc_index.specs.declared.groups.GroupIndex.{GroupIndex}
use Rattle.nsc_index.specs.Indexes.{on_line}
use Rattle.nsc_index.specs.Names.{has_name, place_of_name}
use Rattle.nsc_index.specs.Numbers.{has_number, place_of_number}
use Rattle.nsc_index.specs.Groups.{IsGroupIndex, group_ids, group_names}
use Rattle.nsc_index.specs.Signs.{Adds}
use Rattle.nsc_index.proofs.LineRows.{RowsOf, found_on, one_row, the_rows}
use Rattle.nsc_index.proofs.SignRows.{added_rows, some_mapped}

rows_of_name : (text name : List ℕ) → RowsOf (group_places text) (λ at. bytes_eq (part text at.name) name) (group_names text) (has_name Counts text name) (λ at. at.line)
rows_of_name text name = one_row (group_places text) (λ at. bytes_eq (part text at.name) name) (λ line at. place_of_name line at.name) (has_name Counts text name) (λ at. at.line) (λ line at. sym (texts_ties (part text at.name) name)) (λ line at. refl)

rows_of_id : (text : List ℕ) (gid : ℕ) → RowsOf (group_places text) (λ at. at.gid == gid) (group_ids text) (has_number gid) (λ at. at.line)
rows_of_id text gid = one_row (group_places text) (λ at. at.gid == gid) (λ line at. place_of_number line at.gid) (has_number gid) (λ at. at.line) (λ line at. sym (unsigned_ties at.gid gid)) (λ line at. refl)

module _ (text : List ℕ) (index : GroupIndex) (is : IsGroupIndex text index) where
  pub by_name : (name : List ℕ) (slice : List NameAt) (first : Option NameAt) (found : Option GroupAt) → slice ≡ filter (has_name Counts text name) index.names.items → first ≡ slice_get slice 0 → found ≡ option_and_then (λ at. on_line (group_places text) text at.line) first
      → option_map (group_at text) found ≡ first_named group_of_line (λ g. bytes_eq g.name name) text
  by_name name slice first found slice_is is_first on =
      first_is (GivesGroup text (λ at. bytes_eq (part text at.name) name)) text (group_at text) group_of_line (λ g. bytes_eq g.name name) (λ span r ordered ends gives. group_given text (λ g. bytes_eq g.name name) span r ordered ends gives) found
      (found_on (rows_of_name text name) text index.names.items is.names name (λ row. refl) slice first found slice_is is_first on)

  pub by_id : (gid : ℕ) (slice : List NumberAt) (first : Option NumberAt) (found : Option GroupAt) → slice ≡ filter (has_number gid) index.ids.items → first ≡ slice_get slice 0 → found ≡ option_and_then (λ at. on_line (group_places text) text at.line) first
      → option_map (group_at text) found ≡ first_named group_of_line (λ g. g.gid == gid) text
  by_id gid slice first found slice_is is_first on =
      first_is (GivesGroup text (λ at. at.gid == gid)) text (group_at text) group_of_line (λ g. g.gid == gid) (λ span r ordered ends gives. group_given text (λ g. g.gid == gid) span r ordered ends gives) found
      (found_on (rows_of_id text gid) text index.ids.items is.ids gid (λ row. refl) slice first found slice_is is_first on)

  -- the lines of a name, and those of an id
  pub named_lines : (name old new : List ℕ) (slice : List NameAt) → slice ≡ filter (has_name Counts text name) index.names.items → new ≡ old ++ map (λ (at : NameAt). at.line) slice → Adds text (λ line. is_some (if_named (λ g. bytes_eq g.name name) (group_of_line line))) old new
  named_lines name old new slice slice_is new_is =
      added_rows (rows_of_name text name) text (λ line. is_some (if_named (λ g. bytes_eq g.name name) (group_of_line line)))
      (λ line ordered ends.
      let places = if_named (λ at. bytes_eq (part text at.name) name) (group_places text line) in
      sym (some_mapped (group_at text) places) ∙ ap is_some (group_given text (λ g. bytes_eq g.name name) line places ordered ends refl)) old new slice new_is
      (slice_is ∙ the_rows (rows_of_name text name) text index.names.items is.names name (λ row. refl))

  pub numbered_lines : (gid : ℕ) (old new : List ℕ) (slice : List NumberAt) → slice ≡ filter (has_number gid) index.ids.items → new ≡ old ++ map (λ (at : NumberAt). at.line) slice → Adds text (λ line. is_some (if_named (λ g. g.gid == gid) (group_of_line line))) old new
  numbered_lines gid old new slice slice_is new_is =
      added_rows (rows_of_id text gid) text (λ line. is_some (if_named (λ g. g.gid == gid) (group_of_line line)))
      (λ line ordered ends.
      let places = if_named (λ at. at.gid == gid) (group_places text line) in
      sym (some_mapped (group_at text) places) ∙ ap is_some (group_given text (λ g. g.gid == gid) line places ordered ends refl)) old new slice new_is
      (slice_is ∙ the_rows (rows_of_id text gid) text index.ids.items is.ids gid (λ row. refl))
