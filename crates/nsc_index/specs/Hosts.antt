-- The lines of a hosts file by name and by address.
use Rattle.std.specs.Prelude.{ℕ, Bool, true, not, ◌==◌, List, [], drop, map, Option, Some, None}
use Rattle.std.specs.List.{filter_map}
use Rattle.std.specs.Option.{option_map, option_map_or, option_to_list}
use Rattle.std.specs.Ordering.{nat_cmp}
use Rattle.std.specs.Cmp.Lexicographic.{slice_cmp}
use Rattle.nsc_base.specs.declared.search.Case.TheVariants.{Ignored}
use Rattle.nsc_base.specs.declared.span.Span.{Span}
use Rattle.nsc_base.specs.Text.{word_spans}
use Rattle.nsc_model.specs.declared.row.Host.{Host}
use Rattle.nsc_model.specs.Hosts.{host_of_line}
use Rattle.nsc_nets.specs.Lines.{entry_part}
use Rattle.nsc_index.specs.declared.hosts.HostIndex.{HostIndex}
use Rattle.nsc_index.specs.declared.names.NameAt.{NameAt}
use Rattle.nsc_index.specs.declared.numbers.NumberAt.{NumberAt}
use Rattle.nsc_index.specs.Numbers.{text_number}
use Rattle.nsc_index.specs.Indexes.{Indexes, line_entry, on_line, rows_from}
use Rattle.nsc_index.specs.Names.{name_key, place_of_name}
use Rattle.nsc_index.specs.Numbers.{number_in, place_of_number}

-- where the names and aliases of a line stand: after the address
abbrev pub host_words : List ℕ → Span → List Span
host_words text line = drop 1 (word_spans text (entry_part text line))

-- those of a line that has the form, and the number of its address
abbrev pub host_names : List ℕ → Span → List NameAt
host_names text line = option_map_or (λ h. map (place_of_name line) (host_words text line)) (line_entry host_of_line text line) []

abbrev pub host_addresses : List ℕ → Span → List NumberAt
host_addresses text line = option_to_list (option_map (λ h. place_of_number line (text_number h.address)) (line_entry host_of_line text line))

-- the hosts of lines, row after row
abbrev pub hosts_on : List ℕ → List NameAt → List Host
hosts_on text lines = filter_map (λ (at : NameAt). on_line (line_entry host_of_line text) text at.line) lines

-- a host with an address of another family than this one, or any where none is named
abbrev pub is_other_than : Option ℕ → Host → Bool
is_other_than None h = true
is_other_than (Some family) h = not (h.family == family)

-- each line that has the form, under each of its names and under the number of its address
pub record IsHostIndex (text : List ℕ) (index : HostIndex) : Type 0 where
  pub names : Indexes (slice_cmp nat_cmp) (name_key Ignored text) (rows_from (host_names text) text 0) index.names.items
  pub addresses : Indexes nat_cmp number_in (rows_from (host_addresses text) text 0) index.addresses.items
