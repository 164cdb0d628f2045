-- The lines of a services file by name and by port.
use Rattle.std.specs.Prelude.{ℕ, List, [], ◌∷◌, map}
use Rattle.std.specs.Option.{option_map, option_map_or, option_to_list}
use Rattle.std.specs.Ordering.{nat_cmp}
use Rattle.std.specs.Cmp.Lexicographic.{slice_cmp}
use Rattle.nsc_base.specs.declared.search.Case.TheVariants.{Counts}
use Rattle.nsc_base.specs.declared.span.Span.{Span}
use Rattle.nsc_base.specs.Text.{word_spans}
use Rattle.nsc_model.specs.ServiceLines.{service_of_line}
use Rattle.nsc_nets.specs.Lines.{entry_part}
use Rattle.nsc_index.specs.declared.names.NameAt.{NameAt}
use Rattle.nsc_index.specs.declared.numbers.NumberAt.{NumberAt}
use Rattle.nsc_index.specs.declared.services.ServiceIndex.{ServiceIndex}
use Rattle.nsc_index.specs.Indexes.{Indexes, line_entry, rows_from}
use Rattle.nsc_index.specs.Names.{name_key, place_of_name}
use Rattle.nsc_index.specs.Numbers.{number_in, place_of_number}

-- all but the second, which is the port and the protocol
abbrev pub but_second : {A : Type 0} → List A → List A
but_second [] = []
but_second (name ∷ []) = name ∷ []
but_second (name ∷ second ∷ aliases) = name ∷ aliases

-- where the names and aliases of a line stand
abbrev pub service_words : List ℕ → Span → List Span
service_words text line = but_second (word_spans text (entry_part text line))

-- those of a line that has the form, and its port
abbrev pub service_names : List ℕ → Span → List NameAt
service_names text line = option_map_or (λ s. map (place_of_name line) (service_words text line)) (line_entry service_of_line text line) []

abbrev pub service_ports : List ℕ → Span → List NumberAt
service_ports text line = option_to_list (option_map (λ s. place_of_number line s.port) (line_entry service_of_line text line))

-- each line that has the form, under each of its names and under its port
pub record IsServiceIndex (text : List ℕ) (index : ServiceIndex) : Type 0 where
  pub names : Indexes (slice_cmp nat_cmp) (name_key Counts text) (rows_from (service_names text) text 0) index.names.items
  pub ports : Indexes nat_cmp number_in (rows_from (service_ports text) text 0) index.ports.items
