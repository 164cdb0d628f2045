-- What is found where the first line that gives an entry is known.
use Rattle.std.proofs.Common.{◌≡◌, ℕ, ◌≤◌, Bool, List, length, Option, Some, None, IfSome, arith}
use Rattle.std.specs.Option.{option_map}
use Rattle.nsc_base.specs.declared.span.Span.{Span}
use Rattle.nsc_base.specs.Found.{FirstOf}
use Rattle.nsc_base.specs.Text.{LiesIn, line_spans}
use Rattle.nsc_model.specs.declared.row.Host.{Host}
use Rattle.nsc_model.specs.declared.row.Service.{Service}
use Rattle.nsc_model.specs.Entries.{first_named}
use Rattle.nsc_model.specs.Hosts.{host_of_line}
use Rattle.nsc_model.specs.ServiceLines.{service_of_line}
use Rattle.nsc_model.proofs.Firsts.{first_has, first_is}
use Rattle.nsc_nets.specs.declared.hosts.HostAt.{HostAt}
use Rattle.nsc_nets.specs.declared.services.ServiceAt.{ServiceAt}
use Rattle.nsc_nets.specs.Hosts.{GivesHost, HostLiesIn, IsPadded, host_at}
use Rattle.nsc_nets.specs.Services.{GivesService, ServiceLiesIn, service_at}

-- what lies in a line lies in the text
abbrev whole : List ℕ → Span
whole text = record { from = 0; to = length text }

wider : (text : List ℕ) (line at : Span) → line.to ≤ length text → LiesIn line at → LiesIn (whole text) at
wider text line at ends lies = record { begins = omega arith; ordered = lies.ordered; ends = omega (arith, lies.ends) }

wider_host : (text : List ℕ) (line : Span) (found : Option HostAt) → line.to ≤ length text → IfSome found (HostLiesIn line) → IfSome found (HostLiesIn (whole text))
wider_host text line None ends lies = tt
wider_host text line (Some at) ends lies = record { name_in = wider text line at.name ends lies.name_in; aliases_in = wider text line at.aliases ends lies.aliases_in }

wider_service : (text : List ℕ) (line : Span) (found : Option ServiceAt) → line.to ≤ length text → IfSome found (ServiceLiesIn line) → IfSome found (ServiceLiesIn (whole text))
wider_service text line None ends lies = tt
wider_service text line (Some at) ends lies = record { name_in = wider text line at.name ends lies.name_in; proto_in = wider text line at.proto ends lies.proto_in; aliases_in = wider text line at.aliases ends lies.aliases_in }

-- hosts
abbrev IsFirstHost : (Host → Bool) → List ℕ → Option HostAt → Type 0
IsFirstHost names text found = FirstOf (GivesHost names text) (line_spans text 0) found

pub host-entry : (names : Host → Bool) (text : List ℕ) (found : Option HostAt) → IsFirstHost names text found → option_map (host_at text) found ≡ first_named host_of_line names text
host-entry names text found first = first_is (GivesHost names text) text (host_at text) host_of_line names (λ line r ordered ends given. given.entry) found first

pub host-inside : (names : Host → Bool) (text : List ℕ) (found : Option HostAt) → IsFirstHost names text found → IfSome found (HostLiesIn (record { from = 0; to = length text }))
host-inside names text found first = first_has (GivesHost names text) text (HostLiesIn (whole text)) (λ line r ordered ends given. wider_host text line r ends given.inside) found first

pub host-padded : (names : Host → Bool) (text : List ℕ) (found : Option HostAt) → IsFirstHost names text found → IfSome found (λ at. IsPadded at.family at.address)
host-padded names text found first = first_has (GivesHost names text) text (λ (at : HostAt). IsPadded at.family at.address) (λ line r ordered ends given. given.padded) found first

-- services
abbrev IsFirstService : (Service → Bool) → List ℕ → Option ServiceAt → Type 0
IsFirstService names text found = FirstOf (GivesService names text) (line_spans text 0) found

pub service-entry : (names : Service → Bool) (text : List ℕ) (found : Option ServiceAt) → IsFirstService names text found → option_map (service_at text) found ≡ first_named service_of_line names text
service-entry names text found first = first_is (GivesService names text) text (service_at text) service_of_line names (λ line r ordered ends given. given.entry) found first

pub service-inside : (names : Service → Bool) (text : List ℕ) (found : Option ServiceAt) → IsFirstService names text found → IfSome found (ServiceLiesIn (record { from = 0; to = length text }))
service-inside names text found first = first_has (GivesService names text) text (ServiceLiesIn (whole text)) (λ line r ordered ends given. wider_service text line r ends given.inside) found first
