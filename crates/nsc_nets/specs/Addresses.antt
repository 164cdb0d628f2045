-- The addresses of a host.
use Rattle.std.specs.Prelude.{ℕ, ◌==◌, ◌&&◌, Bool, not, List, [], ◌∷◌, Option, Some, None}
use Rattle.nsc_model.specs.declared.row.Found6.{Found6}
use Rattle.nsc_model.specs.declared.row.Host.{Host}
use Rattle.nsc_model.specs.Hosts.{host_has_name}
use Rattle.nsc_nets.specs.declared.hosts.HostAt.{HostAt}
use Rattle.nsc_nets.specs.Hosts.{own_bytes}

-- the address of an entry, with its family
abbrev pub found_at : HostAt → Found6
found_at at = record { family = at.family; address = own_bytes at.family at.address }

abbrev pub founds_at : Option HostAt → List Found6
founds_at None = []
founds_at (Some at) = found_at at ∷ []

-- a host of this name with an address of another family
abbrev pub of_other_family : ℕ → List ℕ → Host → Bool
of_other_family family name h = not (h.family == family) && host_has_name name h
