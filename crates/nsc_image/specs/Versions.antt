-- Where the two versions of an entry differ. Version 3 has a count of reloads, of four bytes, between the mark and the timeout.
use Rattle.std.specs.Prelude.{ℕ, ◌==◌, if◌then◌else◌, List}
use Rattle.nsc_model.specs.Wire.{field_in}
use Rattle.nsc_image.specs.declared.version.Version.{Version}
use Rattle.nsc_image.specs.declared.version.Version.TheVariants as version

-- the number of a version
abbrev pub number_of : Version → ℕ
number_of version.Two = 2
number_of version.Three = 3

-- how many bytes an entry has before its key
abbrev pub fixed_size : ℕ → ℕ
fixed_size version = if version == 3 then 36 else 32

-- where an entry has its timeout
abbrev pub timeout_at : ℕ → ℕ
timeout_at version = if version == 3 then 28 else 24

-- the count of reloads of the entry at the front: version 2 has none, and its count is 0
abbrev pub reloads_in : ℕ → List ℕ → ℕ
reloads_in version bytes = if version == 3 then field_in bytes 24 else 0
