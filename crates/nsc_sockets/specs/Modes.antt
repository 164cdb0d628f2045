-- The modes of socket files.
use Rattle.std.specs.Prelude.{ℕ}
use Rattle.nsc_sockets.specs.declared.role.Role.{Role}
use Rattle.nsc_sockets.specs.declared.role.Role.TheVariants as role

-- everyone may connect, but to give orders only the owner
abbrev pub mode_of : Role → ℕ
mode_of role.Plain = 0o666
mode_of role.Admin = 0o600
mode_of role.Gate = 0o666
