-- A configuration file of a set in memory.
use Rattle.std.specs.Prelude.{ℕ, List, Option, option_map, find}
use Rattle.std.specs.Str.{bytes_eq}

-- its path and its bytes
pub record ConfFile : Type 0 where
  pub path : List ℕ
  pub bytes : List ℕ

-- the bytes of the first configuration file with this path; absent where there is none
abbrev pub conf_at_path : List ConfFile → List ℕ → Option (List ℕ)
conf_at_path confs path = option_map (λ conf. conf.bytes) (find (λ conf. bytes_eq conf.path path) confs)
