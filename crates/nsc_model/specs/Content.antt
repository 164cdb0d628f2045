-- A content: eight files, each absent or its bytes.
use Rattle.std.specs.Prelude.{ℕ, List, Option}

pub record Content : Type 0 where
  pub switch : Option (List ℕ)
  pub passwd : Option (List ℕ)
  pub group : Option (List ℕ)
  pub hosts : Option (List ℕ)
  pub services : Option (List ℕ)
  pub extra_passwd : Option (List ℕ)
  pub extra_group : Option (List ℕ)
  pub netgroup : Option (List ℕ)
