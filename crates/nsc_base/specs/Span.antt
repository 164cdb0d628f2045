-- A part of a text.
use Rattle.std.specs.Prelude.{ℕ}

-- the places of its first byte and after its last one
pub record Span : Type 0 where
  pub from : ℕ
  pub to : ℕ
