-- What a parser says of the front of its bytes, whatever follows.
use Rattle.std.specs.Prelude.{◌≡◌, ℕ, List, ◌++◌, Result, Ok, Err}
use Rattle.nsc_model.specs.Frames.{Fault, Short}

-- the front is this piece, and the parser leaves what follows it
pub record Finds {A : Type 0} (parser : List ℕ → Result (A × List ℕ) Fault) (front : List ℕ) (piece : A) : Type 0 where
  pub whatever : (more : List ℕ) → parser (front ++ more) ≡ Ok (piece, more)

-- bytes that begin so are refused
pub record Refuses {A : Type 0} (parser : List ℕ → Result (A × List ℕ) Fault) (front : List ℕ) (fault : Fault) : Type 0 where
  pub whatever : (more : List ℕ) → parser (front ++ more) ≡ Err fault

-- the front is no whole piece
pub record IsPartial {A : Type 0} (parser : List ℕ → Result (A × List ℕ) Fault) (front : List ℕ) : Type 0 where
  pub lacks : parser front ≡ Err Short
