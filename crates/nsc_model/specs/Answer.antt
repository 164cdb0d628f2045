-- An answer: the bytes of a reply, with the mark of a not-found reply.
use Rattle.std.specs.Prelude.{ℕ, Bool, List}

pub record Answer : Type 0 where
  pub bytes : List ℕ
  pub not_found : Bool

-- a reply has at most 2 ^ 30 bytes
abbrev pub reply_limit : ℕ
reply_limit = 1073741824
