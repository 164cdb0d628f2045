-- What never changes of an entry of a cache, and what limits hold of requests, replies and lines at the gate.
use Rattle.std.specs.Prelude.{ℕ}
use Rattle.nsc_model.specs.declared.answer.Request.{Request}
use Rattle.nsc_model.specs.Answer.{Answer}

pub record Entry : Type 0 where
  pub number : ℕ
  pub request : Request
  pub version : ℕ
  pub answer : Answer
  pub timeout : ℕ

-- a key has at most `key_limit` bytes (nscd-client.h)
abbrev pub key_limit : ℕ
key_limit = 1024

-- a line of the gate has at most `line_limit` bytes, its newline not counted
abbrev pub line_limit : ℕ
line_limit = 1100

-- a reply that is kept has at most `kept_limit` bytes
abbrev pub kept_limit : ℕ
kept_limit = 65536
