-- What is to be inserted.
use Rattle.std.specs.Prelude.{ℕ}
use Rattle.nsc_model.specs.declared.answer.Request.{Request}
use Rattle.nsc_model.specs.Answer.{Answer}
use Rattle.nsc_model.specs.Machine.{Kept}
use Rattle.nsc_writer.specs.declared.loaded.Stamp.{Stamp}

-- a request with its answer over the version of the stamp
pub record Loaded : Type 0 where
  pub request : Request
  pub answer : Answer
  pub stamp : Stamp
  pub timeout : ℕ
  pub reloads : ℕ

-- its entry of this number
abbrev pub kept_of : Loaded → ℕ → Kept
kept_of l number = record {
  entry = record { number = number; request = l.request; version = l.stamp.version; answer = l.answer; timeout = l.timeout };
  reloads = l.reloads;
}
