-- What is to be inserted: a request with its answer.
use Rattle.std.specs.Prelude.{ℕ, if◌then◌else◌, Option, Some, None}
use Rattle.nsc_model.specs.declared.answer.Request.{Request}
use Rattle.nsc_model.specs.Content.{Content}
use Rattle.nsc_model.specs.Answer.{Answer}
use Rattle.nsc_model.specs.Answers.{answer_of, request_beside}
use Rattle.nsc_model.specs.declared.conf.DbConf.{DbConf}
use Rattle.nsc_model.specs.Machine.{Kept, Candidate, candidate_again}

-- a request with its answer, that is to be inserted with this count of reloads
pub record Insertion : Type 0 where
  pub request : Request
  pub answer : Answer
  pub reloads : ℕ

-- what is to be inserted for a candidate over these files
abbrev pub answered : Content → Candidate → Insertion
answered files one = record { request = one.request; answer = answer_of files one.request; reloads = one.reloads }

-- what is to be inserted beside the answer to a request by name, if `auto-propagate` is on (nscd.conf(5)): the answer to the id request
abbrev pub answered_id : Content → Option Request → Option Insertion
answered_id files None = None
answered_id files (Some id) = Some (answered files (record { request = id; reloads = 0 }))

abbrev pub beside : DbConf → Content → Request → Option Insertion
beside settings files request = if settings.propagate then answered_id files (request_beside files request) else None

-- what is to be inserted where an entry is reloaded, over these files
abbrev pub anew : Content → Kept → Insertion
anew files k = answered files (candidate_again k)
