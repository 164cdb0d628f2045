-- Connections that wait to be served.
use Rattle.std.specs.Prelude.{ℕ, ◌<◌, ◌^◌, Option, Some, None}
use Rattle.nsc_model.specs.Machine.{next_count}
use Rattle.nsc_server.specs.declared.jobs.Job.{Job}
use Rattle.nsc_server.specs.Requests.{TakesRequests}

-- requests come on its socket, and its moment is below 2^62
pub record IsServable {R K : Type 0} (job : Job R K) : Type 0 where
  pub on : TakesRequests job.role
  pub bound : job.now < 2 ^ 62

-- how many connections were given, once this was: the number stays at 2^62
abbrev pub given_after : {J : Type 0} → Option J → ℕ → ℕ
given_after None given = given
given_after (Some job) given = next_count given
