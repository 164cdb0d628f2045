-- What is made to be inserted.
use Rattle.std.specs.Prelude.{ℕ, ◌+◌, if◌then◌else◌, Option, Some, None}
use Rattle.nsc_model.specs.declared.answer.Request.{Request}
use Rattle.nsc_model.specs.Answers.{answer_of, request_beside}
use Rattle.nsc_model.specs.Content.{Content}
use Rattle.nsc_model.specs.Machine.{life_of, next_count}
use Rattle.nsc_pruner.specs.Due.{Due}
use Rattle.nsc_writer.specs.Loaded.{Loaded}
use Rattle.nsc_turns.specs.declared.answering.Answering.{Answering}

-- the answer to a request over these files
abbrev pub loaded_of : Answering → Content → Request → ℕ → Loaded
loaded_of a files request reloads =
    record { request = request; answer = answer_of files request; stamp = a.stamp; timeout = a.moment + life_of a.settings (answer_of files request); reloads = reloads }

-- what is to be inserted beside the answer to a request by name: the answer to the id request, if `auto-propagate` is on (nscd.conf(5))
abbrev pub loaded_id : Answering → Content → Option Request → Option Loaded
loaded_id a files None = None
loaded_id a files (Some id) = Some (loaded_of a files id 0)

abbrev pub beside_of : Answering → Content → Request → Option Loaded
beside_of a files request = if a.settings.propagate then loaded_id a files (request_beside files request) else None

-- what is to be loaded again for one that is due: nothing where it is dropped
abbrev pub anew_of : Answering → Content → Due → Option Loaded
anew_of a files d = if d.dropped then None else Some (loaded_of a files d.request (next_count d.reloads))
