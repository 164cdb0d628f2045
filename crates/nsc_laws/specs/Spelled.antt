-- What answers in a history spell.
use Rattle.std.specs.Prelude.{◌≡◌, ℕ, List, Some}
use Rattle.nsc_model.specs.declared.answer.Request.{Request}
use Rattle.nsc_model.specs.declared.record.Record.{Record}
use Rattle.nsc_model.specs.Answers.{looked_up}
use Rattle.nsc_model.specs.Content.{Content}
use Rattle.nsc_model.specs.Files.{FilesFit}
use Rattle.nsc_model.specs.History.{version_in}
use Rattle.nsc_model.specs.Outcomes.{reply_to}
use Rattle.nsc_model.specs.Wire.{Spells}

-- the bytes spell what is replied to the outcome of the switch over some version of the history, whose files are within their
-- limits; so there are no more of them than a reply may have
pub record SpellsVersion (history : List Record) (request : Request) (bytes : List ℕ) : Type 0 where
  pub version : ℕ
  pub files : Content
  pub holds : version_in history version ≡ Some files
  pub fits : FilesFit files
  pub spells : Spells request.kind (reply_to (looked_up files request)) bytes
