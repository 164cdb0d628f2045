-- What is replied to the outcome of a lookup.
use Rattle.nsc_model.specs.declared.row.Looked.{Looked}
use Rattle.nsc_model.specs.declared.row.Looked.TheVariants.{Found, NotFound, Unavail}
use Rattle.nsc_model.specs.declared.row.Reply.{Reply}
use Rattle.nsc_model.specs.declared.row.Reply.TheVariants as reply

-- what the reply to an outcome says
abbrev pub reply_to : Looked → Reply
reply_to (Found row) = reply.Found row
reply_to NotFound = reply.Absent
reply_to Unavail = reply.Absent
