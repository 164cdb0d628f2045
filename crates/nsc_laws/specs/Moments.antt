-- The moments of a call: what a history was between what the caller had seen at the start of its call and the reply.
use Rattle.std.specs.Prelude.{List}
use Rattle.nsc_model.specs.declared.record.Record.{Record}
use Rattle.nsc_model.specs.Entry.{Entry}
use Rattle.nsc_model.specs.History.{IsLive, IsPrefix}

-- at such a moment the entry was live
pub record WasLive (seen history : List Record) (e : Entry) : Type 0 where
  pub front : List Record
  pub after_seen : IsPrefix seen front
  pub in_history : IsPrefix front history
  pub live : IsLive front e
