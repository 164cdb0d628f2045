-- Entries whose time is over.
use Rattle.std.specs.Prelude.{◌≡◌, ℕ, ◌<◌, ◌||◌, Bool, false, if◌then◌else◌, List, [], ◌∷◌, Option}
use Rattle.nsc_model.specs.declared.answer.Request.{Request}
use Rattle.nsc_model.specs.declared.record.Record.{Record}
use Rattle.nsc_model.specs.Entry.{Entry}
use Rattle.nsc_model.specs.History.{HasLoad}
use Rattle.nsc_model.specs.Machine.{Kept, is_dropped, reached}
use Rattle.nsc_writer.specs.declared.writer.Cause.{Cause}
use Rattle.nsc_writer.specs.declared.writer.Cause.TheVariants as cause
use Rattle.nsc_shelf.specs.declared.entry.EntryAt.{EntryAt}
use Rattle.nsc_shelf.specs.Shelf.{has_number}
use Rattle.nsc_writer.specs.Writer.{Writer, ending_of, without_entry}

-- its number, what it was asked, how often it was reloaded without a use, whether it is dropped, and not reloaded, and whether it
-- was ended since
pub record Due : Type 0 where
  pub number : ℕ
  pub request : Request
  pub reloads : ℕ
  pub dropped : Bool
  pub ended : Bool

abbrev pub due_from : Option ℕ → Kept → Due
due_from limit k = record { number = k.entry.number; request = k.entry.request; reloads = k.reloads; dropped = is_dropped limit k; ended = false }

-- the one of an entry that is known but for this key
abbrev pub due_at : Option ℕ → EntryAt → List ℕ → Due
due_at limit entry key = record {
  number = entry.number;
  request = record { kind = entry.kind; key = key };
  reloads = entry.reloads;
  dropped = entry.not_found || reached limit entry.reloads;
  ended = false;
}

-- why it ends
abbrev pub due_cause_of : ℕ → Due → Cause
due_cause_of now d = if d.dropped then cause.Expired now else cause.Replaced

-- an entry of this number was inserted, whose time is over
abbrev pub IsOver : List Record → ℕ → Due → Type 0
IsOver history now d = (e : Entry) × HasLoad history e × (e.number ≡ d.number) × (e.timeout < now)

-- the writer once this one ended, where it is live, and once they all did, one after the other
abbrev pub pruned_one : ℕ → Due → Writer → Writer
pruned_one now d w = if has_number d.number w.cache.entries then without_entry d.number (ending_of (due_cause_of now d)) w else w

abbrev pub pruned_by : ℕ → List Due → Writer → Writer
pruned_by now [] w = w
pruned_by now (d ∷ due) w = pruned_by now due (pruned_one now d w)

-- they are marked where they are live when their turn comes
abbrev pub marked_by : ℕ → List Due → Writer → List Due
marked_by now [] w = []
marked_by now (d ∷ due) w = record d { ended = has_number d.number w.cache.entries } ∷ marked_by now due (pruned_one now d w)
