-- What the ends of entries leave in a history, record by record.
use Rattle.std.specs.Prelude.{◌≡◌, ℕ, ◌+◌, ◌-◌, ◌≤◌, ◌⊎◌, true, if◌then◌else◌, List, [], ◌∷◌, Option, Some, None}
use Rattle.nsc_model.specs.declared.answer.Request.{Request}
use Rattle.nsc_model.specs.declared.record.Ending.TheVariants.{Expired, Invalidated, Replaced}
use Rattle.nsc_model.specs.declared.record.Record.{Record}
use Rattle.nsc_model.specs.declared.record.Record.TheVariants.{Change, Poll, Load, End, Invalid}
use Rattle.nsc_model.specs.Entry.{Entry}
use Rattle.nsc_model.specs.Kinds.{is_request}
use Rattle.nsc_model.specs.History.{changes, load_of}

-- how many entries of the request ended to be loaded again
abbrev pub one_of : Request → Option Entry → ℕ
one_of request None = 0
one_of request (Some e) = if is_request request e.request then 1 else 0

abbrev pub replaced : List Record → Request → ℕ
replaced [] request = 0
replaced (Change version content ∷ before) request = replaced before request
replaced (Poll version ∷ before) request = replaced before request
replaced (Load entry ∷ before) request = replaced before request
replaced (End number (Expired now) ∷ before) request = replaced before request
replaced (End number Invalidated ∷ before) request = replaced before request
replaced (End number Replaced ∷ before) request = replaced before request + one_of request (load_of before number)
replaced (Invalid epoch ∷ before) request = replaced before request

-- nothing was brought back by an image
abbrev pub none_brought : Request → ℕ
none_brought request = 0

-- An entry that ends since its time is over, and is not loaded again: its reply is a not-found one, or its request was reloaded as often as
-- the limit says (nscd.conf(5), reload-count). None is the limit that no count reaches. Each entry of the request that ended before to be
-- loaded again is one reload, and an image brings back the count of those that it tells.
abbrev pub IsDropped : (Request → ℕ) → Option ℕ → List Record → Option Entry → Type 0
IsDropped brought limit before None = Unit {0}
IsDropped brought limit before (Some e) = (e.answer.not_found ≡ true) ⊎ ((most : ℕ) × (limit ≡ Some most) × (most ≤ brought e.request + replaced before e.request))

abbrev pub AreDropped : (Request → ℕ) → Option ℕ → List Record → Type 0
AreDropped brought limit [] = Unit {0}
AreDropped brought limit (Change version content ∷ before) = AreDropped brought limit before
AreDropped brought limit (Poll version ∷ before) = AreDropped brought limit before
AreDropped brought limit (Load entry ∷ before) = AreDropped brought limit before
AreDropped brought limit (End number (Expired now) ∷ before) = IsDropped brought limit before (load_of before number) × AreDropped brought limit before
AreDropped brought limit (End number Invalidated ∷ before) = AreDropped brought limit before
AreDropped brought limit (End number Replaced ∷ before) = AreDropped brought limit before
AreDropped brought limit (Invalid epoch ∷ before) = AreDropped brought limit before

-- after each end by an invalidation the invalidation itself stands
abbrev pub AreInvalidated : List Record → Type 0
AreInvalidated [] = Unit {0}
AreInvalidated (Change version content ∷ before) = AreInvalidated before
AreInvalidated (Poll version ∷ before) = AreInvalidated before
AreInvalidated (Load entry ∷ before) = AreInvalidated before
AreInvalidated (End number (Expired now) ∷ before) = AreInvalidated before
AreInvalidated (End number Invalidated ∷ before) = ⊥
AreInvalidated (End number Replaced ∷ before) = AreInvalidated before
AreInvalidated (Invalid epoch ∷ before) = Unit {0}

-- entries end for good only as ticks and invalidations end them
pub record Reloaded (brought : Request → ℕ) (limit : Option ℕ) (history : List Record) : Type 0 where
  pub dropped : AreDropped brought limit history
  pub invalidated : AreInvalidated history

-- the newest version at the last invalidation; the first one if there was none
abbrev pub invalidated_at : List Record → ℕ
invalidated_at [] = 0
invalidated_at (Change version content ∷ before) = invalidated_at before
invalidated_at (Poll version ∷ before) = invalidated_at before
invalidated_at (Load entry ∷ before) = invalidated_at before
invalidated_at (End number cause ∷ before) = invalidated_at before
invalidated_at (Invalid epoch ∷ before) = changes before - 1
