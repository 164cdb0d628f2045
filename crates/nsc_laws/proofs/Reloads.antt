-- What ends of entries add to a history.
use Rattle.std.proofs.Common.{◌≡◌, ℕ, ◌≤◌, Option, List, [], ◌∷◌, ◌++◌, ap, arith}
use Rattle.nsc_model.specs.declared.answer.Request.{Request}
use Rattle.nsc_model.specs.declared.record.Ending.{Ending}
use Rattle.nsc_model.specs.declared.record.Ending.TheVariants.{Expired, Invalidated, Replaced}
use Rattle.nsc_model.specs.declared.record.Record.{Record}
use Rattle.nsc_model.specs.declared.record.Record.TheVariants.{Change, Poll, Load, End, Invalid}
use Rattle.nsc_model.specs.History.{IsPrefix, load_of}
use Rattle.nsc_model.specs.Machine.{Kept, by_invalidation, ends_of}
use Rattle.nsc_model.specs.Reloads.{AreDropped, IsDropped, Reloaded, replaced, none_brought}

replaced_rises : (more h : List Record) (request : Request) → replaced h request ≤ replaced (more ++ h) request
replaced_rises [] h request = omega arith
replaced_rises (Change v c ∷ more) h request = replaced_rises more h request
replaced_rises (Poll v ∷ more) h request = replaced_rises more h request
replaced_rises (Load e ∷ more) h request = replaced_rises more h request
replaced_rises (End n (Expired now) ∷ more) h request = replaced_rises more h request
replaced_rises (End n Invalidated ∷ more) h request = replaced_rises more h request
replaced_rises (End n Replaced ∷ more) h request = let low = replaced_rises more h request in omega arith
replaced_rises (Invalid n ∷ more) h request = replaced_rises more h request

pub replaced_on : (a b : List Record) (request : Request) → IsPrefix a b → replaced a request ≤ replaced b request
replaced_on a b request p = let low = replaced_rises p.0 a request in let same : replaced b request ≡ replaced (p.0 ++ a) request = ap (λ (h : List Record). replaced h request) p.1 in omega arith

-- an invalidation drops none
pub dropped_through : (limit : Option ℕ) (ks : List Kept) (h : List Record) → AreDropped none_brought limit h → AreDropped none_brought limit (ends_of by_invalidation ks h)
dropped_through limit [] h d = d
dropped_through limit (k ∷ ks) h d = dropped_through limit ks (End k.entry.number Invalidated ∷ h) d

-- why this end is right: a dropped entry may be dropped
abbrev pub IsRight : Option ℕ → List Record → ℕ → Ending → Type 0
IsRight limit h n (Expired now) = IsDropped none_brought limit h (load_of h n)
IsRight limit h n Invalidated = ⊥
IsRight limit h n Replaced = Unit {0}

pub reloaded_ended : (limit : Option ℕ) (h : List Record) (n : ℕ) (cause : Ending) → IsRight limit h n cause → Reloaded none_brought limit h → Reloaded none_brought limit (End n cause ∷ h)
reloaded_ended limit h n (Expired now) right r = record { dropped = (right, r.dropped); invalidated = r.invalidated }
reloaded_ended limit h n Invalidated right r = absurd right
reloaded_ended limit h n Replaced right r = record { dropped = r.dropped; invalidated = r.invalidated }
