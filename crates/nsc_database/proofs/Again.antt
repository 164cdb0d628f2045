-- What becomes of entries that ended to be loaded again, unless there are no more compactions.
use Rattle.std.proofs.Common.{◌≤◌, ℕ, inl, inr, List, [], ◌∷◌, arith}
use Rattle.nsc_model.specs.declared.answer.Request.{Request}
use Rattle.nsc_model.specs.declared.record.Ending.TheVariants.{Invalidated}
use Rattle.nsc_model.specs.declared.record.Record.{Record}
use Rattle.nsc_model.specs.declared.record.Record.TheVariants.{Change, End}
use Rattle.nsc_model.specs.Content.{Content}
use Rattle.nsc_model.specs.Machine.{Kept, by_invalidation, ends_of}
use Rattle.nsc_laws.proofs.LoadedAgain as loaded
use Rattle.nsc_laws.proofs.LoadedAgain.{IsOther}
use Rattle.nsc_database.specs.Rests.{LoadsAgain}
use Rattle.nsc_database.specs.Ticks.{LoadsBut}

pub but_more : (arena cycle : ℕ) (those : Request → Type 0) (r : Record) (h : List Record) → IsOther r → LoadsBut arena cycle those h → LoadsBut arena cycle those (r ∷ h)
but_more arena cycle those r h other (inl all) = inl (loaded.but_more arena those r h other all)
but_more arena cycle those r h other (inr last) = inr last

pub but_none : (arena cycle : ℕ) (h : List Record) → LoadsAgain arena cycle h → LoadsBut arena cycle (λ r. ⊥) h
but_none arena cycle h (inl all) = inl (λ number before e p is. inl (all number before e p is))
but_none arena cycle h (inr last) = inr last

pub none_but : (arena cycle : ℕ) (those : Request → Type 0) (h : List Record) → ((r : Request) → those r → ⊥) → LoadsBut arena cycle those h → LoadsAgain arena cycle h
none_but arena cycle those h none (inl all) = inl (loaded.none_but arena those h none all)
none_but arena cycle those h none (inr last) = inr last

pub but_wider : (arena cycle : ℕ) (those these : Request → Type 0) (h : List Record) → ((r : Request) → those r → these r) → LoadsBut arena cycle those h → LoadsBut arena cycle these h
but_wider arena cycle those these h wider (inl all) = inl (loaded.but_wider arena those these h wider all)
but_wider arena cycle those these h wider (inr last) = inr last

-- the count of compactions goes on
pub again_later : (arena cycle cycle' : ℕ) (h : List Record) → cycle ≤ cycle' → LoadsAgain arena cycle h → LoadsAgain arena cycle' h
again_later arena cycle cycle' h on (inl all) = inl all
again_later arena cycle cycle' h on (inr last) = inr (omega arith)

pub but_later : (arena cycle cycle' : ℕ) (those : Request → Type 0) (h : List Record) → cycle ≤ cycle' → LoadsBut arena cycle those h → LoadsBut arena cycle' those h
but_later arena cycle cycle' those h on (inl all) = inl all
but_later arena cycle cycle' those h on (inr last) = inr (omega arith)

pub again_more : (arena cycle : ℕ) (r : Record) (h : List Record) → IsOther r → LoadsAgain arena cycle h → LoadsAgain arena cycle (r ∷ h)
again_more arena cycle r h other l = none_but arena cycle (λ x. ⊥) (r ∷ h) (λ x none. none) (but_more arena cycle (λ x. ⊥) r h other (but_none arena cycle h l))

-- a history that begins
pub again_first : (arena cycle : ℕ) (files : Content) → LoadsAgain arena cycle (Change 0 files ∷ [])
again_first arena cycle files = inl (loaded.none_but arena (λ x. ⊥) (Change 0 files ∷ []) (λ x none. none) (loaded.but_first arena (λ x. ⊥) files))

-- entries that end as invalidated, one after the other
pub again_ends : (arena cycle : ℕ) (ks : List Kept) (h : List Record) → LoadsAgain arena cycle h → LoadsAgain arena cycle (ends_of by_invalidation ks h)
again_ends arena cycle [] h l = l
again_ends arena cycle (k ∷ ks) h l = again_ends arena cycle ks (End k.entry.number Invalidated ∷ h) (again_more arena cycle (End k.entry.number Invalidated) h tt l)
