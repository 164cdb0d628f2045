-- What is known once a tick looked whether every entry ends.
use Rattle.std.proofs.Common.{◌≡◌, ◌≤◌, ℕ, Bool, List, Option, Err, Ok, sym, ap, subst}
use Rattle.nsc_model.specs.declared.answer.Request.{Request}
use Rattle.nsc_model.specs.declared.conf.DbConf.{DbConf}
use Rattle.nsc_model.specs.declared.kind.Db.{Db}
use Rattle.nsc_model.specs.declared.record.Record.{Record}
use Rattle.nsc_model.specs.Content.{Content}
use Rattle.nsc_model.specs.declared.fault.CacheFault.{CacheFault}
use Rattle.nsc_model.specs.declared.fault.CacheFault.TheVariants as cache_fault
use Rattle.nsc_model.specs.declared.store.LookupFault.TheVariants as fault
use Rattle.nsc_model.specs.History.{NoneLive}
use Rattle.nsc_model.specs.Machine.{is_outdated, last_count}
use Rattle.nsc_laws.specs.Calls.{Tells}
use Rattle.nsc_pruner.specs.Due.{Due}
use Rattle.nsc_turns.specs.declared.ticks.Checked.{Checked}
use Rattle.nsc_turns.specs.declared.ticks.Checked.TheVariants as checked
use Rattle.nsc_turns.specs.Ticks.{Checks}
use Rattle.nsc_writer.specs.Former.{Former}
use Rattle.nsc_writer.specs.Writer.{Writer}
use Rattle.nsc_database.specs.Rests.{IsAtRest, Keeps}
use Rattle.nsc_database.specs.Ticks.{AreListed, IsChecked, IsHoldFault, fault_from}
use Rattle.nsc_database.proofs.Invalidations.{completes_none, finds_emptied, rests_emptied, rests_stopped, stops_unmoved}
use Rattle.nsc_database.proofs.Listed.{are_listed}
use Rattle.nsc_database.proofs.Standing.{at_rest_current, at_rest_on, at_rest_same}

pub at_rest_checked : {settings : DbConf} {brought : Request → ℕ} {limit : Option ℕ} {held : Option Content} {which : Db} {ticked : ℕ} (left : List Former) (c : Checked) (most : Option ℕ) (now newest : ℕ) (w w' : Writer) → Checks (is_outdated settings w.cache.newest_version ticked) most now w w' (Ok c) → Tells w.seen w.cache → newest ≡ w.cache.newest_version
    → IsAtRest settings brought limit held which ticked left w → IsAtRest settings brought limit held which newest left w'
at_rest_checked {settings} {brought} {limit} {held} {which} {ticked} left checked.Emptied most now newest w w' c t is s =
    let on = at_rest_on left w w' (rests_emptied w w' c.1 t) s in
    (subst (λ (n : ℕ). Keeps settings brought limit n w') (sym is) (finds_emptied w w' c.1 t settings limit ticked s.0), on.1, on.2, on.3, on.4, on.5, on.6, on.7)
at_rest_checked {settings} {brought} {limit} {held} {which} {ticked} left (checked.Listed due) most now newest w w' c t is s = at_rest_current left newest w w' c.2 is c.0 s

pub is_checked : {settings : DbConf} {brought : Request → ℕ} {ticked : ℕ} (c : Checked) (limit : Option ℕ) (now : ℕ) (w w' : Writer) → Checks (is_outdated settings w.cache.newest_version ticked) limit now w w' (Ok c) → Tells w.seen w.cache → Keeps settings brought limit ticked w → IsChecked c settings brought limit now w'.seen
is_checked {settings} {brought} {ticked} checked.Emptied limit now w w' c t k = completes_none w w' c.1 t
is_checked {settings} {brought} {ticked} (checked.Listed due) limit now w w' c t k =
    subst (λ (x : List Record × List Due). AreListed settings brought limit now x.0 x.1) (λ i. (sym (ap (λ (y : Writer). y.seen) c.2) i, sym c.1 i)) (are_listed settings brought limit now ticked w t k c.0)

-- ---- where it gave up

pub at_rest_unchecked : {settings : DbConf} {brought : Request → ℕ} {limit : Option ℕ} {held : Option Content} {which : Db} {ticked : ℕ} (left : List Former) (f : CacheFault) (outdated : Bool) (most : Option ℕ) (now : ℕ) (w w' : Writer) → Checks outdated most now w w' (Err f) → Tells w.seen w.cache
    → IsAtRest settings brought limit held which ticked left w → IsAtRest settings brought limit held which ticked left w'
at_rest_unchecked left cache_fault.NoMemory outdated most now w w' c t s = at_rest_same left w w' c.1 s
at_rest_unchecked left (cache_fault.Spent count) outdated most now w w' c t s = at_rest_on left w w' (rests_stopped w w' count c.1 t) s

pub fault_unchecked : (f : CacheFault) (outdated : Bool) (most : Option ℕ) (now : ℕ) (w w' : Writer) → Checks outdated most now w w' (Err f) → Tells w.seen w.cache → IsHoldFault (fault_from f) w'.seen (last_count ≤ w'.cache.cycle) (NoneLive w'.seen)
fault_unchecked cache_fault.NoMemory outdated most now w w' c t = tt
fault_unchecked (cache_fault.Spent count) outdated most now w w' c t = stops_unmoved w w' count c.1 t

spends_no_memory : (count : ℕ) → fault.Spent count ≡ fault.NoMemory → ⊥
spends_no_memory count e = absurd cc

pub same_unchecked : (f : CacheFault) (outdated : Bool) (most : Option ℕ) (now : ℕ) (w w' : Writer) → Checks outdated most now w w' (Err f) → fault_from f ≡ fault.NoMemory → w' ≡ w
same_unchecked cache_fault.NoMemory outdated most now w w' c e = c.1
same_unchecked (cache_fault.Spent count) outdated most now w w' c e = absurd (spends_no_memory count e)
