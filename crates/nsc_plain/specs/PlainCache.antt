-- What a plain cache is: the machine's cache with its settings and the version that its last tick found.
use Rattle.std.specs.Prelude.{◌≡◌, ℕ, List, find, Option, Some, None}
use Rattle.nsc_model.specs.declared.fault.CacheFault.{CacheFault}
use Rattle.nsc_model.specs.declared.fault.CacheFault.TheVariants.{NoMemory, Spent}
use Rattle.nsc_model.specs.declared.answer.Request.{Request}
use Rattle.nsc_model.specs.declared.conf.DbConf.{DbConf}
use Rattle.nsc_model.specs.Content.{Content}
use Rattle.nsc_model.specs.Faults.{FaultsBy}
use Rattle.nsc_model.specs.Kinds.{is_request}
use Rattle.nsc_model.specs.Machine.{Kept, Cache, lookup, tick, used_now}
use Rattle.nsc_plain.specs.EntryList.{EntryList, over}

pub record PlainCache : Type 0 where
  pub settings : DbConf
  pub reloads : Option ℕ
  pub cache : Cache
  pub ticked : ℕ

-- the entry that answers a request, if there is one: its reply is given, and its count of reloads begins anew
abbrev pub HitsBy : Option Kept → Request → Cache → Cache → Option (List ℕ) → Type 0
HitsBy None request before after hit = (hit ≡ None) × (after ≡ before)
HitsBy (Some k) request before after hit = (hit ≡ Some k.entry.answer.bytes) × (after ≡ record before { entries = used_now request before.entries })

-- over each cache with these entries: the entry that answers the request is used, if there is one
abbrev pub HitsIn : Request → EntryList → EntryList → Option (List ℕ) → Type 0
HitsIn request before after hit =
    (cache : Cache) → HitsBy (find (λ k. is_request request k.entry.request) before.entries) request (over cache before) (over cache after) hit

-- a lookup, and a tick, at this moment over these files gives up with this fault
abbrev pub LookupFails : PlainCache → PlainCache → ℕ → Content → Request → CacheFault → Type 0
LookupFails before after now files request fault = FaultsBy (lookup before.settings now files request before.cache) files before.cache after.cache fault

abbrev pub TickFails : PlainCache → PlainCache → ℕ → Content → CacheFault → Type 0
TickFails before after now files fault =
    FaultsBy (tick before.settings before.reloads now files before.ticked before.cache) files before.cache after.cache fault

-- the version that a tick keeps which gave up: if memory was short, that of the last tick
abbrev pub ticked_at : CacheFault → ℕ → ℕ → ℕ
ticked_at NoMemory ticked kept = ticked
ticked_at (Spent count) ticked kept = kept
