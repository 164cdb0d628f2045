-- The live entries of a history, as a list.
use Rattle.std.specs.Prelude.{◌≡◌, ◌<◌, ◌⊎◌, List, [], ◌∷◌}
use Rattle.nsc_model.specs.declared.record.Record.{Record}
use Rattle.nsc_model.specs.Entry.{Entry}
use Rattle.nsc_model.specs.History.{IsLive}

-- the entry is in the list
abbrev pub HasEntry : List Entry → Entry → Type 0
HasEntry [] e = ⊥
HasEntry (entry ∷ entries) e = (entry ≡ e) ⊎ HasEntry entries e

-- the numbers of the entries rise
abbrev pub Rise : List Entry → Type 0
Rise [] = Unit {0}
Rise (e ∷ []) = Unit {0}
Rise (e ∷ f ∷ entries) = (e.number < f.number) × Rise (f ∷ entries)

-- the live entries, each once, in rising number
pub record AreLive (history : List Record) (entries : List Entry) : Type 0 where
  pub live : (e : Entry) → HasEntry entries e → IsLive history e
  pub all : (e : Entry) → IsLive history e → HasEntry entries e
  pub rising : Rise entries
