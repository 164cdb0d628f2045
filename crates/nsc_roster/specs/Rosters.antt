-- Who accepts: the state of each helper, who is in charge of the listening socket, and what each change of that does.
use Rattle.std.specs.Prelude.{◌≡◌, ◌≢◌, ◌⊎◌, ℕ, ◌+◌, ◌*◌, Bool, true, false, List, Option, Some, None, length, position, slice_get, slice_index_or, slice_set}
use Rattle.nsc_roster.specs.declared.roster.TheConstants.{HELPERS}
use Rattle.nsc_roster.specs.declared.roster.Roster.{Roster}
use Rattle.nsc_roster.specs.declared.roster.Lent.{Lent}
use Rattle.nsc_roster.specs.declared.roster.HelperState.{HelperState}
use Rattle.nsc_roster.specs.declared.roster.HelperState.TheVariants.{Asleep, Called, Awake}
use Rattle.nsc_roster.specs.declared.roster.Charge.{Charge}
use Rattle.nsc_roster.specs.declared.roster.Charge.TheVariants.{First, Helper}

-- two states are one
abbrev pub is_state : HelperState → HelperState → Bool
is_state Asleep Asleep = true
is_state Asleep Called = false
is_state Asleep Awake = false
is_state Called Asleep = false
is_state Called Called = true
is_state Called Awake = false
is_state Awake Asleep = false
is_state Awake Called = false
is_state Awake Awake = true

-- the lowest helper in a state
abbrev pub lowest : HelperState → Roster → Option ℕ
lowest state roster = position (is_state state) roster.helpers

-- a helper is in a state
abbrev pub IsIn : HelperState → ℕ → Roster → Type 0
IsIn state helper roster = slice_get roster.helpers helper ≡ Some state

-- a helper that is in charge is called or awake, so it will look at the socket
abbrev pub WillLook : Charge → Roster → Type 0
WillLook First roster = Unit {0}
WillLook (Helper helper) roster = IsIn Called helper roster ⊎ IsIn Awake helper roster

-- There are two helpers, so at most two are awake, and whoever is in charge will look at the socket.
pub record IsSound (roster : Roster) : Type 0 where
  pub helpers : length roster.helpers ≡ HELPERS
  pub charge : WillLook roster.charge roster

-- one helper's state changes, and nothing else
abbrev pub Turns : (helper : ℕ) → HelperState → (before after : Roster) → Type 0
Turns helper state before after = after ≡ record before { helpers = slice_set before.helpers helper state }

-- the lowest helper that sleeps is called
pub record Calls (helper : ℕ) (before after : Roster) : Type 0 where
  pub found : lowest Asleep before ≡ Some helper
  pub then : Turns helper Called before after

-- a helper that was called is awake
pub record Rises (helper : ℕ) (before after : Roster) : Type 0 where
  pub called : IsIn Called helper before
  pub then : Turns helper Awake before after

-- a helper sleeps: it may, if it is awake and not in charge
abbrev pub MayRest : (helper : ℕ) → Roster → Type 0
MayRest helper roster = IsIn Awake helper roster × (roster.charge ≢ Helper helper)

pub record Rests (helper : ℕ) (before after : Roster) : Type 0 where
  pub may : MayRest helper before
  pub then : Turns helper Asleep before after

-- who is given the charge: one that is awake; else one that is called; else one that sleeps, which is owed a wake
abbrev pub IsChosen : Lent → Roster → Type 0
IsChosen lent roster =
    ((lowest Awake roster ≡ Some lent.helper) × (lent.is_owed ≡ false))
    ⊎ ((lowest Awake roster ≡ None) × (lowest Called roster ≡ Some lent.helper) × (lent.is_owed ≡ false))
    ⊎ ((lowest Awake roster ≡ None) × (lowest Called roster ≡ None) × (lowest Asleep roster ≡ Some lent.helper) × (lent.is_owed ≡ true))

-- a helper's states after the charge was lent to it
abbrev pub helpers_after : Bool → ℕ → List HelperState → List HelperState
helpers_after true helper helpers = slice_set helpers helper Called
helpers_after false helper helpers = helpers

-- the first thread lends its charge
pub record Lends (lent : Lent) (before after : Roster) : Type 0 where
  pub had : before.charge ≡ First
  pub chosen : IsChosen lent before
  pub then : after ≡ record { helpers = helpers_after lent.is_owed lent.helper before.helpers; charge = Helper lent.helper }

-- the first thread takes its charge back
pub record TakesBack (helper : ℕ) (before after : Roster) : Type 0 where
  pub had : before.charge ≡ Helper helper
  pub then : after ≡ record before { charge = First }

-- one roster follows another by one change
abbrev pub Follows : (before after : Roster) → Type 0
Follows before after =
    ((helper : ℕ) × (Calls helper before after ⊎ Rises helper before after ⊎ Rests helper before after ⊎ TakesBack helper before after))
    ⊎ ((lent : Lent) × Lends lent before after)

-- the digit of a state, and of a charge
abbrev pub digit_of : HelperState → ℕ
digit_of Asleep = 0
digit_of Called = 1
digit_of Awake = 2

abbrev pub charge_digit : Charge → ℕ
charge_digit First = 0
charge_digit (Helper helper) = helper + 1

-- the word of a roster: a digit to the base 4 for each helper, then that of the charge
abbrev pub word_of : Roster → ℕ
word_of roster =
    digit_of (slice_index_or roster.helpers 0 Asleep)
    + 4 * digit_of (slice_index_or roster.helpers 1 Asleep)
    + 16 * charge_digit roster.charge

-- the word of some sound roster
pub record IsWatched (word : ℕ) : Type 0 where
  pub roster : Roster
  pub sound : IsSound roster
  pub same : word ≡ word_of roster
