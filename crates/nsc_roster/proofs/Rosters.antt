-- What a search for a helper in a state tells.
use Rattle.std.proofs.Common.{◌≡◌, ◌∙◌, ℕ, true, false, List, [], ◌∷◌, Some, None, length, get_or, inl, inr, refl, sym, ap, arith}
use Rattle.std.specs.Prelude.{position, slice_get}
use Rattle.std.proofs.lemmas.Bool.{false≢true}
use Rattle.std.proofs.lemmas.List.Quantifiers.{position-Some}
use Rattle.std.proofs.lemmas.Option.{none-some, slice_get-get_or}
use Rattle.nsc_roster.specs.declared.roster.HelperState.{HelperState}
use Rattle.nsc_roster.specs.declared.roster.HelperState.TheVariants.{Asleep, Called, Awake}
use Rattle.nsc_roster.specs.declared.roster.Charge.TheVariants.{Helper}
use Rattle.nsc_roster.specs.declared.roster.Lent.{Lent}
use Rattle.nsc_roster.specs.declared.roster.Roster.{Roster}
use Rattle.nsc_roster.specs.Rosters.{IsChosen, IsSound, WillLook, is_state, lowest}

state-is : (one two : HelperState) → is_state one two ≡ true → two ≡ one
state-is Asleep Asleep same = refl
state-is Asleep Called same = absurd (false≢true same)
state-is Asleep Awake same = absurd (false≢true same)
state-is Called Asleep same = absurd (false≢true same)
state-is Called Called same = refl
state-is Called Awake same = absurd (false≢true same)
state-is Awake Asleep same = absurd (false≢true same)
state-is Awake Called same = absurd (false≢true same)
state-is Awake Awake same = refl

-- a helper that is found is in the state
found-is : (state : HelperState) (helpers : List HelperState) (helper : ℕ) → position (is_state state) helpers ≡ Some helper → slice_get helpers helper ≡ Some state
found-is state helpers helper found =
    let at = position-Some (is_state state) helpers helper state found in
    slice_get-get_or helpers helper state at.0 ∙ ap (λ (s : HelperState). Some s) (state-is state (get_or helpers helper state) at.1)

-- a helper that is chosen, and is owed no wake, will look at the socket
pub chosen-looks : (lent : Lent) (roster : Roster) → IsChosen lent roster → lent.is_owed ≡ false → WillLook (Helper lent.helper) roster
chosen-looks lent roster (inl awake) unowed = inr (found-is Awake roster.helpers lent.helper awake.0)
chosen-looks lent roster (inr (inl called)) unowed = inl (found-is Called roster.helpers lent.helper called.1)
chosen-looks lent roster (inr (inr asleep)) unowed = absurd (false≢true (sym unowed ∙ asleep.3))

-- the first of these helpers is found by its own state
first-found : (state one : HelperState) (helpers : List HelperState) → is_state state one ≡ true → position (is_state state) (one ∷ helpers) ≡ None → ⊥
first-found state one helpers same none = none-some 0 (sym none ∙ grind (arith, same))

-- of helpers one is awake, called or asleep
some-found : (one : HelperState) (helpers : List HelperState) → position (is_state Awake) (one ∷ helpers) ≡ None → position (is_state Called) (one ∷ helpers) ≡ None → position (is_state Asleep) (one ∷ helpers) ≡ None → ⊥
some-found Asleep helpers awake called asleep = first-found Asleep Asleep helpers refl asleep
some-found Called helpers awake called asleep = first-found Called Called helpers refl called
some-found Awake helpers awake called asleep = first-found Awake Awake helpers refl awake

list-found : (helpers : List HelperState) → length helpers ≡ 2 → position (is_state Awake) helpers ≡ None → position (is_state Called) helpers ≡ None → position (is_state Asleep) helpers ≡ None → ⊥
list-found [] two awake called asleep = absurd (omega arith)
list-found (one ∷ rest) two awake called asleep = some-found one rest awake called asleep

-- in a sound roster one can be chosen
pub one-found : (roster : Roster) → IsSound roster → lowest Awake roster ≡ None → lowest Called roster ≡ None → lowest Asleep roster ≡ None → ⊥
one-found roster sound = list-found roster.helpers sound.helpers
