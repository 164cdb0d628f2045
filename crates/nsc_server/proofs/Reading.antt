-- How far a request is read.
use Rattle.std.proofs.Common.{◌≡◌, ℕ, ◌+◌, ◌-◌, ◌<◌, ◌≤◌, List, [], ◌∷◌, ◌++◌, length, take, drop, Option, Some, None, refl, sym, ◌∙◌, ap, subst, inl, inr, arith, length-append, length-drop}
use Rattle.std.proofs.lemmas.List.{length-take-le, take-take, take-append-le}
use Rattle.std.proofs.lemmas.Bool.{cases_lt}
use Rattle.std.proofs.Math.Seq.{take-append-add}
use borrow.Rule.Slice.PartMut.{put_mid, same_len_mid}
use Rattle.nsc_outside.specs.Stream.{Moves, MovesFewer, IsDrained}
use Rattle.nsc_outside.proofs.Streams.{Moves-then, take-written}
use Rattle.nsc_model.specs.Wire.{Asked, Look, Shutdown, Stat, Invalidate, Descriptor, Netgroup, Short, BadVersion, BadType, BadLength, request_of}
use Rattle.nsc_wire.specs.Request.{Wants}
use Rattle.nsc_wire.proofs.Heads.{Whole, short_below, whole_stays}
use Rattle.nsc_server.specs.Requests.{IsNeeded, GetsShort, GetsMore, IsDrainedIfShort}

-- what a buffer holds once a part of it was filled, from the place on up to which it was held before
pub gets_on : (before after : Option (List ℕ)) (old buf items written : List ℕ) (room have got more : ℕ) → take have items ≡ old → buf ≡ items → length buf ≡ room
    → (room ≡ 1036) × (have ≤ 1036) → length old + more ≤ 1036 → length written ≡ length (take (have + more - have) (drop have buf))
    → got ≤ length (take (have + more - have) (drop have buf)) → (got < length (take (have + more - have) (drop have buf)) → IsDrained after)
    → Moves before after (take got written) → (new : List ℕ)
    → new ≡ take (have + got) (take room (put_mid have (have + more - have) buf written ++ drop (length (put_mid have (have + more - have) buf written)) items))
    → GetsMore before after old new more
gets_on before after old buf items written room have got more held same room_is within fits length_is count ended moved new is =
    let in_buf : have ≤ length buf = omega (arith, room_is, within.0, within.1) in
    let buf_held : take have buf ≡ old = ap (take have) same ∙ held in
    let old_is : length old ≡ have = ap length (sym buf_held) ∙ length-take-le have buf in_buf in
    let part_is : length (take (have + more - have) (drop have buf)) ≡ more =
    length-take-le (have + more - have) (drop have buf) (rw (length-drop have buf) (omega (arith, old_is, room_is, within.0, fits))) ∙ omega arith in
    let got_fits : got ≤ length written = omega (arith, length_is, count) in
    let whole : List ℕ = put_mid have (have + more - have) buf written in
    let whole_is : length whole ≡ length buf = same_len_mid have (have + more - have) buf written length_is in
    let front : new ≡ take (have + got) whole =
    is ∙ take-take (have + got) room (whole ++ drop (length whole) items) (omega (arith, room_is, old_is, fits, within.0, part_is, count))
    ∙ take-append-le (have + got) whole (drop (length whole) items) (omega (arith, whole_is, room_is, old_is, fits, within.0, part_is, count)) in
    record {
      more = take got written;
      moved = moved;
      joined = front ∙ take-written have (have + more - have) got buf written in_buf got_fits ∙ ap (λ t. t ++ take got written) buf_held;
      limit = rw (length-take-le got written got_fits) (omega (arith, part_is, count));
      drained = λ fewer. ended (omega (arith, part_is, length-take-le got written got_fits, fewer));
    }

-- what stands after SHUTDOWN is not looked at
pub shutdown_stays : (front rest : List ℕ) → request_of front ≡ Shutdown → request_of (front ++ rest) ≡ Shutdown
shutdown_stays front rest is = whole_stays front rest (subst Whole (sym is) tt) ∙ is

-- ---- the whole reading

few_needed : (front : List ℕ) (n : ℕ) → n < length front → n < 12 → request_of (take n front) ≡ Short n
few_needed front n within few =
    let size : length (take n front) ≡ n = length-take-le n front (omega arith) in
    short_below (take n front) (omega (arith, size)) ∙ ap Short size

-- what was read of the fields before the input failed
pub gets_few : (before after : Option (List ℕ)) → MovesFewer before after 12 → GetsShort before after
gets_few before after m = (m.0, m.2, (λ n h. few_needed m.0 n h (omega (arith, m.1))), short_below m.0 m.1)

-- fields, and no more of a key than is wanted, hold no byte that is not needed
pub all_needed : (fields more : List ℕ) (size : ℕ) → length fields ≤ 12 → Wants fields size → length more ≤ size → IsNeeded (fields ++ more)
all_needed fields more size limit w within n h =
    elim (cases_lt n 12) [
      | inl few ↦ few_needed (fields ++ more) n h few
      | inr all ↦ later all
    ] where
      later : 12 ≤ n → request_of (take n (fields ++ more)) ≡ Short n
      later all =
          let sizes : length (fields ++ more) ≡ length fields + length more = length-append fields more in
          let wanted : 0 < size = omega (arith, h, sizes, limit, within) in
          let twelve : length fields ≡ 12 = w.whole wanted in
          let rest : ℕ = n - 12 in
          let few : rest < length more = omega (arith, h, sizes, twelve) in
          let front : take n (fields ++ more) ≡ fields ++ take rest more = ap (λ m. take m (fields ++ more)) (omega (arith, twelve)) ∙ take-append-add fields more rest in
          let size_is : length (take rest more) ≡ rest = length-take-le rest more (omega arith) in
          ap request_of front ∙ w.short (take rest more) (omega (arith, size_is, few, within)) ∙ ap Short (omega (arith, size_is, twelve))

-- the bytes that two readings gave, the first of which began with none
first_moved : (before after : Option (List ℕ)) (old fields : List ℕ) (size : ℕ) → old ≡ [] → GetsMore before after old fields size → Moves before after fields
first_moved before after old fields size none first = subst (λ t. Moves before after t) (sym (first.joined ∙ ap (λ o. o ++ first.more) none)) first.moved

pub first_limit : (before after : Option (List ℕ)) (old fields : List ℕ) (size : ℕ) → old ≡ [] → GetsMore before after old fields size → length fields ≤ size
first_limit before after old fields size none first = rw (first.joined ∙ ap (λ o. o ++ first.more) none) first.limit

pub both_moved : (before between after : Option (List ℕ)) (old fields whole : List ℕ) (first_size size : ℕ) → old ≡ [] → GetsMore before between old fields first_size
    → GetsMore between after fields whole size → Moves before after whole
both_moved before between after old fields whole first_size size none first second =
    subst (λ t. Moves before after t) (sym second.joined) (Moves-then before between after fields second.more (first_moved before between old fields first_size none first) second.moved)

-- no byte of them was not needed
pub both_needed : (between after : Option (List ℕ)) (fields whole : List ℕ) (size : ℕ) → length fields ≤ 12 → Wants fields size → GetsMore between after fields whole size → IsNeeded whole
both_needed between after fields whole size limit w second = subst IsNeeded (sym second.joined) (all_needed fields second.more size limit w second.limit)

-- the input failed while the key was read
pub gets_cut : (before between after : Option (List ℕ)) (old fields : List ℕ) (size : ℕ) → old ≡ [] → GetsMore before between old fields 12 → Wants fields size
    → MovesFewer between after size → GetsShort before after
gets_cut before between after old fields size none first w m = (
  fields ++ m.0,
  Moves-then before between after fields m.0 (first_moved before between old fields 12 none first) m.2,
  all_needed fields m.0 size (first_limit before between old fields 12 none first) w (omega (arith, m.1)),
  w.short m.0 m.1 ∙ ap Short (sym (length-append fields m.0)),
)

-- nothing is left where the request is not whole
drained_if : (left : Option (List ℕ)) (asked : Asked) → ((have : ℕ) → asked ≡ Short have → IsDrained left) → IsDrainedIfShort left asked
drained_if left (Look request) h = tt
drained_if left Shutdown h = tt
drained_if left Stat h = tt
drained_if left (Invalidate name) h = tt
drained_if left Descriptor h = tt
drained_if left Netgroup h = tt
drained_if left (Short have) h = h have refl
drained_if left (BadVersion version) h = tt
drained_if left (BadType type) h = tt
drained_if left (BadLength size) h = tt

-- a reading of no bytes leaves what was left
stays : (before after : Option (List ℕ)) (moved : List ℕ) → length moved ≡ 0 → Moves before after moved → after ≡ before
stays None after moved none m = m
stays (Some left) after [] none m = m.1 ∙ ap Some (sym m.2)
stays (Some left) after (x ∷ xs) none m = absurd (omega (arith, none))

pub both_drained : (before between after : Option (List ℕ)) (old fields whole : List ℕ) (size : ℕ) → old ≡ [] → GetsMore before between old fields 12 → Wants fields size
    → GetsMore between after fields whole size → IsDrainedIfShort after (request_of whole)
both_drained before between after old fields whole size none first w second = drained_if after (request_of whole) (λ have is.
    elim (cases_lt (length second.more) size) [
      | inl fewer ↦ second.drained fewer
      | inr all ↦ late have is all
    ]) where
      late : (have : ℕ) → request_of whole ≡ Short have → size ≤ length second.more → IsDrained after
      late have is all =
          let few : length fields < 12 = w.enough second.more have (omega (arith, second.limit, all)) (ap request_of (sym second.joined) ∙ is) in
          let fields_is : length fields ≡ length first.more = ap length (first.joined ∙ ap (λ o. o ++ first.more) none) in
          let ended : IsDrained between = first.drained (omega (arith, few, fields_is)) in
          let no_key : size ≡ 0 = elim (cases_lt 0 size) [ inl some ↦ absurd (omega (arith, w.whole some, few)) | inr nothing ↦ omega (arith, nothing) ] in
          subst IsDrained (sym (stays between after second.more (omega (arith, second.limit, no_key)) second.moved)) ended
