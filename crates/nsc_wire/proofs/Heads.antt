-- The head of a request, and how much of a request it tells.
use Rattle.std.proofs.Common.{◌≡◌, ℕ, ◌+◌, ◌<◌, ◌≤◌, ◌==◌, nat_lt, if◌then◌else◌, ℤ, Bool, true, false, true≢false, List, [], ◌∷◌, ◌++◌, length, take, drop, Option, Some, None, refl, sym, ◌∙◌, ap, ap₂, subst, inl, inr, arith, length-append, length-drop, append-nil}
use Rattle.std.proofs.lemmas.List.{take-append-le, drop-append-le}
use Rattle.std.proofs.lemmas.Bool.{cases_lt, lt-ltb, le-ltb, ltb-true, ltb-false}
use Rattle.byteorder.specs.Endian.{little_number, twos_complement}
use Rattle.byteorder.specs.Numbers.{little_from-take}
use Rattle.nsc_model.specs.declared.kind.Kind.{Kind}
use Rattle.nsc_model.specs.declared.answer.Request.{Request}
use Rattle.nsc_model.specs.Entry.{key_limit}
use Rattle.nsc_model.specs.Kinds.{is_netgroup, kind_numbered}
use Rattle.nsc_model.specs.Wire.{Asked, Look, Shutdown, Stat, Invalidate, Descriptor, Netgroup, Short, BadVersion, BadType, BadLength, request_of, field_in, signed_field_in, asked_look, stored_key, text_key}
use Rattle.nsc_wire.specs.Request.{Wants, asked_by}
use Rattle.nsc_wire.specs.declared.request.Wire.{Wire}
use Rattle.nsc_wire.specs.declared.request.Wire.TheVariants as wire

-- fewer bytes than the fields are never a whole request
pub short_below : (bytes : List ℕ) → length bytes < 12 → request_of bytes ≡ Short (length bytes)
short_below bytes below = rw (lt-ltb (length bytes) 12 below) refl

-- ---- the fields

-- a field of the first twelve bytes is not changed by those that follow
field-append : (at : ℕ) (bytes more : List ℕ) → at + 4 ≤ length bytes → field_in (bytes ++ more) at ≡ field_in bytes at
field-append at bytes more within =
    let front : take 4 (drop at (bytes ++ more)) ≡ take 4 (drop at bytes) =
    ap (take 4) (drop-append-le at bytes more (omega arith)) ∙ take-append-le 4 (drop at bytes) more (rw (length-drop at bytes) (omega arith)) in
    sym (little_from-take 0 4 4 (drop at (bytes ++ more)) (omega arith)) ∙ ap (little_number 4) front ∙ little_from-take 0 4 4 (drop at bytes) (omega arith)

-- a request is whole, or refused
abbrev pub Whole : Asked → Type 0
Whole (Short have) = ⊥
Whole _ = Unit {0}

-- the tests of a request
abbrev tested : (few known high long cut : Bool) (size : ℕ) (version type key : ℤ) (asked : Asked) → Asked
tested few known high long cut size version type key asked =
    if few then Short size else (
    if known then (
    if high then BadType type else (
    if long then BadLength key else (
    if cut then Short size else asked)))
    else BadVersion version)

-- of the twelve bytes or more of a request that is not whole, and not refused, the fields are good, and the key is cut
record Cut (known high long cut : Bool) : Type 0 where
  is_known : known ≡ true
  not_high : high ≡ false
  not_long : long ≡ false
  is_cut : cut ≡ true

cut_by : (few known high long cut : Bool) (size : ℕ) (version type key : ℤ) (asked : Asked) (have : ℕ) → few ≡ false → Whole asked
    → tested few known high long cut size version type key asked ≡ Short have → Cut known high long cut
cut_by true known high long cut size version type key asked have f w e = absurd (true≢false f)
cut_by false false high long cut size version type key asked have f w e = absurd (subst Whole e tt)
cut_by false true true long cut size version type key asked have f w e = absurd (subst Whole e tt)
cut_by false true false true cut size version type key asked have f w e = absurd (subst Whole e tt)
cut_by false true false false false size version type key asked have f w e = absurd (subst Whole e w)
cut_by false true false false true size version type key asked have f w e = record { is_known = refl; not_high = refl; not_long = refl; is_cut = refl }

is_cut_by : (few known high long cut : Bool) (size : ℕ) (version type key : ℤ) (asked : Asked) → few ≡ false → Cut known high long cut
    → tested few known high long cut size version type key asked ≡ Short size
is_cut_by few known high long cut size version type key asked f c = rw (f, c.is_known, c.not_high, c.not_long, c.is_cut) refl

whole_otherwise : (a b c : Bool) (key : List ℕ) → Whole (if a then Shutdown else (if b then Stat else (if c then Invalidate key else Descriptor)))
whole_otherwise true b c key = tt
whole_otherwise false true c key = tt
whole_otherwise false false true key = tt
whole_otherwise false false false key = tt

whole_kind : (netgroup : Bool) (request : Request) → Whole (if netgroup then Netgroup else Look request)
whole_kind true request = tt
whole_kind false request = tt

whole_look : (kind : Option Kind) (type : ℕ) (key : List ℕ) → Whole (asked_look kind type key)
whole_look (Some kind) type key = whole_kind (is_netgroup kind) (record { kind = kind; key = stored_key kind key })
whole_look None type key = whole_otherwise (type == 8) (type == 9) (type == 10) (text_key key)

-- ---- a request that is whole, or refused

stays_by : (few few' known high long cut cut' : Bool) (size size' : ℕ) (version type key : ℤ) (asked asked' : Asked) → (few ≡ false → few' ≡ false) → (cut ≡ false → (cut' ≡ false) × (asked' ≡ asked))
    → Whole (tested few known high long cut size version type key asked) → tested few' known high long cut' size' version type key asked' ≡ tested few known high long cut size version type key asked
stays_by true few' known high long cut cut' size size' version type key asked asked' f c w = absurd w
stays_by false true known high long cut cut' size size' version type key asked asked' f c w = absurd (true≢false (f refl))
stays_by false false false high long cut cut' size size' version type key asked asked' f c w = refl
stays_by false false true true long cut cut' size size' version type key asked asked' f c w = refl
stays_by false false true false true cut cut' size size' version type key asked asked' f c w = refl
stays_by false false true false false true cut' size size' version type key asked asked' f c w = absurd w
stays_by false false true false false false true size size' version type key asked asked' f c w = absurd (true≢false (c refl).0)
stays_by false false true false false false false size size' version type key asked asked' f c w = (c refl).1

-- what stands after a request that is whole, or refused, is not looked at
pub whole_stays : (front rest : List ℕ) → Whole (request_of front) → request_of (front ++ rest) ≡ request_of front
whole_stays front rest w =
    elim (cases_lt (length front) 12) [
      | inl few ↦ absurd (subst Whole (short_below front few) w)
      | inr all ↦ later all
    ] where
      later : 12 ≤ length front → request_of (front ++ rest) ≡ request_of front
      later all =
          let bytes : List ℕ = front ++ rest in
          let size_is : length bytes ≡ length front + length rest = length-append front rest in
          let same : (at : ℕ) → at + 4 ≤ 12 → field_in bytes at ≡ field_in front at = λ at within. field-append at front rest (omega (arith, all, within)) in
          let version = same 0 (omega arith) in
          let type = same 4 (omega arith) in
          let size = same 8 (omega arith) in
          let look : ℕ → ℕ → List ℕ → Asked = λ t n key. asked_look (kind_numbered t) t (take n key) in
          let key : nat_lt (length front) (12 + field_in front 8) ≡ false → look (field_in bytes 4) (field_in bytes 8) (drop 12 bytes) ≡ look (field_in front 4) (field_in front 8) (drop 12 front) = λ whole.
          let enough : 12 + field_in front 8 ≤ length front = ltb-false (length front) (12 + field_in front 8) whole in
          ap₂ (λ t n. look t n (drop 12 bytes)) type size ∙ ap (λ k. asked_look (kind_numbered (field_in front 4)) (field_in front 4) k)
          (ap (take (field_in front 8)) (drop-append-le 12 front rest all) ∙ take-append-le (field_in front 8) (drop 12 front) rest (rw (length-drop 12 front) (omega (arith, enough)))) in
          let fields = ap₂ (λ n m. tested (nat_lt (length bytes) 12) (n == 2) (nat_lt 21 m) (nat_lt key_limit (field_in bytes 8)) (nat_lt (length bytes) (12 + field_in bytes 8)) (length bytes) (twos_complement 4 n) (twos_complement 4 m) (signed_field_in bytes 8) (look (field_in bytes 4) (field_in bytes 8) (drop 12 bytes))) version type
          ∙ ap (λ n. tested (nat_lt (length bytes) 12) (field_in front 0 == 2) (nat_lt 21 (field_in front 4)) (nat_lt key_limit n) (nat_lt (length bytes) (12 + n)) (length bytes) (signed_field_in front 0) (signed_field_in front 4) (twos_complement 4 n) (look (field_in bytes 4) (field_in bytes 8) (drop 12 bytes))) size in
          fields ∙ stays_by (nat_lt (length front) 12) (nat_lt (length bytes) 12) (field_in front 0 == 2) (nat_lt 21 (field_in front 4)) (nat_lt key_limit (field_in front 8))
          (nat_lt (length front) (12 + field_in front 8)) (nat_lt (length bytes) (12 + field_in front 8)) (length front) (length bytes)
          (signed_field_in front 0) (signed_field_in front 4) (signed_field_in front 8) (look (field_in front 4) (field_in front 8) (drop 12 front)) (look (field_in bytes 4) (field_in bytes 8) (drop 12 bytes))
          (λ few. le-ltb (length bytes) 12 (omega (arith, all, size_is)))
          (λ whole. (le-ltb (length bytes) (12 + field_in front 8) (omega (arith, size_is, ltb-false (length front) (12 + field_in front 8) whole)), key whole)) w

-- a request that is not whole tells how many bytes there are
sized_by : (few known high long cut : Bool) (size : ℕ) (version type key : ℤ) (asked : Asked) (have : ℕ) → Whole asked → tested few known high long cut size version type key asked ≡ Short have
    → tested few known high long cut size version type key asked ≡ Short size
sized_by true known high long cut size version type key asked have w e = refl
sized_by false false high long cut size version type key asked have w e = absurd (subst Whole e tt)
sized_by false true true long cut size version type key asked have w e = absurd (subst Whole e tt)
sized_by false true false true cut size version type key asked have w e = absurd (subst Whole e tt)
sized_by false true false false true size version type key asked have w e = refl
sized_by false true false false false size version type key asked have w e = absurd (subst Whole e w)

pub short_size : (bytes : List ℕ) (have : ℕ) → request_of bytes ≡ Short have → request_of bytes ≡ Short (length bytes)
short_size bytes have e =
    sized_by (nat_lt (length bytes) 12) (field_in bytes 0 == 2) (nat_lt 21 (field_in bytes 4)) (nat_lt key_limit (field_in bytes 8)) (nat_lt (length bytes) (12 + field_in bytes 8))
    (length bytes) (signed_field_in bytes 0) (signed_field_in bytes 4) (signed_field_in bytes 8) (asked_look (kind_numbered (field_in bytes 4)) (field_in bytes 4) (take (field_in bytes 8) (drop 12 bytes)))
    have (whole_look (kind_numbered (field_in bytes 4)) (field_in bytes 4) (take (field_in bytes 8) (drop 12 bytes))) e

-- ---- what is wanted

-- nothing more is wanted of a request that is whole without a key, or refused
pub wants_none : (fields : List ℕ) → ((have : ℕ) → request_of fields ≡ Short have → ⊥) → Wants fields 0
wants_none fields not_short = record {
  limit = omega arith;
  whole = λ h. absurd (omega arith);
  short = λ more h. absurd (omega arith);
  enough = λ more have size is. absurd (none more size have is);
} where
  none : (more : List ℕ) → length more ≡ 0 → (have : ℕ) → request_of (fields ++ more) ≡ Short have → ⊥
  none [] size have is = not_short have (ap request_of (sym (append-nil fields)) ∙ is)
  none (x ∷ xs) size have is = absurd (omega (arith, size))

-- else the key is wanted
pub wants_key : (fields : List ℕ) (have : ℕ) → length fields ≡ 12 → request_of fields ≡ Short have → Wants fields (field_in fields 8)
wants_key fields have twelve is = record {
  limit = ltb-false key_limit (field_in fields 8) good.not_long;
  whole = λ h. twelve;
  short = λ more fewer. shortened more fewer ∙ ap Short (length-append fields more);
  enough = λ more also size again. absurd (enough_is more also size again);
} where
  tests : (bytes : List ℕ) → 12 ≤ length bytes → (also : ℕ) → request_of bytes ≡ Short also
      → Cut (field_in bytes 0 == 2) (nat_lt 21 (field_in bytes 4)) (nat_lt key_limit (field_in bytes 8)) (nat_lt (length bytes) (12 + field_in bytes 8))
  tests bytes all also e =
      let key : List ℕ = take (field_in bytes 8) (drop 12 bytes) in
      let not_few : nat_lt (length bytes) 12 ≡ false = le-ltb (length bytes) 12 all in
      cut_by (nat_lt (length bytes) 12) (field_in bytes 0 == 2) (nat_lt 21 (field_in bytes 4)) (nat_lt key_limit (field_in bytes 8)) (nat_lt (length bytes) (12 + field_in bytes 8))
      (length bytes) (signed_field_in bytes 0) (signed_field_in bytes 4) (signed_field_in bytes 8) (asked_look (kind_numbered (field_in bytes 4)) (field_in bytes 4) key) also
      not_few (whole_look (kind_numbered (field_in bytes 4)) (field_in bytes 4) key) e

  good : Cut (field_in fields 0 == 2) (nat_lt 21 (field_in fields 4)) (nat_lt key_limit (field_in fields 8)) (nat_lt (length fields) (12 + field_in fields 8))
  good = tests fields (omega (arith, twelve)) have is

  size_of : (more : List ℕ) → length (fields ++ more) ≡ 12 + length more
  size_of more = length-append fields more ∙ ap (λ n. n + length more) twelve

  same : (at : ℕ) → at + 4 ≤ 12 → (more : List ℕ) → field_in (fields ++ more) at ≡ field_in fields at
  same at within more = field-append at fields more (omega (arith, twelve, within))

  shortened : (more : List ℕ) → length more < field_in fields 8 → request_of (fields ++ more) ≡ Short (length (fields ++ more))
  shortened more fewer =
      let bytes : List ℕ = fields ++ more in
      let not_few : nat_lt (length bytes) 12 ≡ false = le-ltb (length bytes) 12 (omega (arith, size_of more)) in
      is_cut_by (nat_lt (length bytes) 12) (field_in bytes 0 == 2) (nat_lt 21 (field_in bytes 4)) (nat_lt key_limit (field_in bytes 8)) (nat_lt (length bytes) (12 + field_in bytes 8))
      (length bytes) (signed_field_in bytes 0) (signed_field_in bytes 4) (signed_field_in bytes 8)
      (asked_look (kind_numbered (field_in bytes 4)) (field_in bytes 4) (take (field_in bytes 8) (drop 12 bytes))) not_few
      record {
        is_known = ap (λ n. n == 2) (same 0 (omega arith) more) ∙ good.is_known;
        not_high = ap (λ n. nat_lt 21 n) (same 4 (omega arith) more) ∙ good.not_high;
        not_long = ap (λ n. nat_lt key_limit n) (same 8 (omega arith) more) ∙ good.not_long;
        is_cut = lt-ltb (length bytes) (12 + field_in bytes 8) (omega (arith, fewer, size_of more, same 8 (omega arith) more));
      }

  enough_is : (more : List ℕ) (also : ℕ) → length more ≡ field_in fields 8 → request_of (fields ++ more) ≡ Short also → ⊥
  enough_is more also size again =
      let cut = tests (fields ++ more) (omega (arith, size_of more)) also again in
      let below : length (fields ++ more) < 12 + field_in (fields ++ more) 8 = ltb-true (length (fields ++ more)) (12 + field_in (fields ++ more) 8) cut.is_cut in
      omega (arith, below, size_of more, size, same 8 (omega arith) more)

-- a reading that tells that the request is not whole says it of the bytes
pub short_wire : (bytes : List ℕ) (read : Wire) (have : ℕ) → asked_by bytes read ≡ Short have → (n : ℕ) × (read ≡ wire.Short n)
short_wire bytes (wire.Request kind key) have e = absurd (subst Whole e tt)
short_wire bytes wire.Descriptor have e = absurd (subst Whole e tt)
short_wire bytes wire.Netgroup have e = absurd (subst Whole e tt)
short_wire bytes wire.Shutdown have e = absurd (subst Whole e tt)
short_wire bytes wire.Stat have e = absurd (subst Whole e tt)
short_wire bytes (wire.Invalidate key) have e = absurd (subst Whole e tt)
short_wire bytes (wire.Short n) have e = (n, refl)
short_wire bytes (wire.BadVersion version) have e = absurd (subst Whole e tt)
short_wire bytes (wire.BadType type) have e = absurd (subst Whole e tt)
short_wire bytes (wire.BadLength size) have e = absurd (subst Whole e tt)
