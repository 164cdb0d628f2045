-- A needle that is looked for without regard to the case of ASCII letters, by a part of it.
use Rattle.std.proofs.Common.{◌≡◌, ℕ, suc, ◌+◌, ◌-◌, ◌<◌, ◌≤◌, true, false, ◌&&◌, nat_le, List, [], ◌∷◌, length, take, drop, map, slice_range, get_or, Option, None, Some, refl, sym, ◌∙◌, ap, arith}
use Rattle.std.specs.Char.{is_ascii_alphabetic, to_ascii_lowercase, to_ascii_uppercase}
use Rattle.std.specs.Str.{str_eq_ignore_ascii_case}
use Rattle.std.proofs.lemmas.Bool.Decides.{nat_tests}
use Rattle.std.proofs.lemmas.List.{drop-map, get_or-drop, get_or-take, length-map, take-map, take_rest}
use Rattle.std.proofs.lemmas.Slice.Eq.{bytes_eq-Decides}
use Rattle.memchr.specs.Find.{FindsNeedle, IsFirstByte, is_byte2}
use Rattle.nsc_base.specs.declared.search.Case.TheVariants.{Counts, Ignored}
use Rattle.nsc_base.specs.declared.span.Span.{Span}
use Rattle.nsc_base.specs.AnyCase.{HasNoCase, IsPartOf}
use Rattle.nsc_base.specs.Found.{Lacks, NoneBefore, StandsAt}
use Rattle.nsc_base.specs.Text.{part}
use Rattle.nsc_base.proofs.LineStarts.{none_before, range-range}
use Rattle.nsc_base.proofs.Places.{range-length}

-- bytes that are the same letter are one of its two cases
same_letter : (x f : ℕ) → to_ascii_lowercase x ≡ to_ascii_lowercase f → is_byte2 (to_ascii_lowercase f) (to_ascii_uppercase f) x ≡ true
same_letter x f same = grind (arith, nat_tests)

-- what is no letter is the same only as itself
same_byte : (x y : ℕ) → is_ascii_alphabetic y ≡ false → to_ascii_lowercase x ≡ to_ascii_lowercase y → x ≡ y
same_byte x y plain same = grind (arith, nat_tests)

-- no letter stands from one place up to another
abbrev pub NoLetters : List ℕ → ℕ → ℕ → Type 0
NoLetters xs from to = (k : ℕ) → from ≤ k → k < to → is_ascii_alphabetic (get_or xs k 0) ≡ false

as_written : (xs ys : List ℕ) → NoLetters ys 0 (length ys) → map to_ascii_lowercase xs ≡ map to_ascii_lowercase ys → xs ≡ ys
as_written [] [] plain same = refl
as_written [] (y ∷ ys) plain same = absurd (cc)
as_written (x ∷ xs) [] plain same = absurd (cc)
as_written (x ∷ xs) (y ∷ ys) plain same =
    let first : x ≡ y = same_byte x y (plain 0 (omega arith) (omega arith)) cc in
    let others : xs ≡ ys = as_written xs ys (λ k low below. plain (suc k) (omega arith) (omega arith)) cc in
    cc

-- bytes that are no letters are the same in either case
pub no_letters : (text : List ℕ) (run : Span) → run.to ≤ length text → NoLetters text run.from run.to → HasNoCase (part text run)
no_letters text run inside plain = λ other same.
    let size = range-length text run.from run.to inside in
    as_written other (part text run) (λ k low below.
    let here : k < run.to - run.from = omega (arith, size) in
    let there : get_or (part text run) k 0 ≡ get_or text (run.from + k) 0 = get_or-take (run.to - run.from) (drop run.from text) k 0 here ∙ get_or-drop run.from text k 0 in
    ap is_ascii_alphabetic there ∙ plain (run.from + k) (omega arith) (omega arith)) ((bytes_eq-Decides (map to_ascii_lowercase other) (map to_ascii_lowercase (part text run))).0 same)

lowered : (needle bytes : List ℕ) (at : Span) → StandsAt Ignored needle bytes at → map to_ascii_lowercase (part bytes at) ≡ map to_ascii_lowercase needle
lowered needle bytes at stands = (bytes_eq-Decides (map to_ascii_lowercase (part bytes at)) (map to_ascii_lowercase needle)).0 stands.same

-- what stands there is as long as the needle
as_long : (needle bytes : List ℕ) (at : Span) → StandsAt Ignored needle bytes at → at.to ≡ at.from + length needle
as_long needle bytes at stands =
    let size : length (part bytes at) ≡ length needle = sym (length-map (part bytes at) to_ascii_lowercase) ∙ ap length (lowered needle bytes at stands) ∙ length-map needle to_ascii_lowercase in
    omega (arith, size, range-length bytes at.from at.to stands.ends, stands.ordered)

lowered-range : (xs : List ℕ) (a b : ℕ) → map to_ascii_lowercase (slice_range xs a b) ≡ slice_range (map to_ascii_lowercase xs) a b
lowered-range xs a b = sym (take-map to_ascii_lowercase (b - a) (drop a xs)) ∙ ap (take (b - a)) (sym (drop-map to_ascii_lowercase a xs))

-- with the needle its part stands there
part_stands : (needle bytes text : List ℕ) (place : ℕ) (at : Span) → IsPartOf needle place text → StandsAt Ignored needle bytes at → StandsAt Ignored text bytes (record { from = at.from + place; to = at.from + (place + length text) })
part_stands needle bytes text place at is stands =
    let end = place + length text in
    let long = as_long needle bytes at stands in
    let within : at.from + end ≤ at.to = omega (arith, long, is.inside) in
    let piece : slice_range (part bytes at) place end ≡ slice_range bytes (at.from + place) (at.from + end) = range-range bytes at.from at.to place end (omega arith) within in
    let same : map to_ascii_lowercase (slice_range bytes (at.from + place) (at.from + end)) ≡ map to_ascii_lowercase text =
    ap (map to_ascii_lowercase) (sym piece) ∙ lowered-range (part bytes at) place end ∙ ap (λ xs. slice_range xs place end) (lowered needle bytes at stands) ∙ sym (lowered-range needle place end) ∙ ap (map to_ascii_lowercase) is.same in
    record {
      ordered = omega arith;
      ends = omega (arith, within, stands.ends);
      same = (bytes_eq-Decides (map to_ascii_lowercase (slice_range bytes (at.from + place) (at.from + end))) (map to_ascii_lowercase text)).1 same;
    }

-- what stands in bytes stands in those from a place before it on
stands_later : (text bytes : List ℕ) (from : ℕ) (at : Span) → from ≤ at.from → StandsAt Ignored text bytes at → StandsAt Ignored text (slice_range bytes from (length bytes)) (record { from = at.from - from; to = at.to - from })
stands_later text bytes from at low stands =
    let begins : from + (at.from - from) ≡ at.from = omega arith in
    let stops : from + (at.to - from) ≡ at.to = omega (arith, stands.ordered) in
    let piece : slice_range (slice_range bytes from (length bytes)) (at.from - from) (at.to - from) ≡ part bytes at =
    range-range bytes from (length bytes) (at.from - from) (at.to - from) (omega (arith, stands.ordered)) (omega (arith, stops, stands.ends)) ∙ ap (λ k. slice_range bytes k (from + (at.to - from))) begins ∙ ap (slice_range bytes at.from) stops in
    record {
      ordered = omega (arith, stands.ordered);
      ends = omega (arith, stands.ends, range-length bytes from (length bytes) (omega arith));
      same = ap (λ xs. str_eq_ignore_ascii_case xs text) piece ∙ stands.same;
    }

beyond : (a b : ℕ) → (a < b → ⊥) → b ≤ a
beyond a b never = omega arith

first_lowered : (xs : List ℕ) (y : ℕ) → map to_ascii_lowercase xs ≡ to_ascii_lowercase y ∷ [] → to_ascii_lowercase (get_or xs 0 0) ≡ to_ascii_lowercase y
first_lowered [] y same = absurd (cc)
first_lowered (x ∷ xs) y same = ap (λ (zs : List ℕ). get_or zs 0 0) same

-- the byte that stands where a byte is looked for in either case
byte_there : (byte lower upper : ℕ) (bytes : List ℕ) (at : Span) → lower ≡ to_ascii_lowercase byte → upper ≡ to_ascii_uppercase byte → StandsAt Ignored (byte ∷ []) bytes at → is_byte2 lower upper (get_or bytes at.from 0) ≡ true
byte_there byte lower upper bytes at lower_is upper_is stands =
    let long = as_long (byte ∷ []) bytes at stands in
    let here : 0 < at.to - at.from = omega (arith, long) in
    let place : at.from + 0 ≡ at.from = omega arith in
    let front : get_or (part bytes at) 0 0 ≡ get_or bytes at.from 0 = get_or-take (at.to - at.from) (drop at.from bytes) 0 0 here ∙ get_or-drop at.from bytes 0 0 ∙ ap (λ k. get_or bytes k 0) place in
    let same : to_ascii_lowercase (get_or (part bytes at) 0 0) ≡ to_ascii_lowercase byte = first_lowered (part bytes at) byte (lowered (byte ∷ []) bytes at stands) in
    ap (λ l. is_byte2 l upper (get_or bytes at.from 0)) lower_is ∙ ap (λ u. is_byte2 (to_ascii_lowercase byte) u (get_or bytes at.from 0)) upper_is
    ∙ same_letter (get_or bytes at.from 0) byte (ap to_ascii_lowercase (sym front) ∙ same)

-- a byte that is found in either case
pub either_found : (byte lower upper : ℕ) (bytes : List ℕ) (found : Option ℕ) → lower ≡ to_ascii_lowercase byte → upper ≡ to_ascii_uppercase byte → IsFirstByte (is_byte2 lower upper) bytes found → NoneBefore Ignored (byte ∷ []) bytes found
either_found byte lower upper bytes None lower_is upper_is missing = λ at stands.
    let long = as_long (byte ∷ []) bytes at stands in
    missing at.from (omega arith) (omega (arith, long, stands.ends)) (byte_there byte lower upper bytes at lower_is upper_is stands)
either_found byte lower upper bytes (Some k) lower_is upper_is found =
    (omega (arith, found.0.high), λ at stands. beyond at.from k (λ early. found.0.before at.from (omega arith) early (byte_there byte lower upper bytes at lower_is upper_is stands)))

exactly : (text bytes : List ℕ) (at : Span) → HasNoCase text → StandsAt Ignored text bytes at → StandsAt Counts text bytes at
exactly text bytes at plain stands = record {
  ordered = stands.ordered;
  ends = stands.ends;
  same = (bytes_eq-Decides (part bytes at) text).1 (plain (part bytes at) stands.same);
}

-- a text with no letters that is found as it stands
pub caseless_found : (text bytes : List ℕ) (found : Option ℕ) → HasNoCase text → FindsNeedle bytes text 0 found → NoneBefore Ignored text bytes found
caseless_found text bytes None plain finds = λ at stands. none_before text bytes None finds at (exactly text bytes at plain stands)
caseless_found text bytes (Some k) plain finds =
    let none = none_before text bytes (Some k) finds in
    (none.0, λ at stands. none.1 at (exactly text bytes at plain stands))

-- no needle begins before a place
abbrev pub NoneFrom : List ℕ → List ℕ → ℕ → Type 0
NoneFrom needle bytes from = (at : Span) → StandsAt Ignored needle bytes at → from ≤ at.from

-- from a place before which no needle begins, up to the next one where its part may stand
pub none_up_to : (needle bytes text : List ℕ) (ahead from n : ℕ) → IsPartOf needle ahead text → ahead ≤ from → NoneFrom needle bytes (from - ahead) → NoneBefore Ignored text (slice_range bytes from (length bytes)) (Some n) → NoneFrom needle bytes (from + n - ahead)
none_up_to needle bytes text ahead from n is past none found = λ at stands.
    let low = none at stands in
    let there = found.1 _ (stands_later text bytes from (record { from = at.from + ahead; to = at.from + (ahead + length text) }) (omega arith) (part_stands needle bytes text ahead at is stands)) in
    omega (arith, there, low)

pub none_at_all : (needle bytes text : List ℕ) (ahead from : ℕ) → IsPartOf needle ahead text → ahead ≤ from → NoneFrom needle bytes (from - ahead) → NoneBefore Ignored text (slice_range bytes from (length bytes)) None → Lacks Ignored needle bytes
none_at_all needle bytes text ahead from is past none missing = λ at stands.
    let low = none at stands in
    missing _ (stands_later text bytes from (record { from = at.from + ahead; to = at.from + (ahead + length text) }) (omega arith) (part_stands needle bytes text ahead at is stands))

-- no part of the needle begins after the end
pub none_left : (needle bytes text : List ℕ) (ahead from : ℕ) → IsPartOf needle ahead text → NoneFrom needle bytes (from - ahead) → length bytes < from → Lacks Ignored needle bytes
none_left needle bytes text ahead from is none past = λ at stands.
    let low = none at stands in
    let inside = part_stands needle bytes text ahead at is stands in
    omega (arith, inside.ends)

is_within : (a b : ℕ) → a ≤ b → nat_le a b ≡ true
is_within a b l = grind (arith, nat_tests)

-- and past a place at which it does not begin
pub none_past : (needle bytes : List ℕ) (place : ℕ) → NoneFrom needle bytes place → false ≡ (nat_le (length needle) (length (slice_range bytes place (length bytes))) && str_eq_ignore_ascii_case (take (length needle) (slice_range bytes place (length bytes))) needle) → NoneFrom needle bytes (place + 1)
none_past needle bytes place none other = λ at stands.
    let low = none at stands in
    let long = as_long needle bytes at stands in
    beyond at.from (place + 1) (λ early.
    let here : place ≡ at.from = omega arith in
    let size : at.to - at.from ≡ length needle = omega (arith, long) in
    let piece : take (length needle) (slice_range bytes place (length bytes)) ≡ part bytes at = ap (take (length needle)) (take_rest bytes place) ∙ ap (λ k. take (length needle) (drop k bytes)) here ∙ ap (λ n. take n (drop at.from bytes)) (sym size) in
    let fits = is_within (length needle) (length (slice_range bytes place (length bytes))) (omega (arith, long, stands.ends, range-length bytes place (length bytes) (omega arith))) in
    let there : (nat_le (length needle) (length (slice_range bytes place (length bytes))) && str_eq_ignore_ascii_case (take (length needle) (slice_range bytes place (length bytes))) needle) ≡ true = rw (fits, piece) stands.same in
    let never : false ≡ true = other ∙ there in
    cc)
