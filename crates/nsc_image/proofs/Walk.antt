-- Entries taken from the front of the bytes, one after the other.
use Rattle.std.proofs.Common.{◌≡◌, ℕ, ◌+◌, ◌-◌, ◌<◌, ◌≤◌, List, [], ◌∷◌, ◌++◌, length, drop, Option, Some, None, refl, sym, ap, ◌∙◌, arith, inl, inr}
use Rattle.std.specs.Prelude.{IsTrue}
use Rattle.std.specs.List.{flat_map}
use Rattle.std.proofs.lemmas.List.{append_assoc, flat_map_more, length-append, length_push, nil_from_length}
use Rattle.std.proofs.lemmas.List.Elements.{All-nil, All-push}
use Rattle.nsc_model.specs.declared.kind.Db.{Db}
use Rattle.nsc_image.specs.Faults.{EntriesBreak, entry_checks, first_failing}
use Rattle.nsc_image.specs.Layout.{Fill, Stand}
use Rattle.nsc_model.specs.Image.{IsSaved, Rise, Saved, is_above, last_number, saved_bytes}
use Rattle.nsc_image.specs.Reading.{saved_at, saved_size, wide_field_in}
use Rattle.nsc_image.proofs.Checks.{sound_from}
use Rattle.nsc_image.proofs.ReadBack.{taken}
use Rattle.nsc_image.proofs.Fields.{IsBytes, IsBytes-behind}

pub Rise-push : (last : Option ℕ) (entries : List Saved) (s : Saved) → Rise last entries → IsTrue (is_above (last_number last entries) s.number) → Rise last (entries ++ s ∷ [])
Rise-push last [] s rise above = (above, tt)
Rise-push last (e ∷ entries) s rise above = (rise.0, Rise-push (Some e.number) entries s rise.1 above)

pub last_number-push : (last : Option ℕ) (entries : List Saved) (s : Saved) → last_number last (entries ++ s ∷ []) ≡ Some s.number
last_number-push last [] s = refl
last_number-push last (e ∷ entries) s = last_number-push (Some e.number) entries s

-- `count` entries were taken, the last of them with this number, and the rest is left
pub record Walk (db : Db) (version : ℕ) (bytes : List ℕ) (count : ℕ) (last : Option ℕ) (rest : List ℕ) : Type 0 where
  pub entries : List Saved
  pub stand : Stand db version bytes entries rest
  pub count_is : length entries ≡ count
  pub last_is : last ≡ last_number None entries

pub walk_start : (db : Db) (version : ℕ) (bytes : List ℕ) → Walk db version bytes 0 None bytes
walk_start db version bytes = record {
  entries = [];
  stand = record { each = All-nil (IsSaved db version); rising = tt; parts = refl };
  count_is = refl;
  last_is = refl;
}

pub walk_length : (db : Db) (version : ℕ) (bytes : List ℕ) (count : ℕ) (last : Option ℕ) (rest : List ℕ) → Walk db version bytes count last rest → length rest ≤ length bytes
walk_length db version bytes count last rest w =
    let parts = ap length w.stand.parts in omega (arith, parts, length-append (flat_map (saved_bytes version) w.entries) rest)

-- the place of the rest
rest_place : (db : Db) (version : ℕ) (bytes : List ℕ) (count : ℕ) (last : Option ℕ) (rest : List ℕ) (w : Walk db version bytes count last rest) → length bytes - length rest ≡ length (flat_map (saved_bytes version) w.entries)
rest_place db version bytes count last rest w =
    let parts = ap length w.stand.parts in omega (arith, parts, length-append (flat_map (saved_bytes version) w.entries) rest)

pub walk_step : (db : Db) (version : ℕ) (bytes : List ℕ) (count : ℕ) (last : Option ℕ) (rest : List ℕ) → IsBytes bytes → Walk db version bytes count last rest → first_failing (entry_checks db version last rest) ≡ None
    → Walk db version bytes (count + 1) (Some (wide_field_in rest 0)) (drop (saved_size version rest) rest)
unfolding saved_at
walk_step db version bytes count last rest fits w none =
    let entries : List Saved = w.entries in
    let s : Saved = saved_at version rest in
    let after : List ℕ = drop (saved_size version rest) rest in
    let t = taken db version last rest (IsBytes-behind bytes (flat_map (saved_bytes version) entries) rest w.stand.parts fits) (sound_from db version last rest none) in
    let above : IsTrue (is_above (last_number None entries) s.number) = ap (λ o. is_above o s.number) (sym w.last_is) ∙ t.above in
    record {
      entries = entries ++ s ∷ [];
      stand = record {
        each = All-push (IsSaved db version) entries s w.stand.each t.saved;
        rising = Rise-push None entries s w.stand.rising above;
        parts = w.stand.parts ∙ ap (λ (x : List ℕ). flat_map (saved_bytes version) entries ++ x) t.parts ∙ sym (append_assoc (flat_map (saved_bytes version) entries) (saved_bytes version s) after)
            ∙ ap (λ (x : List ℕ). x ++ after) (flat_map_more (saved_bytes version) [] entries s);
      };
      count_is = length_push entries s ∙ ap (λ n. n + 1) w.count_is;
      last_is = sym (last_number-push None entries s);
    }

pub walk_breaks : (db : Db) (version : ℕ) (bytes : List ℕ) (count counter : ℕ) (last : Option ℕ) (rest : List ℕ) (at : ℕ) → Walk db version bytes counter last rest → counter < count
    → first_failing (entry_checks db version last rest) ≡ Some at → EntriesBreak db version count bytes (length bytes - length rest + at)
walk_breaks db version bytes count counter last rest at w more fault =
    let here : first_failing (entry_checks db version (last_number None w.entries) rest) ≡ Some at = ap (λ o. first_failing (entry_checks db version o rest)) (sym w.last_is) ∙ fault in
    let fewer : length w.entries < count = (let e = w.count_is in omega (arith, e)) in
    (w.entries, rest, at, w.stand, inl (fewer, here), ap (λ n. n + at) (rest_place db version bytes counter last rest w))

pub walk_surplus : (db : Db) (version : ℕ) (bytes : List ℕ) (count counter : ℕ) (last : Option ℕ) (rest : List ℕ) → Walk db version bytes counter last rest → counter ≡ count
    → 0 < length rest → EntriesBreak db version count bytes (length bytes - length rest)
walk_surplus db version bytes count counter last rest w all left =
    (w.entries, rest, 0, w.stand, inr (w.count_is ∙ all, left, refl), (let place = rest_place db version bytes counter last rest w in omega (arith, place)))

pub walk_all : (db : Db) (version : ℕ) (bytes : List ℕ) (count counter : ℕ) (last : Option ℕ) (rest : List ℕ) → Walk db version bytes counter last rest → counter ≡ count
    → length rest ≡ 0 → Fill db version count bytes
walk_all db version bytes count counter last rest w all none =
    let nothing : rest ≡ [] = nil_from_length rest none in
    (w.entries, record { each = w.stand.each; rising = w.stand.rising; parts = w.stand.parts ∙ ap (λ (x : List ℕ). flat_map (saved_bytes version) w.entries ++ x) nothing }, w.count_is ∙ all)
