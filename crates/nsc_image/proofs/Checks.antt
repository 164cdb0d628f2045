-- What it means that each check of an entry passes.
use Rattle.std.proofs.Common.{◌≡◌, ℕ, ◌+◌, ◌<◌, ◌≤◌, ◌^◌, Bool, true, false, cond, List, length, Option, Some, None, refl}
use Rattle.std.proofs.lemmas.Bool.{leb-true, le-leb, ltb-true, lt-ltb}
use Rattle.nsc_model.specs.declared.kind.Db.{Db}
use Rattle.nsc_model.specs.Entry.{key_limit, kept_limit}
use Rattle.nsc_model.specs.Kinds.{kind_numbered}
use Rattle.nsc_model.specs.Wire.{field_in}
use Rattle.nsc_image.specs.Faults.{entry_checks, first_failing, is_kind_of}
use Rattle.nsc_model.specs.Image.{is_above}
use Rattle.nsc_image.specs.Reading.{wide_field_in}
use Rattle.nsc_image.specs.Versions.{fixed_size, timeout_at}

-- an entry may stand at the front of the bytes, behind the entry of this number, in an image of this version
pub record IsSound (db : Db) (version : ℕ) (last : Option ℕ) (bytes : List ℕ) : Type 0 where
  pub long : fixed_size version ≤ length bytes
  pub above : is_above last (wide_field_in bytes 0) ≡ true
  pub kind : is_kind_of db (kind_numbered (field_in bytes 8)) ≡ true
  pub key : field_in bytes 12 ≤ key_limit
  pub reply : field_in bytes 16 ≤ kept_limit
  pub mark : field_in bytes 20 ≤ 1
  pub timeout : wide_field_in bytes (timeout_at version) < 2 ^ 63
  pub whole : fixed_size version + field_in bytes 12 + field_in bytes 16 ≤ length bytes

-- the first check passes, and so do the others
passes : (b : Bool) (place : ℕ) (others : Option ℕ) → cond b others (Some place) ≡ None → (b ≡ true) × (others ≡ None)
passes true place others e = (refl, e)
passes false place others e = absurd cc

-- no check fails exactly where each of them passes
pub sound_from : (db : Db) (version : ℕ) (last : Option ℕ) (bytes : List ℕ) → first_failing (entry_checks db version last bytes) ≡ None → IsSound db version last bytes
unfolding entry_checks
sound_from db version last bytes e =
    let long = passes _ _ _ e in
    let above = passes _ _ _ long.1 in
    let kind = passes _ _ _ above.1 in
    let key = passes _ _ _ kind.1 in
    let reply = passes _ _ _ key.1 in
    let mark = passes _ _ _ reply.1 in
    let timeout = passes _ _ _ mark.1 in
    let whole = passes _ _ _ timeout.1 in
    record {
      long = leb-true _ _ long.0;
      above = above.0;
      kind = kind.0;
      key = leb-true _ _ key.0;
      reply = leb-true _ _ reply.0;
      mark = leb-true _ _ mark.0;
      timeout = ltb-true _ _ timeout.0;
      whole = leb-true _ _ whole.0;
    }

next : (b : Bool) (place : ℕ) (others : Option ℕ) → b ≡ true → others ≡ None → cond b others (Some place) ≡ None
next b place others is rest = rw is rest

pub sound_again : (db : Db) (version : ℕ) (last : Option ℕ) (bytes : List ℕ) → IsSound db version last bytes → first_failing (entry_checks db version last bytes) ≡ None
unfolding entry_checks
sound_again db version last bytes s =
    next _ _ _ (le-leb _ _ s.long) (next _ _ _ s.above (next _ _ _ s.kind (next _ _ _ (le-leb _ _ s.key) (next _ _ _ (le-leb _ _ s.reply)
    (next _ _ _ (le-leb _ _ s.mark) (next _ _ _ (lt-ltb _ _ s.timeout) (next _ _ _ (le-leb _ _ s.whole) refl)))))))
