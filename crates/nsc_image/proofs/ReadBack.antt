-- An entry read back from the bytes that spell it in a version, and spelled again. The proofs go by a truth: whether it is version 3.
use Rattle.std.proofs.Common.{◌≡◌, ℕ, zero, suc, ◌+◌, ◌==◌, ◌^◌, ◌<◌, ◌≤◌, Bool, true, false, cond, nat_lt, List, [], ◌++◌, length, take, drop, Option, refl, sym, ap, subst, ◌∙◌, append_assoc, arith}
use Rattle.std.specs.Prelude.{IsTrue}
use Rattle.std.proofs.lemmas.Bool.{eqb-true, lt-ltb, ltb-true}
use Rattle.std.proofs.lemmas.List.{take_at, drop_at, drop-drop, length-append, length-drop, length-take}
use Rattle.byteorder.specs.Numbers.{little_number-reads_back}
use Rattle.nsc_model.specs.declared.kind.Db.{Db}
use Rattle.nsc_model.specs.declared.kind.Kind.{Kind}
use Rattle.nsc_model.specs.Kinds.{kind_numbered, type_number}
use Rattle.nsc_model.specs.Wire.{field, field_in}
use Rattle.nsc_image.specs.Faults.{is_kind_of}
use Rattle.nsc_model.specs.Image.{IsSaved, Saved, is_above, mark_of, saved_bytes, wide_field}
use Rattle.nsc_image.specs.Reading.{key_in, kind_or_any, reply_in, saved_at, saved_size, saved_with, wide_field_in}
use Rattle.nsc_image.specs.Versions.{fixed_size, reloads_in, timeout_at}
use Rattle.nsc_model.proofs.KindNumbers.{kind_again, type_low}
use Rattle.nsc_image.proofs.KindNumbers.{kind_is, is_kind}
use Rattle.nsc_image.proofs.Checks.{IsSound}
use Rattle.nsc_image.proofs.Fields.{IsBytes, field_at, field_lt, piece_at, then, wide_at, wide_lt}

-- ---- spelled again

-- the bytes of an entry by its fields
abbrev spelled : Bool → ℕ → ℕ → ℕ → ℕ → ℕ → ℕ → ℕ → List ℕ → List ℕ → List ℕ
spelled three number kind key_length reply_length mark reloads timeout key reply =
    wide_field number ++ field kind ++ field key_length ++ field reply_length ++ field mark ++ cond three (field reloads) [] ++ wide_field timeout ++ key ++ reply

-- the fixed part that is read at the front of the bytes, and behind it a key and a reply
abbrev spelled_at : Bool → List ℕ → List ℕ → List ℕ → List ℕ
spelled_at three bytes key reply =
    spelled three (wide_field_in bytes 0) (field_in bytes 8) (field_in bytes 12) (field_in bytes 16) (field_in bytes 20) (cond three (field_in bytes 24) 0)
    (wide_field_in bytes (cond three 28 24)) key reply

-- the fields that both versions begin with
abbrev begun : List ℕ → List ℕ
begun bytes = wide_field (wide_field_in bytes 0) ++ field (field_in bytes 8) ++ field (field_in bytes 12) ++ field (field_in bytes 16) ++ field (field_in bytes 20)

begins_with : (bytes : List ℕ) → IsBytes bytes → 24 ≤ length bytes → bytes ≡ begun bytes ++ drop 24 bytes
begins_with bytes fits long =
    let f : ℕ → List ℕ = λ at. field (field_in bytes at) in
    let w : ℕ → List ℕ = λ at. wide_field (wide_field_in bytes at) in
    let d : ℕ → List ℕ = λ at. drop at bytes in
    let at8 : bytes ≡ w 0 ++ d 8 = wide_at 0 bytes fits (omega arith) in
    let at12 : bytes ≡ (w 0 ++ f 8) ++ d 12 = then bytes (w 0) (d 8) (f 8) (d 12) at8 (field_at 8 bytes fits (omega arith)) in
    let at16 : bytes ≡ (w 0 ++ f 8 ++ f 12) ++ d 16 = then bytes (w 0 ++ f 8) (d 12) (f 12) (d 16) at12 (field_at 12 bytes fits (omega arith)) in
    let at20 : bytes ≡ (w 0 ++ f 8 ++ f 12 ++ f 16) ++ d 20 = then bytes (w 0 ++ f 8 ++ f 12) (d 16) (f 16) (d 20) at16 (field_at 16 bytes fits (omega arith)) in
    then bytes (w 0 ++ f 8 ++ f 12 ++ f 16) (d 20) (f 20) (d 24) at20 (field_at 20 bytes fits (omega arith))

-- a front, a key and a reply, and what follows them
with_key : (bytes front : List ℕ) (at k r : ℕ) → bytes ≡ front ++ drop at bytes
    → bytes ≡ ((front ++ take k (drop at bytes)) ++ take r (drop (at + k) bytes)) ++ drop (at + k + r) bytes
with_key bytes front at k r is =
    let key : List ℕ = take k (drop at bytes) in
    let behind : bytes ≡ (front ++ key) ++ drop (at + k) bytes = then bytes front (drop at bytes) key (drop (at + k) bytes) is (piece_at k at bytes) in
    then bytes (front ++ key) (drop (at + k) bytes) (take r (drop (at + k) bytes)) (drop (at + k + r) bytes) behind (piece_at r (at + k) bytes)

-- the bytes are those of the entry that is read at their front, by its fields, and what follows it
parts : (three : Bool) (bytes : List ℕ) (k r : ℕ) → IsBytes bytes → cond three 36 32 ≤ length bytes
    → bytes ≡ spelled_at three bytes (take k (drop (cond three 36 32) bytes)) (take r (drop (cond three 36 32 + k) bytes)) ++ drop (cond three 36 32 + k + r) bytes
parts true bytes k r fits long =
    let at24 = begins_with bytes fits (omega arith) in
    let count : List ℕ = field (field_in bytes 24) in
    let timeout : List ℕ = wide_field (wide_field_in bytes 28) in
    let at28 : bytes ≡ (begun bytes ++ count) ++ drop 28 bytes = then bytes (begun bytes) (drop 24 bytes) count (drop 28 bytes) at24 (field_at 24 bytes fits (omega arith)) in
    let at36 : bytes ≡ ((begun bytes ++ count) ++ timeout) ++ drop 36 bytes = then bytes (begun bytes ++ count) (drop 28 bytes) timeout (drop 36 bytes) at28 (wide_at 28 bytes fits (omega arith)) in
    with_key bytes ((begun bytes ++ count) ++ timeout) 36 k r at36
parts false bytes k r fits long =
    let at24 = begins_with bytes fits (omega arith) in
    let timeout : List ℕ = wide_field (wide_field_in bytes 24) in
    let at32 : bytes ≡ (begun bytes ++ timeout) ++ drop 32 bytes = then bytes (begun bytes) (drop 24 bytes) timeout (drop 32 bytes) at24 (wide_at 24 bytes fits (omega arith)) in
    with_key bytes (begun bytes ++ timeout) 32 k r at32

-- what is read as a count of reloads can be spelled
count_in_fits : (three : Bool) (bytes : List ℕ) → IsBytes bytes → cond three (nat_lt (cond three (field_in bytes 24) 0) 4294967296) (cond three (field_in bytes 24) 0 == 0) ≡ true
count_in_fits true bytes fits = lt-ltb (field_in bytes 24) 4294967296 (let lt = field_lt 24 bytes fits in omega arith)
count_in_fits false bytes fits = refl

mark_again : (m : ℕ) → m ≤ 1 → mark_of (nat_lt 0 m) ≡ m
mark_again zero le = refl
mark_again (suc zero) le = refl
mark_again (suc (suc m)) le = absurd (omega arith)

-- an entry that passes each check is one that an image may have, and the bytes are its own and what follows them
pub record IsTaken (db : Db) (version : ℕ) (last : Option ℕ) (bytes : List ℕ) : Type 0 where
  pub parts : bytes ≡ saved_bytes version (saved_at version bytes) ++ drop (saved_size version bytes) bytes
  pub saved : IsSaved db version (saved_at version bytes)
  pub above : IsTrue (is_above last (saved_at version bytes).number)
  pub within : saved_size version bytes ≤ length bytes

-- so it is if each check passes
pub taken : (db : Db) (version : ℕ) (last : Option ℕ) (bytes : List ℕ) → IsBytes bytes → IsSound db version last bytes → IsTaken db version last bytes
unfolding saved_at saved_size
taken db version last bytes fits s =
    let fixed : ℕ = fixed_size version in
    let k : ℕ = field_in bytes 12 in
    let r : ℕ = field_in bytes 16 in
    let key : List ℕ = take k (drop fixed bytes) in
    let reply : List ℕ = take r (drop (fixed + k) bytes) in
    let whole : fixed + k + r ≤ length bytes = s.whole in
    let key-is : length key ≡ k = omega (arith, length-take k (drop fixed bytes), length-drop fixed bytes) in
    let reply-is : length reply ≡ r = omega (arith, length-take r (drop (fixed + k) bytes), length-drop (fixed + k) bytes) in
    let kind = is_kind db (field_in bytes 8) s.kind in
    let reloads : ℕ = reloads_in version bytes in
    let timeout : ℕ = wide_field_in bytes (timeout_at version) in
    let same : spelled (version == 3) (wide_field_in bytes 0) (type_number (kind_or_any (kind_numbered (field_in bytes 8)))) (length key) (length reply) (mark_of (nat_lt 0 (field_in bytes 20))) reloads timeout key reply
    ≡ spelled (version == 3) (wide_field_in bytes 0) (field_in bytes 8) k r (field_in bytes 20) reloads timeout key reply =
    (let kind-is = kind.number_is in let mark-is = mark_again (field_in bytes 20) s.mark in cc) in
    record {
      parts = parts (version == 3) bytes k r fits s.long ∙ ap (λ (t : List ℕ). t ++ drop (fixed + k + r) bytes) (sym same);
      saved = record {
        number_fits = wide_lt 0 bytes fits;
        of_database = kind.of_database;
        key_fits = (let le = s.key in omega (arith, key-is, le));
        reply_fits = (let le = s.reply in omega (arith, reply-is, le));
        reloads_fit = count_in_fits (version == 3) bytes fits;
        timeout_fits = s.timeout;
      };
      above = s.above;
      within = s.whole;
    }

-- ---- read back

type_lt : (k : Kind) → type_number k < 2 ^ 32
type_lt k = let low = type_low k in omega arith

mark_lt : (b : Bool) → mark_of b < 2 ^ 32
mark_lt true = omega arith
mark_lt false = omega arith

mark_is : (b : Bool) → nat_lt 0 (mark_of b) ≡ b
mark_is true = refl
mark_is false = refl

mark_le : (b : Bool) → mark_of b ≤ 1
mark_le true = omega arith
mark_le false = omega arith

-- the bytes of an entry, by whether it is version 3, and what follows them
abbrev entry_bytes : Bool → Saved → List ℕ
entry_bytes three s =
    spelled three s.number (type_number s.request.kind) (length s.request.key) (length s.answer.bytes) (mark_of s.answer.not_found) s.reloads s.timeout s.request.key s.answer.bytes

abbrev found_bytes : Bool → Saved → List ℕ → List ℕ
found_bytes three s rest = entry_bytes three s ++ rest

-- what is read behind the mark
record Later (three : Bool) (s : Saved) (rest : List ℕ) : Type 0 where
  reloads : cond three (field_in (found_bytes three s rest) 24) 0 ≡ s.reloads
  timeout : wide_field_in (found_bytes three s rest) (cond three 28 24) ≡ s.timeout
  behind : drop (cond three 36 32) (found_bytes three s rest) ≡ s.request.key ++ (s.answer.bytes ++ rest)
  size : length (entry_bytes three s) ≡ cond three 36 32 + length s.request.key + length s.answer.bytes

later : (three : Bool) (s : Saved) (rest : List ℕ) → cond three (nat_lt s.reloads 4294967296) (s.reloads == 0) ≡ true → s.timeout < 2 ^ 64 → Later three s rest
later true s rest few timeout_lt =
    let at36 : List ℕ = (s.request.key ++ s.answer.bytes) ++ rest in
    let at28 : List ℕ = wide_field s.timeout ++ at36 in
    let lt : s.reloads < 4294967296 = ltb-true s.reloads 4294967296 few in
    record {
      reloads = little_number-reads_back 4 s.reloads at28 (omega arith);
      timeout = little_number-reads_back 8 s.timeout at36 timeout_lt;
      behind = append_assoc s.request.key s.answer.bytes rest;
      size = omega (arith, length-append s.request.key s.answer.bytes);
    }
later false s rest few timeout_lt =
    let at32 : List ℕ = (s.request.key ++ s.answer.bytes) ++ rest in
    record {
      reloads = sym (eqb-true s.reloads 0 few);
      timeout = little_number-reads_back 8 s.timeout at32 timeout_lt;
      behind = append_assoc s.request.key s.answer.bytes rest;
      size = omega (arith, length-append s.request.key s.answer.bytes);
    }

-- the fields of an entry, read from its bytes
record Fields (version : ℕ) (s : Saved) (rest : List ℕ) : Type 0 where
  number : wide_field_in (saved_bytes version s ++ rest) 0 ≡ s.number
  kind : field_in (saved_bytes version s ++ rest) 8 ≡ type_number s.request.kind
  key_length : field_in (saved_bytes version s ++ rest) 12 ≡ length s.request.key
  reply_length : field_in (saved_bytes version s ++ rest) 16 ≡ length s.answer.bytes
  mark : field_in (saved_bytes version s ++ rest) 20 ≡ mark_of s.answer.not_found
  more : Later (version == 3) s rest

fields_of : (db : Db) (version : ℕ) (s : Saved) (rest : List ℕ) → IsSaved db version s → Fields version s rest
fields_of db version s rest is =
    let key_lt : length s.request.key < 2 ^ 32 = (let le = is.key_fits in omega arith) in
    let reply_lt : length s.answer.bytes < 2 ^ 32 = (let le = is.reply_fits in omega arith) in
    let timeout_lt : s.timeout < 2 ^ 64 = (let lt = is.timeout_fits in omega arith) in
    let at24 : List ℕ = (cond (version == 3) (field s.reloads) [] ++ wide_field s.timeout ++ s.request.key ++ s.answer.bytes) ++ rest in
    let at20 : List ℕ = field (mark_of s.answer.not_found) ++ at24 in
    let at16 : List ℕ = field (length s.answer.bytes) ++ at20 in
    let at12 : List ℕ = field (length s.request.key) ++ at16 in
    let at8 : List ℕ = field (type_number s.request.kind) ++ at12 in
    record {
      number = little_number-reads_back 8 s.number at8 is.number_fits;
      kind = little_number-reads_back 4 (type_number s.request.kind) at12 (type_lt s.request.kind);
      key_length = little_number-reads_back 4 (length s.request.key) at16 key_lt;
      reply_length = little_number-reads_back 4 (length s.answer.bytes) at20 reply_lt;
      mark = little_number-reads_back 4 (mark_of s.answer.not_found) at24 (mark_lt s.answer.not_found);
      more = later (version == 3) s rest is.reloads_fit timeout_lt;
    }

-- what is read from the bytes of an entry, whatever follows them
pub record IsReadBack (version : ℕ) (s : Saved) (rest : List ℕ) : Type 0 where
  pub entry : saved_at version (saved_bytes version s ++ rest) ≡ s
  pub size : saved_size version (saved_bytes version s ++ rest) ≡ length (saved_bytes version s)
  pub behind : drop (saved_size version (saved_bytes version s ++ rest)) (saved_bytes version s ++ rest) ≡ rest

-- so it is with each entry that an image may have
pub read_back : (db : Db) (version : ℕ) (s : Saved) (rest : List ℕ) → IsSaved db version s → IsReadBack version s rest
unfolding saved_at saved_size
read_back db version s rest is =
    let f = fields_of db version s rest is in
    let fixed : ℕ = fixed_size version in
    let bytes : List ℕ = saved_bytes version s ++ rest in
    let number : wide_field_in bytes 0 ≡ s.number = f.number in
    let kind : kind_or_any (kind_numbered (field_in bytes 8)) ≡ s.request.kind = ap (λ n. kind_or_any (kind_numbered n)) f.kind ∙ ap kind_or_any (kind_again s.request.kind) in
    let behind : drop fixed bytes ≡ s.request.key ++ (s.answer.bytes ++ rest) = f.more.behind in
    let key : key_in version bytes ≡ s.request.key =
    ap (λ n. take n (drop fixed bytes)) f.key_length ∙ ap (take (length s.request.key)) behind ∙ take_at s.request.key (s.answer.bytes ++ rest) (length s.request.key) refl in
    let from_reply : drop (fixed + field_in bytes 12) bytes ≡ s.answer.bytes ++ rest =
    ap (λ n. drop (fixed + n) bytes) f.key_length ∙ sym (drop-drop (length s.request.key) fixed bytes) ∙ ap (drop (length s.request.key)) behind
    ∙ drop_at s.request.key (s.answer.bytes ++ rest) (length s.request.key) refl in
    let reply : reply_in version bytes ≡ s.answer.bytes =
    ap (λ n. take n (drop (fixed + field_in bytes 12) bytes)) f.reply_length ∙ ap (take (length s.answer.bytes)) from_reply ∙ take_at s.answer.bytes rest (length s.answer.bytes) refl in
    let mark : nat_lt 0 (field_in bytes 20) ≡ s.answer.not_found = ap (nat_lt 0) f.mark ∙ mark_is s.answer.not_found in
    let reloads : reloads_in version bytes ≡ s.reloads = f.more.reloads in
    let timeout : wide_field_in bytes (timeout_at version) ≡ s.timeout = f.more.timeout in
    let size : fixed + field_in bytes 12 + field_in bytes 16 ≡ length (saved_bytes version s) =
    (let k = f.key_length in let r = f.reply_length in let whole : length (saved_bytes version s) ≡ fixed + length s.request.key + length s.answer.bytes = f.more.size in omega (arith, k, r, whole)) in
    record {
      entry = (let all : saved_with (wide_field_in bytes 0) (kind_or_any (kind_numbered (field_in bytes 8))) (key_in version bytes) (reply_in version bytes) (nat_lt 0 (field_in bytes 20)) (reloads_in version bytes) (wide_field_in bytes (timeout_at version))
          ≡ saved_with s.number s.request.kind s.request.key s.answer.bytes s.answer.not_found s.reloads s.timeout = cc in all);
      size = size;
      behind = ap (λ n. drop n bytes) size ∙ drop_at (saved_bytes version s) rest (length (saved_bytes version s)) refl;
    }

-- an entry that an image may have passes each check behind a lower number, whatever follows it
pub saved_sound : (db : Db) (version : ℕ) (last : Option ℕ) (s : Saved) (rest : List ℕ) → IsSaved db version s → IsTrue (is_above last s.number) → IsSound db version last (saved_bytes version s ++ rest)
saved_sound db version last s rest is above =
    let f = fields_of db version s rest is in
    let k = f.key_length in
    let r = f.reply_length in
    let size : length (saved_bytes version s) ≡ fixed_size version + length s.request.key + length s.answer.bytes = f.more.size in
    let all : length (saved_bytes version s ++ rest) ≡ length (saved_bytes version s) + length rest = length-append (saved_bytes version s) rest in
    record {
      long = omega (arith, size, all);
      above = ap (is_above last) f.number ∙ above;
      kind = ap (λ n. is_kind_of db (kind_numbered n)) f.kind ∙ kind_is db s.request.kind is.of_database;
      key = (let le = is.key_fits in omega (arith, k, le));
      reply = (let le = is.reply_fits in omega (arith, r, le));
      mark = subst (λ n. n ≤ 1) (sym f.mark) (mark_le s.answer.not_found);
      timeout = subst (λ n. n < 2 ^ 63) (sym f.more.timeout) is.timeout_fits;
      whole = omega (arith, k, r, size, all);
    }
