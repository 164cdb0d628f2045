-- The head and the digest of an image.
use Rattle.std.proofs.Common.{◌≡◌, ℕ, ◌+◌, ◌-◌, ◌==◌, ◌^◌, ◌<◌, ◌≤◌, ◌||◌, Bool, true, false, List, ◌++◌, length, take, drop, refl, sym, ap, ◌∙◌, arith}
use Rattle.std.specs.List.{flat_map}
use Rattle.std.proofs.lemmas.Bool.{eqb-true}
use Rattle.std.proofs.lemmas.List.{drop_at, length-append, take-append-drop, take_at}
use Rattle.byteorder.specs.Numbers.{little_number-reads_back}
use Rattle.sha2.specs.Sha256.{sha256}
use Rattle.sha2.proofs.Facts256.{length-sha256}
use Rattle.nsc_model.specs.declared.kind.Db.{Db}
use Rattle.nsc_model.specs.declared.kind.Db.TheVariants as db
use Rattle.nsc_model.specs.Wire.{field, field_in}
use Rattle.nsc_image.specs.Faults.{HasDatabase, front_of, kept_digest}
use Rattle.nsc_model.specs.Image.{ImageBytes, Saved, db_number, digested, image_head, is_image_version, magic, saved_bytes}
use Rattle.nsc_image.proofs.Fields.{IsBytes, field_at, then}

-- bytes with the fields of a head begin with it
pub head_is : (db : Db) (version count : ℕ) (front : List ℕ) → IsBytes front → 20 ≤ length front → take 8 front ≡ magic → field_in front 8 ≡ version → field_in front 12 ≡ db_number db
    → field_in front 16 ≡ count → front ≡ image_head db version count ++ drop 20 front
head_is db version count front fits long mark version_is database number =
    let d : ℕ → List ℕ = λ at. drop at front in
    let at8 : front ≡ magic ++ d 8 = sym (take-append-drop 8 front) ∙ ap (λ (x : List ℕ). x ++ d 8) mark in
    let field8 : d 8 ≡ field version ++ d 12 = field_at 8 front fits (omega arith) ∙ ap (λ n. field n ++ d 12) version_is in
    let field12 : d 12 ≡ field (db_number db) ++ d 16 = field_at 12 front fits (omega arith) ∙ ap (λ n. field n ++ d 16) database in
    let field16 : d 16 ≡ field count ++ d 20 = field_at 16 front fits (omega arith) ∙ ap (λ n. field n ++ d 20) number in
    let at12 = then front magic (d 8) (field version) (d 12) at8 field8 in
    let at16 = then front (magic ++ field version) (d 12) (field (db_number db)) (d 16) at12 field12 in
    then front (magic ++ field version ++ field (db_number db)) (d 16) (field count) (d 20) at16 field16

database_lt : (db : Db) → db_number db < 2 ^ 32
database_lt db.Passwd = omega arith
database_lt db.Group = omega arith
database_lt db.Hosts = omega arith
database_lt db.Services = omega arith

-- a version that is read fits its field
version_lt : (version : ℕ) → is_image_version version ≡ true → version < 2 ^ 32
version_lt version known = by (version == 2) (version == 3) (λ e. eqb-true version 2 e) (λ e. eqb-true version 3 e) known where
  by : (two three : Bool) → (two ≡ true → version ≡ 2) → (three ≡ true → version ≡ 3) → (two || three) ≡ true → version < 2 ^ 32
  by true three is_two is_three e = let two : version ≡ 2 = is_two refl in omega arith
  by false true is_two is_three e = let three : version ≡ 3 = is_three refl in omega arith
  by false false is_two is_three e = absurd cc

-- what is read of an image
pub record IsRead (db : Db) (version : ℕ) (entries : List Saved) (bytes : List ℕ) : Type 0 where
  pub passes : HasDatabase db bytes
  pub front : front_of bytes ≡ digested db version entries
  pub version_is : field_in bytes 8 ≡ version
  pub count : field_in bytes 16 ≡ length entries
  pub left : drop 20 (front_of bytes) ≡ flat_map (saved_bytes version) entries

-- an image passes each check up to those of its entries
pub image_read : (db : Db) (version : ℕ) (entries : List Saved) (bytes : List ℕ) → ImageBytes db version entries bytes → IsRead db version entries bytes
image_read db version entries bytes is =
    let front : List ℕ = digested db version entries in
    let digest : List ℕ = sha256 front in
    let body : List ℕ = flat_map (saved_bytes version) entries in
    let size : length digest ≡ 32 = length-sha256 front in
    let total : length bytes ≡ length front + 32 = ap length is.spelling ∙ length-append front digest ∙ ap (λ n. length front + n) size in
    let at : length bytes - 32 ≡ length front = omega (arith, total) in
    let front-is : front_of bytes ≡ front = ap (λ n. take n bytes) at ∙ ap (take (length front)) is.spelling ∙ take_at front digest (length front) refl in
    let digest-is : kept_digest bytes ≡ digest = ap (λ n. drop n bytes) at ∙ ap (drop (length front)) is.spelling ∙ drop_at front digest (length front) refl in
    let long : 20 ≤ length front = omega (arith, length-append (image_head db version (length entries)) body) in
    let tail : List ℕ = body ++ digest in
    let at16 : List ℕ = field (length entries) ++ tail in
    let at12 : List ℕ = field (db_number db) ++ at16 in
    let whole : bytes ≡ magic ++ (field version ++ at12) = is.spelling in
    let version_is : field_in bytes 8 ≡ version = ap (λ (x : List ℕ). field_in x 8) whole ∙ little_number-reads_back 4 version at12 (version_lt version is.known) in
    let database : field_in bytes 12 ≡ db_number db = ap (λ (x : List ℕ). field_in x 12) whole ∙ little_number-reads_back 4 (db_number db) at16 (database_lt db) in
    let count : field_in bytes 16 ≡ length entries = ap (λ (x : List ℕ). field_in x 16) whole ∙ little_number-reads_back 4 (length entries) tail is.count_fits in
    record {
      passes = ((((omega (arith, total), ap (take 8) whole), ap is_image_version version_is ∙ is.known), digest-is ∙ ap sha256 (sym front-is)), database);
      front = front-is;
      version_is = version_is;
      count = count;
      left = ap (drop 20) front-is;
    }
