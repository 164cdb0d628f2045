-- An image has one list of entries, and no fault.
use Rattle.std.proofs.Common.{◌≡◌, ℕ, ◌+◌, ◌-◌, ◌^◌, ◌<◌, ◌≤◌, List, [], ◌++◌, length, take, drop, sym, ap, subst, ◌∙◌, arith}
use Rattle.std.specs.List.{flat_map}
use Rattle.std.proofs.lemmas.List.{append-nil, length-take, take-append-drop, take-take}
use Rattle.sha2.specs.Sha256.{sha256}
use Rattle.nsc_model.specs.declared.kind.Db.{Db}
use Rattle.nsc_model.specs.Wire.{field_in}
use Rattle.nsc_image.specs.Faults.{HasDatabase, IsOpened, front_of}
use Rattle.nsc_image.specs.Layout.{Fill}
use Rattle.nsc_model.specs.Image.{ImageBytes, Saved, digested, image_head, is_image_version, magic, saved_bytes}
use Rattle.nsc_image.specs.Reading.{AreReadable, saved_in}
use Rattle.nsc_image.proofs.ListsBack.{readable_again, saved_in-again}
use Rattle.nsc_image.proofs.HeadBack.{head_is, image_read}
use Rattle.nsc_image.proofs.Fields.{IsBytes, IsBytes-take, field_in-take, field_lt}

-- what fills the bytes is read back
pub fill_read : (db : Db) (version count : ℕ) (bytes : List ℕ) (f : Fill db version count bytes) → saved_in version count bytes ≡ f.0
fill_read db version count bytes f =
    ap (λ n. saved_in version n bytes) (sym f.2) ∙ ap (saved_in version (length f.0)) f.1.parts ∙ saved_in-again db version f.0 [] f.1.each

pub fill_readable : (db : Db) (version count : ℕ) (bytes : List ℕ) → Fill db version count bytes → AreReadable version count bytes
fill_readable db version count bytes f =
    subst (λ n. AreReadable version n bytes) f.2 (subst (AreReadable version (length f.0)) (sym f.1.parts) (readable_again db version f.0 [] f.1.each))

-- the bytes are an image of one list of entries, in one version
pub one_list : (db : Db) (bytes : List ℕ) (v w : ℕ) (a b : List Saved) → ImageBytes db v a bytes → ImageBytes db w b bytes → a ≡ b
one_list db bytes v w a b is it =
    let p = image_read db v a bytes is in
    let q = image_read db w b bytes it in
    let one : w ≡ v = sym q.version_is ∙ p.version_is in
    let again : ImageBytes db v b bytes = subst (λ n. ImageBytes db n b bytes) one it in
    let r = image_read db v b bytes again in
    let same : length a ≡ length b = sym p.count ∙ r.count in
    let body : flat_map (saved_bytes v) a ++ [] ≡ flat_map (saved_bytes v) b ++ [] = ap (λ (x : List ℕ). x ++ []) (sym p.left ∙ r.left) in
    sym (saved_in-again db v a [] is.each) ∙ ap (λ n. saved_in v n (flat_map (saved_bytes v) a ++ [])) same ∙ ap (saved_in v (length b)) body
    ∙ saved_in-again db v b [] again.each

-- ---- an image that passed each check

-- the bytes before the digest are those of the head and of the entries
front_read : (db : Db) (bytes : List ℕ) (version count : ℕ) → IsBytes bytes → HasDatabase db bytes → field_in bytes 8 ≡ version → field_in bytes 16 ≡ count
    → front_of bytes ≡ image_head db version count ++ drop 20 (front_of bytes)
front_read db bytes version count fits passes version_is number =
    let front : List ℕ = front_of bytes in
    let marked = passes.0.0.0 in
    let size : 20 ≤ length front = (let long = marked.0 in omega (arith, length-take (length bytes - 32) bytes)) in
    let same : (at : ℕ) → at + 4 ≤ 20 → field_in front at ≡ field_in bytes at =
    λ at within. field_in-take at (length bytes - 32) bytes (let long = marked.0 in omega arith) in
    let mark : take 8 front ≡ magic = take-take 8 (length bytes - 32) bytes (let long = marked.0 in omega arith) ∙ marked.1 in
    head_is db version count front (IsBytes-take (length bytes - 32) bytes fits) size mark (same 8 (omega arith) ∙ version_is) (same 12 (omega arith) ∙ passes.1) (same 16 (omega arith) ∙ number)

pub all_passed : (db : Db) (bytes : List ℕ) (version count : ℕ) (entries : List ℕ) → IsBytes bytes → IsOpened db bytes version count entries → Fill db version count entries
    → ImageBytes db version (saved_in version count entries) bytes
all_passed db bytes version count entries fits o f =
    let front : List ℕ = front_of bytes in
    let list : List Saved = f.0 in
    let body : drop 20 front ≡ flat_map (saved_bytes version) list = sym o.entries_are ∙ f.1.parts ∙ append-nil (flat_map (saved_bytes version) list) in
    let whole : front ≡ digested db version list =
    front_read db bytes version count fits o.passes (sym o.version_is) (sym o.count_is) ∙ ap (λ (x : List ℕ). image_head db version count ++ x) body
    ∙ ap (λ n. image_head db version n ++ flat_map (saved_bytes version) list) (sym f.2) in
    let image : ImageBytes db version list bytes = record {
      known = ap is_image_version o.version_is ∙ o.passes.0.0.1;
      each = f.1.each;
      rising = f.1.rising;
      count_fits = subst (λ n. n < 2 ^ 32) (sym (f.2 ∙ o.count_is)) (field_lt 16 bytes fits);
      spelling = sym (take-append-drop (length bytes - 32) bytes) ∙ ap (λ (x : List ℕ). front ++ x) o.passes.0.1 ∙ ap (λ (x : List ℕ). x ++ sha256 x) whole;
    } in
    subst (λ (l : List Saved). ImageBytes db version l bytes) (sym (fill_read db version count entries f)) image
