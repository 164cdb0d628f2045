-- The bytes of an image in the making, with one entry more, and with its count.
use Rattle.std.proofs.Common.{◌≡◌, ℕ, ◌+◌, ◌^◌, ◌<◌, ◌≤◌, List, [], ◌∷◌, ◌++◌, length, take, drop, None, refl, sym, ap, subst, ◌∙◌, arith}
use Rattle.std.specs.Prelude.{IsTrue}
use Rattle.std.specs.List.{flat_map}
use Rattle.std.proofs.lemmas.List.{append-nil, drop-append-le, flat_map_more, length-take, length_push, take-append-le, take-take}
use Rattle.std.proofs.lemmas.List.Elements.{All-push}
use Rattle.sha2.specs.Sha256.{sha256}
use Rattle.nsc_model.specs.declared.kind.Db.{Db}
use Rattle.nsc_model.specs.Wire.{field}
use Rattle.nsc_image.specs.Draft.{Draft, IsDraft, counted, draft_of}
use Rattle.nsc_model.specs.Image.{ImageBytes, IsSaved, Saved, digested, image_head, image_version, is_above, last_number, saved_bytes}
use Rattle.nsc_image.specs.Layout.{Fill}
use Rattle.nsc_image.specs.Reading.{saved_in}
use Rattle.nsc_image.proofs.Laws.{fill_read}
use Rattle.nsc_image.proofs.ListsBack.{saved_in-none}
use Rattle.nsc_image.proofs.Walk.{Rise-push}

-- the head is there, and the count is that of the entries
pub draft_long : (db : Db) (count : ℕ) (bytes : List ℕ) → IsDraft db count bytes → 20 ≤ length bytes
draft_long db count bytes d = let head = ap length d.head in omega (arith, head, length-take 20 bytes)

pub draft_count : (db : Db) (count : ℕ) (bytes : List ℕ) → IsDraft db count bytes → length (draft_of db count bytes).entries ≡ count
draft_count db count bytes d = ap length (fill_read db image_version count (drop 20 bytes) d.entries) ∙ d.entries.2

pub no_entries : (db : Db) (bytes : List ℕ) → draft_of db 0 bytes ≡ record { db = db; entries = [] }
no_entries db bytes = ap (λ (l : List Saved). let d : Draft = record { db = db; entries = l } in d) (saved_in-none image_version 0 (drop 20 bytes) refl)

-- a draft with one entry more
pub record IsPushed (db : Db) (count : ℕ) (bytes : List ℕ) (s : Saved) : Type 0 where
  pub draft : IsDraft db (count + 1) (bytes ++ saved_bytes image_version s)
  pub entries : (draft_of db (count + 1) (bytes ++ saved_bytes image_version s)).entries ≡ (draft_of db count bytes).entries ++ s ∷ []

pushed : (db : Db) (count : ℕ) (bytes : List ℕ) (s : Saved) → IsDraft db count bytes → IsSaved db image_version s → IsTrue (is_above (last_number None (draft_of db count bytes).entries) s.number)
    → length (draft_of db count bytes).entries + 1 < 2 ^ 32 → IsPushed db count bytes s
pushed db count bytes s d is above room =
    let list : List Saved = d.entries.0 in
    let long = draft_long db count bytes d in
    let read : saved_in image_version count (drop 20 bytes) ≡ list = fill_read db image_version count (drop 20 bytes) d.entries in
    let behind : drop 20 (bytes ++ saved_bytes image_version s) ≡ drop 20 bytes ++ saved_bytes image_version s = drop-append-le 20 bytes (saved_bytes image_version s) long in
    let higher : IsTrue (is_above (last_number None list) s.number) = subst (λ (l : List Saved). IsTrue (is_above (last_number None l) s.number)) read above in
    let parts : drop 20 (bytes ++ saved_bytes image_version s) ≡ flat_map (saved_bytes image_version) (list ++ s ∷ []) ++ [] =
    behind ∙ ap (λ (x : List ℕ). x ++ saved_bytes image_version s) (d.entries.1.parts ∙ append-nil (flat_map (saved_bytes image_version) list)) ∙ flat_map_more (saved_bytes image_version) [] list s ∙ sym (append-nil (flat_map (saved_bytes image_version) (list ++ s ∷ []))) in
    let fill : Fill db image_version (count + 1) (drop 20 (bytes ++ saved_bytes image_version s)) =
    (list ++ s ∷ [], record { each = All-push (IsSaved db image_version) list s d.entries.1.each is; rising = Rise-push None list s d.entries.1.rising higher; parts = parts }, length_push list s ∙ ap (λ n. n + 1) d.entries.2) in
    record {
      draft = record { head = take-append-le 20 bytes (saved_bytes image_version s) long ∙ d.head; count_fits = (let n = draft_count db count bytes d in omega (arith, n)); entries = fill };
      entries = fill_read db image_version (count + 1) (drop 20 (bytes ++ saved_bytes image_version s)) fill ∙ ap (λ (l : List Saved). l ++ s ∷ []) (sym read);
    }

-- the same by what contracts see of the draft
pub pushed_on : (db : Db) (count : ℕ) (bytes : List ℕ) (s : Saved) (d : Draft) → draft_of db count bytes ≡ d → IsDraft db count bytes → IsSaved d.db image_version s → IsTrue (is_above (last_number None d.entries) s.number)
    → length d.entries + 1 < 2 ^ 32 → IsPushed db count bytes s
pushed_on db count bytes s d seen draft is above room =
    pushed db count bytes s draft (subst (λ (x : Draft). IsSaved x.db image_version s) (sym seen) is) (subst (λ (x : Draft). IsTrue (is_above (last_number None x.entries) s.number)) (sym seen) above)
    (subst (λ (x : Draft). length x.entries + 1 < 2 ^ 32) (sym seen) room)

-- with its count and its digest it is an image
pub sealed_image : (db : Db) (count : ℕ) (bytes : List ℕ) → IsDraft db count bytes → ImageBytes db image_version (draft_of db count bytes).entries (counted count bytes ++ sha256 (counted count bytes))
sealed_image db count bytes d =
    let list : List Saved = d.entries.0 in
    let front : take 16 bytes ≡ take 16 (image_head db image_version 0) = sym (take-take 16 20 bytes (omega arith)) ∙ ap (take 16) d.head in
    let body : drop 20 bytes ≡ flat_map (saved_bytes image_version) list = d.entries.1.parts ∙ append-nil (flat_map (saved_bytes image_version) list) in
    let whole : counted count bytes ≡ digested db image_version list =
    ap (λ (x : List ℕ). x ++ field count ++ drop 20 bytes) front ∙ ap (λ (x : List ℕ). image_head db image_version count ++ x) body ∙ ap (λ n. image_head db image_version n ++ flat_map (saved_bytes image_version) list) (sym d.entries.2) in
    let image : ImageBytes db image_version list (counted count bytes ++ sha256 (counted count bytes)) = record {
      known = refl;
      each = d.entries.1.each;
      rising = d.entries.1.rising;
      count_fits = subst (λ n. n < 2 ^ 32) (sym d.entries.2) d.count_fits;
      spelling = ap (λ (x : List ℕ). x ++ sha256 x) whole;
    } in
    subst (λ (l : List Saved). ImageBytes db image_version l (counted count bytes ++ sha256 (counted count bytes))) (sym (fill_read db image_version count (drop 20 bytes) d.entries)) image
