-- Lists of entries read back from the bytes that spell them.
use Rattle.std.proofs.Common.{◌≡◌, ℕ, zero, suc, ◌-◌, ◌<◌, ◌≤◌, List, [], ◌∷◌, ◌++◌, length, drop, Option, Some, None, refl, sym, ap, subst, ◌∙◌, append_assoc, arith}
use Rattle.std.specs.Prelude.{IsTrue, All}
use Rattle.std.specs.List.{flat_map}
use Rattle.std.proofs.lemmas.List.Elements.{All-head, All-tail}
use Rattle.nsc_model.specs.declared.kind.Db.{Db}
use Rattle.nsc_model.specs.Image.{IsSaved, Rise, Saved, is_above, last_number, saved_bytes}
use Rattle.nsc_image.specs.Reading.{AreReadable, IsReadable, saved_at, saved_in, saved_size}
use Rattle.nsc_image.proofs.Checks.{IsSound}
use Rattle.nsc_image.proofs.ReadBack.{read_back, saved_sound}

-- the first of several entries, and what follows it
regrouped : (version : ℕ) (s : Saved) (entries : List Saved) (rest : List ℕ) → flat_map (saved_bytes version) (s ∷ entries) ++ rest ≡ saved_bytes version s ++ (flat_map (saved_bytes version) entries ++ rest)
regrouped version s entries rest = append_assoc (saved_bytes version s) (flat_map (saved_bytes version) entries) rest

saved_in-first : (version : ℕ) (count : ℕ) (s : Saved) (bytes rest : List ℕ) → saved_at version bytes ≡ s → drop (saved_size version bytes) bytes ≡ rest → saved_in version (suc count) bytes ≡ s ∷ saved_in version count rest
unfolding saved_in
saved_in-first version count s bytes rest first behind = rw (first, behind) refl

pub saved_in-again : (db : Db) (version : ℕ) (entries : List Saved) (rest : List ℕ) → All (IsSaved db version) entries → saved_in version (length entries) (flat_map (saved_bytes version) entries ++ rest) ≡ entries
unfolding saved_in
saved_in-again db version [] rest each = refl
saved_in-again db version (s ∷ entries) rest each =
    let after : List ℕ = flat_map (saved_bytes version) entries ++ rest in
    let r = read_back db version s after (All-head (IsSaved db version) s entries each) in
    ap (saved_in version (suc (length entries))) (regrouped version s entries rest) ∙ saved_in-first version (length entries) s (saved_bytes version s ++ after) after r.entry r.behind
    ∙ ap (λ (l : List Saved). s ∷ l) (saved_in-again db version entries rest (All-tail (IsSaved db version) s entries each))

readable_first : (db : Db) (version : ℕ) (s : Saved) (rest : List ℕ) → IsSaved db version s → IsReadable version (saved_bytes version s ++ rest)
unfolding saved_size
readable_first db version s rest is =
    let sound : IsSound db version None (saved_bytes version s ++ rest) = saved_sound db version None s rest is refl in
    record { long = sound.long; key_fits = sound.key; reply_fits = sound.reply; whole = sound.whole }

pub readable_again : (db : Db) (version : ℕ) (entries : List Saved) (rest : List ℕ) → All (IsSaved db version) entries → AreReadable version (length entries) (flat_map (saved_bytes version) entries ++ rest)
unfolding AreReadable
readable_again db version [] rest each = tt
readable_again db version (s ∷ entries) rest each =
    let after : List ℕ = flat_map (saved_bytes version) entries ++ rest in
    let first = All-head (IsSaved db version) s entries each in
    let both : AreReadable version (suc (length entries)) (saved_bytes version s ++ after) =
    (readable_first db version s after first, subst (AreReadable version (length entries)) (sym (read_back db version s after first).behind) (readable_again db version entries rest (All-tail (IsSaved db version) s entries each))) in
    subst (AreReadable version (suc (length entries))) (sym (regrouped version s entries rest)) both

pub length-saved_in : (version : ℕ) (count : ℕ) (bytes : List ℕ) → length (saved_in version count bytes) ≡ count
unfolding saved_in
length-saved_in version zero bytes = refl
length-saved_in version (suc count) bytes = ap (λ (n : ℕ). suc n) (length-saved_in version count (drop (saved_size version bytes) bytes))

-- ---- one step of the list

pub saved_in-none : (version : ℕ) (count : ℕ) (bytes : List ℕ) → count ≡ 0 → saved_in version count bytes ≡ []
unfolding saved_in
saved_in-none version count bytes none = rw none refl

pub saved_in-next : (version : ℕ) (count : ℕ) (bytes : List ℕ) → 0 < count → saved_in version count bytes ≡ saved_at version bytes ∷ saved_in version (count - 1) (drop (saved_size version bytes) bytes)
unfolding saved_in
saved_in-next version zero bytes some = absurd (omega arith)
saved_in-next version (suc count) bytes some = let less : suc count - 1 ≡ count = omega arith in rw less refl

pub readable_next : (version : ℕ) (count : ℕ) (bytes : List ℕ) → 0 < count → AreReadable version count bytes → IsReadable version bytes × AreReadable version (count - 1) (drop (saved_size version bytes) bytes)
unfolding AreReadable
readable_next version zero bytes some all = absurd (omega arith)
readable_next version (suc count) bytes some all = let less : suc count - 1 ≡ count = omega arith in (all.0, subst (λ n. AreReadable version n (drop (saved_size version bytes) bytes)) (sym less) all.1)

-- ---- two readings of the same bytes

-- the entry at the front is one, and so is what follows it
same_first : (db : Db) (version : ℕ) (s t : Saved) (a b : List ℕ) → IsSaved db version s → IsSaved db version t → saved_bytes version s ++ a ≡ saved_bytes version t ++ b → (s ≡ t) × (a ≡ b)
same_first db version s t a b is it e =
    let p = read_back db version s a is in
    let q = read_back db version t b it in
    (sym p.entry ∙ ap (saved_at version) e ∙ q.entry, sym p.behind ∙ ap (λ (x : List ℕ). drop (saved_size version x) x) e ∙ q.behind)

-- the entries at the front are the first of them, and the others follow
pub record Begins (version : ℕ) (entries front : List Saved) (left rest : List ℕ) : Type 0 where
  pub others : List Saved
  pub list : entries ≡ front ++ others
  pub rest_is : rest ≡ flat_map (saved_bytes version) others ++ left

pub begins : (db : Db) (version : ℕ) (entries front : List Saved) (left rest : List ℕ) → All (IsSaved db version) entries → All (IsSaved db version) front → length front ≤ length entries
    → flat_map (saved_bytes version) entries ++ left ≡ flat_map (saved_bytes version) front ++ rest → Begins version entries front left rest
begins db version entries [] left rest each each' le e = record { others = entries; list = refl; rest_is = sym e }
begins db version [] (t ∷ front) left rest each each' le e = absurd (omega arith)
begins db version (s ∷ entries) (t ∷ front) left rest each each' le e =
    let split : saved_bytes version s ++ (flat_map (saved_bytes version) entries ++ left) ≡ saved_bytes version t ++ (flat_map (saved_bytes version) front ++ rest) = sym (regrouped version s entries left) ∙ e ∙ regrouped version t front rest in
    let first = same_first db version s t (flat_map (saved_bytes version) entries ++ left) (flat_map (saved_bytes version) front ++ rest) (All-head (IsSaved db version) s entries each) (All-head (IsSaved db version) t front each') split in
    let others = begins db version entries front left rest (All-tail (IsSaved db version) s entries each) (All-tail (IsSaved db version) t front each') (omega arith) first.1 in
    record { others = others.others; list = ap (λ (x : Saved). x ∷ entries) first.0 ∙ ap (λ (l : List Saved). t ∷ l) others.list; rest_is = others.rest_is }

-- the number behind a front of a rising list
pub rise_behind : (last : Option ℕ) (front : List Saved) (s : Saved) (others : List Saved) → Rise last (front ++ s ∷ others) → IsTrue (is_above (last_number last front) s.number)
rise_behind last [] s others rise = rise.0
rise_behind last (e ∷ front) s others rise = rise_behind (Some e.number) front s others rise.1
