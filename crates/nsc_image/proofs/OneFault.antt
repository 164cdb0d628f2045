-- An image has no fault, and other bytes have one.
use Rattle.std.proofs.Common.{◌≡◌, ℕ, ◌+◌, ◌<◌, ◌≤◌, List, [], ◌∷◌, ◌++◌, length, drop, true, false, Option, Some, None, Result, Ok, Err, refl, sym, ap, ap₂, subst, ◌∙◌, append_assoc, arith, inl, inr}
use Rattle.std.specs.Prelude.{All, IfOk, IfErr}
use Rattle.std.specs.List.{flat_map}
use Rattle.std.proofs.lemmas.Bool.{cases_order}
use Rattle.std.proofs.lemmas.List.{append-nil, get_or_at, length-append, nil_from_length}
use Rattle.nsc_model.specs.declared.kind.Db.{Db}
use Rattle.nsc_model.specs.Wire.{field_in}
use Rattle.nsc_image.specs.declared.fault.ImageFault.{ImageFault}
use Rattle.nsc_image.specs.declared.fault.ImageFault.TheVariants as fault
use Rattle.nsc_image.specs.Faults.{BreaksBehind, EntriesBreak, HasDigest, IsFault, IsMarked, entry_checks, first_failing, front_of}
use Rattle.nsc_image.specs.Layout.{Stand}
use Rattle.nsc_model.specs.Image.{ImageBytes, IsSaved, Rise, Saved, is_image_version, last_number, saved_bytes}
use Rattle.nsc_image.proofs.Checks.{sound_again}
use Rattle.nsc_image.proofs.ReadBack.{saved_sound}
use Rattle.nsc_image.proofs.ListsBack.{begins, rise_behind}
use Rattle.nsc_image.proofs.HeadBack.{image_read}
use Rattle.nsc_image.proofs.Laws.{one_list}

abbrev found : ℕ → Option ℕ
found at = Some at

not_found : (at : ℕ) → None ≡ found at → ⊥
not_found at e = absurd cc

same_place : (a b : ℕ) → found a ≡ found b → a ≡ b
same_place a b e = cc

-- the next entry of a list of entries passes
next_passes : (db : Db) (version : ℕ) (front others : List Saved) (left rest : List ℕ) (at : ℕ) → All (IsSaved db version) (front ++ others) → Rise None (front ++ others) → length front < length (front ++ others)
    → rest ≡ flat_map (saved_bytes version) others ++ left → first_failing (entry_checks db version (last_number None front) rest) ≡ Some at → ⊥
next_passes db version front [] left rest at each rise less rest_is e = absurd (omega (arith, length-append front []))
next_passes db version front (s ∷ others) left rest at each rise less rest_is e =
    let last : Option ℕ = last_number None front in
    let after : List ℕ = flat_map (saved_bytes version) others ++ left in
    let is : IsSaved db version s = subst (IsSaved db version) (get_or_at front s others s (length front) refl) (each (length front) s less) in
    let passes : first_failing (entry_checks db version last (saved_bytes version s ++ after)) ≡ None = sound_again db version last (saved_bytes version s ++ after) (saved_sound db version last s after is (rise_behind None front s others rise)) in
    let regrouped : rest ≡ saved_bytes version s ++ after = rest_is ∙ append_assoc (saved_bytes version s) (flat_map (saved_bytes version) others) left in
    not_found at (sym passes ∙ ap (λ (r : List ℕ). first_failing (entry_checks db version last r)) (sym regrouped) ∙ e)

-- where more entries stand, no entry before the last of them is at fault
earlier_passes : (db : Db) (version : ℕ) (count : ℕ) (bytes : List ℕ) (entries front : List Saved) (left rest : List ℕ) (at : ℕ) → Stand db version bytes entries left → Stand db version bytes front rest
    → length front < length entries → length entries ≤ count → BreaksBehind db version count front rest at → ⊥
earlier_passes db version count bytes entries front left rest at more stand fewer within (inl (less, e)) =
    let b = begins db version entries front left rest more.each stand.each (omega arith) (sym more.parts ∙ stand.parts) in
    next_passes db version front b.others left rest at (subst (All (IsSaved db version)) b.list more.each) (subst (Rise None) b.list more.rising) (let l = ap length b.list in omega (arith, l)) b.rest_is e
earlier_passes db version count bytes entries front left rest at more stand fewer within (inr (all, some, is)) = absurd (omega arith)

-- where as many entries stand, they are the same ones, and so is what follows them
record Same (entries front : List Saved) (left rest : List ℕ) : Type 0 where
  entries_are : entries ≡ front
  rest_is : left ≡ rest

same_stand : (db : Db) (version : ℕ) (bytes : List ℕ) (entries front : List Saved) (left rest : List ℕ) → Stand db version bytes entries left → Stand db version bytes front rest → length entries ≡ length front → Same entries front left rest
same_stand db version bytes entries front left rest more stand same =
    let b = begins db version entries front left rest more.each stand.each (omega arith) (sym more.parts ∙ stand.parts) in
    let none : b.others ≡ [] = nil_from_length b.others (let l = ap length b.list in omega (arith, l, length-append front b.others)) in
    record {
      entries_are = b.list ∙ ap (λ (l : List Saved). front ++ l) none ∙ append-nil front;
      rest_is = sym (b.rest_is ∙ ap (λ (l : List Saved). flat_map (saved_bytes version) l ++ left) none);
    }

breaks_within : (db : Db) (version : ℕ) (count : ℕ) (entries : List Saved) (rest : List ℕ) (at : ℕ) → BreaksBehind db version count entries rest at → length entries ≤ count
breaks_within db version count entries rest at (inl (less, e)) = omega arith
breaks_within db version count entries rest at (inr (all, some, is)) = omega arith

one_behind : (db : Db) (version : ℕ) (count : ℕ) (entries : List Saved) (rest : List ℕ) (a b : ℕ) → BreaksBehind db version count entries rest a → BreaksBehind db version count entries rest b → a ≡ b
one_behind db version count entries rest a b (inl (less, e)) (inl (less', e')) = same_place a b (sym e ∙ e')
one_behind db version count entries rest a b (inl (less, e)) (inr (all, some, is)) = absurd (omega arith)
one_behind db version count entries rest a b (inr (all, some, is)) (inl (less, e)) = absurd (omega arith)
one_behind db version count entries rest a b (inr (all, some, is)) (inr (all', some', is')) = is ∙ sym is'

-- the entries of the bytes break at one place
one_break : (db : Db) (version : ℕ) (count : ℕ) (bytes : List ℕ) (at place : ℕ) → EntriesBreak db version count bytes at → EntriesBreak db version count bytes place → at ≡ place
one_break db version count bytes at place (entries, left, a, more, breaks, is) (front, rest, b, stand, breaks', is') =
    elim (cases_order (length entries) (length front)) [
      | inl same ↦
          let s = same_stand db version bytes entries front left rest more stand same in
          let here : BreaksBehind db version count entries left b = subst (λ (l : List Saved). BreaksBehind db version count l left b) (sym s.entries_are) (subst (λ (r : List ℕ). BreaksBehind db version count front r b) (sym s.rest_is) breaks') in
          is ∙ ap (λ n. length (flat_map (saved_bytes version) entries) + n) (one_behind db version count entries left a b breaks here) ∙ ap (λ (l : List Saved). length (flat_map (saved_bytes version) l) + b) s.entries_are ∙ sym is'
      | inr (inl less) ↦ absurd (earlier_passes db version count bytes front entries rest left a stand more less (breaks_within db version count front rest b breaks') breaks)
      | inr (inr more_entries) ↦ absurd (earlier_passes db version count bytes entries front left rest b more stand more_entries (breaks_within db version count entries left a breaks) breaks')
    ]

-- entries that fill the bytes do not break
fill_not : (db : Db) (version : ℕ) (entries : List Saved) (bytes : List ℕ) (place : ℕ) → Stand db version bytes entries [] → EntriesBreak db version (length entries) bytes place → ⊥
fill_not db version entries bytes place more (front, rest, at, stand, inl (less, e), is) = earlier_passes db version (length entries) bytes entries front [] rest at more stand less (omega arith) (inl (less, e))
fill_not db version entries bytes place more (front, rest, at, stand, inr (all, some, zero), is) =
    let none = ap length (same_stand db version bytes entries front [] rest more stand (sym all)).rest_is in absurd (omega (arith, none))

-- ---- images

unmarked : (bytes : List ℕ) (db : Db) → IsFault db bytes fault.NotImage → IsMarked bytes → ⊥
unmarked bytes db (inl short) marked = absurd (omega (arith, marked.0))
unmarked bytes db (inr other) marked = other marked.1

-- a version is not both read and not read
two_answers : (bytes : List ℕ) (version : ℕ) → version ≡ field_in bytes 8 → is_image_version (field_in bytes 8) ≡ true → is_image_version version ≡ false → ⊥
two_answers bytes version is known unknown = true_false (sym known ∙ ap is_image_version (sym is) ∙ unknown) where
  true_false : true ≡ false → ⊥
  true_false e = absurd cc

pub no_fault : (db : Db) (version : ℕ) (entries : List Saved) (bytes : List ℕ) (f : ImageFault) → ImageBytes db version entries bytes → IsFault db bytes f → ⊥
no_fault db version entries bytes fault.NotImage is e = unmarked bytes db e (image_read db version entries bytes is).passes.0.0.0
no_fault db version entries bytes (fault.ImageVersion other) is e = two_answers bytes other e.1 (image_read db version entries bytes is).passes.0.0.1 e.2
no_fault db version entries bytes (fault.Digest kept found) is e = e.3 (e.1 ∙ (image_read db version entries bytes is).passes.0.1 ∙ sym e.2)
no_fault db version entries bytes (fault.Layout at) is (inl e) = e.1 (image_read db version entries bytes is).passes.1
no_fault db version entries bytes (fault.Layout at) is (inr (passes, place, breaks, e)) =
    let r = image_read db version entries bytes is in
    let body : List ℕ = flat_map (saved_bytes version) entries in
    let stand : Stand db version body entries [] = record { each = is.each; rising = is.rising; parts = sym (append-nil body) } in
    let of_version : EntriesBreak db version (field_in bytes 16) (drop 20 (front_of bytes)) place =
    subst (λ v. EntriesBreak db v (field_in bytes 16) (drop 20 (front_of bytes)) place) r.version_is breaks in
    let of_count : EntriesBreak db version (length entries) (drop 20 (front_of bytes)) place =
    subst (λ n. EntriesBreak db version n (drop 20 (front_of bytes)) place) r.count of_version in
    fill_not db version entries body place stand (subst (λ (x : List ℕ). EntriesBreak db version (length entries) x place) r.left of_count)

-- what is told with a fault of the layout
digest_of : (db : Db) (bytes : List ℕ) (at : ℕ) → IsFault db bytes (fault.Layout at) → HasDigest bytes
digest_of db bytes at (inl e) = e.0
digest_of db bytes at (inr e) = e.0.0

one_layout : (db : Db) (bytes : List ℕ) (a b : ℕ) → IsFault db bytes (fault.Layout a) → IsFault db bytes (fault.Layout b) → a ≡ b
one_layout db bytes a b (inl e) (inl f) = e.2 ∙ sym f.2
one_layout db bytes a b (inl e) (inr f) = absurd (e.1 f.0.1)
one_layout db bytes a b (inr e) (inl f) = absurd (f.1 e.0.1)
one_layout db bytes a b (inr (passes, place, breaks, e)) (inr (passes', place', breaks', f)) =
    e ∙ ap (λ n. 20 + n) (one_break db (field_in bytes 8) (field_in bytes 16) (drop 20 (front_of bytes)) place place' breaks breaks') ∙ sym f

pub one_fault : (db : Db) (bytes : List ℕ) (f g : ImageFault) → IsFault db bytes f → IsFault db bytes g → f ≡ g
one_fault db bytes fault.NotImage fault.NotImage e h = refl
one_fault db bytes fault.NotImage (fault.ImageVersion w) e h = absurd (unmarked bytes db e h.0)
one_fault db bytes fault.NotImage (fault.Digest k d) e h = absurd (unmarked bytes db e h.0.0)
one_fault db bytes fault.NotImage (fault.Layout b) e h = absurd (unmarked bytes db e (digest_of db bytes b h).0.0)
one_fault db bytes (fault.ImageVersion v) fault.NotImage e h = absurd (unmarked bytes db h e.0)
one_fault db bytes (fault.ImageVersion v) (fault.ImageVersion w) e h = ap fault.ImageVersion (e.1 ∙ sym h.1)
one_fault db bytes (fault.ImageVersion v) (fault.Digest k d) e h = absurd (two_answers bytes v e.1 h.0.1 e.2)
one_fault db bytes (fault.ImageVersion v) (fault.Layout b) e h = absurd (two_answers bytes v e.1 (digest_of db bytes b h).0.1 e.2)
one_fault db bytes (fault.Digest k d) fault.NotImage e h = absurd (unmarked bytes db h e.0.0)
one_fault db bytes (fault.Digest k d) (fault.ImageVersion w) e h = absurd (two_answers bytes w h.1 e.0.1 h.2)
one_fault db bytes (fault.Digest k d) (fault.Digest k' d') e h = ap₂ fault.Digest (e.1 ∙ sym h.1) (e.2 ∙ sym h.2)
one_fault db bytes (fault.Digest k d) (fault.Layout b) e h = absurd (e.3 (e.1 ∙ (digest_of db bytes b h).1 ∙ sym e.2))
one_fault db bytes (fault.Layout a) fault.NotImage e h = absurd (unmarked bytes db h (digest_of db bytes a e).0.0)
one_fault db bytes (fault.Layout a) (fault.ImageVersion w) e h = absurd (two_answers bytes w h.1 (digest_of db bytes a e).0.1 h.2)
one_fault db bytes (fault.Layout a) (fault.Digest k d) e h = absurd (h.3 (h.1 ∙ (digest_of db bytes a e).1 ∙ sym h.2))
one_fault db bytes (fault.Layout a) (fault.Layout b) e h = ap fault.Layout (one_layout db bytes a b e h)

-- what accepts images and tells faults accepts each image, and tells the fault of all other bytes
pub only_image : (db : Db) (bytes : List ℕ) (result : Result (List Saved) ImageFault) (version : ℕ) (entries : List Saved) → ImageBytes db version entries bytes
    → IfOk result (λ found. (v : ℕ) × ImageBytes db v found bytes)
    → IfErr result (IsFault db bytes) → result ≡ Ok entries
only_image db bytes (Ok found) version entries is image fault = ap (λ (l : List Saved). Ok l) (one_list db bytes image.0 version found entries image.1 is)
only_image db bytes (Err f) version entries is image fault = absurd (no_fault db version entries bytes f is fault)

pub only_fault : (db : Db) (bytes : List ℕ) (result : Result (List Saved) ImageFault) (f : ImageFault) → IsFault db bytes f → IfOk result (λ found. (v : ℕ) × ImageBytes db v found bytes)
    → IfErr result (IsFault db bytes) → result ≡ Err f
only_fault db bytes (Ok found) f is image fault = absurd (no_fault db image.0 found bytes f image.1 is)
only_fault db bytes (Err g) f is image fault = ap (λ (x : ImageFault). Err x) (one_fault db bytes g f fault is)
