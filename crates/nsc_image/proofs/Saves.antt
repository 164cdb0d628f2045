-- The entries that were put into an image, and those that are left.
use Rattle.std.proofs.Common.{◌≡◌, ℕ, ◌+◌, ◌<◌, ◌≤◌, ◌^◌, Bool, true, false, cond, leb, nat_lt, List, [], ◌∷◌, ◌++◌, length, Option, Some, None, refl, sym, ap, subst, ◌∙◌, arith}
use Rattle.std.specs.Prelude.{IsTrue, All}
use Rattle.std.proofs.Math.Nat.{min-le_right}
use Rattle.std.proofs.lemmas.Bool.{lt-ltb}
use Rattle.std.proofs.lemmas.List.{append-nil, append_assoc, length-append, length-map}
use Rattle.std.proofs.lemmas.List.Elements.{All-head, All-tail}
use Rattle.nsc_base.specs.Buf.{Buf}
use Rattle.nsc_model.specs.declared.kind.Db.{Db}
use Rattle.nsc_model.specs.Entry.{key_limit, kept_limit}
use Rattle.nsc_model.specs.Kinds.{database_of}
use Rattle.nsc_model.specs.Live.{Rise}
use Rattle.nsc_model.specs.Machine.{Kept}
use Rattle.nsc_laws.specs.Calls.{entries_of}
use Rattle.nsc_shelf.specs.declared.entry.EntryAt.{EntryAt}
use Rattle.nsc_shelf.specs.Shelf.{IsTold, entry_from}
use Rattle.nsc_writer.specs.Writer.{IsListed, Writer}
use Rattle.nsc_writer.proofs.Rest.{rest_all, rest_from, rest_next, rest_none, told_of}
use Rattle.nsc_image.specs.Draft.{Draft}
use Rattle.nsc_model.specs.Image.{IsSaved, Saved, image_version, is_above, last_number, saved_count, saved_of}
use Rattle.nsc_image.specs.Reading.{saved_with}
use Rattle.nsc_image.specs.Saving.{IsEntryOf, saved_entries}
use Rattle.nsc_image.proofs.Walk.{last_number-push}

-- any number from this one on is above those of the entries
abbrev pub EndsBelow : List Saved → ℕ → Type 0
EndsBelow entries from = (number : ℕ) → from ≤ number → IsTrue (is_above (last_number None entries) number)

-- the writer stays, the buffers have their room, and the entries below this number were put
pub record Saves (db : Db) (before w : Writer) (from : ℕ) (key reply : Buf) (draft : Draft) : Type 0 where
  pub same : w ≡ before
  pub key_limit_is : key.limit ≡ key_limit
  pub reply_limit_is : reply.limit ≡ kept_limit
  pub db_is : draft.db ≡ db
  pub below : EndsBelow draft.entries from
  pub listed : draft.entries ++ saved_entries (rest_from from before.cache.entries) ≡ saved_entries before.cache.entries

pub saves_none : (db : Db) (w : Writer) (key reply : Buf) (draft : Draft) → draft ≡ record { db = db; entries = [] } → key.limit ≡ key_limit → reply.limit ≡ kept_limit → Saves db w w 0 key reply draft
saves_none db w key reply draft is key_is reply_is = record {
  same = refl;
  key_limit_is = key_is;
  reply_limit_is = reply_is;
  db_is = ap (λ (d : Draft). d.db) is;
  below = (let empty : draft.entries ≡ [] = ap (λ (d : Draft). d.entries) is in subst (λ (l : List Saved). EndsBelow l 0) (sym empty) (λ number low. refl));
  listed =
      ap (λ (d : Draft). d.entries ++ saved_entries (rest_from 0 w.cache.entries)) is ∙ ap saved_entries (rest_all w.cache.entries);
}

listed_none : (o : Option Kept) (key reply : List ℕ) → IsListed o None key reply → o ≡ None
listed_none None key reply told = refl
listed_none (Some k) key reply told = absurd (some_told told.0) where
  some_told : IsTold (Some k) None → ⊥
  some_told told = absurd cc

-- what is true of each entry is true of the one that is found
found_all : (P : Kept → Type 0) (from : ℕ) (ks : List Kept) (k : Kept) → All P ks → entry_from from ks ≡ Some k → P k
found_all P from [] k all e = absurd cc
found_all P from (x ∷ xs) k all e = by (leb from x.entry.number) e (found_all P from xs k (All-tail P x xs all)) where
  by : (b : Bool) → cond b (Some x) (entry_from from xs) ≡ Some k → (entry_from from xs ≡ Some k → P k) → P k
  by true same rest = let is : x ≡ k = cc in subst P is (All-head P x xs all)
  by false same rest = rest same

listed_entry : (o : Option Kept) (e : EntryAt) (key reply : List ℕ) → IsListed o (Some e) key reply → (k : Kept) × (o ≡ Some k) × (e ≡ told_of k) × (key ≡ k.entry.request.key) × (reply ≡ k.entry.answer.bytes)
listed_entry None e key reply told = absurd cc
listed_entry (Some k) e key reply told = (k, refl, (let is : e ≡ told_of k = cc told.0 in is), told.1, told.2)

-- a count of reloads that is saved has four bytes
count_fits : (reloads : ℕ) → nat_lt (saved_count reloads) 4294967296 ≡ true
count_fits reloads = lt-ltb (saved_count reloads) 4294967296 (let most = min-le_right reloads 4294967295 in omega (arith, most))

-- the entry that is put next, of what a call tells
abbrev pub saved_from : EntryAt → List ℕ → List ℕ → Saved
saved_from e key reply = saved_with e.number e.kind key reply e.not_found (saved_count e.reloads) e.timeout

pub saved_put : (e : EntryAt) (key reply : List ℕ) (s : Saved) (count : ℕ) → s ≡ saved_with e.number e.kind key reply e.not_found count e.timeout → count ≡ saved_count e.reloads → s ≡ saved_from e key reply
saved_put e key reply s count is count_is = is ∙ ap (λ n. saved_with e.number e.kind key reply e.not_found n e.timeout) count_is

saved_told : (k : Kept) (e : EntryAt) (key reply : List ℕ) → e ≡ told_of k → key ≡ k.entry.request.key → reply ≡ k.entry.answer.bytes → saved_from e key reply ≡ saved_of k
saved_told k e key reply e_is key_is reply_is =
    ap (λ (x : EntryAt). saved_from x key reply) e_is ∙ ap (λ (x : List ℕ). saved_from (told_of k) x reply) key_is ∙ ap (λ (x : List ℕ). saved_from (told_of k) k.entry.request.key x) reply_is

-- it is the first of those that are left, and may be put
pub record Step (db : Db) (before : Writer) (from : ℕ) (draft : Draft) (e : EntryAt) (key reply : List ℕ) : Type 0 where
  pub kept : Kept
  pub next_is : e.next ≡ kept.entry.number + 1
  pub left : rest_from from before.cache.entries ≡ kept ∷ rest_from e.next before.cache.entries
  pub value : saved_from e key reply ≡ saved_of kept
  pub saved : IsSaved draft.db image_version (saved_from e key reply)
  pub above : IsTrue (is_above (last_number None draft.entries) e.number)
  pub room : length draft.entries + 1 < 2 ^ 32

pub step_of : (db : Db) (before w : Writer) (from : ℕ) (kb rb kb' rb' : Buf) (draft : Draft) (e : EntryAt) (key reply : List ℕ) → Saves db before w from kb rb draft → Rise (entries_of before.cache.entries)
    → All (λ (k : Kept). IsEntryOf db k.entry) before.cache.entries → length before.cache.entries < 2 ^ 32 → IsListed (entry_from from w.cache.entries) (Some e) kb'.content rb'.content
    → kb'.limit ≡ kb.limit → rb'.limit ≡ rb.limit → key ≡ kb'.content → length key ≤ kb'.limit → reply ≡ rb'.content → length reply ≤ rb'.limit → e.number < 2 ^ 64 → Step db before from draft e key reply
step_of db before w from kb rb kb' rb' draft e key reply saves rising all room told key_limit_is reply_limit_is key_is key_fits reply_is reply_fits number_fits =
    let ks : List Kept = before.cache.entries in
    let t = listed_entry (entry_from from ks) e kb'.content rb'.content (subst (λ (x : Writer). IsListed (entry_from from x.cache.entries) (Some e) kb'.content rb'.content) saves.same told) in
    let k : Kept = t.0 in
    let next = rest_next from ks k rising t.1 in
    let own = found_all (λ (x : Kept). IsEntryOf db x.entry) from ks k all t.1 in
    let next_is : e.next ≡ k.entry.number + 1 = ap (λ (x : EntryAt). x.next) t.2 in
    let number_is : e.number ≡ k.entry.number = ap (λ (x : EntryAt). x.number) t.2 in
    let left : rest_from from ks ≡ k ∷ rest_from e.next ks = next.0 ∙ ap (λ n. k ∷ rest_from n ks) (sym next_is) in
    let size : length draft.entries + length (rest_from from ks) ≡ length ks =
    (let all_listed = ap length saves.listed in
    omega (arith, all_listed, length-append draft.entries (saved_entries (rest_from from ks)), length-map (rest_from from ks) saved_of, length-map ks saved_of)) in
    record {
      kept = k;
      next_is = next_is;
      left = left;
      value = saved_told k e key reply t.2 (key_is ∙ t.3) (reply_is ∙ t.4);
      saved = record {
        number_fits = number_fits;
        of_database = ap (λ (x : EntryAt). database_of x.kind) t.2 ∙ own.of_database ∙ sym saves.db_is;
        key_fits = (let limit = saves.key_limit_is in omega arith);
        reply_fits = (let limit = saves.reply_limit_is in omega arith);
        reloads_fit = count_fits e.reloads;
        timeout_fits = subst (λ (x : EntryAt). x.timeout < 2 ^ 63) (sym t.2) own.timeout_fits;
      };
      above = saves.below e.number (let low = next.1 in omega arith);
      room = (let rest = ap length left in omega arith);
    }

pub fewer_left : (before w w' : Writer) (from next : ℕ) (k : Kept) → w ≡ before → w' ≡ before → rest_from from before.cache.entries ≡ k ∷ rest_from next before.cache.entries
    → length (rest_from next w'.cache.entries) < length (rest_from from w.cache.entries)
fewer_left before w w' from next k same same' left =
    let was : length (rest_from from w.cache.entries) ≡ length (k ∷ rest_from next before.cache.entries) = ap (λ (x : Writer). length (rest_from from x.cache.entries)) same ∙ ap length left in
    let now : length (rest_from next w'.cache.entries) ≡ length (rest_from next before.cache.entries) = ap (λ (x : Writer). length (rest_from next x.cache.entries)) same' in
    omega arith

ends_below : (entries : List Saved) (s : Saved) (next : ℕ) → next ≡ s.number + 1 → EndsBelow (entries ++ s ∷ []) next
ends_below entries s next is number low = subst (λ o. IsTrue (is_above o number)) (sym (last_number-push None entries s)) (lt-ltb s.number number (omega arith))

pub saves_next : (db : Db) (before w w' : Writer) (from : ℕ) (kb rb kb' rb' : Buf) (draft draft' : Draft) (e : EntryAt) (key reply : List ℕ) (s : Saved) → Saves db before w from kb rb draft
    → Step db before from draft e key reply → s ≡ saved_from e key reply → w' ≡ w → kb'.limit ≡ kb.limit → rb'.limit ≡ rb.limit → draft' ≡ record draft { entries = draft.entries ++ s ∷ [] }
    → Saves db before w' e.next kb' rb' draft'
saves_next db before w w' from kb rb kb' rb' draft draft' e key reply s saves step s_is same key_is reply_is draft_is =
    let ks : List Kept = before.cache.entries in
    let value : s ≡ saved_of step.kept = s_is ∙ step.value in
    let entries_are : draft'.entries ≡ draft.entries ++ saved_of step.kept ∷ [] = ap (λ (d : Draft). d.entries) draft_is ∙ ap (λ (x : Saved). draft.entries ++ x ∷ []) value in
    record {
      same = same ∙ saves.same;
      key_limit_is = key_is ∙ saves.key_limit_is;
      reply_limit_is = reply_is ∙ saves.reply_limit_is;
      db_is = ap (λ (d : Draft). d.db) draft_is ∙ saves.db_is;
      below = subst (λ (l : List Saved). EndsBelow l e.next) (sym entries_are) (ends_below draft.entries (saved_of step.kept) e.next step.next_is);
      listed =
          ap (λ (l : List Saved). l ++ saved_entries (rest_from e.next ks)) entries_are ∙ append_assoc draft.entries (saved_of step.kept ∷ []) (saved_entries (rest_from e.next ks))
          ∙ ap (λ (l : List Kept). draft.entries ++ saved_entries l) (sym step.left) ∙ saves.listed;
    }

pub saves_all : (db : Db) (before w : Writer) (from : ℕ) (kb rb : Buf) (draft : Draft) (key reply : List ℕ) → Saves db before w from kb rb draft → IsListed (entry_from from w.cache.entries) None key reply
    → draft ≡ record { db = db; entries = saved_entries before.cache.entries }
saves_all db before w from kb rb draft key reply saves told =
    let ks : List Kept = before.cache.entries in
    let none = rest_none from ks (listed_none (entry_from from ks) key reply (subst (λ (x : Writer). IsListed (entry_from from x.cache.entries) None key reply) saves.same told)) in
    let whole : draft.entries ≡ saved_entries ks = sym (append-nil draft.entries) ∙ ap (λ (l : List Kept). draft.entries ++ saved_entries l) (sym none) ∙ saves.listed in
    let made : Db → List Saved → Draft = λ b l. record { db = b; entries = l } in
    ap (λ (b : Db). made b draft.entries) saves.db_is ∙ ap (made db) whole
