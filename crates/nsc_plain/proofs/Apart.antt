-- Live entries have different requests, and so have those that are to be inserted.
use Rattle.std.proofs.Common.{◌≡◌, ◌≢◌, ℕ, ◌<◌, ◌≤◌, ◌+◌, Bool, true, false, zero, suc, cond, not, nat_lt, ◌&&◌, eqb, List, [], ◌∷◌, ◌++◌, length, map, filter, find, get_or, set, Option, Some, None, refl, sym, ap, ◌∙◌, subst, rules, arith}
use Rattle.std.specs.Prelude.{count_by, position, slice_get}
use Rattle.std.specs.Str.{bytes_eq}
use Rattle.std.specs.List.{position_or_len}
use Rattle.std.proofs.lemmas.Bool.{eqb-true}
use Rattle.std.proofs.lemmas.Option.{slice_get_past, slice_get-get_or}
use borrow.Author.Tests.{ltb-false}
use Rattle.std.proofs.lemmas.List.Sums.{sum_by-cons, sum_by_push, sum_by-set, get_or-le-sum_by}
use Rattle.std.proofs.lemmas.List.Filters.{sum_by-filter_both}
use Rattle.std.proofs.lemmas.List.Folds.{find_at}
use Rattle.std.proofs.lemmas.List.Quantifiers.{position-Some}
use Rattle.std.proofs.lemmas.Slice.Eq.{bytes_eq-Decides}
use Rattle.nsc_model.specs.declared.answer.Request.{Request}
use Rattle.nsc_model.specs.Kinds.{type_number, is_request}
use Rattle.nsc_model.specs.Content.{Content}
use Rattle.nsc_model.specs.Machine.{Kept, last_count, entry_words, used_now, is_due, is_dropped, due_of, others_of, reloaded_of}
use Rattle.nsc_model.proofs.Contents.{both_true, same_bytes}
use Rattle.nsc_plain.specs.Insertion.{Insertion, anew}
use Rattle.nsc_plain.specs.EntryList.{entries_for, insertions_for, AreApart, StayApart, IsTable}

-- ---- tests of requests

request_same : (a : Request) → is_request a a ≡ true
request_same a =
    let number : eqb (type_number a.kind) (type_number a.kind) ≡ true = search rules in
    ap (λ b. b && bytes_eq a.key a.key) number ∙ (bytes_eq-Decides a.key a.key).1 refl

like_request : (a b c : Request) → is_request a b ≡ true → is_request a c ≡ is_request b c
like_request a b c e =
    let parts = both_true (eqb (type_number a.kind) (type_number b.kind)) (bytes_eq a.key b.key) e in
    ap (λ n. eqb n (type_number c.kind) && bytes_eq a.key c.key) (eqb-true _ _ parts.0)
    ∙ ap (λ (key : List ℕ). eqb (type_number b.kind) (type_number c.kind) && bytes_eq key c.key) (same_bytes a.key b.key parts.1)

-- ---- counts

-- one for an element that counts
abbrev tally : Bool → ℕ
tally b = cond b 1 0

first_none : {X : Type 0} (b : Bool) (x : X) (o : Option X) (n : ℕ) → cond b (Some x) o ≡ None → (o ≡ None → n ≡ 0) → cond b 1 0 + n ≡ 0
first_none true x o n e rest = absurd cc
first_none false x o n e rest = omega (arith, rest e)

first_zero : {X : Type 0} (b : Bool) (x : X) (o : Option X) (n : ℕ) → cond b 1 0 + n ≡ 0 → (n ≡ 0 → o ≡ None) → cond b (Some x) o ≡ None
first_zero true x o n e rest = absurd (omega arith)
first_zero false x o n e rest = rest (omega arith)

first_fails : (b : Bool) (n : ℕ) → cond b 1 0 + n ≤ 1 → 1 ≤ n → (b ≡ false) × (n ≤ 1)
first_fails true n h some = absurd (omega arith)
first_fails false n h some = (refl, omega arith)

first_uncounted : (b : Bool) (n : ℕ) → cond b 1 0 + n ≡ 0 → (b ≡ false) × (n ≡ 0)
first_uncounted true n h = absurd (omega arith)
first_uncounted false n h = (refl, omega arith)

no_place : (b : Bool) (n : ℕ) → cond b (Some n) None ≡ None → b ≡ false
no_place true n e = absurd cc
no_place false n e = refl

place_is : (b : Bool) (n i : ℕ) → cond b (Some n) None ≡ Some i → n ≡ i
place_is true n i e = cc
place_is false n i e = absurd cc

module _ {X : Type 0} (p : X → Bool) where
  counted : (x : X) (xs : List X) → count_by p (x ∷ xs) ≡ cond (p x) 1 0 + count_by p xs
  counted x xs = sum_by-cons (λ y. cond (p y) 1 0) x xs

  none_counted : (xs : List X) → find p xs ≡ None → count_by p xs ≡ 0
  none_counted [] e = refl
  none_counted (x ∷ xs) e = counted x xs ∙ first_none (p x) x (find p xs) (count_by p xs) e (none_counted xs)

  counted_none : (xs : List X) → count_by p xs ≡ 0 → find p xs ≡ None
  counted_none [] e = refl
  counted_none (x ∷ xs) e = first_zero (p x) x (find p xs) (count_by p xs) (sym (counted x xs) ∙ e) (counted_none xs)

  -- what a search for the first place says of the search for the first element
  pub found_none : (xs : List X) → position p xs ≡ None → find p xs ≡ None
  found_none xs e = find_at p xs ∙ slice_get_past xs (position_or_len p xs) (ltb-false _ _ (no_place (nat_lt (position_or_len p xs) (length xs)) (position_or_len p xs) e))

  pub found_at : (xs : List X) (i : ℕ) (d : X) → position p xs ≡ Some i → find p xs ≡ Some (get_or xs i d)
  found_at xs i d e =
      find_at p xs ∙ (ap (slice_get xs) (place_is (nat_lt (position_or_len p xs) (length xs)) (position_or_len p xs) i e) ∙ slice_get-get_or xs i d (position-Some p xs i d e).0)

  pub found_some : (xs : List X) (i : ℕ) → position p xs ≡ Some i → (x : X) × (find p xs ≡ Some x)
  found_some [] i e = absurd cc
  found_some (x ∷ xs) i e = (get_or (x ∷ xs) i x, found_at (x ∷ xs) i x e)

count_same : {X : Type 0} (p q : X → Bool) → ((x : X) → p x ≡ q x) → (xs : List X) → count_by p xs ≡ count_by q xs
count_same p q same [] = refl
count_same p q same (x ∷ xs) =
    counted p x xs ∙ (ap (λ b. cond b 1 0 + count_by p xs) (same x) ∙ (ap (λ n. cond (q x) 1 0 + n) (count_same p q same xs) ∙ sym (counted q x xs)))

-- ---- an entry is used

abbrev pub asks : Request → Kept → Bool
asks request k = is_request request k.entry.request

abbrev pub restarted : Kept → Kept
restarted k = record k { reloads = 0 }

by_true : (b : Bool) (k : Kept) → b ≡ true → cond b (restarted k) k ≡ restarted k
by_true b k e = subst (λ t. cond t (restarted k) k ≡ restarted k) (sym e) refl

by_false : (b : Bool) (k : Kept) → b ≡ false → cond b (restarted k) k ≡ k
by_false b k e = subst (λ t. cond t (restarted k) k ≡ k) (sym e) refl

unused : (request : Request) (entries : List Kept) → entries_for request entries ≡ 0 → used_now request entries ≡ entries
unused request [] e = refl
unused request (x ∷ xs) e =
    let h = first_uncounted (asks request x) (entries_for request xs) (sym (counted (asks request) x xs) ∙ e) in
    ap (λ k. k ∷ used_now request xs) (by_false (asks request x) x h.0) ∙ ap (λ (ks : List Kept). x ∷ ks) (unused request xs h.1)

-- where one entry alone answers a request, its use changes that one
pub used_at : (request : Request) (entries : List Kept) (i : ℕ) (d : Kept) → i < length entries → asks request (get_or entries i d) ≡ true → entries_for request entries ≤ 1
    → used_now request entries ≡ set entries i (restarted (get_or entries i d))
used_at request [] i d lt e few = absurd (omega arith)
used_at request (x ∷ xs) zero d lt e few =
    let all = counted (asks request) x xs in
    let first : tally (asks request x) ≡ 1 = ap tally e in
    ap (λ k. k ∷ used_now request xs) (by_true (asks request x) x e) ∙ ap (λ (ks : List Kept). restarted x ∷ ks) (unused request xs (omega arith))
used_at request (x ∷ xs) (suc i) d lt e few =
    let here : tally (asks request (get_or xs i d)) ≡ 1 = ap tally e in
    let some = get_or-le-sum_by (λ k. cond (asks request k) 1 0) xs i d (omega arith) in
    let all = counted (asks request) x xs in
    let h = first_fails (asks request x) (entries_for request xs) (omega arith) (omega arith) in
    ap (λ k. k ∷ used_now request xs) (by_false (asks request x) x h.0) ∙ ap (λ (ks : List Kept). x ∷ ks) (used_at request xs i d (omega arith) e h.1)

apart_used : (entries : List Kept) (i : ℕ) (d : Kept) → i < length entries → AreApart entries → AreApart (set entries i (restarted (get_or entries i d)))
apart_used entries i d lt apart = λ request.
    let same = sum_by-set (λ k. cond (asks request k) 1 0) entries i (restarted (get_or entries i d)) d lt in
    let few = apart request in
    omega arith

-- the table keeps what it keeps
pub hit_keeps : (entries : List Kept) (i : ℕ) (d : Kept) (used inserted : ℕ) → i < length entries → IsTable entries used inserted → IsTable (set entries i (restarted (get_or entries i d))) used inserted
hit_keeps entries i d used inserted lt kept =
    let same = sum_by-set (λ (k : Kept). entry_words k.entry) entries i (restarted (get_or entries i d)) d lt in
    let words = kept.words in
    record { words = omega arith; counted = kept.counted; apart = apart_used entries i d lt kept.apart }

-- ---- entries are inserted

by_request : (b : Bool) (n : ℕ) → (b ≡ true → n ≡ 0) → n ≤ 1 → n + cond b 1 0 ≤ 1
by_request true n none few = omega (arith, none refl)
by_request false n none few = omega arith

apart_more : (entries : List Kept) (k : Kept) → AreApart entries → find (asks k.entry.request) entries ≡ None → AreApart (entries ++ k ∷ [])
apart_more entries k apart none = λ request.
    let more = sum_by_push (λ e. cond (asks request e) 1 0) entries k in
    let few = by_request (asks request k) (entries_for request entries)
    (λ e. count_same (asks request) (asks k.entry.request) (λ x. like_request request k.entry.request x.entry.request e) entries ∙ none_counted (asks k.entry.request) entries none)
    (apart request) in
    omega arith

pub insert_keeps : (entries : List Kept) (k : Kept) (used inserted : ℕ) → IsTable entries used inserted → inserted ≢ last_count → find (asks k.entry.request) entries ≡ None → IsTable (entries ++ k ∷ []) (used + entry_words k.entry) (inserted + 1)
insert_keeps entries k used inserted kept some none =
    let more = sum_by_push (λ (e : Kept). entry_words e.entry) entries k in
    let words = kept.words in
    let counted = kept.counted in
    record { words = omega arith; counted = omega arith; apart = apart_more entries k kept.apart none }

abbrev is_of : Request → Insertion → Bool
is_of request a = is_request request a.request

-- the first of those that are to be inserted has no live entry
pub first_is_new : (entries : List Kept) (one : Insertion) (rest : List Insertion) → StayApart entries (one ∷ rest) → find (asks one.request) entries ≡ None
first_is_new entries one rest apart =
    let all = counted (is_of one.request) one rest in
    let first : tally (is_of one.request one) ≡ 1 = ap tally (request_same one.request) in
    let few = apart one.request in
    counted_none (asks one.request) entries (omega (arith, first, all, few))

pub others_stay_apart : (before after : List Kept) (one : Insertion) (rest : List Insertion) → StayApart before (one ∷ rest) → ((request : Request) → entries_for request after ≤ entries_for request before + insertions_for request (one ∷ []))
    → StayApart after rest
others_stay_apart before after one rest apart adds = λ request.
    let all = counted (is_of request) one rest in
    let alone = counted (is_of request) one [] in
    let few = apart request in
    let more = adds request in
    omega arith

-- ---- entries end

both_counts : (request : Request) (now : ℕ) (entries : List Kept) → entries_for request (due_of now entries) + entries_for request (others_of now entries) ≡ entries_for request entries
both_counts request now entries = sum_by-filter_both (is_due now) (λ (k : Kept). not (is_due now k)) (λ k. refl) (λ (k : Kept). cond (asks request k) 1 0) entries

pub apart_others : (now : ℕ) (entries : List Kept) → AreApart entries → AreApart (others_of now entries)
apart_others now entries apart = λ request. let both = both_counts request now entries in let few = apart request in omega arith

pub apart_due : (now : ℕ) (entries : List Kept) → AreApart entries → (request : Request) → entries_for request (others_of now entries) + entries_for request (due_of now entries) ≤ 1
apart_due now entries apart request = let both = both_counts request now entries in let few = apart request in omega arith

answered_again : (request : Request) (files : Content) (entries : List Kept) → insertions_for request (map (anew files) entries) ≡ entries_for request entries
answered_again request files [] = refl
answered_again request files (k ∷ ks) =
    counted (is_of request) (anew files k) (map (anew files) ks) ∙ (ap (λ n. cond (asks request k) 1 0 + n) (answered_again request files ks) ∙ sym (counted (asks request) k ks))

-- what is inserted for the entries that ended stays apart from the others
pub reloads_stay_apart : (files : Content) (reloads : Option ℕ) (others due : List Kept) → ((request : Request) → entries_for request others + entries_for request due ≤ 1) → StayApart others (map (anew files) (reloaded_of reloads due))
reloads_stay_apart files reloads others due apart = λ request.
    let again = answered_again request files (reloaded_of reloads due) in
    let both : entries_for request (reloaded_of reloads due) + entries_for request (filter (λ k. not (not (is_dropped reloads k))) due) ≡ entries_for request due
    = sum_by-filter_both (λ (k : Kept). not (is_dropped reloads k)) (λ (k : Kept). not (not (is_dropped reloads k))) (λ k. refl) (λ (k : Kept). cond (asks request k) 1 0) due in
    let few = apart request in
    omega arith
