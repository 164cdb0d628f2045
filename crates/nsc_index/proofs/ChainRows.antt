-- Chains of rows: their links, and a walk along one.
use Rattle.std.proofs.Common.{◌≡◌, ℕ, ◌+◌, ◌<◌, ◌≤◌, ◌^◌, Bool, true, false, not, cond, List, [], ◌∷◌, ◌++◌, length, drop, drop-cons, get_or, filter, map, suc, refl, sym, ◌∙◌, ap, subst, add-one, arith, append_assoc}
use Rattle.std.specs.List.{position_or_len}
use Rattle.std.specs.Cmp.{unsigned_ties}
use Rattle.std.proofs.lemmas.List.{drop-drop, get_or-drop, get_or_default, length-drop}
use Rattle.std.proofs.lemmas.Bool.{false_from_ne_true}
use Rattle.std.proofs.lemmas.Bool.Decides.{Decides-eqb}
use Rattle.std.proofs.lemmas.List.Sums.{prefix_len-drop_all, prefix_len-drop_no, prefix_len-drop_yes}
use Rattle.nsc_index.specs.declared.numbers.NumberAt.{NumberAt}
use Rattle.nsc_index.specs.Chains.{AreChained, AreHeads, AreNexts, bucket, in_bucket, next_in}
use Rattle.nsc_index.specs.declared.chains.Chains.TheInside.{Inside}
use Rattle.nsc_index.specs.Numbers.{has_number}

-- ---- where the next row stands

abbrev pub next_place : {X : Type 0} → (X → Bool) → List X → ℕ → ℕ
next_place p xs i = i + position_or_len p (drop i xs)

module _ {X : Type 0} (p : X → Bool) (xs : List X) where
  pub next_end : (i : ℕ) → length xs ≤ i → next_place p xs i ≡ i
  next_end i le = omega (arith, prefix_len-drop_all (λ x. not (p x)) xs i le)

  pub next_here : (i : ℕ) (d : X) → i < length xs → p (get_or xs i d) ≡ true → next_place p xs i ≡ i
  next_here i d lt is = omega (arith, prefix_len-drop_no (λ x. not (p x)) xs i d lt (ap not is))

  pub next_later : (i : ℕ) (d : X) → i < length xs → p (get_or xs i d) ≡ false → next_place p xs i ≡ next_place p xs (i + 1)
  next_later i d lt is = omega (arith, prefix_len-drop_yes (λ x. not (p x)) xs i d lt (ap not is))

-- ---- a walk

one_more : {X : Type 0} (n : ℕ) (x : X) (xs : List X) → drop (1 + n) (x ∷ xs) ≡ drop n xs
one_more n x xs = let m : 1 + n ≡ suc n = omega arith in ap (λ k. drop k (x ∷ xs)) m

one_on : {X : Type 0} (n : ℕ) (x d : X) (xs : List X) → get_or (x ∷ xs) (1 + n) d ≡ get_or xs n d
one_on n x d xs = let m : 1 + n ≡ suc n = omega arith in ap (λ k. get_or (x ∷ xs) k d) m

-- rows that do not pass one test may be left out, where none of them passes another
skip : {X : Type 0} (p q : X → Bool) → ((x : X) → p x ≡ false → q x ≡ false) → (xs : List X) → filter q (drop (position_or_len p xs) xs) ≡ filter q xs
skip p q only [] = refl
skip p q only (x ∷ xs) =
    elim (p x) as (λ v. p x ≡ v → filter q (drop (cond (not v) (1 + position_or_len p xs) 0) (x ∷ xs)) ≡ filter q (x ∷ xs)) [
      | true ↦ λ is. refl
      | false ↦ λ is. ap (filter q) (one_more (position_or_len p xs) x xs) ∙ skip p q only xs ∙ ap (λ v. cond v (x ∷ filter q xs) (filter q xs)) (sym (only x is))
    ] refl

found : {X : Type 0} (p : X → Bool) (xs : List X) (d : X) → position_or_len p xs < length xs → p (get_or xs (position_or_len p xs) d) ≡ true
found p [] d lt = absurd (omega arith)
found p (x ∷ xs) d lt =
    elim (p x) as (λ v. p x ≡ v → cond (not v) (1 + position_or_len p xs) 0 < length (x ∷ xs) → p (get_or (x ∷ xs) (cond (not v) (1 + position_or_len p xs) 0) d) ≡ true) [
      | true ↦ λ is below. is
      | false ↦ λ is below. ap p (one_on (position_or_len p xs) x d xs) ∙ found p xs d (omega arith)
    ] refl lt

module _ (count number : ℕ) (rows : List NumberAt) where
  abbrev own : NumberAt → Bool
  own = in_bucket count (bucket count number)

  -- a row of the number lies in its bucket
  own_only : (row : NumberAt) → own row ≡ false → has_number number row ≡ false
  own_only row other =
      elim (has_number number row) as (λ v. has_number number row ≡ v → v ≡ false) [
        | true ↦ λ is.
            let same : row.number ≡ number = (Decides-eqb row.number number).0 (unsigned_ties row.number number ∙ is) in
            let here : own row ≡ true = (Decides-eqb (bucket count row.number) (bucket count number)).1 (ap (bucket count) same) in
            cc
        | false ↦ λ is. refl
      ] refl

  -- the rows of the number from a place on are those from the next row of its bucket on
  pub left_on : (i : ℕ) → filter (has_number number) (drop (next_in count (bucket count number) rows i) rows) ≡ filter (has_number number) (drop i rows)
  left_on i = ap (filter (has_number number)) (sym (drop-drop (position_or_len own (drop i rows)) i rows)) ∙ skip own (has_number number) own_only (drop i rows)

  pub here_on : (i : ℕ) (row : NumberAt) → next_in count (bucket count number) rows i < length rows → own (get_or rows (next_in count (bucket count number) rows i) row) ≡ true
  here_on i row lt =
      let size = length-drop i rows in
      ap own (sym (get_or-drop i rows (position_or_len own (drop i rows)) row)) ∙ found own (drop i rows) row (omega arith)

  pub here_at : (i at : ℕ) → at ≡ next_in count (bucket count number) rows i → (row : NumberAt) → at < length rows → own (get_or rows at row) ≡ true
  here_at i at is row lt = ap (λ n. own (get_or rows n row)) is ∙ here_on i row (subst (λ n. n < length rows) is lt)

  pub left_at : (i at : ℕ) → at ≡ next_in count (bucket count number) rows i → filter (has_number number) (drop at rows) ≡ filter (has_number number) (drop i rows)
  left_at i at is = ap (λ n. filter (has_number number) (drop n rows)) is ∙ left_on i

  pub next_on : (nexts : List ℕ) (at next : ℕ) (row : NumberAt) → AreNexts count rows nexts 0 → length nexts ≡ length rows → at < length rows → next ≡ get_or nexts at next → own (get_or rows at row) ≡ true → next ≡ next_in count (bucket count number) rows (at + 1)
  next_on nexts at next row are size lt is here =
      is ∙ get_or_default nexts at next 0 (omega arith) ∙ are at row (omega arith) lt
      ∙ ap (λ b. next_in count b rows (at + 1)) ((Decides-eqb (bucket count (get_or rows at row).number) (bucket count number)).0 here)

  cut : (at : ℕ) (row : NumberAt) → row ≡ get_or rows at row → at < length rows → drop at rows ≡ row ∷ drop (at + 1) rows
  cut at row is lt = drop-cons rows at row lt ∙ ap (λ x. x ∷ drop (suc at) rows) (sym is) ∙ ap (λ n. row ∷ drop n rows) (sym (add-one at))

  -- the lines with that of a row of the number, and without that of another row
  pub left_passed : (at : ℕ) (row : NumberAt) (lines new all : List ℕ) → row ≡ get_or rows at row → at < length rows → row.number ≡ number → new ≡ lines ++ row.line ∷ [] → lines ++ map (λ (r : NumberAt). r.line) (filter (has_number number) (drop at rows)) ≡ all
      → new ++ map (λ (r : NumberAt). r.line) (filter (has_number number) (drop (at + 1) rows)) ≡ all
  left_passed at row lines new all is lt same new_is left =
      let rest = filter (has_number number) (drop (at + 1) rows) in
      let passes : has_number number row ≡ true = sym (unsigned_ties row.number number) ∙ (Decides-eqb row.number number).1 same in
      ap (λ (l : List ℕ). l ++ map (λ (r : NumberAt). r.line) rest) new_is ∙ append_assoc lines (row.line ∷ []) (map (λ (r : NumberAt). r.line) rest)
      ∙ ap (λ v. lines ++ map (λ (r : NumberAt). r.line) (cond v (row ∷ rest) rest)) (sym passes)
      ∙ ap (λ (l : List NumberAt). lines ++ map (λ (r : NumberAt). r.line) (filter (has_number number) l)) (sym (cut at row is lt)) ∙ left

  pub left_passed_over : (at : ℕ) (row : NumberAt) (lines new all : List ℕ) → row ≡ get_or rows at row → at < length rows → (row.number ≡ number → ⊥) → new ≡ lines → lines ++ map (λ (r : NumberAt). r.line) (filter (has_number number) (drop at rows)) ≡ all
      → new ++ map (λ (r : NumberAt). r.line) (filter (has_number number) (drop (at + 1) rows)) ≡ all
  left_passed_over at row lines new all is lt other new_is left =
      let rest = filter (has_number number) (drop (at + 1) rows) in
      let fails : has_number number row ≡ false = sym (unsigned_ties row.number number) ∙ false_from_ne_true _ (λ e. other ((Decides-eqb row.number number).0 e)) in
      ap (λ (l : List ℕ). l ++ map (λ (r : NumberAt). r.line) rest) new_is
      ∙ ap (λ v. lines ++ map (λ (r : NumberAt). r.line) (cond v (row ∷ rest) rest)) (sym fails)
      ∙ ap (λ (l : List NumberAt). lines ++ map (λ (r : NumberAt). r.line) (filter (has_number number) l)) (sym (cut at row is lt)) ∙ left

-- ---- the links as they are kept

pub are_chained : (inside : Inside) (rows : List NumberAt) (heads nexts : List ℕ) → rows ≡ inside.rows.items → inside.heads.items ≡ heads → inside.nexts.items ≡ nexts → length rows < 2 ^ 32 → 0 < length heads → length heads < 2 ^ 32 → length nexts ≡ length rows
    → AreHeads (length heads) rows heads 0 → AreNexts (length heads) rows nexts 0 → AreChained inside
are_chained inside rows heads nexts rows_are heads_are nexts_are count some fits room first next = record {
  count = subst (λ (rs : List NumberAt). length rs < 2 ^ 32) rows_are count;
  some = subst (λ (hs : List ℕ). 0 < length hs) (sym heads_are) some;
  fits = subst (λ (hs : List ℕ). length hs < 2 ^ 32) (sym heads_are) fits;
  room = ap length nexts_are ∙ room ∙ ap length rows_are;
  heads = subst (λ (hs : List ℕ). AreHeads (length hs) inside.rows.items hs 0) (sym heads_are) (subst (λ (rs : List NumberAt). AreHeads (length heads) rs heads 0) rows_are first);
  nexts = subst (λ (hs : List ℕ). AreNexts (length hs) inside.rows.items inside.nexts.items 0) (sym heads_are) (subst (λ (ns : List ℕ). AreNexts (length heads) inside.rows.items ns 0) (sym nexts_are) (subst (λ (rs : List NumberAt). AreNexts (length heads) rs nexts 0) rows_are next));
}
