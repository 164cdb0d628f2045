-- Rows in the order of their keys: those of one key stand side by side.
use Rattle.std.proofs.Common.{◌≡◌, ℕ, ◌+◌, ◌<◌, ◌≤◌, Bool, true, false, not, ◌&&◌, ◌||◌, cond, List, [], ◌∷◌, ◌++◌, length, take, drop, get_or, filter, All, refl, sym, ◌∙◌, ap, subst, arith}
use Rattle.std.specs.List.{AllWithin, list_any}
use Rattle.std.specs.List.Sorted.{IsNonDecreasingBy, IsPartitionPoint, IsPartitionedBy, IsPermutation, IsSortedByClosure, IsStableBy, IsStableByClosure, ties}
use denote.Ref.{Bor}
use Rattle.std.specs.Fn.{Called, Mut}
use Rattle.std.specs.Cmp.{IsTotalOrder, alike_right, Equal-is}
use Rattle.std.specs.declared.cmp.Ordering.{Ordering}
use Rattle.std.specs.declared.cmp.Ordering.TheVariants.{Less, Equal, Greater}
use Rattle.std.specs.Ordering.{is_eq, is_lt, ordering_index, ordering_reverse}
use Rattle.std.proofs.lemmas.Fn.{always_returns_same}
use Rattle.std.proofs.lemmas.List.Folds.{Any-from_list_any}
use Rattle.std.proofs.lemmas.List.{append-nil, get_or-drop, get_or-take, length-drop, length-take, take-append-drop}
use Rattle.std.proofs.lemmas.List.Elements.{All-head, All-tail, filter-append, filter_agree}
use Rattle.std.proofs.lemmas.List.Sorted.{IsNonDecreasingBy-drop, list_any-IsPermutation, ranks_by}
use Rattle.nsc_index.specs.Indexes.{Indexes}

-- ---- tests that all pass, or none

none_pass : {X : Type 0} (p : X → Bool) (xs : List X) → All (λ x. p x ≡ false) xs → filter p xs ≡ []
none_pass p [] all = refl
none_pass p (x ∷ xs) all = rw (All-head (λ x. p x ≡ false) x xs all) (none_pass p xs (All-tail (λ x. p x ≡ false) x xs all))

none_any : {X : Type 0} (p : X → Bool) (xs : List X) → list_any p xs ≡ false → filter p xs ≡ []
none_any p [] none = refl
none_any p (x ∷ xs) none =
    elim (p x) as (λ v. (v || list_any p xs) ≡ false → cond v (x ∷ filter p xs) (filter p xs) ≡ []) [
      | true ↦ λ e. cc
      | false ↦ λ e. none_any p xs e
    ] none

all_pass : {X : Type 0} (p : X → Bool) (xs : List X) → All (λ x. p x ≡ true) xs → filter p xs ≡ xs
all_pass p [] all = refl
all_pass p (x ∷ xs) all = rw (All-head (λ x. p x ≡ true) x xs all) (ap (λ more. x ∷ more) (all_pass p xs (All-tail (λ x. p x ≡ true) x xs all)))

all_below : {X : Type 0} (P : X → Type 0) (xs : List X) (i : ℕ) → AllWithin P xs 0 i → All P (take i xs)
all_below P xs i all = λ k d l.
    let size = length-take i xs in
    let below : k < i = omega arith in
    subst P (sym (get_or-take i xs k d below)) (all k d (omega arith) below)

all_above : {X : Type 0} (P : X → Type 0) (xs : List X) (i : ℕ) → AllWithin P xs i (length xs) → All P (drop i xs)
all_above P xs i all = λ k d l.
    let size = length-drop i xs in
    subst P (sym (get_or-drop i xs k d)) (all (i + k) d (omega arith) (omega arith))

-- what passes stands between what does not
between : {X : Type 0} (p : X → Bool) (xs rest : List X) (i j : ℕ) → rest ≡ drop i xs → AllWithin (λ x. p x ≡ false) xs 0 i → AllWithin (λ x. p x ≡ true) rest 0 j → AllWithin (λ x. p x ≡ false) rest j (length rest) → take j rest ≡ filter p xs
between p xs rest i j is before here after =
    let front : filter p (take i xs) ≡ [] = none_pass p (take i xs) (all_below (λ x. p x ≡ false) xs i before) in
    let middle : filter p (take j rest) ≡ take j rest = all_pass p (take j rest) (all_below (λ x. p x ≡ true) rest j here) in
    let back : filter p (drop j rest) ≡ [] = none_pass p (drop j rest) (all_above (λ x. p x ≡ false) rest j after) in
    let rest_is : filter p rest ≡ take j rest = ap (filter p) (sym (take-append-drop j rest)) ∙ filter-append p (take j rest) (drop j rest) ∙ ap (λ more. filter p (take j rest) ++ more) back ∙ append-nil (filter p (take j rest)) ∙ middle in
    sym (ap (filter p) (sym (take-append-drop i xs)) ∙ filter-append p (take i xs) (drop i xs) ∙ ap (λ more. more ++ filter p (drop i xs)) front ∙ ap (filter p) (sym is) ∙ rest_is)

-- ---- by how they stand to a key

low : (r : Ordering) → is_lt r ≡ true → ordering_index r ≡ 0
low Less h = refl
low Equal h = cc
low Greater h = cc

is_low : (r : Ordering) → ordering_index r ≤ 0 → is_lt r ≡ true
is_low Less h = refl
is_low Equal h = absurd (omega arith)
is_low Greater h = absurd (omega arith)

middle : (r : Ordering) → is_eq r ≡ true → ordering_index r ≡ 1
middle Less h = cc
middle Equal h = refl
middle Greater h = cc

is_middle : (r : Ordering) → ordering_index r ≤ 1 → is_lt r ≡ false → is_eq r ≡ true
is_middle Less h n = cc
is_middle Equal h n = refl
is_middle Greater h n = absurd (omega arith)

lower_differs : (r : Ordering) → is_lt r ≡ true → is_eq r ≡ false
lower_differs Less h = refl
lower_differs Equal h = cc
lower_differs Greater h = refl

module _ {X : Type 0} (ord : X → Ordering) (xs : List X) (rises : IsNonDecreasingBy (λ x. ordering_index (ord x)) xs) where
  -- those that are lower stand first
  pub lower_first : IsPartitionedBy (λ x. is_lt (ord x)) xs
  lower_first i j d le lt h = is_low (ord (get_or xs i d)) (omega (arith, rises i j d le lt, low (ord (get_or xs j d)) h))

  -- and after these those that are the same
  pub same_next : (i : ℕ) (rest : List X) → rest ≡ drop i xs → IsPartitionPoint (λ x. is_lt (ord x) ≡ true) (λ x. is_lt (ord x) ≡ false) xs i → IsPartitionedBy (λ x. is_eq (ord x)) rest
  same_next i rest is point =
      subst (λ (l : List X). IsPartitionedBy (λ x. is_eq (ord x)) l) (sym is) (λ a b d le lt h.
      let size = length-drop i xs in
      let more = IsNonDecreasingBy-drop (λ x. ordering_index (ord x)) i xs rises a b d le lt in
      let not_low = all_above (λ x. is_lt (ord x) ≡ false) xs i point.1 a d (omega arith) in
      is_middle (ord (get_or (drop i xs) a d)) (omega (arith, more, middle (ord (get_or (drop i xs) b d)) h)) not_low)

  -- so those that are the same stand from one point to another
  pub same_between : (i j : ℕ) (rest : List X) → rest ≡ drop i xs → IsPartitionPoint (λ x. is_lt (ord x) ≡ true) (λ x. is_lt (ord x) ≡ false) xs i → IsPartitionPoint (λ x. is_eq (ord x) ≡ true) (λ x. is_eq (ord x) ≡ false) rest j → take j rest ≡ filter (λ x. is_eq (ord x)) xs
  same_between i j rest is point next =
      between (λ x. is_eq (ord x)) xs rest i j is (λ k d l h. lower_differs (ord (get_or xs k d)) (point.0 k d l h)) next.0 next.1

-- ---- a sort keeps the rows of each key

module _ {X K : Type 0} {cmp : K → K → Ordering} (total : IsTotalOrder cmp) (key : X → K) where
  neither : (r : Ordering) → (not (is_lt (ordering_reverse r)) && not (is_lt r)) ≡ is_eq r
  neither Less = refl
  neither Equal = refl
  neither Greater = refl

  -- rows tie where their keys are the same
  tie : (k : K) (y x : X) → cmp (key y) k ≡ Equal → ties (λ a b. is_lt (cmp (key a) (key b))) y x ≡ is_eq (cmp (key x) k)
  tie k y x is =
      let back : cmp (key y) (key x) ≡ ordering_reverse (cmp (key x) k) = total.antisymm (key y) (key x) ∙ ap ordering_reverse (alike_right total (key y) k (key x) is) in
      let there : cmp (key x) (key y) ≡ cmp (key x) k = alike_right total (key y) k (key x) is in
      rw (back, there) (neither (cmp (key x) k))

  kept_by : (rows index : List X) → IsPermutation rows index → IsStableBy (λ a b. is_lt (cmp (key a) (key b))) rows index → (k : K) (some : Bool) → list_any (λ x. is_eq (cmp (key x) k)) index ≡ some → filter (λ x. is_eq (cmp (key x) k)) index ≡ filter (λ x. is_eq (cmp (key x) k)) rows
  kept_by rows index moved stable k true is =
      let p : X → Bool = λ x. is_eq (cmp (key x) k) in
      let one = Any-from_list_any p index is in
      let y = one.1 in
      let same : cmp (key y) k ≡ Equal = (Equal-is (cmp (key y) k)).0 one.4 in
      let agree : (xs : List X) → filter (ties (λ a b. is_lt (cmp (key a) (key b))) y) xs ≡ filter p xs = filter_agree (ties (λ a b. is_lt (cmp (key a) (key b))) y) p (λ x. tie k y x same) in
      sym (agree index) ∙ stable y ∙ agree rows
  kept_by rows index moved stable k false is =
      let p : X → Bool = λ x. is_eq (cmp (key x) k) in
      none_any p index is ∙ sym (none_any p rows (list_any-IsPermutation p rows index moved ∙ is))

  -- so a stable sort makes an index
  pub indexes : {F : Type 0} {g : Mut F (Bor X × (Bor X × Unit {0})) Ordering} {f : F} (rows index : List X) → IsPermutation rows index → IsSortedByClosure g f index → IsStableByClosure g f rows index
      → ((a : Bor X × (Bor X × Unit {0})) (r : Ordering) (f' : F) → Called g f a r f' → (r ≡ cmp (key a.0.now) (key a.1.0.now)) × (f' ≡ f)) → Indexes cmp key rows index
  indexes {g = g} {f = f} rows index moved sorted stable calls =
      let by : X → X → Bool = λ a b. is_lt (cmp (key a) (key b)) in
      let answers = always_returns_same g (λ a r. is_lt r ≡ by a.0.now a.1.0.now) f (λ a r f' k. (ap is_lt (calls a r f' k).0, (calls a r f' k).1)) in
      let order = ranks_by total key in
      record {
        ordered = sorted by order answers;
        same = λ k. kept_by rows index moved (stable by order answers) k (list_any (λ x. is_eq (cmp (key x) k)) index) refl;
      }
