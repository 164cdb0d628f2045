-- The entries that stand in words, as the nodes there are changed.
use Rattle.std.proofs.Common.{◌≡◌, ◌≢◌, ℕ, ◌+◌, ◌*◌, ◌≤◌, ◌⊎◌, inl, inr, ⊎_elim, Bool, true, false, cond, ◌||◌, eq-eqb, List, [], ◌∷◌, ◌++◌, length, map, filter, find, Option, Some, None, refl, sym, ap, ◌∙◌, arith}
use Rattle.std.specs.Option.{option_or}
use Rattle.std.proofs.lemmas.Bool.{ne_eqb, false≢true}
use Rattle.std.proofs.lemmas.List.{append-nil, length-append, map-append}
use Rattle.std.proofs.lemmas.List.Elements.{filter-append}
use Rattle.std.proofs.lemmas.List.Folds.{find-append, list_any-append}
use Rattle.std.proofs.lemmas.List.Sums.{sum_by_push}
use Rattle.nsc_words.specs.declared.node.Placed.{Placed}
use Rattle.nsc_words.specs.Laid.{Among, InRow, Rising, end_of, slid, words_in}
use Rattle.nsc_arena.specs.Changes.{ended}
use Rattle.nsc_model.specs.Machine.{Kept, all_words, entry_words}
use Rattle.nsc_rule.specs.Entries.{entries_in, kept_in}
use Rattle.nsc_shelf.specs.Shelf.{has_number, is_numbered}

-- ---- one node more

pub one_more : (p : Placed) (older : List Placed) → p.usable ≡ true → entries_in (p ∷ older) ≡ entries_in older ++ kept_in p ∷ []
one_more p older usable = ap (λ (b : Bool). cond b (entries_in older ++ kept_in p ∷ []) (entries_in older)) usable

pub none_more : (p : Placed) (older : List Placed) → p.usable ≡ false → entries_in (p ∷ older) ≡ entries_in older
none_more p older ended = ap (λ (b : Bool). cond b (entries_in older ++ kept_in p ∷ []) (entries_in older)) ended

-- ---- the search for an entry

-- no entry passes the test
pub find_none : (test : Kept → Bool) (nodes : List Placed) → ((p : Placed) → Among p nodes → p.usable ≡ true → test (kept_in p) ≡ false) → find test (entries_in nodes) ≡ None
find_none test [] none = refl
find_none test (p ∷ older) none = by p.usable refl (find_none test older (λ q m. none q (inr m))) where
  by : (b : Bool) → p.usable ≡ b → find test (entries_in older) ≡ None → find test (cond b (entries_in older ++ kept_in p ∷ []) (entries_in older)) ≡ None
  by true e rest = find-append test (entries_in older) (kept_in p ∷ []) ∙ ap (λ (o : Option Kept). option_or o (find test (kept_in p ∷ []))) rest ∙ ap (λ (b : Bool). cond b (Some (kept_in p)) None) (none p (inl refl) e)
  by false e rest = rest

-- where none is found none passes
pub none_found : (test : Kept → Bool) (nodes : List Placed) → find test (entries_in nodes) ≡ None → (p : Placed) → Among p nodes → p.usable ≡ true → test (kept_in p) ≡ false
none_found test [] e p among usable = absurd among
none_found test (q ∷ older) e p among usable = by q.usable refl e among (none_found test older) where
  apart : (o : Option Kept) (b : Bool) → option_or o (cond b (Some (kept_in q)) None) ≡ None → (o ≡ None) × (b ≡ false)
  apart None true h = absurd cc
  apart None false h = (refl, refl)
  apart (Some k) b h = absurd cc

  by : (b : Bool) → q.usable ≡ b → find test (cond b (entries_in older ++ kept_in q ∷ []) (entries_in older)) ≡ None → Among p (q ∷ older) → (find test (entries_in older) ≡ None → (r : Placed) → Among r older → r.usable ≡ true → test (kept_in r) ≡ false) → test (kept_in p) ≡ false
  by true u h (inl same) rest = let w = apart (find test (entries_in older)) (test (kept_in q)) (sym (find-append test (entries_in older) (kept_in q ∷ [])) ∙ h) in ap (λ (r : Placed). test (kept_in r)) same ∙ w.1
  by true u h (inr m) rest = let w = apart (find test (entries_in older)) (test (kept_in q)) (sym (find-append test (entries_in older) (kept_in q ∷ [])) ∙ h) in rest w.0 p m usable
  by false u h (inl same) rest = absurd (false≢true (sym u ∙ ap (λ (r : Placed). r.usable) (sym same) ∙ usable))
  by false u h (inr m) rest = rest h p m usable

-- this entry passes, and those that pass have its number or a higher one
pub find_one : (test : Kept → Bool) (nodes : List Placed) (n : Placed) → Rising nodes → Among n nodes → n.usable ≡ true → test (kept_in n) ≡ true → ((p : Placed) → Among p nodes → p.usable ≡ true → test (kept_in p) ≡ true → n.node.number ≤ p.node.number) → find test (entries_in nodes) ≡ Some (kept_in n)
find_one test [] n rising among usable passes alone = absurd among
find_one test (p ∷ older) n rising (inl e) usable passes alone =
    let own : p.usable ≡ true = ap (λ (q : Placed). q.usable) (sym e) ∙ usable in
    let test_p : test (kept_in p) ≡ true = ap (λ (q : Placed). test (kept_in q)) (sym e) ∙ passes in
    let older_fail : (q : Placed) → Among q older → q.usable ≡ true → test (kept_in q) ≡ false = λ q m u. fails (test (kept_in q)) (λ t. let most = alone q (inr m) u t in let less = rising.0 q m in let f : n.node.number ≡ p.node.number = ap (λ (r : Placed). r.node.number) e in absurd (omega arith)) in
    ap (find test) (one_more p older own) ∙ find-append test (entries_in older) (kept_in p ∷ []) ∙ ap (λ (o : Option Kept). option_or o (find test (kept_in p ∷ []))) (find_none test older older_fail) ∙ ap (λ (b : Bool). cond b (Some (kept_in p)) None) test_p ∙ ap (λ (q : Placed). Some (kept_in q)) (sym e)
  where
    fails : (b : Bool) → (b ≡ true → ⊥) → b ≡ false
    fails true h = absurd (h refl)
    fails false h = refl
find_one test (p ∷ older) n rising (inr m) usable passes alone = by p.usable (find_one test older n rising.1 m usable passes (λ q a. alone q (inr a))) where
  by : (b : Bool) → find test (entries_in older) ≡ Some (kept_in n) → find test (cond b (entries_in older ++ kept_in p ∷ []) (entries_in older)) ≡ Some (kept_in n)
  by true rest = find-append test (entries_in older) (kept_in p ∷ []) ∙ ap (λ (o : Option Kept). option_or o (find test (kept_in p ∷ []))) rest
  by false rest = rest

-- ---- changes

-- a change of nodes that leaves them usable, or not, is a change of their entries
pub mapped : (change : Placed → Placed) (f : Kept → Kept) (nodes : List Placed) → ((p : Placed) → (change p).usable ≡ p.usable) → ((p : Placed) → Among p nodes → p.usable ≡ true → kept_in (change p) ≡ f (kept_in p)) → entries_in (map change nodes) ≡ map f (entries_in nodes)
mapped change f [] usable same = refl
mapped change f (p ∷ older) usable same = by p.usable refl (mapped change f older usable (λ q m. same q (inr m))) where
  by : (b : Bool) → p.usable ≡ b → entries_in (map change older) ≡ map f (entries_in older) → entries_in (map change (p ∷ older)) ≡ map f (cond b (entries_in older ++ kept_in p ∷ []) (entries_in older))
  by true e rest = one_more (change p) (map change older) (usable p ∙ e) ∙ (λ i. rest i ++ same p (inl refl) e i ∷ []) ∙ sym (map-append f (entries_in older) (kept_in p ∷ []))
  by false e rest = none_more (change p) (map change older) (usable p ∙ e) ∙ rest

-- the entries that leave, where nodes end
pub left : (change : Placed → Placed) (stays : Kept → Bool) (nodes : List Placed) → ((p : Placed) → Among p nodes → p.usable ≡ true → ((stays (kept_in p) ≡ true) × (change p ≡ p)) ⊎ ((stays (kept_in p) ≡ false) × ((change p).usable ≡ false))) → ((p : Placed) → p.usable ≡ false → (change p).usable ≡ false) → entries_in (map change nodes) ≡ filter stays (entries_in nodes)
left change stays [] cases ends = refl
left change stays (p ∷ older) cases ends = by p.usable refl (left change stays older (λ q m. cases q (inr m)) ends) where
  by : (b : Bool) → p.usable ≡ b → entries_in (map change older) ≡ filter stays (entries_in older) → entries_in (map change (p ∷ older)) ≡ filter stays (cond b (entries_in older ++ kept_in p ∷ []) (entries_in older))
  by true e rest = ⊎_elim
      (λ (w : (stays (kept_in p) ≡ true) × (change p ≡ p)). one_more (change p) (map change older) (ap (λ (q : Placed). q.usable) w.1 ∙ e) ∙ (λ i. rest i ++ kept_in (w.1 i) ∷ []) ∙ ap (λ (b : Bool). filter stays (entries_in older) ++ cond b (kept_in p ∷ []) []) (sym w.0) ∙ sym (filter-append stays (entries_in older) (kept_in p ∷ [])))
      (λ (w : (stays (kept_in p) ≡ false) × ((change p).usable ≡ false)). none_more (change p) (map change older) w.1 ∙ rest ∙ sym (append-nil (filter stays (entries_in older))) ∙ ap (λ (b : Bool). filter stays (entries_in older) ++ cond b (kept_in p ∷ []) []) (sym w.0) ∙ sym (filter-append stays (entries_in older) (kept_in p ∷ [])))
      (cases p (inl refl) e)
  by false e rest = none_more (change p) (map change older) (ends p e) ∙ rest

-- the same nodes at other places
pub slid_same : (start : ℕ) (nodes : List Placed) → entries_in (slid start nodes) ≡ entries_in nodes
slid_same start [] = refl
slid_same start (p ∷ older) = by p.usable refl (slid_same start older) where
  by : (b : Bool) → p.usable ≡ b → entries_in (slid start older) ≡ entries_in older → entries_in (cond b (record p { place = end_of start (slid start older) } ∷ slid start older) (slid start older)) ≡ cond b (entries_in older ++ kept_in p ∷ []) (entries_in older)
  by true e rest = one_more (record p { place = end_of start (slid start older) }) (slid start older) e ∙ ap (λ (ks : List Kept). ks ++ kept_in p ∷ []) rest
  by false e rest = rest

-- ---- words

-- the words of the entries are no more than those of the nodes
pub words_fit : (start : ℕ) (nodes : List Placed) → InRow start nodes → start + all_words (entries_in nodes) ≤ end_of start nodes
words_fit start [] row = omega arith
words_fit start (p ∷ older) row = by p.usable (words_fit start older row.1) where
  by : (b : Bool) → start + all_words (entries_in older) ≤ end_of start older → start + all_words (cond b (entries_in older ++ kept_in p ∷ []) (entries_in older)) ≤ p.place + words_in p.node
  by true rest = let more = sum_by_push (λ (k : Kept). entry_words k.entry) (entries_in older) (kept_in p) in let first = row.0 in omega arith
  by false rest = let first = row.0 in omega arith

-- once slid they are the same
pub words_slid : (start : ℕ) (nodes : List Placed) → end_of start (slid start nodes) ≡ start + all_words (entries_in nodes)
words_slid start [] = omega arith
words_slid start (p ∷ older) = by p.usable (words_slid start older) where
  by : (b : Bool) → end_of start (slid start older) ≡ start + all_words (entries_in older) → end_of start (cond b (record p { place = end_of start (slid start older) } ∷ slid start older) (slid start older)) ≡ start + all_words (cond b (entries_in older ++ kept_in p ∷ []) (entries_in older))
  by true rest = let more = sum_by_push (λ (k : Kept). entry_words k.entry) (entries_in older) (kept_in p) in omega arith
  by false rest = rest

-- ---- numbers

pub number_among : (number : ℕ) (nodes : List Placed) (n : Placed) → Among n nodes → n.usable ≡ true → n.node.number ≡ number → has_number number (entries_in nodes) ≡ true
number_among number [] n among usable is = absurd among
number_among number (p ∷ older) n (inl e) usable is =
    let own : p.usable ≡ true = ap (λ (q : Placed). q.usable) (sym e) ∙ usable in
    let same : p.node.number ≡ number = ap (λ (q : Placed). q.node.number) (sym e) ∙ is in
    ap (has_number number) (one_more p older own) ∙ list_any-append (is_numbered number) (entries_in older) (kept_in p ∷ []) ∙ ap (λ (b : Bool). has_number number (entries_in older) || (b || false)) (eq-eqb p.node.number number same) ∙ or_true (has_number number (entries_in older))
  where
    or_true : (b : Bool) → (b || true) ≡ true
    or_true true = refl
    or_true false = refl
number_among number (p ∷ older) n (inr m) usable is = by p.usable (number_among number older n m usable is) where
  by : (b : Bool) → has_number number (entries_in older) ≡ true → has_number number (cond b (entries_in older ++ kept_in p ∷ []) (entries_in older)) ≡ true
  by true rest = list_any-append (is_numbered number) (entries_in older) (kept_in p ∷ []) ∙ ap (λ (b : Bool). b || has_number number (kept_in p ∷ [])) rest
  by false rest = rest

pub number_missing : (number : ℕ) (nodes : List Placed) → ((p : Placed) → Among p nodes → p.usable ≡ true → p.node.number ≢ number) → has_number number (entries_in nodes) ≡ false
number_missing number [] none = refl
number_missing number (p ∷ older) none = by p.usable refl (number_missing number older (λ q m. none q (inr m))) where
  by : (b : Bool) → p.usable ≡ b → has_number number (entries_in older) ≡ false → has_number number (cond b (entries_in older ++ kept_in p ∷ []) (entries_in older)) ≡ false
  by true e rest = list_any-append (is_numbered number) (entries_in older) (kept_in p ∷ []) ∙ ap (λ (b : Bool). b || has_number number (kept_in p ∷ [])) rest ∙ ap (λ (b : Bool). b || false) (ne_eqb p.node.number number (none p (inl refl) e))
  by false e rest = rest

-- where all nodes end, no entry is left
pub none_left : (nodes : List Placed) → entries_in (map ended nodes) ≡ []
none_left [] = refl
none_left (p ∷ older) = none_more (ended p) (map ended older) refl ∙ none_left older

-- ---- one entry leaves

-- nodes that a change leaves
pub unmoved : (change : Placed → Placed) (nodes : List Placed) → ((p : Placed) → Among p nodes → change p ≡ p) → map change nodes ≡ nodes
unmoved change [] same = refl
unmoved change (p ∷ older) same = λ i. same p (inl refl) i ∷ unmoved change older (λ q m. same q (inr m)) i

-- where one usable node ends there is one entry less
pub one_less : (change : Placed → Placed) (nodes : List Placed) (n : Placed) → Rising nodes → Among n nodes → n.usable ≡ true → (change n).usable ≡ false → ((p : Placed) → Among p nodes → p.node.number ≢ n.node.number → change p ≡ p) → length (entries_in (map change nodes)) + 1 ≡ length (entries_in nodes)
one_less change [] n rising among usable ends others = absurd among
one_less change (p ∷ older) n rising (inl e) usable ends others =
    let own : p.usable ≡ true = ap (λ (q : Placed). q.usable) (sym e) ∙ usable in
    let gone : (change p).usable ≡ false = ap (λ (q : Placed). (change q).usable) (sym e) ∙ ends in
    let rest : map change older ≡ older = unmoved change older (λ q m. others q (inr m) (let less = rising.0 q m in let f : n.node.number ≡ p.node.number = ap (λ (r : Placed). r.node.number) e in omega arith)) in
    let a : length (entries_in (map change (p ∷ older))) ≡ length (entries_in older) = ap length (none_more (change p) (map change older) gone) ∙ ap (λ (ps : List Placed). length (entries_in ps)) rest in
    let b : length (entries_in (p ∷ older)) ≡ length (entries_in older) + 1 = ap length (one_more p older own) ∙ length-append (entries_in older) (kept_in p ∷ []) in
    omega arith
one_less change (p ∷ older) n rising (inr m) usable ends others =
    let rest = one_less change older n rising.1 m usable ends (λ q a. others q (inr a)) in
    let higher = rising.0 n m in
    let same : change p ≡ p = others p (inl refl) (omega arith) in
    by p.usable refl same rest
  where
    by : (b : Bool) → p.usable ≡ b → change p ≡ p → length (entries_in (map change older)) + 1 ≡ length (entries_in older) → length (entries_in (map change (p ∷ older))) + 1 ≡ length (cond b (entries_in older ++ kept_in p ∷ []) (entries_in older))
    by true u same rest =
        let a : length (entries_in (map change (p ∷ older))) ≡ length (entries_in (map change older)) + 1 = ap length (one_more (change p) (map change older) (ap (λ (q : Placed). q.usable) same ∙ u)) ∙ length-append (entries_in (map change older)) (kept_in (change p) ∷ []) in
        let b : length (entries_in older ++ kept_in p ∷ []) ≡ length (entries_in older) + 1 = length-append (entries_in older) (kept_in p ∷ []) in
        omega arith
    by false u same rest = let a : length (entries_in (map change (p ∷ older))) ≡ length (entries_in (map change older)) = ap length (none_more (change p) (map change older) (ap (λ (q : Placed). q.usable) same ∙ u)) in omega arith

-- each entry takes eight words at least
pub few_entries : (start : ℕ) (nodes : List Placed) → InRow start nodes → start + 8 * length (entries_in nodes) ≤ end_of start nodes
few_entries start [] row = omega arith
few_entries start (p ∷ older) row = by p.usable (few_entries start older row.1) where
  by : (b : Bool) → start + 8 * length (entries_in older) ≤ end_of start older → start + 8 * length (cond b (entries_in older ++ kept_in p ∷ []) (entries_in older)) ≤ p.place + words_in p.node
  by true rest = let more : length (entries_in older ++ kept_in p ∷ []) ≡ length (entries_in older) + 1 = length-append (entries_in older) (kept_in p ∷ []) in let first = row.0 in omega arith
  by false rest = let first = row.0 in omega arith
