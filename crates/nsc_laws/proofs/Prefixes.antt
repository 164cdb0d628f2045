-- Facts on histories: numbers of entries, and what a poll and a load add.
use Rattle.std.proofs.Common.{◌≡◌, ◌≢◌, ℕ, ◌<◌, List, [], ◌∷◌, ◌++◌, refl, ap, arith, inl, inr}
use Rattle.nsc_model.specs.declared.record.Record.{Record}
use Rattle.nsc_model.specs.declared.record.Record.TheVariants.{Change, Poll, Load, End, Invalid}
use Rattle.nsc_model.specs.Entry.{Entry}
use Rattle.nsc_model.specs.History.{loads, HasLoad, HasEnd, Legal}

-- what a legal history begins with was legal before
legal_tail : (r : Record) (s : Record) (before : List Record) → Legal (r ∷ s ∷ before) → Legal (s ∷ before)
legal_tail (Change v c) s before h = h.0
legal_tail (Poll v) s before h = h.0
legal_tail (Load e) s before h = h.0
legal_tail (End n cause) s before h = h.0
legal_tail (Invalid n) s before h = h.0

legal_before : (r : Record) (before : List Record) → before ≢ [] → Legal (r ∷ before) → Legal before
legal_before r [] more l = absurd (more refl)
legal_before r (s ∷ before) more l = legal_tail r s before l

pub more_after : (more seen : List Record) → seen ≢ [] → more ++ seen ≢ []
more_after [] seen holds e = holds e
more_after (r ∷ more) seen holds e = absurd cc

-- what a history was at an earlier moment was legal then
pub prefix_legal : (more seen : List Record) → seen ≢ [] → Legal (more ++ seen) → Legal seen
prefix_legal [] seen holds l = l
prefix_legal (r ∷ more) seen holds l = prefix_legal more seen holds (legal_before r (more ++ seen) (more_after more seen holds) l)

-- an entry that was inserted has a number below the count of entries
pub load_below : (h : List Record) (e : Entry) → Legal h → HasLoad h e → e.number < loads h
load_below [] e l a = absurd a
load_below (Change v c ∷ []) e l a = absurd a
load_below (Change v c ∷ s ∷ before) e l a = load_below (s ∷ before) e l.0 a
load_below (Poll v ∷ before) e l a = load_below before e l.0 a
load_below (Load entry ∷ before) e l (inl same) = let n : entry.number ≡ e.number = ap (λ (x : Entry). x.number) same in let m : entry.number ≡ loads before = l.1 in omega arith
load_below (Load entry ∷ before) e l (inr a) = let m : e.number < loads before = load_below before e l.0 a in omega arith
load_below (End n cause ∷ before) e l a = load_below before e l.0 a
load_below (Invalid n ∷ before) e l a = load_below before e l.0 a

-- and so has an entry that ended
pub end_below : (h : List Record) (n : ℕ) → Legal h → HasEnd h n → n < loads h
end_below [] n l a = absurd a
end_below (Change v c ∷ []) n l a = absurd a
end_below (Change v c ∷ s ∷ before) n l a = end_below (s ∷ before) n l.0 a
end_below (Poll v ∷ before) n l a = end_below before n l.0 a
end_below (Load entry ∷ before) n l a = let m : n < loads before = end_below before n l.0 a in omega arith
end_below (End k cause ∷ before) n l (inl same) =
    let e = l.1 in
    let below : e.number < loads before = load_below before e l.0 l.2.inserted in
    let is : e.number ≡ k = l.3 in
    let same' : k ≡ n = same in
    omega arith
end_below (End k cause ∷ before) n l (inr a) = end_below before n l.0 a
end_below (Invalid k ∷ before) n l a = end_below before n l.0 a
