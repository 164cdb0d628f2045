-- The counts of a history that goes on.
use Rattle.std.proofs.Common.{◌≡◌, ◌∙◌, ℕ, ◌<◌, ◌≤◌, inl, inr, List, [], ◌∷◌, ◌++◌, append_assoc, sym, ap, subst, arith}
use Rattle.nsc_model.specs.declared.record.Record.{Record}
use Rattle.nsc_model.specs.declared.record.Record.TheVariants.{Change, Poll, Load, End, Invalid}
use Rattle.nsc_model.specs.Entry.{Entry}
use Rattle.nsc_model.specs.History.{loads, HasEnd, HasLoad, IsPrefix, Legal}

pub prefix_through : (a b c : List Record) → IsPrefix a b → IsPrefix b c → IsPrefix a c
prefix_through a b c p q = (q.0 ++ p.0, q.1 ∙ ap (λ (l : List Record). q.0 ++ l) p.1 ∙ sym (append_assoc q.0 p.0 a))

loads_more : (more h : List Record) → loads h ≤ loads (more ++ h)
loads_more [] h = omega arith
loads_more (Change v c ∷ more) h = loads_more more h
loads_more (Poll v ∷ more) h = loads_more more h
loads_more (Load e ∷ more) h = let before = loads_more more h in omega arith
loads_more (End n cause ∷ more) h = loads_more more h
loads_more (Invalid n ∷ more) h = loads_more more h

pub loads_on : (a b : List Record) → IsPrefix a b → loads a ≤ loads b
loads_on a b p = let P : List Record → Type 0 = λ l. loads a ≤ loads l in subst P (sym p.1) (loads_more p.0 a)

-- an entry that was inserted has a number below the count of entries
pub load_below : (h : List Record) (e : Entry) → Legal h → HasLoad h e → e.number < loads h
load_below [] e l a = absurd a
load_below (Change v c ∷ []) e l a = absurd a
load_below (Change v c ∷ s ∷ before) e l a = load_below (s ∷ before) e l.0 a
load_below (Poll v ∷ before) e l a = load_below before e l.0 a
load_below (Load entry ∷ before) e l (inl same) = let n : entry.number ≡ e.number = ap (λ (x : Entry). x.number) same in let m : entry.number ≡ loads before = l.1 in omega arith
load_below (Load entry ∷ before) e l (inr a) = let m : e.number < loads before = load_below before e l.0 a in omega arith
load_below (End n cause ∷ before) e l a = load_below before e l.0 a
load_below (Invalid n ∷ before) e l a = load_below before e l.0 a

-- and so has one that ended
pub end_below : (h : List Record) (n : ℕ) → Legal h → HasEnd h n → n < loads h
end_below [] n l a = absurd a
end_below (Change v c ∷ []) n l a = absurd a
end_below (Change v c ∷ s ∷ before) n l a = end_below (s ∷ before) n l.0 a
end_below (Poll v ∷ before) n l a = end_below before n l.0 a
end_below (Load e ∷ before) n l a = let m : n < loads before = end_below before n l.0 a in omega arith
end_below (End k cause ∷ before) n l (inl same) = let e : l.1.number ≡ k = l.3 in let m : l.1.number < loads before = load_below before l.1 l.0 l.2.inserted in omega arith
end_below (End k cause ∷ before) n l (inr a) = end_below before n l.0 a
end_below (Invalid k ∷ before) n l a = end_below before n l.0 a
