-- What a beginning of a history has, and the whole of it still has.
use Rattle.std.proofs.Common.{◌≡◌, ◌≢◌, ◌∙◌, ℕ, List, [], ◌∷◌, ◌++◌, append_assoc, Some, sym, ap, subst, inr}
use Rattle.nsc_model.specs.declared.record.Record.{Record}
use Rattle.nsc_model.specs.declared.record.Record.TheVariants.{Change, Poll, Load, End, Invalid}
use Rattle.nsc_model.specs.Content.{Content}
use Rattle.nsc_model.specs.Entry.{Entry}
use Rattle.nsc_model.specs.History.{version_in, HasLoad, HasEnd, Legal, IsPrefix, PolledSince}
use Rattle.nsc_laws.proofs.RunReplies.{version_stays}
use Rattle.nsc_laws.proofs.SpelledHistories.{version_below}

pub prefix_through : (a b c : List Record) → IsPrefix a b → IsPrefix b c → IsPrefix a c
prefix_through a b c p q = (q.0 ++ p.0, q.1 ∙ ap (λ (l : List Record). q.0 ++ l) p.1 ∙ sym (append_assoc q.0 p.0 a))

some_record : (h : List Record) → Legal h → h ≢ []
some_record [] l e = l
some_record (r ∷ h) l e = absurd cc

-- the content of a version
pub version_on : (seen h : List Record) (n : ℕ) (c : Content) → Legal h → Legal seen → IsPrefix seen h → version_in seen n ≡ Some c → version_in h n ≡ Some c
version_on seen h n c legal legal_seen p is =
    subst (λ (l : List Record). version_in l n ≡ Some c) (sym p.1)
    (version_stays p.0 seen n (some_record seen legal_seen) (subst Legal p.1 legal) (version_below seen n c legal_seen is) ∙ is)

-- a poll
pub polled_on : (seen h : List Record) (n epoch : ℕ) → IsPrefix seen h → PolledSince seen n epoch → PolledSince h n epoch
polled_on seen h n epoch p polled = (polled.0, prefix_through polled.0 seen h polled.1 p, polled.2, polled.3)

-- an entry, and an end
load_more : (more h : List Record) (e : Entry) → HasLoad h e → HasLoad (more ++ h) e
load_more [] h e a = a
load_more (Change v c ∷ more) h e a = load_more more h e a
load_more (Poll v ∷ more) h e a = load_more more h e a
load_more (Load f ∷ more) h e a = inr (load_more more h e a)
load_more (End n cause ∷ more) h e a = load_more more h e a
load_more (Invalid n ∷ more) h e a = load_more more h e a

end_more : (more h : List Record) (n : ℕ) → HasEnd h n → HasEnd (more ++ h) n
end_more [] h n a = a
end_more (Change v c ∷ more) h n a = end_more more h n a
end_more (Poll v ∷ more) h n a = end_more more h n a
end_more (Load f ∷ more) h n a = end_more more h n a
end_more (End m cause ∷ more) h n a = inr (end_more more h n a)
end_more (Invalid m ∷ more) h n a = end_more more h n a

pub load_on : (seen h : List Record) (e : Entry) → IsPrefix seen h → HasLoad seen e → HasLoad h e
load_on seen h e p a = subst (λ (l : List Record). HasLoad l e) (sym p.1) (load_more p.0 seen e a)

pub end_on : (seen h : List Record) (n : ℕ) → IsPrefix seen h → HasEnd seen n → HasEnd h n
end_on seen h n p a = subst (λ (l : List Record). HasEnd l n) (sym p.1) (end_more p.0 seen n a)
