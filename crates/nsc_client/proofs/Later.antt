-- What a caller saw, and what holds of a caller who had seen less before, or has seen more after.
use Rattle.std.proofs.Common.{◌≡◌, ◌≢◌, ◌∙◌, ℕ, ◌+◌, ◌≤◌, List, [], ◌∷◌, ◌++◌, append_assoc, length, length-append, Some, sym, ap, subst, arith, inl, inr}
use Rattle.nsc_model.specs.declared.answer.Request.{Request}
use Rattle.nsc_model.specs.declared.record.Record.{Record}
use Rattle.nsc_model.specs.declared.record.Record.TheVariants.{Change, Poll, Load, End, Invalid}
use Rattle.nsc_model.specs.Content.{Content}
use Rattle.nsc_model.specs.Entry.{Entry}
use Rattle.nsc_model.specs.History.{Answered, EndedAfter, HasEnd, HasLoad, IsPrefix, Legal, version_in}
use Rattle.nsc_laws.proofs.RunReplies.{version_stays}
use Rattle.nsc_laws.proofs.SpelledHistories.{version_below}

pub prefix_through : (a b c : List Record) → IsPrefix a b → IsPrefix b c → IsPrefix a c
prefix_through a b c p q = (q.0 ++ p.0, q.1 ∙ ap (λ (l : List Record). q.0 ++ l) p.1 ∙ sym (append_assoc q.0 p.0 a))

pub prefix_length : (a b : List Record) → IsPrefix a b → length a ≤ length b
prefix_length a b p =
    let both : length (p.0 ++ a) ≡ length p.0 + length a = length-append p.0 a in
    let all : length b ≡ length (p.0 ++ a) = ap (λ (l : List Record). length l) p.1 in
    omega arith

some_record : (h : List Record) → Legal h → h ≢ []
some_record [] l e = l
some_record (r ∷ h) l e = absurd cc

-- ---- a history that goes on keeps its entries, its ends and the contents of its versions

load_more : (more h : List Record) (e : Entry) → HasLoad h e → HasLoad (more ++ h) e
load_more [] h e a = a
load_more (Change v c ∷ more) h e a = load_more more h e a
load_more (Poll v ∷ more) h e a = load_more more h e a
load_more (Load f ∷ more) h e a = inr (load_more more h e a)
load_more (End n cause ∷ more) h e a = load_more more h e a
load_more (Invalid n ∷ more) h e a = load_more more h e a

end_more : (more h : List Record) (n : ℕ) → HasEnd h n → HasEnd (more ++ h) n
end_more [] h n a = a
end_more (Change v c ∷ more) h n a = end_more more h n a
end_more (Poll v ∷ more) h n a = end_more more h n a
end_more (Load f ∷ more) h n a = end_more more h n a
end_more (End m cause ∷ more) h n a = inr (end_more more h n a)
end_more (Invalid m ∷ more) h n a = end_more more h n a

load_on : (seen h : List Record) (e : Entry) → IsPrefix seen h → HasLoad seen e → HasLoad h e
load_on seen h e p a = subst (λ (l : List Record). HasLoad l e) (sym p.1) (load_more p.0 seen e a)

end_on : (seen h : List Record) (n : ℕ) → IsPrefix seen h → HasEnd seen n → HasEnd h n
end_on seen h n p a = subst (λ (l : List Record). HasEnd l n) (sym p.1) (end_more p.0 seen n a)

version_on : (seen h : List Record) (n : ℕ) (c : Content) → Legal h → Legal seen → IsPrefix seen h → version_in seen n ≡ Some c → version_in h n ≡ Some c
version_on seen h n c legal legal_seen p is =
    subst (λ (l : List Record). version_in l n ≡ Some c) (sym p.1)
    (version_stays p.0 seen n (some_record seen legal_seen) (subst Legal p.1 legal) (version_below seen n c legal_seen is) ∙ is)

-- ---- replies

-- a caller who had seen less
pub answered_before : (less seen after : List Record) (request : Request) (bytes : List ℕ) → IsPrefix less seen → Answered seen after request bytes → Answered less after request bytes
answered_before less seen after request bytes p a = record {
  seen_before = prefix_through less seen after p a.seen_before;
  source = elim a.source [
    | inl e ↦ inl (record { entry_is = e.entry_is; inserted = e.inserted; answers = e.answers; said = e.said; not_seen_to_end = λ ended. e.not_seen_to_end (end_on less seen e.entry_is.number p ended) })
    | inr f ↦ inr (record {
      version_is = f.version_is;
      files_are = f.files_are;
      moment = f.moment;
      is_moment = f.is_moment;
      later = (let low = prefix_length less seen p in let more = f.later in omega arith);
      looks = f.looks;
      holds = f.holds;
      said = f.said;
    })
  ];
}

-- a caller who has seen more
pub answered_after : (seen after more : List Record) (request : Request) (bytes : List ℕ) → Legal after → Legal more → IsPrefix after more → Answered seen after request bytes → Answered seen more request bytes
answered_after seen after more request bytes l m p a = record {
  seen_before = prefix_through seen after more a.seen_before p;
  source = elim a.source [
    | inl e ↦ inl (record { entry_is = e.entry_is; inserted = load_on after more e.entry_is p e.inserted; answers = e.answers; said = e.said; not_seen_to_end = e.not_seen_to_end })
    | inr f ↦ inr (record {
      version_is = f.version_is;
      files_are = f.files_are;
      moment = f.moment;
      is_moment = prefix_through f.moment after more f.is_moment p;
      later = f.later;
      looks = f.looks;
      holds = version_on after more f.version_is f.files_are m l p f.holds;
      said = f.said;
    })
  ];
}

pub ended_before : (less seen after : List Record) (request : Request) → IsPrefix less seen → EndedAfter seen after request → EndedAfter less after request
ended_before less seen after request p ended e loaded same = ended e (load_on less seen e p loaded) same
