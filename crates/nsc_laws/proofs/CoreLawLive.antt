-- The live entries of a legal history, listed in rising number: so a database can always be emptied.
use Rattle.std.proofs.Common.{◌≡◌, ◌≢◌, ℕ, ◌+◌, ◌<◌, Bool, true, false, cond, eqb, List, [], ◌∷◌, ◌++◌, refl, sym, ap, subst, ◌∙◌, arith, inl, inr}
use Rattle.std.specs.Prelude.{◌⊎◌}
use Rattle.std.proofs.lemmas.Bool.{eqb-true, eqb-false}
use Rattle.nsc_model.specs.declared.kind.Db.{Db}
use Rattle.nsc_model.specs.declared.record.Ending.{Ending}
use Rattle.nsc_model.specs.declared.record.Record.{Record}
use Rattle.nsc_model.specs.declared.record.Record.TheVariants.{Change, Poll, Load, End, Invalid}
use Rattle.nsc_model.specs.Content.{Content}
use Rattle.nsc_model.specs.Entry.{Entry}
use Rattle.nsc_model.specs.History.{loads, invalidations, IsLive, Legal}
use Rattle.nsc_laws.specs.Core.{Core, opening, ended_all, Move, Empty, IsMove, AreMoves}
use Rattle.nsc_model.specs.Live.{HasEntry, Rise, AreLive}
use Rattle.nsc_laws.proofs.Prefixes.{load_below, end_below}
use Rattle.nsc_laws.proofs.CoreLawRecords.{rise_tail, first_least}
use Rattle.nsc_laws.proofs.CoreLaw.{legal_law}

-- ---- lists of entries in rising number

pub among_more : (entries : List Entry) (f e : Entry) → HasEntry (entries ++ f ∷ []) e → HasEntry entries e ⊎ (f ≡ e)
among_more [] f e (inl same) = inr same
among_more [] f e (inr a) = absurd a
among_more (x ∷ entries) f e (inl same) = inl (inl same)
among_more (x ∷ entries) f e (inr a) = elim (among_more entries f e a) [ inl b ↦ inl (inr b) | inr same ↦ inr same ]

pub among_first : (entries : List Entry) (f e : Entry) → HasEntry entries e → HasEntry (entries ++ f ∷ []) e
among_first [] f e a = absurd a
among_first (x ∷ entries) f e (inl same) = inl same
among_first (x ∷ entries) f e (inr a) = inr (among_first entries f e a)

pub among_last : (entries : List Entry) (f : Entry) → HasEntry (entries ++ f ∷ []) f
among_last [] f = inl refl
among_last (x ∷ entries) f = inr (among_last entries f)

pub rise_first : (e : Entry) (entries : List Entry) → ((f : Entry) → HasEntry entries f → e.number < f.number) → Rise entries → Rise (e ∷ entries)
rise_first e [] low r = tt
rise_first e (f ∷ entries) low r = (low f (inl refl), r)

pub rise_last : (entries : List Entry) (f : Entry) → ((e : Entry) → HasEntry entries e → e.number < f.number) → Rise entries → Rise (entries ++ f ∷ [])
rise_last [] f low r = tt
rise_last (e ∷ []) f low r = (low e (inl refl), tt)
rise_last (e ∷ g ∷ entries) f low r = (r.0, rise_last (g ∷ entries) f (λ x a. low x (inr a)) r.1)

-- the entries but those of this number
without : List Entry → ℕ → List Entry
without [] k = []
without (e ∷ entries) k = cond (eqb e.number k) (without entries k) (e ∷ without entries k)

without_among : (entries : List Entry) (k : ℕ) (e : Entry) → HasEntry (without entries k) e → HasEntry entries e × (e.number ≢ k)
unfolding without
without_among [] k e a = absurd a
without_among (x ∷ entries) k e a = by_test (eqb x.number k) refl a (without_among entries k e) where
  by_test : (b : Bool) → eqb x.number k ≡ b → HasEntry (cond b (without entries k) (x ∷ without entries k)) e → (HasEntry (without entries k) e → HasEntry entries e × (e.number ≢ k)) → HasEntry (x ∷ entries) e × (e.number ≢ k)
  by_test true t a others = let rest = others a in (inr rest.0, rest.1)
  by_test false t (inl same) others = (inl same, subst (λ (y : Entry). y.number ≢ k) same (eqb-false x.number k t))
  by_test false t (inr a) others = let rest = others a in (inr rest.0, rest.1)

among_without : (entries : List Entry) (k : ℕ) (e : Entry) → HasEntry entries e → e.number ≢ k → HasEntry (without entries k) e
unfolding without
among_without [] k e a other = absurd a
among_without (x ∷ entries) k e a other = by_test (eqb x.number k) refl a (λ among. among_without entries k e among other) where
  by_test : (b : Bool) → eqb x.number k ≡ b → HasEntry (x ∷ entries) e → (HasEntry entries e → HasEntry (without entries k) e) → HasEntry (cond b (without entries k) (x ∷ without entries k)) e
  by_test true t (inl same) others = absurd (other (sym (ap (λ (y : Entry). y.number) same) ∙ eqb-true x.number k t))
  by_test true t (inr a) others = others a
  by_test false t (inl same) others = inl same
  by_test false t (inr a) others = inr (others a)

rise_without : (entries : List Entry) (k : ℕ) → Rise entries → Rise (without entries k)
unfolding without
rise_without [] k r = tt
rise_without (e ∷ entries) k r = by_test (eqb e.number k) (rise_without entries k (rise_tail e entries r)) where
  by_test : (b : Bool) → Rise (without entries k) → Rise (cond b (without entries k) (e ∷ without entries k))
  by_test true rest = rest
  by_test false rest = rise_first e (without entries k) (λ f a. first_least e entries f r (without_among entries k f a).0) rest

-- ---- the live entries

record Lives (h : List Record) : Type 0 where
  entries : List Entry
  are : AreLive h entries

no_entry : (v : ℕ) (c : Content) → Lives (Change v c ∷ [])
no_entry v c = record { entries = []; are = record { live = λ e a. absurd a; all = λ e l. absurd l.inserted; rising = tt } }

after_change : (v : ℕ) (c : Content) (h : List Record) → Lives h → Lives (Change v c ∷ h)
after_change v c h s = record {
  entries = s.entries;
  are = record {
    live = λ e a. let l = s.are.live e a in record { inserted = l.inserted; not_ended = l.not_ended };
    all = λ e l. s.are.all e (record { inserted = l.inserted; not_ended = l.not_ended });
    rising = s.are.rising;
  };
}

after_poll : (v : ℕ) (h : List Record) → Lives h → Lives (Poll v ∷ h)
after_poll v h s = record {
  entries = s.entries;
  are = record {
    live = λ e a. let l = s.are.live e a in record { inserted = l.inserted; not_ended = l.not_ended };
    all = λ e l. s.are.all e (record { inserted = l.inserted; not_ended = l.not_ended });
    rising = s.are.rising;
  };
}

after_invalid : (n : ℕ) (h : List Record) → Lives h → Lives (Invalid n ∷ h)
after_invalid n h s = record {
  entries = s.entries;
  are = record {
    live = λ e a. let l = s.are.live e a in record { inserted = l.inserted; not_ended = l.not_ended };
    all = λ e l. s.are.all e (record { inserted = l.inserted; not_ended = l.not_ended });
    rising = s.are.rising;
  };
}

pub new_live : (h : List Record) (f : Entry) → Legal h → f.number ≡ loads h → IsLive (Load f ∷ h) f
new_live h f l is = record { inserted = inl refl; not_ended = λ ended. let below : f.number < loads h = end_below h f.number l ended in omega arith }

after_load : (f : Entry) (h : List Record) → Legal h → f.number ≡ loads h → Lives h → Lives (Load f ∷ h)
after_load f h legal is s = record {
  entries = s.entries ++ f ∷ [];
  are = record {
    live = λ e a. elim (among_more s.entries f e a) [
      | inl among ↦ (let l = s.are.live e among in record { inserted = inr l.inserted; not_ended = l.not_ended })
      | inr same ↦ subst (IsLive (Load f ∷ h)) same (new_live h f legal is)
    ];
    all = λ e l. elim l.inserted [
      | inl same ↦ subst (HasEntry (s.entries ++ f ∷ [])) same (among_last s.entries f)
      | inr before ↦ among_first s.entries f e (s.are.all e (record { inserted = before; not_ended = l.not_ended }))
    ];
    rising = rise_last s.entries f (λ e a. let below : e.number < loads h = load_below h e legal (s.are.live e a).inserted in omega arith) s.are.rising;
  };
}

after_end : (k : ℕ) (cause : Ending) (h : List Record) → Lives h → Lives (End k cause ∷ h)
after_end k cause h s = record {
  entries = without s.entries k;
  are = record {
    live = λ e a. let at = without_among s.entries k e a in let l = s.are.live e at.0 in record {
      inserted = l.inserted;
      not_ended = λ ended. elim ended [ inl same ↦ at.1 (sym same) | inr before ↦ l.not_ended before ];
    };
    all = λ e l. among_without s.entries k e (s.are.all e (record { inserted = l.inserted; not_ended = λ before. l.not_ended (inr before) })) (λ same. l.not_ended (inl (sym same)));
    rising = rise_without s.entries k s.are.rising;
  };
}

lives : (h : List Record) → Legal h → Lives h
lives [] l = absurd l
lives (Change v c ∷ []) l = no_entry v c
lives (Change v c ∷ r ∷ h) l = after_change v c (r ∷ h) (lives (r ∷ h) l.0)
lives (Poll v ∷ h) l = after_poll v h (lives h l.0)
lives (Load f ∷ h) l = after_load f h l.0 l.1 (lives h l.0)
lives (End k cause ∷ h) l = after_end k cause h (lives h l.0)
lives (Invalid n ∷ h) l = after_invalid n h (lives h l.0)

-- ---- the law

abbrev emptied : Core → List Entry → Core
emptied core entries = record core { history = Invalid (invalidations core.history + 1) ∷ ended_all entries core.history }

pub emptied_law : (db : Db) (sources : Content) (moves : List Move) (new : Core) → AreMoves db moves (opening db sources) new → (empty : Core) × IsMove db Empty new empty
emptied_law db sources moves new r = let s = lives new.history (legal_law db sources moves new r) in (emptied new s.entries, (s.entries, s.are, refl))
