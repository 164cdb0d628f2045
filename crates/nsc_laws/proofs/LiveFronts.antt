-- An entry of which a caller had not seen the end was live at some moment of its call.
use Rattle.std.proofs.Common.{ℕ, List, [], ◌∷◌, ◌++◌, refl, sym, subst, inl, inr}
use Rattle.nsc_model.specs.declared.record.Record.{Record}
use Rattle.nsc_model.specs.declared.record.Record.TheVariants.{Change, Poll, Load, End, Invalid}
use Rattle.nsc_model.specs.declared.answer.Request.{Request}
use Rattle.nsc_model.specs.Entry.{Entry}
use Rattle.nsc_model.specs.History.{HasLoad, HasEnd, IsLive, Legal, IsPrefix, FromEntry}
use Rattle.nsc_laws.specs.Moments.{WasLive}
use Rattle.nsc_laws.proofs.Prefixes.{prefix_legal}
use Rattle.nsc_laws.proofs.CoreLawRecords.{prefix_more}
use Rattle.nsc_laws.proofs.CoreLawLive.{new_live}

-- after a load a history was legal
legal_before : (r : Record) (h : List Record) (e : Entry) → Legal (r ∷ h) → HasLoad h e → Legal h
legal_before r [] e l a = absurd a
legal_before r (s ∷ h) e l a = prefix_legal (r ∷ []) (s ∷ h) (λ none. cc) l

-- a moment before stays one
one_more : (r : Record) (seen h : List Record) (e : Entry) → WasLive seen h e → WasLive seen (r ∷ h) e
one_more r seen h e w = record { front = w.front; after_seen = w.after_seen; in_history = prefix_more r w.front h w.in_history; live = w.live }

live_within : (more seen : List Record) (e : Entry) → Legal (more ++ seen) → HasLoad (more ++ seen) e → (HasEnd seen e.number → ⊥) → WasLive seen (more ++ seen) e
live_within [] seen e l a never = record { front = seen; after_seen = ([], refl); in_history = ([], refl); live = record { inserted = a; not_ended = never } }
live_within (Change v c ∷ more) seen e l a never = one_more (Change v c) seen (more ++ seen) e (live_within more seen e (legal_before (Change v c) (more ++ seen) e l a) a never)
live_within (Poll v ∷ more) seen e l a never = one_more (Poll v) seen (more ++ seen) e (live_within more seen e l.0 a never)
live_within (Load f ∷ more) seen e l (inr a) never = one_more (Load f) seen (more ++ seen) e (live_within more seen e l.0 a never)
live_within (Load f ∷ more) seen e l (inl same) never = record {
  front = Load f ∷ (more ++ seen);
  after_seen = (Load f ∷ more, refl);
  in_history = ([], refl);
  live = subst (IsLive (Load f ∷ (more ++ seen))) same (new_live (more ++ seen) f l.0 l.1);
}
live_within (End k cause ∷ more) seen e l a never = one_more (End k cause) seen (more ++ seen) e (live_within more seen e l.0 a never)
live_within (Invalid k ∷ more) seen e l a never = one_more (Invalid k) seen (more ++ seen) e (live_within more seen e l.0 a never)

pub was_live : (seen history : List Record) (e : Entry) → Legal history → IsPrefix seen history → HasLoad history e → (HasEnd seen e.number → ⊥) → WasLive seen history e
was_live seen history e l p a never =
    let same = sym p.1 in
    subst (λ (h : List Record). WasLive seen h e) same (live_within p.0 seen e (subst Legal p.1 l) (subst (λ (h : List Record). HasLoad h e) p.1 a) never)

pub reply_was_live : (seen history : List Record) (request : Request) (bytes : List ℕ) → Legal history → IsPrefix seen history → (from : FromEntry seen history request bytes) → WasLive seen history from.entry_is
reply_was_live seen history request bytes l p from = was_live seen history from.entry_is l p from.inserted from.not_seen_to_end
