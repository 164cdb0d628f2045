-- A poll and an insertion begin no slide and end none, at a table that stays.
use Rattle.std.proofs.Common.{◌≡◌, ℕ, ap, refl, ◌∙◌, Option, Result, Ok, Err}
use Rattle.nsc_model.specs.declared.store.Spent.{Spent}
use Rattle.nsc_model.specs.Machine.{Passed, Refusal, Stopped}
use Rattle.nsc_writer.specs.Loaded.{Loaded}
use Rattle.nsc_writer.specs.declared.loaded.Stamp.{Stamp}
use Rattle.nsc_writer.specs.declared.loaded.Inserted.{Inserted}
use Rattle.nsc_writer.specs.declared.loaded.Inserted.TheVariants as inserted
use Rattle.nsc_writer.specs.Writer.{InsertsBy, Polls, Writer}

pub record Stays (w w' : Writer) : Type 0 where
  pub slide : w'.slide ≡ w.slide
  pub table : w'.table ≡ w.table

pub stays_then : (w w' w'' : Writer) → Stays w w' → Stays w' w'' → Stays w w''
stays_then w w' w'' first then = record { slide = then.slide ∙ first.slide; table = then.table ∙ first.table }

stays_as : (w x w' : Writer) → w' ≡ x → x.slide ≡ w.slide → x.table ≡ w.table → Stays w w'
stays_as w x w' is slide table = record { slide = ap (λ (y : Writer). y.slide) is ∙ slide; table = ap (λ (y : Writer). y.table) is ∙ table }

pub polled_stays : (event : Result Passed Stopped) (epoch : ℕ) (w w' : Writer) (said : Result Stamp Spent) → Polls event epoch w w' said → Stays w w'
polled_stays (Ok passed) epoch w w' (Ok stamp) p = stays_as w _ w' p.1 refl refl
polled_stays (Ok passed) epoch w w' (Err spent) p = absurd p
polled_stays (Err stop) epoch w w' (Ok stamp) p = absurd p
polled_stays (Err stop) epoch w w' (Err spent) p = stays_as w _ w' p.1 refl refl

pub inserted_stays : (refused : Option Refusal) (said : Inserted) (l : Loaded) (w w' : Writer) → InsertsBy refused said l w w' → Stays w w'
inserted_stays refused (inserted.Done number) l w w' i = stays_as w _ w' i.2 refl refl
inserted_stays refused (inserted.TooLarge length) l w w' i = stays_as w _ w' i.1 refl refl
inserted_stays refused (inserted.Discarded noted epoch) l w w' i = stays_as w _ w' i.1 refl refl
inserted_stays refused (inserted.Present number) l w w' i = stays_as w _ w' i.1 refl refl
inserted_stays refused (inserted.Spent count) l w w' i = stays_as w _ w' i.1 refl refl
inserted_stays refused (inserted.Full need free) l w w' i = stays_as w _ w' i.1 refl refl
