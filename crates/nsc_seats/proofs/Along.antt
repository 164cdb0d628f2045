-- The tables of seats.
use Rattle.std.proofs.Common.{◌≡◌, ◌∙◌, ℕ, zero, suc, Result, Ok, Err, inl, inr, ◌+◌, ◌<◌, Some, List, [], ◌∷◌, ◌++◌, length, map, set, get_or, sym, ap, subst, refl, arith}
use Rattle.std.specs.Prelude.{OnErr}
use Rattle.std.proofs.Math.Seq.{get_or-append_seam, map-set_same}
use Rattle.std.proofs.lemmas.List.{get_or-map, get_or_append_left, length-append, length-map, map-append}
use Rattle.std.proofs.lemmas.List.Elements.{All-append, All-cons, All-nil, All-set, All-weaker}
use Rattle.atomic_table.specs.Seated.{TableId}
use Rattle.nsc_model.specs.declared.record.Record.{Record}
use Rattle.nsc_model.specs.History.{IsPrefix}
use Rattle.nsc_rule.specs.Pass.{Pass}
use Rattle.nsc_writer.proofs.Later.{prefix_through}
use Rattle.nsc_writer.specs.Former.{Former}
use Rattle.nsc_seats.specs.Seats.{AreAt, AreSeats, IsBefore, first_of, seated}
use Rattle.nsc_seats.specs.Tables.{IsChain}
use Rattle.nsc_seats.proofs.Chain.{table_next}

-- the table of a number is that of the seat
pub seat_table : (former : List Pass) (present p : Pass) (d : TableId) (n : ℕ) → n < length former → get_or (seated former present) n d ≡ (get_or former n p).table
seat_table former present p d n low = get_or_append_left (map (λ (p : Pass). p.table) former) (present.table ∷ []) d n (rw (length-map former (λ (p : Pass). p.table)) low) ∙ get_or-map (λ (p : Pass). p.table) former n p d low

-- the present one is behind the others
pub present_table : (former : List Pass) (present : Pass) (d : TableId) → get_or (seated former present) (length former) d ≡ present.table
present_table former present d = ap (λ n. get_or (seated former present) n d) (sym (length-map former (λ (p : Pass). p.table))) ∙ get_or-append_seam (map (λ (p : Pass). p.table) former) present.table [] d

-- a former seat has seen the table of the next one go on in place of its own
pub seat_next : (former : List Pass) (present p : Pass) (d : TableId) (n : ℕ) → AreSeats former present → n < length former → (get_or former n p).retired ≡ Some (get_or (seated former present) (suc n) d)
seat_next former present p d n seats low =
    let count : length (seated former present) ≡ length former + 1 = length-append (map (λ (p : Pass). p.table) former) (present.table ∷ []) ∙ ap (λ n. n + 1) (length-map former (λ (p : Pass). p.table)) in
    let within : suc n < length (seated former present) = rw count omega arith in
    sym (get_or-map (λ (p : Pass). p.retired) former n p (Some d) low)
    ∙ sym (ap (λ l. get_or l (suc n) (Some d)) seats.onward)
    ∙ get_or-map Some (seated former present) (suc n) d (Some d) within

-- where a seat and a table that was left agree, the next ones are the same
pub along : (former : List Pass) (present p : Pass) (left : List Former) (f : Former) (newest : TableId) (n : ℕ) → AreSeats former present → IsChain (first_of former present) left newest → n < length former → n < length left
    → ((newer : TableId) → (get_or former n p).retired ≡ Some newer → newer ≡ (get_or left n f).newer.table) → AreAt (suc n) former present left newest
along former present p left f newest n seats chain low fewer agree =
    agree (get_or (seated former present) (suc n) newest) (seat_next former present p newest n seats low) ∙ sym (table_next (first_of former present) newest left f n chain fewer)

-- the first ones are the same
pub along_first : (former : List Pass) (present : Pass) (left : List Former) (newest : TableId) → IsChain (first_of former present) left newest → AreAt 0 former present left newest
along_first [] present left newest chain = sym (ap (λ l. get_or l 0 newest) chain)
along_first (p ∷ former) present left newest chain = sym (ap (λ l. get_or l 0 newest) chain)

-- the first table stays where the present one has become a former one
pub first_grown : (former : List Pass) (present gone newer : Pass) → gone.table ≡ present.table → first_of (former ++ gone ∷ []) newer ≡ first_of former present
first_grown [] present gone newer same = same
first_grown (p ∷ former) present gone newer same = refl

-- the present one has become a former one, and another one is present
pub seats_grown : (former : List Pass) (present gone newer : Pass) → AreSeats former present → gone.table ≡ present.table → gone.retired ≡ Some newer.table → IsPrefix gone.seen newer.seen → IsPrefix present.seen newer.seen → AreSeats (former ++ gone ∷ []) newer
seats_grown former present gone newer seats same on whole before =
    let table = λ (p : Pass). p.table in
    let front : seated (former ++ gone ∷ []) newer ≡ seated former present ++ newer.table ∷ [] = ap (λ l. l ++ newer.table ∷ []) (map-append table former (gone ∷ []) ∙ (λ i. map table former ++ same i ∷ [])) in
    let back : map (λ (p : Pass). p.retired) (former ++ gone ∷ []) ≡ map (λ (p : Pass). p.retired) former ++ Some newer.table ∷ [] = map-append (λ (p : Pass). p.retired) former (gone ∷ []) ∙ (λ i. map (λ (p : Pass). p.retired) former ++ on i ∷ []) in
    record {
      onward =
          ap (λ l. map Some l) front
          ∙ map-append Some (seated former present) (newer.table ∷ [])
          ∙ ap (λ l. l ++ Some newer.table ∷ []) seats.onward
          ∙ ap (λ l. Some (first_of former present) ∷ l) (sym back)
          ∙ ap (λ t. Some t ∷ map (λ (p : Pass). p.retired) (former ++ gone ∷ [])) (sym (first_grown former present gone newer same));
      less = All-append (λ (p : Pass). IsPrefix p.seen newer.seen) former (gone ∷ []) (All-weaker (λ (p : Pass). IsPrefix p.seen present.seen) (λ (p : Pass). IsPrefix p.seen newer.seen) (λ p is. prefix_through p.seen present.seen newer.seen is before) former seats.less) (All-cons (λ (p : Pass). IsPrefix p.seen newer.seen) gone [] whole (All-nil (λ (p : Pass). IsPrefix p.seen newer.seen)));
    }

-- the present one has seen more at its table
pub seats_shown : (former : List Pass) (present shown : Pass) → AreSeats former present → shown.table ≡ present.table → IsPrefix present.seen shown.seen → AreSeats former shown
seats_shown former present shown seats same before =
    let P : TableId → Type 0 = λ t. map Some (map (λ (p : Pass). p.table) former ++ t ∷ []) ≡ Some (get_or (map (λ (p : Pass). p.table) former ++ t ∷ []) 0 t) ∷ map (λ (p : Pass). p.retired) former in
    record {
      onward = subst P (sym same) seats.onward;
      less = All-weaker (λ (p : Pass). IsPrefix p.seen present.seen) (λ (p : Pass). IsPrefix p.seen shown.seen) (λ p is. prefix_through p.seen present.seen shown.seen is before) former seats.less;
    }

-- what a pass had seen that a table had seen which was left
pub before_at : (seen : List Record) (left : List Former) (f : Former) (n : ℕ) → n < length left → IsPrefix seen (get_or left n f).stock.seen → IsBefore seen left
before_at seen [] f n low p = absurd (omega arith)
before_at seen (g ∷ left) f zero low p = inl p
before_at seen (g ∷ left) f (suc n) low p = inr (before_at seen left f n (omega arith) p)

pub on_err : {A E : Type 0} (r : Result A E) (P : Type 0) → P → OnErr r P
on_err (Ok a) P p = tt
on_err (Err e) P p = p

-- another search of a former seat
pub record SameSeats (former former' : List Pass) (present : Pass) : Type 0 where
  pub seats : AreSeats former' present
  pub tables : seated former' present ≡ seated former present

pub seats_set : (former : List Pass) (present p q : Pass) (n : ℕ) → AreSeats former present → p ≡ get_or former n p → q.table ≡ p.table → q.retired ≡ p.retired → IsPrefix q.seen present.seen → SameSeats former (set former n q) present
seats_set former present p q n seats is table retired seen =
    let tables : seated (set former n q) present ≡ seated former present = ap (λ l. l ++ present.table ∷ []) (map-set_same (λ (x : Pass). x.table) former n q p (table ∙ ap (λ (x : Pass). x.table) is)) in
    let on = map-set_same (λ (x : Pass). x.retired) former n q p (retired ∙ ap (λ (x : Pass). x.retired) is) in
    record {
      seats = record {
        onward = ap (λ l. map Some l) tables ∙ seats.onward ∙ (λ i. Some (get_or (sym tables i) 0 present.table) ∷ sym on i);
        less = All-set (λ (x : Pass). IsPrefix x.seen present.seen) former n q seen seats.less;
      };
      tables = tables;
    }
