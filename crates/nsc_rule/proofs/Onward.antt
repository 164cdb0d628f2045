-- What a seat that reads knows still follows a later plan.
use Rattle.std.proofs.Common.{◌≡◌, ◌∙◌, ℕ, ◌%◌, ◌≤◌, max, ⊎_elim, true, Option, Some, None, List, [], sym, ap, subst, arith}
use Rattle.std.proofs.Math.Nat.{le-max_left, max-le}
use Rattle.std.proofs.lemmas.Option.{none-some}
use Rattle.nsc_words.specs.declared.layout.Layout.{Layout}
use Rattle.nsc_words.specs.declared.node.Placed.{Placed}
use Rattle.nsc_words.specs.Laid.{Among}
use Rattle.nsc_model.specs.Entry.{Entry}
use Rattle.nsc_model.specs.History.{loads, IsPrefix}
use Rattle.nsc_model.specs.declared.record.Record.{Record}
use Rattle.nsc_model.proofs.Beginnings.{prefix_all, prefix_none}
use Rattle.nsc_rule.specs.declared.view.Plan.{Plan}
use Rattle.nsc_rule.specs.declared.view.Search.{Search}
use Rattle.atomic_table.specs.Seated.{TableId}
use Rattle.nsc_rule.specs.declared.view.View.{View}
use Rattle.nsc_rule.specs.declared.view.View.TheVariants.{Writes, Reads}
use Rattle.nsc_rule.specs.Entries.{entry_of, request_bucket}
use Rattle.nsc_rule.specs.Plans.{cycle_of, Grows, IsEven, Later}
use Rattle.nsc_rule.specs.Seats.{Fits, Follows, IsSuccessor, Reaches, reader_of, rested, nobody, seen_by, told_to, searching_by, retired_by, absorbed, told_of, shown}
use Rattle.nsc_rule.proofs.Numbers.{prefix_through, loads_on}

-- a search reaches as far where the nodes grow
reaches_on : (p p' : Plan) (w : Search) → p'.layout ≡ p.layout → IsPrefix w.began p.seen → Grows (loads p.seen) p.nodes p'.nodes → Reaches p w → Reaches p' w
reaches_on p p' w layout began grows was = record {
  at = λ e on.
      let q = was.at e on in
      let r = grows.stays q.0 q.1 in
      let bucket = subst (λ (l : Layout). request_bucket l e.request ≡ request_bucket l w.request) (sym layout) q.4 in
      (r.0, r.1, r.2 ∙ q.2, r.3 ∙ q.3, bucket, λ gone. r.4 (q.5 gone));
  bound = λ r among usable is low.
      let fewer = loads_on w.began p.seen began in
      ⊎_elim
      (λ (new : loads p.seen ≤ r.node.number). absurd (omega arith))
      (λ (q : (q : Placed) × Among q p.nodes × (q.usable ≡ true) × (q.place ≡ r.place) × (entry_of q ≡ entry_of r)).
      let number : q.0.node.number ≡ r.node.number = ap (λ (e : Entry). e.number) q.4 in
      let place = q.3 in
      let old : q.0.place ≤ w.place = was.bound q.0 q.1 q.2 (ap (λ (e : Entry). e.request) q.4 ∙ is) (omega arith) in
      omega arith)
      (grows.fresh r among usable);
}

pub follows_on : (p p' : Plan) (v : View) → Later p p' → Follows p v → Follows p' v
follows_on p p' v later was =
    let w = searching_by v in
    let first = was.first in
    let known = was.known in
    let forward = later.forward in
    record {
      seen = prefix_through (seen_by v) p.seen p'.seen was.seen later.grown;
      told = prefix_through (told_to v) p.seen p'.seen was.told later.grown;
      began = prefix_through w.began p.seen p'.seen was.began later.grown;
      first = first;
      known = omega arith;
      retired = λ newer is. absurd (none-some newer (sym later.active ∙ (was.retired newer is).0));
      over = λ newer is. absurd (none-some newer (sym later.active ∙ was.over newer is));
      reaches = λ is even.
          let here : w.first ≡ cycle_of p = omega arith in
          let same : cycle_of p ≡ cycle_of p' = omega arith in
          let was_even : IsEven p = sym (ap (λ (n : ℕ). n % 2) here) ∙ even in
          reaches_on p p' w later.layout was.began (later.same same was_even) (was.reaches here even);
    }

-- ---- what seats know of one plan

pub seen_fits : (p : Plan) (seat : ℕ) (v : View) → Fits p seat v → IsPrefix (seen_by v) p.seen
seen_fits p seat (Writes plan told over) fits = subst (λ (q : Plan). IsPrefix plan.seen q.seen) fits.1 (prefix_all plan.seen)
seen_fits p seat (Reads seen told over retired searching) fits = fits.seen

pub retired_fits : (p : Plan) (seat : ℕ) (v : View) → Fits p seat v → (newer : TableId) → retired_by v ≡ Some newer → (p.retired ≡ Some newer) × (seen_by v ≡ p.seen)
retired_fits p seat (Writes plan told over) fits newer is = (sym (ap (λ (q : Plan). q.retired) fits.1) ∙ is, ap (λ (q : Plan). q.seen) fits.1)
retired_fits p seat (Reads seen told over retired searching) fits newer is = fits.retired newer is

successor_fits : (p : Plan) (seat : ℕ) (v : View) → Fits p seat v → IsSuccessor (retired_by v) p
successor_fits p seat v fits newer is = (retired_fits p seat v fits newer is).0

-- a seat knows no later CYCLE
pub known_fits : (p : Plan) (seat : ℕ) (v : View) → Fits p seat v → (searching_by v).known ≤ cycle_of p
known_fits p seat (Writes plan told over) fits = subst (λ (q : Plan). cycle_of plan ≤ cycle_of q) fits.1 (omega arith)
known_fits p seat (Reads seen told over retired searching) fits = fits.known

-- a seat with no search follows, which knows no later CYCLE
pub rests : (p : Plan) (seen told : List Record) (retired : Option TableId) (known : ℕ) → known ≤ cycle_of p → IsPrefix seen p.seen → IsPrefix told p.seen → ((newer : TableId) → retired ≡ Some newer → (p.retired ≡ Some newer) × (seen ≡ p.seen)) → Follows p (Reads seen told None retired (rested known))
rests p seen told retired known least saw heard onward = record {
  seen = saw;
  told = heard;
  began = prefix_none p.seen;
  first = omega arith;
  known = least;
  retired = onward;
  over = λ newer is. absurd (none-some newer is);
  reaches = λ is even. record { at = λ e on. absurd cc; bound = λ q among usable is low. absurd (omega arith) };
}

pub nobody_fits : (p : Plan) (seat : ℕ) → Fits p seat nobody
nobody_fits p seat = rests p [] [] None 0 (omega arith) (prefix_none p.seen) (prefix_none p.seen) (λ newer is. absurd (none-some newer is))

-- a new seat
pub reader_fits : (p : Plan) (seat other : ℕ) (v : View) → Fits p seat v → Fits p other (reader_of v)
reader_fits p seat other (Writes plan told over) fits = rests p plan.seen [] plan.retired (cycle_of plan) (known_fits p seat (Writes plan told over) fits) (seen_fits p seat (Writes plan told over) fits) (prefix_none p.seen) (retired_fits p seat (Writes plan told over) fits)
reader_fits p seat other (Reads seen told over retired searching) fits = record { seen = fits.seen; told = prefix_none p.seen; began = fits.began; first = fits.first; known = fits.known; retired = fits.retired; over = λ newer is. absurd (none-some newer is); reaches = fits.reaches }

-- a seat that was told
pub told_fits : (p : Plan) (seat other : ℕ) (v w : View) → Fits p seat v → Fits p other w → Fits p seat (told_of v w)
told_fits p seat other (Writes plan told over) w mine theirs = (mine.0, mine.1, seen_fits p other w theirs, successor_fits p other w theirs)
told_fits p seat other (Reads seen told over retired searching) w mine theirs = record { seen = mine.seen; told = seen_fits p other w theirs; began = mine.began; first = mine.first; known = mine.known; retired = mine.retired; over = successor_fits p other w theirs; reaches = mine.reaches }

-- one that was told, and counts more searches
pub absorbed_fits : (p : Plan) (seat other : ℕ) (v w : View) → Fits p seat v → Fits p other w → Fits p seat (absorbed v w)
absorbed_fits p seat other (Writes plan told over) w mine theirs = (mine.0, mine.1, seen_fits p other w theirs, successor_fits p other w theirs)
absorbed_fits p seat other (Reads seen told over retired searching) w mine theirs = record { seen = mine.seen; told = seen_fits p other w theirs; began = mine.began; first = mine.first; known = mine.known; retired = mine.retired; over = successor_fits p other w theirs; reaches = λ same even. let r = mine.reaches same even in record { at = r.at; bound = r.bound } }

through : (a b c : ℕ) → a ≤ b → b ≤ c → a ≤ c
through a b c low high = omega arith

-- a seat that has seen what another one has
pub shown_fits : (p : Plan) (seat other : ℕ) (v w : View) → Fits p seat v → Fits p other w → Fits p seat (shown v w)
shown_fits p seat other (Writes plan told over) w mine theirs = mine
shown_fits p seat other (Reads seen told over retired searching) w mine theirs = record { seen = seen_fits p other w theirs; told = mine.told; began = mine.began; first = through searching.first searching.known (max searching.known (searching_by w).known) mine.first (le-max_left searching.known (searching_by w).known); known = max-le mine.known (known_fits p other w theirs); retired = retired_fits p other w theirs; over = mine.over; reaches = λ same even. let r = mine.reaches same even in record { at = r.at; bound = r.bound } }
