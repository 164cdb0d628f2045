-- Each step of a seat keeps the rule.
use Rattle.std.proofs.Common.{◌≡◌, ◌≢◌, ◌∙◌, ℕ, ◌+◌, ◌<◌, ◌≤◌, cond, Bool, true, false, Option, List, [], ◌++◌, length, length-append, set, slice_index, refl, sym, ap, subst, ⊎_elim, arith}
use Rattle.std.specs.Prelude.{nat_lt}
use Rattle.std.proofs.lemmas.Bool.Decides.{nat_tests}
use Rattle.std.proofs.lemmas.List.{set-get_or}
use Rattle.std.proofs.lemmas.Option.{none-some, same_Some}
use mathlib.Core.Option.{some, none}
use lib.ListN.{get_elem?}
use Rattle.atomic_table.specs.Table.{State, Me, step, keeps, Allows, Splits, Joins}
use Rattle.atomic_table.proofs.Lists.{at_set, at_snoc, set_again}
use Rattle.nsc_words.specs.declared.layout.Layout.{Layout}
use Rattle.nsc_model.specs.History.{IsPrefix}
use Rattle.nsc_model.specs.declared.record.Record.{Record}
use Rattle.nsc_model.proofs.Beginnings.{prefix_all, prefix_none, prefix_between}
use Rattle.nsc_rule.specs.declared.view.Plan.{Plan}
use Rattle.nsc_rule.specs.declared.view.Search.{Search}
use Rattle.atomic_table.specs.Seated.{TableId}
use Rattle.nsc_rule.specs.declared.view.View.{View}
use Rattle.nsc_rule.specs.declared.view.View.TheVariants.{Writes, Reads}
use Rattle.nsc_rule.specs.Plans.{Later, Sound}
use Rattle.nsc_rule.specs.Seats.{Fits, Follows, IsKept, IsSuccessor, LearnTells, LoadTells, MeetTells, WriteTells, absorbed, retired_by, longer, nobody, plan_by, reader_of, reading, seen_by, shown, told_of, searching_by, writing}
use Rattle.nsc_rule.proofs.Onward.{absorbed_fits, follows_on, nobody_fits, reader_fits, shown_fits, told_fits}

-- the views once one seat has another one
fits_set : (p : Plan) (views : List View) (seat : ℕ) (w : View) → ((j : ℕ) (u : View) → j ≢ seat → get_elem? views j ≡ some u → Fits p j u) → Fits p seat w
    → (j : ℕ) (u : View) → get_elem? (set views seat w) j ≡ some u → Fits p j u
fits_set p views seat w others mine j u e = ⊎_elim
    (λ (x : (j ≡ seat) × (w ≡ u)). subst (λ (y : ℕ × View). Fits p y.0 y.1) (λ i. (sym x.0 i, x.1 i)) mine)
    (λ (x : (j ≢ seat) × (get_elem? views j ≡ some u)). others j u x.0 x.1)
    (at_set views seat j w u e)

kept_set : (p : Plan) (views : List View) (seat : ℕ) (w : View) → ((j : ℕ) (u : View) → get_elem? views j ≡ some u → Fits p j u) → Fits p seat w
    → (j : ℕ) (u : View) → get_elem? (set views seat w) j ≡ some u → Fits p j u
kept_set p views seat w all mine = fits_set p views seat w (λ j u apart e. all j u e) mine

-- another seat than the one that writes follows a later plan
others_on : (p p' k : Plan) (id j : ℕ) (u : View) → p ≡ k → id ≡ 0 → Later p p' → j ≢ id → Fits k j u → Fits p' j u
others_on p p' k id j (Writes plan told over) same mine later apart fits = absurd (apart (fits.0 ∙ sym mine))
others_on p p' k id j (Reads seen told over retired searching) same mine later apart fits = follows_on p p' (Reads seen told over retired searching) later (subst (λ (q : Plan). Follows q (Reads seen told over retired searching)) (sym same) fits)

-- ---- a step of the pen

pub moves : (key : Layout) (slots id at word : ℕ) (p p' : Plan) → p'.words ≡ set p.words at word → Sound p' → Later p p'
    → Allows (IsKept key) slots id (writing p, []) at (λ _. word) (λ _. WriteTells p' (step slots at word 0 none) (writing p, []) word)
moves key slots id at word p p' words sound later s kept count there low =
    let mine = kept.fits id (writing p) there in
    let were : s.words ≡ p.words = kept.words ∙ ap (λ (q : Plan). q.words) (sym mine.1) in (
      writing p',
      keeps,
      tt,
      record {
        plan = p';
        layout = later.layout ∙ ap (λ (q : Plan). q.layout) mine.1 ∙ kept.layout;
        words = (λ i. set (were i) at word) ∙ sym words;
        sound = sound;
        fits = fits_set p' s.views id (writing p') (λ j u apart e. others_on p p' kept.plan id j u mine.1 mine.0 later apart (kept.fits j u e)) (mine.0, refl, prefix_none p'.seen, λ newer is. absurd (none-some newer is));
      },
      refl,
    )

pub moves_as : (key : Layout) (slots id at word : ℕ) (me : Me (Unit {0}) View) (p' : Plan) → me ≡ (writing (plan_by me.0), []) → p'.words ≡ set (plan_by me.0).words at word → Sound p' → Later (plan_by me.0) p'
    → Allows (IsKept key) slots id me at (λ _. word) (λ _. WriteTells p' (step slots at word 0 none) me word)
moves_as key slots id at word me p' is words sound later =
    let P : Me (Unit {0}) View → Type 0 = λ m. Allows (IsKept key) slots id m at (λ _. word) (λ _. WriteTells p' (step slots at word 0 none) m word) in
    subst P (sym is) (moves key slots id at word (plan_by me.0) p' words sound later)

-- ---- loads

-- a step that writes no word, after which the seat knows what fits every plan that its view fits
pub looks : (key : Layout) (slots id at : ℕ) (v : View) (then : ℕ → Me (Unit {0}) View → Type 0)
    → ((p : Plan) → Sound p → p.layout ≡ key → Fits p id v → (w : View) × Fits p id w × then (slice_index p.words at) (w, []))
    → Allows (IsKept key) slots id (v, []) at (λ n. n) then
looks key slots id at v then tells s kept count there low =
    let here = tells kept.plan kept.sound kept.layout (kept.fits id v there) in (
      here.0,
      keeps,
      tt,
      record {
        plan = kept.plan;
        layout = kept.layout;
        words = (λ i. set (kept.words i) at (slice_index (kept.words i) at)) ∙ set-get_or kept.plan.words at 0;
        sound = kept.sound;
        fits = kept_set kept.plan s.views id here.0 kept.fits here.1;
      },
      subst (λ (ws : List ℕ). then (slice_index ws at) (here.0, [])) (sym kept.words) here.2,
    )

-- the pen reads its plan's word
reads : (key : Layout) (slots id at : ℕ) (p : Plan) → Allows (IsKept key) slots id (writing p, []) at (λ n. n) (LoadTells (step slots at 0 0 none) (writing p, []))
reads key slots id at p = looks key slots id at (writing p) (LoadTells (step slots at 0 0 none) (writing p, [])) (λ k sound layout fits. (writing p, fits, (ap (λ (q : Plan). slice_index q.words at) (sym fits.1), refl)))

pub reads_as : (key : Layout) (slots id at : ℕ) (me : Me (Unit {0}) View) → me ≡ (writing (plan_by me.0), []) → Allows (IsKept key) slots id me at (λ n. n) (LoadTells (step slots at 0 0 none) me)
reads_as key slots id at me is = let P : Me (Unit {0}) View → Type 0 = λ m. Allows (IsKept key) slots id m at (λ n. n) (LoadTells (step slots at 0 0 none) m) in subst P (sym is) (reads key slots id at (plan_by me.0))

-- what it was told of begins its history
learns : (key : Layout) (slots id at : ℕ) (p : Plan) (told : List Record) (over : Option TableId) → Allows (IsKept key) slots id (Writes p told over, []) at (λ n. n) (LearnTells (step slots at 0 0 none) (Writes p told over, []))
learns key slots id at p told over = looks key slots id at (Writes p told over) (LearnTells (step slots at 0 0 none) (Writes p told over, [])) (λ k sound layout fits. (writing p, (fits.0, fits.1, prefix_none k.seen, λ newer is. absurd (none-some newer is)), (subst (λ (q : Plan). IsPrefix told q.seen) (sym fits.1) fits.2, subst (IsSuccessor over) (sym fits.1) fits.3, refl)))

pub learns_as : (key : Layout) (slots id at : ℕ) (me : Me (Unit {0}) View) (p : Plan) (told : List Record) (over : Option TableId) → me ≡ (Writes p told over, []) → Allows (IsKept key) slots id me at (λ n. n) (LearnTells (step slots at 0 0 none) me)
learns_as key slots id at me p told over is = let P : Me (Unit {0}) View → Type 0 = λ m. Allows (IsKept key) slots id m at (λ n. n) (LearnTells (step slots at 0 0 none) m) in subst P (sym is) (learns key slots id at p told over)

record Between (a b h l : List Record) : Type 0 where
  first : IsPrefix a l
  second : IsPrefix b l
  of_all : IsPrefix l h
  whole : a ≡ h → l ≡ h

longest : (a b h : List Record) → IsPrefix a h → IsPrefix b h → Between a b h (longer a b)
longest a b h p q = by_test (nat_lt (length a) (length b)) refl where
  low : nat_lt (length a) (length b) ≡ true → length a ≤ length b
  low t = grind (arith, nat_tests)

  lower : nat_lt (length a) (length b) ≡ true → length a < length b
  lower t = grind (arith, nat_tests)

  high : nat_lt (length a) (length b) ≡ false → length b ≤ length a
  high t = grind (arith, nat_tests)

  no_longer : a ≡ h → length b ≤ length a
  no_longer e = let both = length-append q.0 b in let all : length h ≡ length (q.0 ++ b) = ap (λ (l : List Record). length l) q.1 in let same : length a ≡ length h = ap (λ (l : List Record). length l) e in omega arith

  by_test : (t : Bool) → nat_lt (length a) (length b) ≡ t → Between a b h (cond t b a)
  by_test true t = record { first = prefix_between a b h p q (low t); second = prefix_all b; of_all = q; whole = λ e. let less = lower t in let most = no_longer e in absurd (omega arith) }
  by_test false t = record { first = prefix_all a; second = prefix_between b a h q p (high t); of_all = p; whole = λ e. e }

-- the longer one of what a seat had seen and what it was told of
meets : (key : Layout) (slots id at : ℕ) (seen told : List Record) (over retired : Option TableId) (w : Search)
    → Allows (IsKept key) slots id (Reads seen told over retired w, []) at (λ n. n) (MeetTells (step slots at 0 0 none) (Reads seen told over retired w, []))
meets key slots id at seen told over retired w = looks key slots id at (Reads seen told over retired w) (MeetTells (step slots at 0 0 none) (Reads seen told over retired w, [])) (λ k sound layout was.
    let both = longest seen told k.seen was.seen was.told in (
      reading (longer seen told) retired w,
      record { seen = both.of_all; told = prefix_none k.seen; began = was.began; first = was.first; known = was.known; retired = λ newer is. ((was.retired newer is).0, both.whole (was.retired newer is).1); over = λ newer is. absurd (none-some newer is); reaches = was.reaches },
      (both.first, both.second, λ newer is. let all = (was.retired newer is).1 in both.whole all ∙ sym all, λ other newer heard is. same_Some other newer (sym (was.over other heard) ∙ (was.retired newer is).0), refl),
    ))

pub meets_as : (key : Layout) (slots id at : ℕ) (me : Me (Unit {0}) View) (seen told : List Record) (over retired : Option TableId) (w : Search) → me ≡ (Reads seen told over retired w, []) → Allows (IsKept key) slots id me at (λ n. n) (MeetTells (step slots at 0 0 none) me)
meets_as key slots id at me seen told over retired w is = let P : Me (Unit {0}) View → Type 0 = λ m. Allows (IsKept key) slots id m at (λ n. n) (MeetTells (step slots at 0 0 none) m) in subst P (sym is) (meets key slots id at seen told over retired w)

-- ---- splits and joins

pub copies : (key : Layout) (id : ℕ) (v : View) → Splits (IsKept key) id v v (reader_of v)
copies key id v s kept at = record {
  plan = kept.plan;
  layout = kept.layout;
  words = kept.words;
  sound = kept.sound;
  fits = λ j u e. ⊎_elim
      (λ (was : get_elem? (set s.views id v) j ≡ some u). kept.fits j u (subst (λ (l : List View). get_elem? l j ≡ some u) (set_again s.views id v at) was))
      (λ (same : reader_of v ≡ u). subst (Fits kept.plan j) same (reader_fits kept.plan id j v (kept.fits id v at)))
      (at_snoc (set s.views id v) (reader_of v) u j e);
}

-- a join after which the first seat has this view
joins : (key : Layout) (s : State (Unit {0}) View) (id other : ℕ) (v w both : View) (kept : IsKept key s) → get_elem? s.views id ≡ some v → ¬ (other ≡ id) → get_elem? (set s.views id both) other ≡ some w
    → (Fits kept.plan id v → Fits kept.plan other w → Fits kept.plan id both) → IsKept key (record { words = s.words; homes = s.homes; views = set (set s.views id both) other nobody })
joins key s id other v w both kept at apart there fits =
    let theirs : Fits kept.plan other w = ⊎_elim (λ (x : (other ≡ id) × (both ≡ w)). absurd (apart x.0)) (λ (x : (other ≢ id) × (get_elem? s.views other ≡ some w)). kept.fits other w x.1) (at_set s.views id other both w there) in
    record {
      plan = kept.plan;
      layout = kept.layout;
      words = kept.words;
      sound = kept.sound;
      fits = kept_set kept.plan (set s.views id both) other nobody (kept_set kept.plan s.views id both kept.fits (fits (kept.fits id v at) theirs)) (nobody_fits kept.plan other);
    }

pub tells : (key : Layout) (id other : ℕ) (v w : View) → Joins (IsKept key) id v other w (told_of v w) nobody
tells key id other v w s kept at apart there = joins key s id other v w (told_of v w) kept at apart there (told_fits kept.plan id other v w)

pub shows : (key : Layout) (id other : ℕ) (v w : View) → Joins (IsKept key) id v other w (shown v w) nobody
shows key id other v w s kept at apart there = joins key s id other v w (shown v w) kept at apart there (shown_fits kept.plan id other v w)

pub absorbs : (key : Layout) (id other : ℕ) (v w : View) → Joins (IsKept key) id v other w (absorbed v w) nobody
absorbs key id other v w s kept at apart there = joins key s id other v w (absorbed v w) kept at apart there (absorbed_fits kept.plan id other v w)

-- ---- what a seat knows once it was told

-- a search that counts `more` searches more
abbrev pub with_searches : ℕ → Search → Search
with_searches more w = record w { searches = w.searches + more }

pub told_reader : (me other new : Me (Unit {0}) View) (heard : List Record) (over : Option TableId) → me ≡ (reading (seen_by me.0) (retired_by me.0) (searching_by me.0), []) → new ≡ (told_of me.0 other.0, me.1) → seen_by other.0 ≡ heard → retired_by other.0 ≡ over
    → new ≡ (Reads (seen_by me.0) heard over (retired_by me.0) (searching_by me.0), [])
told_reader me other new heard over is joined said known = joined ∙ (λ i. (told_of (is i).0 other.0, (is i).1)) ∙ (λ i. (Reads (seen_by me.0) (said i) (known i) (retired_by me.0) (searching_by me.0), []))

-- the same, with the searches of the other one
pub absorbed_reader : (me other new : Me (Unit {0}) View) (heard : List Record) (over : Option TableId) (more : ℕ) → me ≡ (reading (seen_by me.0) (retired_by me.0) (searching_by me.0), []) → new ≡ (absorbed me.0 other.0, me.1) → seen_by other.0 ≡ heard → retired_by other.0 ≡ over → (searching_by other.0).searches ≡ more
    → new ≡ (Reads (seen_by me.0) heard over (retired_by me.0) (with_searches more (searching_by me.0)), [])
absorbed_reader me other new heard over more is joined said known counted = joined ∙ (λ i. (absorbed (is i).0 other.0, (is i).1)) ∙ (λ i. (Reads (seen_by me.0) (said i) (known i) (retired_by me.0) (with_searches (counted i) (searching_by me.0)), []))

pub told_writer : (me other new : Me (Unit {0}) View) (heard : List Record) (over : Option TableId) → me ≡ (writing (plan_by me.0), []) → new ≡ (told_of me.0 other.0, me.1) → seen_by other.0 ≡ heard → retired_by other.0 ≡ over → new ≡ (Writes (plan_by me.0) heard over, [])
told_writer me other new heard over is joined said known = joined ∙ (λ i. (told_of (is i).0 other.0, (is i).1)) ∙ (λ i. (Writes (plan_by me.0) (said i) (known i), []))

-- a load of a search
pub looks_as : (key : Layout) (slots id at : ℕ) (me : Me (Unit {0}) View) (told : ℕ → View → Type 0) → me.1 ≡ [] → ((p : Plan) → Sound p → p.layout ≡ key → Fits p id me.0 → (w : View) × Fits p id w × told (slice_index p.words at) w)
    → Allows (IsKept key) slots id me at (λ n. n) (λ found me'. told found me'.0 × (me'.1 ≡ me.1))
looks_as key slots id at me told bare tale =
    let is : (me.0, []) ≡ me = λ i. (me.0, sym bare i) in
    let P : Me (Unit {0}) View → Type 0 = λ m. Allows (IsKept key) slots id m at (λ n. n) (λ found me'. told found me'.0 × (me'.1 ≡ m.1)) in
    subst P is (looks key slots id at me.0 (λ found me'. told found me'.0 × (me'.1 ≡ [])) (λ p sound layout fits. let h = tale p sound layout fits in (h.0, h.1, (h.2, refl))))
