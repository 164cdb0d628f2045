-- Entries that are found by numbers.
use Rattle.std.proofs.Common.{◌≡◌, ◌≢◌, ℕ, ◌≤◌, ⊎_elim, false, leb, eqb, eq-eqb, List, Some, None, sym, ap, subst, ◌∙◌, arith}
use Rattle.std.proofs.lemmas.Bool.{cases_eq, leb-true, le-leb, lt-leb, ne_eqb}
use Rattle.nsc_words.specs.declared.layout.Layout.{Layout}
use Rattle.nsc_words.specs.declared.node.Placed.{Placed}
use Rattle.nsc_words.specs.Laid.{Among, Laid, Rising}
use Rattle.nsc_arena.specs.Changes.{IsFirst, IsMark}
use Rattle.nsc_arena.specs.ReadBack.{nodes_in}
use Rattle.nsc_arena.specs.declared.reading.Head.{Head}
use Rattle.nsc_arena.proofs.Passed.{mark_at}
use Rattle.nsc_shelf.specs.declared.finding.Found.{Found}
use Rattle.nsc_shelf.specs.declared.finding.Mark.{Mark}
use Rattle.nsc_shelf.specs.Finding.{IsOldest}
use Rattle.nsc_rule.specs.Entries.{entries_in, kept_in}
use Rattle.nsc_shelf.specs.Shelf.{IsShelf, entry_from, has_number}
use Rattle.nsc_shelf.proofs.Entries.{find_none, find_one, number_among, number_missing}

-- the oldest entry of at least a number
pub found_entry : (number : ℕ) (nodes : List Placed) (f : Found) (w : IsOldest number nodes (Some f)) → Rising nodes → entry_from number (entries_in nodes) ≡ Some (kept_in w.0)
found_entry number nodes f w rising =
    find_one (λ k. leb number k.entry.number) nodes w.0 rising w.1 w.3 (le-leb number w.0.node.number w.4) (λ q m u t. w.5 q m u (leb-true number q.node.number t))

pub found_none : (number : ℕ) (nodes : List Placed) → IsFirst number nodes None → entry_from number (entries_in nodes) ≡ None
found_none number nodes none = find_none (λ k. leb number k.entry.number) nodes (λ q m u. lt-leb number q.node.number (none q m u))

-- whether an entry has a number
pub has_by : (number : ℕ) (nodes : List Placed) (f : Found) → IsOldest number nodes (Some f) → eqb f.head.number number ≡ has_number number (entries_in nodes)
has_by number nodes f w =
    let is : f.head.number ≡ w.0.node.number = ap (λ (h : Head). h.number) w.6 in
    let least : number ≤ w.0.node.number = w.4 in
    ⊎_elim
    (λ (e : f.head.number ≡ number). eq-eqb f.head.number number e ∙ sym (number_among number nodes w.0 w.1 w.3 (sym is ∙ e)))
    (λ (n : f.head.number ≢ number). ne_eqb f.head.number number n ∙ sym (number_missing number nodes (λ q m u same. let most : w.0.node.number ≤ q.node.number = w.5 q m u (omega arith) in n (omega arith))))
    (cases_eq f.head.number number)

pub has_none : (number : ℕ) (nodes : List Placed) → IsFirst number nodes None → has_number number (entries_in nodes) ≡ false
has_none number nodes none = number_missing number nodes (λ q m u same. let less = none q m u in absurd (omega arith))

-- the same words with another mark, by what a search says of it
pub remarked : (words words' : List ℕ) (map : Layout) (count : ℕ) (mark mark' : Mark) → words' ≡ words → IsShelf words map count mark → ((nodes : List Placed) → Laid words map nodes → IsMark map nodes mark.place mark.number → IsMark map nodes mark'.place mark'.number) → IsShelf words' map count mark'
remarked words words' map count mark mark' same is marks = subst (λ (ws : List ℕ). IsShelf ws map count mark') (sym same) (record { sizes = is.sizes; laid = is.laid; entries = is.entries; counted = is.counted; live = is.live; marked = marks (nodes_in words map) is.laid is.marked })

-- a mark of a lower number
pub marked_above : (map : Layout) (nodes : List Placed) (from low high : ℕ) → low ≤ high → IsMark map nodes from low → IsMark map nodes from high
marked_above map nodes from low high more mark = record { newer = mark.newer; older = mark.older; split = mark.split; place = mark.place; below = λ p among. let less = mark.below p among in omega arith }

-- the place of a node is one of its number
pub marked_found : (words : List ℕ) (map : Layout) (nodes : List Placed) (at number : ℕ) (p : Placed) → Laid words map nodes → Among p nodes → p.place ≡ at → number ≡ p.node.number → IsMark map nodes at number
marked_found words map nodes at number p laid among place is = subst (λ (x : ℕ × ℕ). IsMark map nodes x.0 x.1) (λ i. (place i, sym is i)) (mark_at map nodes p laid.row laid.rising among)
