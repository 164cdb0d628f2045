use Rattle.std.proofs.Common.{◌≡◌, ℕ, ◌+◌, ◌-◌, List, ◌∷◌, None, true, eqb, eq-eqb, slice_index, refl, sym, ap, subst, ◌∙◌, arith, get_or-set_other}
use Rattle.std.proofs.lemmas.Bool.{ne_eqb}
use Rattle.std.specs.Arc.{arc_value}
use Rattle.nsc_words.specs.declared.node.Placed.{Placed}
use Rattle.nsc_words.specs.Laid.{Among}
use Rattle.nsc_words.specs.Layout.{arena_start}
use Rattle.nsc_arena.specs.Changes.{ended}
use Rattle.nsc_arena.specs.ReadBack.{nodes_in}
use Rattle.nsc_arena.specs.declared.reading.Head.{Head}
use Rattle.nsc_arena.proofs.Changed.{end_laid, ended_is}
use Rattle.nsc_arena.proofs.Rows.{within}
use Rattle.nsc_model.specs.declared.record.Record.TheVariants.{End}
use Rattle.nsc_model.specs.Entry.{Entry}
use Rattle.nsc_model.specs.History.{Allows, IsLive}
use Rattle.nsc_rule.specs.Entries.{entries_in, entry_of, kept_in}
use Rattle.nsc_rule.specs.Pen.{Pen}
use Rattle.nsc_rule.specs.Plans.{IsEven}
use Rattle.nsc_rule.specs.Strokes.{MayEnd, cleared}
use Rattle.nsc_shelf.specs.Shelf.{Shelf, has_number, others_than, shelf_in, slide_of}
use Rattle.nsc_shelf.proofs.Hinted.{hints_changed_at}
use Rattle.nsc_shelf.proofs.Numbers.{has_by, has_none, remarked as marked_anew}
use Rattle.nsc_shelf.proofs.Sheets.{sheet_same}
use Rattle.nsc_shelf.proofs.States.{taken, taken_less}
use Rattle.nsc_shelf.proofs.Still.{Moved, Rests, marked, moved, still}
use Rattle.nsc_writer.specs.Writer.{Writer, cache_of, without_entry, writer_of}
use Rattle.nsc_writer.proofs.Moved.{moved_still, moved_view, remarked}
use Rattle.nsc_shelf.proofs.Slide.{usable_has}
use Rattle.nsc_writer.proofs.Sits.{has_among}
use Rattle.nsc_writer.proofs.Told.{ended_tells}
use Rattle.nsc_writer.proofs.writer.Writer.end_by.Goals as goal
use Rattle.nsc_writer.proofs.writer.Writer.end_by.Goals.{After-find_from, In-Some, After-end}

rests : (c : After-find_from) → Rests c.self.inside.sheet.plan c.self.inside.layout c.self.inside.live c.self.inside.mark c.self.inside.hints.items
rests c = let none : slide_of c.self.inside.sheet.plan.words ≡ None = ap (λ (v : Writer). v.slide) c.self.view_is ∙ c.requires.still in still none c.self.invariant.held

same : (c : After-find_from) → c.find_from.new.words ≡ c.self.inside.sheet
same c = sheet_same c.self.inside.sheet c.find_from.new.words c.find_from.ensures.same c.find_from.ensures.rest

-- the node that was found
record IsFound (nodes : List Placed) (at number : ℕ) : Type 0 where
  node : Placed
  among : Among node nodes
  place : node.place ≡ at
  usable : node.usable ≡ true
  numbered : node.node.number ≡ number

found : (c : In-Some) → Rests c.self.inside.sheet.plan c.self.inside.layout c.self.inside.live c.self.inside.mark c.self.inside.hints.items → c.in-Some.found.head.number ≡ c.args.number → IsFound c.self.inside.sheet.plan.nodes c.in-Some.found.at c.args.number
found c r numbered =
    let n = c.in-Some.ensures.found c.self.inside.sheet.plan.nodes r.laid c.self.invariant.held.marked in
    record { node = n.0; among = n.1; place = n.2; usable = n.3; numbered = sym (ap (λ (h : Head). h.number) n.6) ∙ numbered }

-- whether the entry has the number that was found first from it on
has : (c : In-Some) → Rests c.self.inside.sheet.plan c.self.inside.layout c.self.inside.live c.self.inside.mark c.self.inside.hints.items → eqb c.in-Some.found.head.number c.args.number ≡ has_number c.args.number (shelf_in c.self.inside.sheet.plan.nodes c.self.inside.sheet.plan.words c.self.inside.layout).entries
has c r = has_by c.args.number c.self.inside.sheet.plan.nodes c.in-Some.found (c.in-Some.ensures.found c.self.inside.sheet.plan.nodes r.laid c.self.invariant.held.marked)

-- the plan once its node ended
taken_out : (c : After-end) → Rests c.self.inside.sheet.plan c.self.inside.layout c.self.inside.live c.self.inside.mark c.self.inside.hints.items → IsFound c.self.inside.sheet.plan.nodes c.in-Some.found.at c.args.number
    → Moved c.self.inside.sheet.plan (cleared c.in-Some.found.at c.args.cause c.self.inside.sheet.plan) c.self.inside.layout (c.self.inside.live - 1) c.find_from.new.mark c.self.inside.hints.items (λ s. record s { entries = others_than c.args.number s.entries })
taken_out c r n =
    let w = c.self.inside in
    let at : ℕ = c.in-Some.found.at in
    let words : List ℕ = w.sheet.plan.words in
    let new : List ℕ = (cleared at c.args.cause w.sheet.plan).words in
    let nodes : List Placed = nodes_in words w.layout in
    let among : Among n.node nodes = subst (Among n.node) (sym r.back) n.among in
    let now_marked = marked_anew words words w.layout w.live w.mark c.find_from.new.mark refl r.shelf c.find_from.ensures.marked in
    let here = within (arena_start w.layout) w.sheet.plan.nodes n.node r.laid.row n.among in
    let place = n.place in
    moved w.hints.items (λ (s : Shelf). record s { entries = others_than c.args.number s.entries }) r refl r.settled
    (end_laid words new w.layout w.sheet.plan.nodes n.node at r.shelf.sizes r.laid n.among n.place refl)
    (taken words new w.layout w.live c.find_from.new.mark n.node at c.args.number now_marked (end_laid words new w.layout nodes n.node at r.shelf.sizes r.shelf.laid among n.place refl)
    (λ i low other. get_or-set_other words (at + 6) i 0 0 (let start = here.0 in omega arith)) among n.place n.usable n.numbered)
    (hints_changed_at at ended w.hints.items w.sheet.plan.nodes ended_is r.hinted)

-- its record
recorded : (c : After-end) → Rests c.self.inside.sheet.plan c.self.inside.layout c.self.inside.live c.self.inside.mark c.self.inside.hints.items → IsFound c.self.inside.sheet.plan.nodes c.in-Some.found.at c.args.number → (cleared c.in-Some.found.at c.args.cause c.self.inside.sheet.plan).seen ≡ End c.args.number c.args.cause ∷ c.self.inside.sheet.plan.seen
recorded c r n =
    let w = c.self.inside in
    let zero : c.in-Some.found.at ≡ n.node.place + 0 = (let place = n.place in omega arith) in
    ap (λ (k : ℕ). End k c.args.cause ∷ w.sheet.plan.seen) (ap (slice_index w.sheet.plan.words) zero ∙ (r.laid.stands n.node n.among).holds.number ∙ n.numbered)

pub invariant_of-self : goal.invariant_of-self
invariant_of-self c =
    let at = (goal.at.invariant_of-self c).After-find_from in
    remarked c.self.inside.sheet (same at) (marked (rests at) c.self.invariant.held c.find_from.ensures.marked) c.self.invariant

pub invariant_of-self-then-found-number : goal.invariant_of-self-then-found-number
invariant_of-self-then-found-number c =
    let at = (goal.at.invariant_of-self-then-found-number c).After-find_from in
    remarked c.self.inside.sheet (same at) (marked (rests at) c.self.invariant.held c.find_from.ensures.marked) c.self.invariant

pub returns-in_default-clause-live : goal.returns-in_default-clause-live
returns-in_default-clause-live c =
    let w = c.self.inside in
    let r = rests (goal.at.returns-in_default-clause-live c).After-find_from in
    sym (has_none c.args.number w.sheet.plan.nodes (c.in_default.ensures.found w.sheet.plan.nodes r.laid c.self.invariant.held.marked)) ∙ ap (λ (v : Writer). has_number c.args.number v.cache.entries) c.self.view_is

pub returns-in_default-clause-stays : goal.returns-in_default-clause-stays
returns-in_default-clause-stays c = let w = c.self.inside in ap (λ (p : Pen). writer_of p w.layout (arc_value w.content)) (same (goal.at.returns-in_default-clause-stays c).After-find_from) ∙ c.self.view_is

pub returns-then-found-number-clause-live : goal.returns-then-found-number-clause-live
returns-then-found-number-clause-live c =
    let at = goal.at.returns-then-found-number-clause-live c in
    sym (ne_eqb c.in-Some.found.head.number c.args.number c.if-found-number.true) ∙ has at.In-Some (rests at.After-find_from) ∙ ap (λ (v : Writer). has_number c.args.number v.cache.entries) c.self.view_is

pub returns-then-found-number-clause-stays : goal.returns-then-found-number-clause-stays
returns-then-found-number-clause-stays c = let w = c.self.inside in ap (λ (p : Pen). writer_of p w.layout (arc_value w.content)) (same (goal.at.returns-then-found-number-clause-stays c).After-find_from) ∙ c.self.view_is

pub returns-clause-live : goal.returns-clause-live
returns-clause-live c =
    let at = goal.at.returns-clause-live c in
    sym (eq-eqb c.in-Some.found.head.number c.args.number c.if-found-number.false) ∙ has at.In-Some (rests at.After-find_from) ∙ ap (λ (v : Writer). has_number c.args.number v.cache.entries) c.self.view_is

pub end-requires-clause-even : goal.end-requires-clause-even
end-requires-clause-even c =
    let at = (goal.at.end-requires-clause-even c).After-find_from in
    subst (λ (p : Pen). IsEven p.plan) (sym (same at)) (rests at).even

pub end-requires-clause-node : goal.end-requires-clause-node
end-requires-clause-node c =
    let at = goal.at.end-requires-clause-node c in
    let w = c.self.inside in
    let r = rests at.After-find_from in
    let n = found at.In-Some r c.if-found-number.false in
    let sits = c.self.invariant.tells.entries_are.live (entry_of n.node) (has_among (kept_in n.node) (entries_in w.sheet.plan.nodes) (usable_has w.sheet.plan.nodes n.node n.among n.usable)) in
    let allows = subst (λ (v : Writer). (e : Entry) → IsLive v.seen e → e.number ≡ c.args.number → Allows c.args.cause e) (sym c.self.view_is) c.requires.allowed in
    subst (λ (p : Pen). MayEnd p.plan c.in-Some.found.at c.args.cause) (sym (same at.After-find_from)) (n.node, n.among, n.place, n.usable, allows (entry_of n.node) sits n.numbered)

pub overflow_sub-self : goal.overflow_sub-self
overflow_sub-self c =
    let at = goal.at.overflow_sub-self c in
    let w = c.self.inside in
    let r = rests at.After-find_from in
    let n = found at.In-Some r c.if-found-number.false in
    omega (arith, taken_less w.sheet.plan.words w.layout w.sheet.plan.nodes n.node c.in-Some.found.at r.laid n.among n.place n.usable, c.self.invariant.held.live)

pub invariant_of-self-2 : goal.invariant_of-self-2
invariant_of-self-2 c =
    let at = goal.at.invariant_of-self-2 c in
    let w = c.self.inside in
    let s : Shelf = shelf_in w.sheet.plan.nodes w.sheet.plan.words w.layout in
    let r = rests at.After-find_from in
    let n = found at.In-Some r c.if-found-number.false in
    let live = sym (has at.In-Some r) ∙ eq-eqb c.in-Some.found.head.number c.args.number c.if-found-number.false in
    let allows = subst (λ (v : Writer). (e : Entry) → IsLive v.seen e → e.number ≡ c.args.number → Allows c.args.cause e) (sym c.self.view_is) c.requires.allowed in
    moved_still w.sheet (End c.args.number c.args.cause ∷ w.sheet.plan.seen) (c.end.ensures ∙ ap (λ (p : Pen). record p { plan = cleared c.in-Some.found.at c.args.cause p.plan }) (same at.After-find_from)) (recorded at.After-end r n) (taken_out at.After-end r n)
    (ended_tells w.sheet.plan.seen (cache_of (arc_value w.content) (slice_index w.sheet.plan.words 2) (slice_index w.sheet.plan.words 1) s) c.args.number c.args.cause c.self.invariant.tells live allows)

pub returns-clause-ended : goal.returns-clause-ended
returns-clause-ended c =
    let at = goal.at.returns-clause-ended c in
    let w = c.self.inside in
    let r = rests at.After-find_from in
    let n = found at.In-Some r c.if-found-number.false in
    moved_view w.sheet (arc_value w.content) (End c.args.number c.args.cause ∷ w.sheet.plan.seen) (c.end.ensures ∙ ap (λ (p : Pen). record p { plan = cleared c.in-Some.found.at c.args.cause p.plan }) (same at.After-find_from)) (recorded at.After-end r n) (taken_out at.After-end r n)
    ∙ ap (without_entry c.args.number c.args.cause) c.self.view_is
