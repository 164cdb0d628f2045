use Rattle.std.proofs.Common.{◌≡◌, ◌+◌, Option, Some, None, refl, ap, subst, ◌∙◌, arith}
use Rattle.nsc_arena.specs.declared.reading.Head.{Head}
use Rattle.nsc_model.specs.Machine.{Kept}
use Rattle.nsc_rule.specs.Entries.{kept_in, kind_of}
use Rattle.nsc_shelf.specs.declared.entry.EntryAt.{EntryAt}
use Rattle.nsc_shelf.specs.Shelf.{IsTold, entry_from, shelf_in, slide_of}
use Rattle.nsc_shelf.proofs.Still.{Entered, entered, marked, none_entered, still}
use Rattle.nsc_rule.specs.Pen.{Pen}
use Rattle.std.specs.Arc.{arc_value}
use Rattle.nsc_writer.specs.Writer.{Writer, writer_of}
use Rattle.nsc_shelf.proofs.Sheets.{sheet_same}
use Rattle.nsc_writer.proofs.Moved.{remarked}
use Rattle.nsc_writer.proofs.writer.Writer.next.Goals as goal
use Rattle.nsc_writer.proofs.writer.Writer.next.Goals.{In-Some}

-- the node that was found
found : (c : In-Some) → Entered c.self.inside.sheet.plan.words (shelf_in c.self.inside.sheet.plan.nodes c.self.inside.sheet.plan.words c.self.inside.layout) c.args.at c.in-Some.found
found c =
    let none : slide_of c.self.inside.sheet.plan.words ≡ None = ap (λ (v : Writer). v.slide) c.self.view_is ∙ c.requires in
    entered c.args.at c.in-Some.found (still none c.self.invariant.held) c.self.invariant.held c.in-Some.ensures.found

pub invariant_of-self : goal.invariant_of-self
invariant_of-self c =
    let none : slide_of c.self.inside.sheet.plan.words ≡ None = ap (λ (v : Writer). v.slide) c.self.view_is ∙ c.requires in
    remarked c.self.inside.sheet (sheet_same c.self.inside.sheet c.find_from.new.words c.find_from.ensures.same c.find_from.ensures.rest) (marked (still none c.self.invariant.held) c.self.invariant.held c.find_from.ensures.marked) c.self.invariant

pub invariant_of-self-2 : goal.invariant_of-self-2
invariant_of-self-2 c =
    let none : slide_of c.self.inside.sheet.plan.words ≡ None = ap (λ (v : Writer). v.slide) c.self.view_is ∙ c.requires in
    remarked c.self.inside.sheet (sheet_same c.self.inside.sheet c.find_from.new.words c.find_from.ensures.same c.find_from.ensures.rest) (marked (still none c.self.invariant.held) c.self.invariant.held c.find_from.ensures.marked) c.self.invariant

pub of-requires : goal.of-requires
of-requires c =
    let n = found (goal.at.of-requires c).In-Some in
    let none : slide_of c.self.inside.sheet.plan.words ≡ None = ap (λ (v : Writer). v.slide) c.self.view_is ∙ c.requires in
    omega (arith, n.below, ap (λ (h : Head). h.number) n.head, (still none c.self.invariant.held).shelf.counted)

pub returns-in_default-clause-told : goal.returns-in_default-clause-told
returns-in_default-clause-told c =
    let none : slide_of c.self.inside.sheet.plan.words ≡ None = ap (λ (v : Writer). v.slide) c.self.view_is ∙ c.requires in
    subst (λ (o : Option Kept). IsTold o None) (none_entered c.args.at (still none c.self.invariant.held) c.self.invariant.held c.in_default.ensures.found ∙ ap (λ (v : Writer). entry_from c.args.at v.cache.entries) c.self.view_is) refl

pub returns-clause-told : goal.returns-clause-told
returns-clause-told c =
    let n = found (goal.at.returns-clause-told c).In-Some in
    let h = n.head in
    let told : IsTold (Some (kept_in n.node)) (Some c.of.result) = ap (λ (e : EntryAt). Some e) (c.of.ensures ∙ (λ i. record { number = (h i).number; kind = kind_of (h i).kind; version = (h i).version; timeout = (h i).timeout; reloads = (h i).reloads; not_found = (h i).not_found; next = (h i).number + 1 })) in
    subst (λ (o : Option Kept). IsTold o (Some c.of.result)) (n.entry ∙ ap (λ (v : Writer). entry_from c.args.at v.cache.entries) c.self.view_is) told

pub returns-in_default-clause-same : goal.returns-in_default-clause-same
returns-in_default-clause-same c =
    let w = c.self.inside in
    ap (λ (p : Pen). writer_of p w.layout (arc_value w.content)) (sheet_same w.sheet c.find_from.new.words c.find_from.ensures.same c.find_from.ensures.rest) ∙ c.self.view_is

pub returns-clause-same : goal.returns-clause-same
returns-clause-same c =
    let w = c.self.inside in
    ap (λ (p : Pen). writer_of p w.layout (arc_value w.content)) (sheet_same w.sheet c.find_from.new.words c.find_from.ensures.same c.find_from.ensures.rest) ∙ c.self.view_is
