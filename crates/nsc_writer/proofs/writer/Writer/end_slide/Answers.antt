use Rattle.std.proofs.Common.{◌≡◌, ℕ, ◌+◌, ◌%◌, ◌≤◌, ◌<◌, None, Some, List, length, slice_index, true, refl, sym, ap, subst, ◌∙◌, arith}
use Rattle.std.proofs.lemmas.List.{with_items_is}
use Rattle.std.specs.Arc.{arc_value}
use Rattle.std.specs.Vec.{with_items}
use Rattle.nsc_words.specs.declared.layout.Layout.{Layout}
use Rattle.nsc_words.specs.declared.node.Placed.{Placed}
use Rattle.nsc_words.specs.Laid.{Among, Laid}
use Rattle.nsc_arena.specs.ReadBack.{nodes_in}
use Rattle.nsc_arena.proofs.Passed.{mark_at_start}
use Rattle.nsc_arena.proofs.ReadBack.{read_back}
use Rattle.nsc_model.specs.Machine.{all_words, last_count}
use Rattle.nsc_laws.proofs.MachineLawSteps.{retells}
use Rattle.nsc_rule.specs.Entries.{entries_in}
use Rattle.nsc_rule.specs.Pen.{Pen}
use Rattle.nsc_rule.specs.Strokes.{finished}
use Rattle.nsc_rule.proofs.Callers.{slid_by}
use Rattle.nsc_shelf.specs.declared.finding.Mark.{Mark}
use Rattle.nsc_shelf.specs.Shelf.{AreEntries, HoldEntries, Shelf, shelf_in, slide_of}
use Rattle.nsc_shelf.proofs.Hinted.{no_hints_in}
use Rattle.nsc_shelf.proofs.Slide.{Ended, ended}
use Rattle.nsc_shelf.proofs.Still.{slide_none, some_odd}
use Rattle.nsc_writer.specs.Slide.{IsSlid}
use Rattle.nsc_writer.specs.Writer.{IsWriter, Writer, cache_of, writer_of}
use Rattle.nsc_writer.proofs.Moved.{written}
use Rattle.nsc_writer.proofs.Sits.{sits_told}
use Rattle.nsc_writer.proofs.writer.Writer.end_slide.Goals as goal

-- what the slide made of the pen's plan
record Slid (pen : Pen) (layout : Layout) : Type 0 where
  nodes : List Placed
  odd : slice_index pen.plan.words 0 % 2 ≡ 1
  hold : HoldEntries pen.plan.words layout (entries_in pen.plan.nodes) nodes
  ends : Ended pen.plan (finished pen.plan).words layout nodes
  back : nodes_in pen.plan.words pen.plan.layout ≡ nodes

slid : (pen : Pen) (layout : Layout) (words : List ℕ) (nodes : List Placed) → pen.plan.layout ≡ layout → slide_of pen.plan.words ≡ Some words → HoldEntries words layout (entries_in pen.plan.nodes) nodes → ((p : Placed) → Among p nodes → p.usable ≡ true) → AreEntries pen.plan.nodes (slice_index pen.plan.words 4) → Slid pen layout
slid pen layout words nodes same going hold alone are =
    let o = some_odd pen.plan.words words going in
    let here = subst (λ (ws : List ℕ). HoldEntries ws layout (entries_in pen.plan.nodes) nodes) (sym o.1) hold in
    record {
      nodes = nodes;
      odd = o.0;
      hold = here;
      ends = ended pen.plan (finished pen.plan).words layout nodes are here alone refl;
      back = ap (nodes_in pen.plan.words) same ∙ read_back pen.plan.words layout nodes here.laid;
    }

pub finish-requires-clause-odd : goal.finish-requires-clause-odd
finish-requires-clause-odd c =
    let is = subst IsSlid (sym c.self.view_is) c.requires in
    (some_odd c.self.inside.sheet.plan.words is.words is.under_way).0

pub finish-requires-clause-slid : goal.finish-requires-clause-slid
finish-requires-clause-slid c =
    let w = c.self.inside in
    let is = subst IsSlid (sym c.self.view_is) c.requires in
    let s = slid w.sheet w.layout is.words is.nodes c.self.invariant.held.laid_out is.under_way is.hold is.alone c.self.invariant.held.entries in
    let four = s.ends.other 4 (omega arith) in
    slid_by w.sheet.plan s.nodes (subst (λ (m : Layout). Laid w.sheet.plan.words m s.nodes) (sym c.self.invariant.held.laid_out) s.hold.laid)
    (sits_told w.sheet.plan.seen (cache_of (arc_value w.content) (slice_index w.sheet.plan.words 2) (slice_index w.sheet.plan.words 1) (shelf_in w.sheet.plan.nodes w.sheet.plan.words w.layout)) s.nodes c.self.invariant.tells s.hold.live
    (λ q among. subst (λ (n : ℕ). q.node.number < n) four (s.ends.entries.numbers q among)) s.hold.kinds)

pub invariant_of-self : goal.invariant_of-self
invariant_of-self c =
    let w = c.self.inside in
    let is = subst IsSlid (sym c.self.view_is) c.requires in
    let held = c.self.invariant.held in
    let s = slid w.sheet w.layout is.words is.nodes held.laid_out is.under_way is.hold is.alone held.entries in
    let e = s.ends in
    let new : List ℕ = (finished w.sheet.plan).words in
    let four = e.other 4 (omega arith) in
    let v : Shelf = shelf_in w.sheet.plan.nodes w.sheet.plan.words w.layout in
    let size : length c.forget.new.hints ≡ w.hints.len = omega (arith, c.deref_mut.ensures.len, w.hints.ok.0) in
    let some : 4 ≤ length c.deref_mut.result.now = omega (arith, c.deref_mut.ensures.len, w.hints.ok.0, held.hinted.some) in
    let mark = c.start-self-inside.result in
    let hints : List ℕ = (with_items w.hints c.forget.new.hints).items in
    let now : IsWriter (record w.sheet { plan = finished w.sheet.plan }) w.layout (arc_value w.content) w.live mark hints =
    written w.sheet.plan.seen (slice_index w.sheet.plan.words 2) (slice_index w.sheet.plan.words 1) (record v { used = all_words v.entries; cycle = v.cycle + 1 })
    (record {
      laid_out = held.laid_out;
      settled = held.settled;
      sizes = held.sizes;
      laid = λ even. subst (Laid new w.layout) (sym s.back) e.laid;
      entries = subst (λ (ps : List Placed). AreEntries ps (slice_index new 4)) (sym s.back) e.entries;
      counted = subst (λ (n : ℕ). n ≤ last_count) (sym four) held.counted;
      live = held.live ∙ sym (ap (λ (ps : List Placed). length (entries_in ps)) s.back ∙ ap length s.hold.live);
      marked = mark_at_start w.layout (nodes_in w.sheet.plan.words w.sheet.plan.layout) mark.place mark.number (ap (λ (k : Mark). k.place) c.start-self-inside.ensures);
      hinted = no_hints_in hints (length c.deref_mut.result.now) (with_items_is w.hints c.forget.new.hints size ∙ c.forget.ensures) some;
    })
    refl (e.other 2 (omega arith)) (e.other 1 (omega arith)) (ap (λ (ps : List Placed). shelf_in ps new w.layout) s.back ∙ e.view)
    (retells w.sheet.plan.seen (cache_of (arc_value w.content) (slice_index w.sheet.plan.words 2) (slice_index w.sheet.plan.words 1) v) v.entries (all_words v.entries) (v.cycle + 1) v.add_failed refl c.self.invariant.tells) in
    subst (λ (p : Pen). IsWriter p w.layout (arc_value w.content) w.live mark hints) (sym c.finish.ensures) now

pub returns : goal.returns
returns c =
    let w = c.self.inside in
    let is = subst IsSlid (sym c.self.view_is) c.requires in
    let held = c.self.invariant.held in
    let s = slid w.sheet w.layout is.words is.nodes held.laid_out is.under_way is.hold is.alone held.entries in
    let e = s.ends in
    let new : List ℕ = (finished w.sheet.plan).words in
    let view = ap (λ (ps : List Placed). shelf_in ps new w.layout) s.back ∙ e.view in
    let one = e.other 1 (omega arith) in
    let two = e.other 2 (omega arith) in
    let even : slide_of new ≡ None = slide_none new (let odd = s.odd in let cycle = e.cycle in omega arith) in
    ap (λ (p : Pen). writer_of p w.layout (arc_value w.content)) c.finish.ensures
    ∙ (λ i. record { table = w.sheet.table; layout = w.layout; seen = w.sheet.plan.seen; cache = cache_of (arc_value w.content) (two i) (one i) (view i); hits = (view i).hits; misses = (view i).misses; slide = even i })
    ∙ ap (λ (v : Writer). record v { cache = record v.cache { cycle = v.cache.cycle + 1; used = all_words v.cache.entries }; slide = None }) c.self.view_is
