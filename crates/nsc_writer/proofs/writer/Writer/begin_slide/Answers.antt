use Rattle.std.proofs.Common.{◌≡◌, ℕ, ◌+◌, ◌<◌, ◌≤◌, ◌%◌, Some, None, Bool, cond, slice_index, refl, ap, sym, subst, ◌∙◌, arith}
use Rattle.std.specs.Arc.{arc_value}
use Rattle.std.proofs.lemmas.Bool.{ne_eqb}
use Rattle.nsc_model.specs.Machine.{last_count}
use Rattle.nsc_rule.specs.Pen.{Pen}
use Rattle.nsc_rule.specs.Strokes.{begun as begun_plan}
use Rattle.nsc_shelf.specs.Shelf.{AreEntries, Shelf, shelf_in, slide_of}
use Rattle.nsc_shelf.proofs.Slide.{Begun, begun}
use Rattle.nsc_shelf.proofs.Still.{still}
use Rattle.nsc_laws.proofs.MachineLawSteps.{retells}
use Rattle.nsc_writer.specs.Slide.{IsBegun}
use Rattle.nsc_writer.specs.Writer.{IsWriter, Writer, cache_of, writer_of}
use Rattle.nsc_writer.proofs.Moved.{written}
use Rattle.nsc_writer.proofs.writer.Writer.begin_slide.Goals as goal
use Rattle.nsc_writer.proofs.writer.Writer.begin_slide.Goals.{After-begin}

begins : (c : After-begin) → Begun c.self.inside.sheet.plan.words (begun_plan c.self.inside.sheet.plan).words c.self.inside.layout c.self.inside.sheet.plan.nodes
begins c =
    let w = c.self.inside in
    let none : slide_of w.sheet.plan.words ≡ None = ap (λ (v : Writer). v.slide) c.self.view_is ∙ c.requires in
    begun w.sheet.plan.words (begun_plan w.sheet.plan).words w.layout w.sheet.plan.nodes (still none c.self.invariant.held).laid refl

pub begin-requires-clause-counted : goal.begin-requires-clause-counted
begin-requires-clause-counted c = c.self.invariant.held.settled

pub invariant_of-self : goal.invariant_of-self
invariant_of-self c =
    let w = c.self.inside in
    let none : slide_of w.sheet.plan.words ≡ None = ap (λ (v : Writer). v.slide) c.self.view_is ∙ c.requires in
    let rests = still none c.self.invariant.held in
    let held = c.self.invariant.held in
    let b = begins (goal.at.invariant_of-self c).After-begin in
    let s : Shelf = shelf_in w.sheet.plan.nodes w.sheet.plan.words w.layout in
    let four = b.other 4 (omega arith) in
    let now : IsWriter (record w.sheet { plan = begun_plan w.sheet.plan }) w.layout (arc_value w.content) w.live w.mark w.hints.items =
    written w.sheet.plan.seen (slice_index w.sheet.plan.words 2) (slice_index w.sheet.plan.words 1) (record s { cycle = s.cycle + 1 })
    (record {
      laid_out = held.laid_out;
      settled = held.settled;
      sizes = held.sizes;
      laid = λ even. b.laid;
      entries = subst (AreEntries w.sheet.plan.nodes) (sym four) held.entries;
      counted = subst (λ (n : ℕ). n ≤ last_count) (sym four) held.counted;
      live = held.live;
      marked = held.marked;
      hinted = held.hinted;
    })
    refl (b.other 2 (omega arith)) (b.other 1 (omega arith)) b.view
    (retells w.sheet.plan.seen (cache_of (arc_value w.content) (slice_index w.sheet.plan.words 2) (slice_index w.sheet.plan.words 1) s) s.entries s.used (s.cycle + 1) s.add_failed refl c.self.invariant.tells) in
    subst (λ (p : Pen). IsWriter p w.layout (arc_value w.content) w.live w.mark w.hints.items) (sym c.begin.ensures) now

pub returns-clause-begun : goal.returns-clause-begun
returns-clause-begun c =
    let w = c.self.inside in
    let none : slide_of w.sheet.plan.words ≡ None = ap (λ (v : Writer). v.slide) c.self.view_is ∙ c.requires in
    let rests = still none c.self.invariant.held in
    let b = begins (goal.at.returns-clause-begun c).After-begin in
    let even = rests.even in
    let less : slice_index w.sheet.plan.words 0 < last_count = (let h = c.if-head-ge-LAST_COUNT.false in let value = c.head.ensures in omega arith) in
    let words = (begun_plan w.sheet.plan).words in
    let odd : slide_of words ≡ Some words = ap (λ (t : Bool). cond t None (Some words)) (ne_eqb (slice_index words 0 % 2) 0 (λ e. let cycle = b.cycle in absurd (omega arith))) in
    let one = b.other 1 (omega arith) in
    let two = b.other 2 (omega arith) in
    let v : Writer = writer_of w.sheet w.layout (arc_value w.content) in
    let is : IsBegun v (writer_of (record w.sheet { plan = begun_plan w.sheet.plan }) w.layout (arc_value w.content)) = record {
      even = even;
      counted = less;
      sizes = rests.shelf.sizes;
      words = words;
      is = λ i. record { table = w.sheet.table; layout = w.layout; seen = w.sheet.plan.seen; cache = cache_of (arc_value w.content) (two i) (one i) (b.view i); hits = (b.view i).hits; misses = (b.view i).misses; slide = odd i };
      nodes = w.sheet.plan.nodes;
      hold = record { laid = b.laid; kinds = c.self.invariant.held.entries.kinds; live = refl };
      used = b.used;
    } in
    subst (λ (x : Writer). IsBegun x (writer_of c.begin.new.self w.layout (arc_value w.content))) c.self.view_is
    (subst (λ (p : Pen). IsBegun v (writer_of p w.layout (arc_value w.content))) (sym c.begin.ensures) is)
