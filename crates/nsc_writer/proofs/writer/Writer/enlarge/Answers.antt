use Rattle.std.proofs.Common.{◌≡◌, ◌∙◌, ◌+◌, ◌/◌, ◌<◌, ◌≤◌, None, set, slice_index, refl, sym, ap, subst, arith, get_or-set_same}
use Rattle.std.specs.Arc.{arc_value}
use Rattle.nsc_words.specs.declared.layout.Layout.{Layout}
use Rattle.nsc_words.specs.Layout.{arena_start}
use Rattle.nsc_laws.proofs.MachineLawSteps.{retells}
use Rattle.nsc_model.specs.Machine.{all_words, last_count}
use Rattle.nsc_rule.specs.Map.{Map}
use Rattle.nsc_rule.specs.Pass.{Pass}
use Rattle.nsc_rule.specs.Pen.{Pen}
use Rattle.nsc_rule.specs.Plans.{cycle_of}
use Rattle.nsc_rule.specs.Seats.{rested}
use Rattle.nsc_rule.specs.Strokes.{left}
use Rattle.nsc_shelf.specs.declared.finding.Mark.{Mark}
use Rattle.nsc_shelf.specs.Shelf.{Shelf, shelf_in, slide_of}
use Rattle.nsc_shelf.proofs.Entries.{words_slid}
use Rattle.nsc_shelf.proofs.Hinted.{no_hints_in}
use Rattle.nsc_shelf.proofs.Still.{still}
use Rattle.nsc_writer.specs.Enlarged.{IsEnlarged}
use Rattle.nsc_writer.specs.Former.{Former}
use Rattle.nsc_writer.specs.Writer.{IsWriter, Writer, cache_of, writer_of}
use Rattle.nsc_writer.proofs.Enlarged.{enlarged}
use Rattle.nsc_writer.proofs.Moved.{written}
use Rattle.nsc_writer.proofs.writer.Writer.enlarge.Goals as goal

pub copy-requires-clause-fit : goal.copy-requires-clause-fit
copy-requires-clause-fit c =
    let room : all_words (writer_of c.self.inside.sheet c.self.inside.layout (arc_value c.self.inside.content)).cache.entries ≤ c.args.layout.arena = subst (λ (v : Writer). all_words v.cache.entries ≤ c.args.layout.arena) (sym c.self.view_is) c.requires.room in
    let ends = words_slid (arena_start c.args.layout) c.self.inside.sheet.plan.nodes in
    omega arith

pub invariant_of-self-2 : goal.invariant_of-self-2
invariant_of-self-2 c =
    let w = c.self.inside in
    let old = w.sheet.plan in
    let sheet : Pen = c.in_ok-sheet.sheet in
    let mark : Mark = c.start-self-inside.result in
    let none : slide_of old.words ≡ None = ap (λ (v : Writer). v.slide) c.self.view_is ∙ c.requires.still in
    let some = c.requires.sizes.some_room in
    let e = enlarged old sheet.plan w.layout c.args.layout (still none c.self.invariant.held) c.self.invariant.held c.requires.sizes c.in_ok-sheet.ensures.sheet (ap (λ (k : Mark). k.place) c.start-self-inside.ensures) (no_hints_in c.in_ok-hints.hints.items (c.args.layout.arena / 8) c.in_ok-hints.ensures (omega arith)) in
    let s : Shelf = shelf_in old.nodes old.words w.layout in
    let now : IsWriter sheet c.args.layout (arc_value w.content) w.live mark c.in_ok-hints.hints.items =
    written old.seen (slice_index old.words 2) (slice_index old.words 1) (record s { used = all_words s.entries; cycle = s.cycle + 2 }) e.held c.in_ok-sheet.ensures.sheet.seen e.source e.epoch e.view
    (retells old.seen (cache_of (arc_value w.content) (slice_index old.words 2) (slice_index old.words 1) s) s.entries (all_words s.entries) (s.cycle + 2) s.add_failed refl c.self.invariant.tells) in
    subst (λ (p : Pen). IsWriter p c.args.layout (arc_value w.content) w.live mark c.in_ok-hints.hints.items) (sym c.replace-left.ensures.after) now

pub returns-clause-enlarged : goal.returns-clause-enlarged
returns-clause-enlarged c =
    let w = c.self.inside in
    let old = w.sheet.plan in
    let sheet : Pen = c.in_ok-sheet.sheet in
    let layout : Layout = c.args.layout in
    let mark : Mark = c.start-self-inside.result in
    let none : slide_of old.words ≡ None = ap (λ (v : Writer). v.slide) c.self.view_is ∙ c.requires.still in
    let room = c.requires.sizes.some_room in
    let some : 4 ≤ layout.arena / 8 = omega arith in
    let wide = c.learn.ensures.wide in
    let odd : slice_index (set old.words 0 (slice_index old.words 0 + 1)) 0 ≡ slice_index old.words 0 + 1 = get_or-set_same old.words 0 (slice_index old.words 0 + 1) 0 (omega arith) in
    let e = enlarged {mark' = mark} old sheet.plan w.layout layout (still none c.self.invariant.held) c.self.invariant.held c.requires.sizes c.in_ok-sheet.ensures.sheet (ap (λ (k : Mark). k.place) c.start-self-inside.ensures) (no_hints_in c.in_ok-hints.hints.items (layout.arena / 8) c.in_ok-hints.ensures some) in
    let s : Shelf = shelf_in old.nodes old.words w.layout in
    let before : Writer = writer_of w.sheet w.layout (arc_value w.content) in
    let less : slice_index old.words 0 < last_count = (let h = c.if-head-ge-LAST_COUNT.false in let value = c.head.ensures in omega arith) in
    let newer : Map = record { table = sheet.table; layout = layout } in
    let map : c.in_ok-newer.newer ≡ newer = c.in_ok-newer.ensures ∙ c.map.ensures ∙ ap (λ (l : Layout). record { table = sheet.table; layout = l }) c.in_ok-sheet.ensures.sheet.layout_is in
    let pen : Pen = record w.sheet { plan = left sheet.table old } in
    let retired : c.retire-map.result.1 ≡ pen = c.retire-map.ensures.pen ∙ ap (λ (p : Pen). record p { plan = left c.in_ok-newer.newer.table p.plan }) (c.replace-left.ensures.value ∙ c.copy.ensures.same) ∙ ap (λ (m : Map). record w.sheet { plan = left m.table old }) map in
    let stock : Pass = record { table = sheet.table; seen = old.seen; retired = None; searching = rested (slice_index old.words 0 + 1) } in
    let former : c.new.result ≡ record { table = w.sheet.table; seen = old.seen; cycle = cycle_of pen.plan; newer = newer; stock = stock } = c.new.ensures ∙ (λ i. record { table = (retired i).table; seen = (retired i).plan.seen; cycle = cycle_of (retired i).plan; newer = map i; stock = c.in_ok-sheet.ensures.pass i }) in
    let grown : IsEnlarged layout before (writer_of sheet layout (arc_value w.content)) (record { table = w.sheet.table; seen = old.seen; cycle = cycle_of pen.plan; newer = newer; stock = stock }) = record {
      counted = less;
      is = λ i. record { table = sheet.table; layout = layout; seen = c.in_ok-sheet.ensures.sheet.seen i; cache = cache_of (arc_value w.content) (e.source i) (e.epoch i) (e.view i); hits = (e.view i).hits; misses = (e.view i).misses; slide = (e.going ∙ sym none) i };
      left = λ i. record { table = w.sheet.table; seen = old.seen; cycle = odd i; newer = newer; stock = stock };
    } in
    subst (λ (x : Writer × Former). IsEnlarged layout x.0 (writer_of c.replace-left.new.dest layout (arc_value w.content)) x.1) (λ i. (c.self.view_is i, sym former i))
    (subst (λ (p : Pen). IsEnlarged layout before (writer_of p layout (arc_value w.content)) (record { table = w.sheet.table; seen = old.seen; cycle = cycle_of pen.plan; newer = newer; stock = stock })) (sym c.replace-left.ensures.after) grown)
