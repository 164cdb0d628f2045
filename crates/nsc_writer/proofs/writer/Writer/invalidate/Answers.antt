use Rattle.std.proofs.Common.{◌≡◌, ℕ, ◌+◌, List, [], ◌∷◌, slice_index, None, refl, sym, ap, subst, ◌∙◌, arith, get_or-set_same, get_or-set_other}
use Rattle.std.specs.Arc.{arc_value}
use Rattle.nsc_model.specs.declared.record.Record.{Record}
use Rattle.nsc_model.specs.declared.record.Record.TheVariants.{Invalid}
use Rattle.nsc_model.specs.Machine.{Cache, Kept, by_invalidation, emptied, ends_of}
use Rattle.nsc_laws.specs.Calls.{Tells}
use Rattle.nsc_rule.specs.Pen.{Pen}
use Rattle.nsc_rule.specs.Strokes.{invalidation_added}
use Rattle.nsc_shelf.specs.Shelf.{Shelf, shelf_in, slide_of}
use Rattle.nsc_shelf.proofs.Still.{numbered, still}
use Rattle.nsc_writer.specs.Writer.{IsWriter, Writer, cache_of, writer_of}
use Rattle.nsc_writer.proofs.Moved.{written}
use Rattle.nsc_writer.proofs.Told.{emptied_tells}
use Rattle.nsc_writer.proofs.writer.Writer.invalidate.Goals as goal
use Rattle.nsc_writer.proofs.writer.Writer.invalidate.Goals.{After-end_all}

-- where no entry is left
invalidated : (h : List Record) (cache : Cache) → cache.entries ≡ [] → Tells h cache → Tells (Invalid (cache.epoch + 1) ∷ h) (emptied cache).cache
invalidated h cache none t = subst (λ (ks : List Kept). Tells (Invalid (cache.epoch + 1) ∷ ends_of by_invalidation ks h) (emptied cache).cache) none (emptied_tells h cache t)

pub invalidate-requires-clause-ended : goal.invalidate-requires-clause-ended
invalidate-requires-clause-ended c =
    let w = c.self-2.inside in
    let none = ap (λ (v : Writer). v.cache.entries) (c.self-2.view_is ∙ c.end_all.ensures) in
    (invalidated w.sheet.plan.seen (cache_of (arc_value w.content) (slice_index w.sheet.plan.words 2) (slice_index w.sheet.plan.words 1) (shelf_in w.sheet.plan.nodes w.sheet.plan.words w.layout)) none c.self-2.invariant.tells).legal.2

-- the number of invalidations is what it was
stays : (c : After-end_all) (epoch : ℕ) → (let v : Writer = c.end_all.new.self in v.cache.epoch ≡ epoch) → epoch ≡ c.epoch-before.result
stays c epoch is = sym is ∙ ap (λ (v : Writer). v.cache.epoch) c.end_all.ensures ∙ sym c.epoch-before.ensures

pub invalidate-requires-clause-room : goal.invalidate-requires-clause-room
invalidate-requires-clause-room c =
    let e = stays (goal.at.invalidate-requires-clause-room c).After-end_all (slice_index c.self-2.inside.sheet.plan.words 1) (sym (ap (λ (v : Writer). v.cache.epoch) c.self-2.view_is)) in
    let before = c.epoch-before.ensures ∙ ap (λ (v : Writer). v.cache.epoch) (sym c.self.view_is) in
    omega (arith, e, before, c.learn.ensures.last_epoch, c.if-before-eq-LAST_COUNT.false)

pub overflow_add-result : goal.overflow_add-result
overflow_add-result c =
    let before = c.epoch-before.ensures ∙ ap (λ (v : Writer). v.cache.epoch) (sym c.self.view_is) in
    omega (arith, before, c.learn.ensures.last_epoch)

pub invariant_of-self : goal.invariant_of-self
invariant_of-self c =
    let w = c.self-2.inside in
    let words : List ℕ = w.sheet.plan.words in
    let s : Shelf = shelf_in w.sheet.plan.nodes words w.layout in
    let all = c.self-2.view_is ∙ c.end_all.ensures in
    let none : slide_of words ≡ None = ap (λ (v : Writer). v.slide) all ∙ c.requires in
    let empty = ap (λ (v : Writer). v.cache.entries) all in
    let seen : List Record = Invalid (slice_index words 1 + 1) ∷ w.sheet.plan.seen in
    let n = numbered 1 (slice_index words 1 + 1) seen (omega arith) (omega arith) (still none c.self-2.invariant.held) c.self-2.invariant.held in
    let table = (still none c.self-2.invariant.held).laid.table in
    let told = invalidated w.sheet.plan.seen (cache_of (arc_value w.content) (slice_index words 2) (slice_index words 1) s) empty c.self-2.invariant.tells in
    let now : IsWriter (record w.sheet { plan = invalidation_added w.sheet.plan }) w.layout (arc_value w.content) w.live w.mark w.hints.items =
    written seen (slice_index words 2) (slice_index words 1 + 1) (record s { entries = [] }) n.held refl (get_or-set_other words 1 2 (slice_index words 1 + 1) 0 (omega arith)) (get_or-set_same words 1 (slice_index words 1 + 1) 0 (omega arith)) (n.view ∙ (λ i. record s { entries = empty i })) told in
    subst (λ (p : Pen). IsWriter p w.layout (arc_value w.content) w.live w.mark w.hints.items) (sym c.invalidate.ensures) now

pub returns-clause-done : goal.returns-clause-done
returns-clause-done c =
    let w = c.self-2.inside in
    let words : List ℕ = w.sheet.plan.words in
    let all = c.self-2.view_is ∙ c.end_all.ensures in
    let none : slide_of words ≡ None = ap (λ (v : Writer). v.slide) all ∙ c.requires in
    let n = numbered 1 (slice_index words 1 + 1) (Invalid (slice_index words 1 + 1) ∷ w.sheet.plan.seen) (omega arith) (omega arith) (still none c.self-2.invariant.held) c.self-2.invariant.held in
    let table = (still none c.self-2.invariant.held).laid.table in
    let one = get_or-set_same words 1 (slice_index words 1 + 1) 0 (omega arith) in
    let two = get_or-set_other words 1 2 (slice_index words 1 + 1) 0 (omega arith) in (
      ap (λ (k : ℕ). k + 1) c.epoch-before.ensures,
      ap (λ (p : Pen). writer_of p w.layout (arc_value w.content)) c.invalidate.ensures
          ∙ (λ i. record { table = w.sheet.table; layout = w.layout; seen = Invalid (slice_index words 1 + 1) ∷ w.sheet.plan.seen; cache = cache_of (arc_value w.content) (two i) (one i) (n.view i); hits = (n.view i).hits; misses = (n.view i).misses; slide = n.going i })
          ∙ ap (λ (v : Writer). record v { cache = record v.cache { epoch = v.cache.epoch + 1 }; seen = Invalid (v.cache.epoch + 1) ∷ v.seen }) all,
    )
