use Rattle.std.proofs.Common.{◌∙◌, ℕ, [], ap, option_map, refl, subst, sym}
use Rattle.nsc_words.specs.declared.layout.Layout.{Layout}
use Rattle.nsc_writer.specs.Writer.{Writer}
use Rattle.nsc_database.specs.Openings.{Begins, BringsReloads, IsBroughtBack}
use Rattle.nsc_database.specs.Rests.{IsNew}
use Rattle.nsc_database.proofs.Opening.{at_rest_begun, begins_of, reloads_of}
use Rattle.nsc_database.proofs.opened.Opened.open.Goals as goal

pub invariant_of-begun : goal.invariant_of-begun
invariant_of-begun g c =
    let laid : ℕ → Layout = λ n. record { buckets = c.of-settings.result.size; arena = n } in
    let new : IsNew c.in_ok-book.writer c.in_ok-book.book.newest c.of-settings.result = record {
      seen = ap (λ (w : Writer). w.seen) c.in_ok-book.ensures.writer;
      cache = ap (λ (w : Writer). w.cache) c.in_ok-book.ensures.writer;
      room = ap (λ (w : Writer). w.layout) c.in_ok-book.ensures.writer ∙ ap laid c.room.ensures;
      still = ap (λ (w : Writer). w.slide) c.in_ok-book.ensures.writer;
    } in
    let image = option_map (λ b. b.now) c.args.image in
    at_rest_begun c.args.now image c.in_ok-book.book.newest [] c.in_ok-book.writer c.follow.new.writer refl new (λ files e. absurd cc)
    (subst (λ (w : Writer). IsBroughtBack c.of-settings.result c.args.now c.args.db image c.in_ok-book.book.newest c.in_ok-book.writer w) (sym c.follow.ensures.writer) c.in_ok-bring_back.ensures.brought)

pub invariant_of-result-clause-tied : goal.invariant_of-result-clause-tied
invariant_of-result-clause-tied g c =
    let table = ap (λ (w : Writer). w.table) c.follow.ensures.writer ∙ c.in_ok-bring_back.ensures.table ∙ ap (λ (w : Writer). w.table) c.in_ok-book.ensures.writer in
    (c.in_ok-book.ensures.book.1 ∙ sym c.follow.ensures.table, c.in_ok-book.ensures.book.0, table ∙ sym c.follow.ensures.table)

pub invariant_of-result-clause-part : goal.invariant_of-result-clause-part
invariant_of-result-clause-part g c files e = c.in_ok-book.ensures.fetched.part files (sym c.in_ok-own.ensures.held ∙ e)

pub returns-clause-begins : goal.returns-clause-begins
returns-clause-begins g c =
    let laid : ℕ → Layout = λ n. record { buckets = c.of-settings.result.size; arena = n } in
    let new : IsNew c.in_ok-book.writer c.in_ok-book.book.newest c.of-settings.result = record {
      seen = ap (λ (w : Writer). w.seen) c.in_ok-book.ensures.writer;
      cache = ap (λ (w : Writer). w.cache) c.in_ok-book.ensures.writer;
      room = ap (λ (w : Writer). w.layout) c.in_ok-book.ensures.writer ∙ ap laid c.room.ensures;
      still = ap (λ (w : Writer). w.slide) c.in_ok-book.ensures.writer;
    } in
    let image = option_map (λ b. b.now) c.args.image in
    subst (Begins c.of-settings.result c.args.now c.args.db image c.in_ok-book.book.newest) (sym c.in_ok-follow.ensures.whole)
    (begins_of c.of-settings.result c.args.now c.args.db image c.in_ok-book.book.newest c.in_ok-book.writer c.bring_back.new.writer new c.in_ok-bring_back.ensures.brought)

pub returns-clause-back : goal.returns-clause-back
returns-clause-back g c =
    let laid : ℕ → Layout = λ n. record { buckets = c.of-settings.result.size; arena = n } in
    let new : IsNew c.in_ok-book.writer c.in_ok-book.book.newest c.of-settings.result = record {
      seen = ap (λ (w : Writer). w.seen) c.in_ok-book.ensures.writer;
      cache = ap (λ (w : Writer). w.cache) c.in_ok-book.ensures.writer;
      room = ap (λ (w : Writer). w.layout) c.in_ok-book.ensures.writer ∙ ap laid c.room.ensures;
      still = ap (λ (w : Writer). w.slide) c.in_ok-book.ensures.writer;
    } in
    let image = option_map (λ b. b.now) c.args.image in
    subst (λ (w : Writer). BringsReloads c.of-settings.result c.args.now c.args.db image c.in_ok-book.book.newest w.cache.entries) (sym c.follow.ensures.writer)
    (reloads_of c.of-settings.result c.args.now c.args.db image c.in_ok-book.book.newest c.in_ok-book.writer c.bring_back.new.writer new c.in_ok-bring_back.ensures.brought)
