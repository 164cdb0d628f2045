use Rattle.std.proofs.Common.{◌≡◌, ℕ, ◌-◌, ◌/◌, ◌%◌, ◌<◌, [], ◌∷◌, slice_index, refl, sym, ap, subst, ◌∙◌, arith, rules}
use Rattle.std.specs.Arc.{arc_value}
use Rattle.nsc_words.specs.declared.layout.Layout.{Layout}
use Rattle.nsc_words.specs.Laid.{Laid}
use Rattle.nsc_words.specs.Layout.{IsLayout, arena_start}
use Rattle.nsc_arena.proofs.Passed.{mark_at_start}
use Rattle.nsc_model.specs.declared.record.Record.TheVariants.{Change}
use Rattle.nsc_model.specs.Content.{Content}
use Rattle.nsc_model.specs.Files.{no_files}
use Rattle.nsc_model.specs.Machine.{new_cache}
use Rattle.nsc_laws.specs.Calls.{Tells}
use Rattle.nsc_rule.specs.Pass.{Pass}
use Rattle.nsc_rule.specs.Pen.{Pen}
use Rattle.nsc_rule.specs.Plans.{first_plan, no_nodes}
use Rattle.nsc_rule.proofs.Callers.{whole}
use Rattle.nsc_rule.proofs.Opening.{sound_first, zero_at}
use Rattle.nsc_shelf.specs.declared.finding.Mark.{Mark}
use Rattle.nsc_shelf.specs.Shelf.{AreEntries, Shelf, shelf_in}
use Rattle.nsc_shelf.proofs.Hinted.{no_hints_in}
use Rattle.nsc_shelf.proofs.Still.{slide_none}
use Rattle.nsc_writer.specs.Writer.{IsWriter, cache_of, writer_of}
use Rattle.nsc_writer.proofs.writer.Writer.new.Goals as goal

none : (n : ℕ) → AreEntries [] n
none n = record { kinds = λ p m. absurd m; numbers = λ p m. absurd m; apart = λ p q m. absurd m }

-- a word of the head is 0
record Zeros (layout : Layout) : Type 0 where
  zero : (i : ℕ) → i < 3 → slice_index (no_nodes layout) i ≡ 0
  counts : (i : ℕ) → 3 < i → i < 16 → slice_index (no_nodes layout) i ≡ 0

zeros : (layout : Layout) → Zeros layout
zeros layout = record { zero = λ i low. zero_at layout i (omega arith) (omega arith); counts = λ i above low. zero_at layout i (omega arith) (omega arith) }

no_shelf : (layout : Layout) → shelf_in [] (no_nodes layout) layout ≡ record { entries = []; used = 0; inserted = 0; cycle = 0; add_failed = 0; hits = record { found = 0; not_found = 0 }; misses = record { found = 0; not_found = 0 } }
no_shelf layout =
    let z = zeros layout in
    let used : arena_start layout - arena_start layout ≡ 0 = omega arith in
    let e0 = z.zero 0 (omega arith) in
    let e4 = z.counts 4 (omega arith) (omega arith) in
    let e5 = z.counts 5 (omega arith) (omega arith) in
    let e6 = z.counts 6 (omega arith) (omega arith) in
    let e7 = z.counts 7 (omega arith) (omega arith) in
    let e8 = z.counts 8 (omega arith) (omega arith) in
    let e9 = z.counts 9 (omega arith) (omega arith) in
    λ i. record { entries = []; used = used i; inserted = e4 i; cycle = e0 i; add_failed = e9 i; hits = record { found = e5 i; not_found = e6 i }; misses = record { found = e7 i; not_found = e8 i } }

-- the words hold no node
no_node : (layout : Layout) → IsLayout layout → Laid (no_nodes layout) layout []
no_node layout sizes =
    let z = zeros layout in
    let even : slice_index (no_nodes layout) 0 % 2 ≡ 0 = ap (λ (n : ℕ). n % 2) (z.zero 0 (omega arith)) in
    whole (first_plan layout no_files) (sound_first layout no_files (record { switch_fits = tt; passwd_fits = tt; group_fits = tt; hosts_fits = tt; services_fits = tt; extra_passwd_fits = tt; extra_group_fits = tt; netgroup_fits = tt }) sizes) refl even

pub invariant_of-writer : goal.invariant_of-writer
invariant_of-writer c =
    let m : Layout = c.args.layout in
    let content : Content = arc_value c.args.content in
    let pen : c.new.result ≡ record { table = c.in_ok-map.map.table; plan = first_plan m content } = c.new.ensures ∙ c.in_ok-map.ensures.pen ∙ ap (λ (x : Content). record { table = c.in_ok-map.map.table; plan = first_plan m x }) c.deref.ensures in
    let z = zeros m in
    let one = z.zero 1 (omega arith) in
    let two = z.zero 2 (omega arith) in
    let four = z.counts 4 (omega arith) (omega arith) in
    let told : Tells (Change 0 content ∷ []) (new_cache content) = search rules in
    let is : IsWriter (record { table = c.in_ok-map.map.table; plan = first_plan m content }) m content 0 c.start-2.result c.in_ok-hints.hints.items = record {
      held = record {
        laid_out = refl;
        settled = refl;
        sizes = c.requires;
        laid = λ even. no_node m c.requires;
        entries = none (slice_index (no_nodes m) 4);
        counted = omega (arith, four);
        live = refl;
        marked = mark_at_start m [] c.start-2.result.place c.start-2.result.number (ap (λ (k : Mark). k.place) c.start-2.ensures);
        hinted = no_hints_in c.in_ok-hints.hints.items (m.arena / 8) c.in_ok-hints.ensures (let size = c.requires.some_room in omega arith);
      };
      tells = subst (λ (x : ℕ × ℕ × Shelf). Tells (Change 0 content ∷ []) (cache_of content x.0 x.1 x.2)) (λ i. (sym two i, sym one i, sym (no_shelf m) i)) told;
    } in
    subst (λ (p : Pen). IsWriter p m content 0 c.start-2.result c.in_ok-hints.hints.items) (sym pen) is

pub returns-clause-writer : goal.returns-clause-writer
returns-clause-writer c =
    let m : Layout = c.args.layout in
    let content : Content = arc_value c.args.content in
    let pen : c.new.result ≡ record { table = c.in_ok-map.map.table; plan = first_plan m content } = c.new.ensures ∙ c.in_ok-map.ensures.pen ∙ ap (λ (x : Content). record { table = c.in_ok-map.map.table; plan = first_plan m x }) c.deref.ensures in
    let pass = ap (λ (p : Pass). p.table) c.in_ok-map.ensures.pass in
    let z = zeros m in
    let shelf = no_shelf m in
    let one = z.zero 1 (omega arith) in
    let two = z.zero 2 (omega arith) in
    let still = slide_none (no_nodes m) (ap (λ (n : ℕ). n % 2) (z.zero 0 (omega arith))) in
    ap (λ (p : Pen). writer_of p m content) pen
    ∙ (λ i. record { table = sym pass i; layout = m; seen = Change 0 content ∷ []; cache = cache_of content (two i) (one i) (shelf i); hits = (shelf i).hits; misses = (shelf i).misses; slide = still i })
