-- What a slide makes of a writer.
use Rattle.std.proofs.Common.{◌≡◌, ℕ, ◌+◌, List, [], Option, Some, None, slice_index, refl, sym, ap, subst, ◌∙◌, arith}
use Rattle.nsc_words.specs.declared.layout.Layout.{Layout}
use Rattle.nsc_words.specs.Laid.{Laid, slid}
use Rattle.nsc_words.specs.Layout.{arena_start}
use Rattle.nsc_model.specs.Machine.{all_words}
use Rattle.nsc_rule.specs.Entries.{entries_in}
use Rattle.nsc_shelf.specs.Shelf.{slide_words}
use Rattle.nsc_shelf.proofs.Entries.{slid_same, words_slid}
use Rattle.nsc_shelf.proofs.Slide.{slid_alone, slid_kinds}
use Rattle.nsc_writer.specs.Slide.{IsBegun, IsSlid, emptied_slide, without_words}
use Rattle.nsc_writer.specs.Writer.{Writer}

-- where a slide began, these are its words
begun_words : (before after : Writer) → (b : IsBegun before after) → slide_words after.slide ≡ b.words
begun_words before after b = ap (λ (w : Writer). slide_words w.slide) b.is

-- a slide is under way still, where what is not words is as before
under_way_by : (slide : Option (List ℕ)) → emptied_slide slide ≡ Some [] → slide ≡ Some (slide_words slide)
under_way_by None e = absurd cc
under_way_by (Some words) e = refl

-- the writer with no slide
abbrev ended_slide : Writer → Writer
ended_slide w = record w { slide = None }

same_but : (before begun after : Writer) → IsBegun before begun → without_words after ≡ without_words begun → ended_slide after ≡ record before { cache = record before.cache { cycle = before.cache.cycle + 1 }; slide = None }
same_but before begun after b rest = ap ended_slide rest ∙ ap ended_slide b.is

pub slid_ends : (before begun after : Writer) (map : Layout) → map ≡ before.layout → (b : IsBegun before begun) → without_words after ≡ without_words begun → Laid (slide_words after.slide) map (slid (arena_start map) b.nodes) → IsSlid after
slid_ends before begun after map same b rest laid =
    let now = same_but before begun after b rest in
    let layout : after.layout ≡ map = ap (λ (w : Writer). w.layout) now ∙ sym same in
    let entries : before.cache.entries ≡ after.cache.entries = sym (ap (λ (w : Writer). w.cache.entries) now) in
    record {
      words = slide_words after.slide;
      under_way = under_way_by after.slide (ap (λ (w : Writer). w.slide) rest ∙ ap (λ (w : Writer). emptied_slide w.slide) b.is);
      nodes = slid (arena_start map) b.nodes;
      hold = record {
        laid = subst (λ (m : Layout). Laid (slide_words after.slide) m (slid (arena_start map) b.nodes)) (sym layout) laid;
        kinds = slid_kinds (arena_start map) b.nodes b.hold.kinds;
        live = slid_same (arena_start map) b.nodes ∙ b.hold.live ∙ entries;
      };
      alone = slid_alone (arena_start map) b.nodes;
    }

pub freed_words : (before begun : Writer) (words : List ℕ) (map : Layout) (freed : ℕ) → map ≡ before.layout → (b : IsBegun before begun) → Laid words map (slid (arena_start map) b.nodes) → slice_index words 3 + freed ≡ slice_index (slide_words begun.slide) 3 → freed + all_words before.cache.entries ≡ before.cache.used
freed_words before begun words map freed same b laid said =
    let first = laid.first_free in
    let all = words_slid (arena_start map) b.nodes in
    let live : all_words (entries_in b.nodes) ≡ all_words before.cache.entries = ap all_words b.hold.live in
    let start : arena_start map ≡ arena_start before.layout = ap arena_start same in
    let used : slice_index (slide_words begun.slide) 3 ≡ slice_index b.words 3 = ap (λ (ws : List ℕ). slice_index ws 3) (begun_words before begun b) in
    let was : slice_index b.words 3 ≡ arena_start before.layout + before.cache.used = b.used in
    omega arith

pub compacted : (before begun after last : Writer) → before.slide ≡ None → IsBegun before begun → without_words after ≡ without_words begun → last ≡ record after { cache = record after.cache { cycle = after.cache.cycle + 1; used = all_words after.cache.entries }; slide = None }
    → last ≡ record before { cache = record before.cache { cycle = before.cache.cycle + 2; used = all_words before.cache.entries } }
compacted before begun after last none b rest is =
    let twice : before.cache.cycle + 1 + 1 ≡ before.cache.cycle + 2 = omega arith in
    is ∙ ap (λ (w : Writer). record w { cache = record w.cache { cycle = w.cache.cycle + 1; used = all_words w.cache.entries }; slide = None }) (same_but before begun after b rest)
    ∙ (λ i. record before { cache = record before.cache { cycle = twice i; used = all_words before.cache.entries }; slide = sym none i })
