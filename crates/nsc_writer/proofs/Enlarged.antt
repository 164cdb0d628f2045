-- What a writer knows of the words of another table.
use Rattle.std.proofs.Common.{◌≡◌, ◌∙◌, ℕ, ◌+◌, ◌-◌, ◌≤◌, None, List, length, slice_index, sym, ap, subst, arith}
use Rattle.nsc_words.specs.declared.layout.Layout.{Layout}
use Rattle.nsc_words.specs.declared.node.Placed.{Placed}
use Rattle.nsc_words.specs.Laid.{end_of, slid}
use Rattle.nsc_words.specs.Layout.{IsLayout, arena_start}
use Rattle.nsc_arena.proofs.Passed.{mark_at_start}
use Rattle.nsc_model.specs.Machine.{all_words, last_count}
use Rattle.nsc_rule.specs.declared.view.Plan.{Plan}
use Rattle.nsc_rule.specs.Entries.{entries_in}
use Rattle.nsc_shelf.specs.declared.finding.Mark.{Mark}
use Rattle.nsc_shelf.specs.Copied.{IsCopied}
use Rattle.nsc_shelf.specs.Hints.{AreHints}
use Rattle.nsc_shelf.specs.Shelf.{AreEntries, IsHeld, shelf_in, slide_of}
use Rattle.nsc_shelf.proofs.Entries.{slid_same, words_slid}
use Rattle.nsc_shelf.proofs.Slide.{other_entries, slid_alone, slid_kinds}
use Rattle.nsc_shelf.proofs.Still.{Rests, slide_none}

pub record Enlarged (old new : Plan) (from layout : Layout) (live : ℕ) (mark : Mark) (hints : List ℕ) : Type 0 where
  pub held : IsHeld new layout live mark hints
  pub view : shelf_in new.nodes new.words layout ≡ record (shelf_in old.nodes old.words from) { used = all_words (entries_in old.nodes); cycle = slice_index old.words 0 + 2 }
  pub epoch : slice_index new.words 1 ≡ slice_index old.words 1
  pub source : slice_index new.words 2 ≡ slice_index old.words 2
  pub going : slide_of new.words ≡ None

pub enlarged : {live : ℕ} {mark mark' : Mark} {hints hints' : List ℕ} (old new : Plan) (from layout : Layout) → Rests old from live mark hints → IsHeld old from live mark hints → IsLayout layout → IsCopied layout old new → mark'.place ≡ arena_start layout → AreHints hints' layout new.nodes → Enlarged old new from layout live mark' hints'
enlarged {live} {mark' = mark'} {hints' = hints'} old new from layout rests held sizes is place hinted =
    let start : ℕ = arena_start layout in
    let nodes : List Placed = slid start old.nodes in
    let same : entries_in new.nodes ≡ entries_in old.nodes = ap entries_in is.nodes ∙ slid_same start old.nodes in
    let are : AreEntries nodes (slice_index old.words 4) = other_entries old.nodes nodes (slice_index old.words 4) held.entries (slid_kinds start old.nodes held.entries.kinds) (slid_alone start old.nodes) (slid_same start old.nodes) in
    let ends : end_of start new.nodes ≡ start + all_words (entries_in old.nodes) = ap (end_of start) is.nodes ∙ words_slid start old.nodes in
    let used : end_of start new.nodes - start ≡ all_words (entries_in old.nodes) = omega arith in
    let e0 = is.cycle in
    let e4 = is.heads 4 (omega arith) (omega arith) (omega arith) in
    let e5 = is.heads 5 (omega arith) (omega arith) (omega arith) in
    let e6 = is.heads 6 (omega arith) (omega arith) (omega arith) in
    let e7 = is.heads 7 (omega arith) (omega arith) (omega arith) in
    let e8 = is.heads 8 (omega arith) (omega arith) (omega arith) in
    let e9 = is.heads 9 (omega arith) (omega arith) (omega arith) in
    let even = rests.even in
    record {
      held = record {
        laid_out = is.layout_is;
        settled = is.settled;
        sizes = sizes;
        laid = λ again. is.laid;
        entries = subst (λ (x : List Placed × ℕ). AreEntries x.0 x.1) (λ i. (sym is.nodes i, sym e4 i)) are;
        counted = subst (λ (n : ℕ). n ≤ last_count) (sym e4) held.counted;
        live = held.live ∙ ap length (sym same);
        marked = mark_at_start layout new.nodes mark'.place mark'.number place;
        hinted = hinted;
      };
      view = λ i. record { entries = same i; used = used i; inserted = e4 i; cycle = e0 i; add_failed = e9 i; hits = record { found = e5 i; not_found = e6 i }; misses = record { found = e7 i; not_found = e8 i } };
      epoch = is.heads 1 (omega arith) (omega arith) (omega arith);
      source = is.heads 2 (omega arith) (omega arith) (omega arith);
      going = slide_none new.words (omega arith);
    }
