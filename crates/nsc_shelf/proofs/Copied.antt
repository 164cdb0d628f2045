-- Words that go on in place of others, with the usable nodes of these.
use Rattle.std.proofs.Common.{◌≡◌, ◌≢◌, ◌∙◌, ℕ, zero, suc, ◌+◌, ◌-◌, ◌<◌, ◌≤◌, inl, inr, Bool, true, false, cond, leb, List, [], ◌∷◌, set, slice_index, replicate, refl, sym, ap, subst, arith, get_or-set_other, get_or-set_same}
use Rattle.std.proofs.lemmas.Bool.{leb-true, leb-false}
use Rattle.std.proofs.lemmas.List.{get_or-append_right, get_or-replicate}
use Rattle.nsc_words.specs.declared.layout.Layout.{Layout}
use Rattle.nsc_words.specs.declared.node.Node.{Node}
use Rattle.nsc_words.specs.declared.node.Placed.{Placed}
use Rattle.nsc_words.specs.Laid.{Among, Laid, end_of, slid}
use Rattle.nsc_words.specs.Layout.{IsLayout, arena_start, table_words}
use Rattle.nsc_arena.specs.ReadBack.{nodes_in}
use Rattle.nsc_arena.specs.Written.{IsSameHead}
use Rattle.nsc_arena.proofs.ReadBack.{read_back}
use Rattle.nsc_arena.proofs.Rows.{set_head}
use Rattle.nsc_arena.proofs.Slides.{slid_from}
use Rattle.nsc_model.specs.declared.record.Record.{Record}
use Rattle.nsc_model.specs.History.{loads, IsLive}
use Rattle.nsc_model.specs.Kinds.{type_number}
use Rattle.nsc_rule.specs.declared.view.Plan.{Plan}
use Rattle.nsc_rule.specs.Entries.{entry_of, kind_of}
use Rattle.nsc_rule.specs.Plans.{IsEven, Sits, Sound, heads_after, succeeding, words_after}
use Rattle.nsc_rule.specs.Strokes.{ShowsAgain, finished}
use Rattle.nsc_rule.specs.Pen.{Pen}
use Rattle.nsc_rule.proofs.Callers.{slid_by, whole}
use Rattle.nsc_shelf.specs.Copied.{IsCopied}

-- ---- the words before their nodes are set

-- the buckets are 0
pub bucket_empty : (layout : Layout) (words : List ℕ) (i : ℕ) → 16 ≤ i → i < arena_start layout → slice_index (words_after layout words) i ≡ 0
bucket_empty layout words i low high =
    let rest : List ℕ = replicate (table_words layout - 10) 0 in
    get_or-append_right (heads_after words) rest 10 i 0 refl (omega arith) ∙ get_or-replicate (table_words layout - 10) (i - 10) 0 0 (omega arith)

-- behind the counts they are 0
behind_counts : (layout : Layout) (words : List ℕ) (i : ℕ) → IsLayout layout → 10 ≤ i → i < 16 → slice_index (words_after layout words) i ≡ 0
behind_counts layout words i sizes low high =
    let rest : List ℕ = replicate (table_words layout - 10) 0 in
    let room = sizes.some_room in
    get_or-append_right (heads_after words) rest 10 i 0 refl low ∙ get_or-replicate (table_words layout - 10) (i - 10) 0 0 (omega arith)

-- the counts are the same
count_same : (layout : Layout) (words : List ℕ) (i : ℕ) → 0 < i → i < 10 → i ≢ 3 → slice_index (words_after layout words) i ≡ slice_index words i
count_same layout words zero low high other = absurd (omega arith)
count_same layout words (suc zero) low high other = refl
count_same layout words (suc (suc zero)) low high other = refl
count_same layout words (suc (suc (suc zero))) low high other = absurd (other refl)
count_same layout words (suc (suc (suc (suc zero)))) low high other = refl
count_same layout words (suc (suc (suc (suc (suc zero))))) low high other = refl
count_same layout words (suc (suc (suc (suc (suc (suc zero)))))) low high other = refl
count_same layout words (suc (suc (suc (suc (suc (suc (suc zero))))))) low high other = refl
count_same layout words (suc (suc (suc (suc (suc (suc (suc (suc zero)))))))) low high other = refl
count_same layout words (suc (suc (suc (suc (suc (suc (suc (suc (suc zero))))))))) low high other = refl
count_same layout words (suc (suc (suc (suc (suc (suc (suc (suc (suc (suc i)))))))))) low high other = absurd (omega arith)

-- the nodes that stay hold, by a pen that is the same
pub held_by : (old new : Pen) (layout : Layout) → new ≡ old → layout ≡ old.plan.layout → Sound old.plan → old.plan.counted ≡ true → IsEven old.plan → Laid new.plan.words layout old.plan.nodes
held_by old new layout same is sound settled even =
    subst (λ (m : Layout). Laid new.plan.words m old.plan.nodes) (sym is) (subst (λ (p : Pen). Laid p.plan.words old.plan.layout old.plan.nodes) (sym same) (whole old.plan sound settled even))

head_same : (layout : Layout) (old : Plan) (i : ℕ) → IsLayout layout → Sound old → 0 < i → i < 16 → i ≢ 3 → slice_index (words_after layout old.words) i ≡ slice_index old.words i
head_same layout old i sizes sound low high other = by (leb 10 i) refl where
  by : (b : Bool) → leb 10 i ≡ b → slice_index (words_after layout old.words) i ≡ slice_index old.words i
  by true t = let far = leb-true 10 i t in behind_counts layout old.words i sizes far high ∙ sym (sound.zeros i far high)
  by false t = let near = leb-false 10 i t in count_same layout old.words i low near other

-- ---- the live entries

-- a usable node is one of those that were slid, at another place
slid_has : (start : ℕ) (nodes : List Placed) (p : Placed) → Among p nodes → p.usable ≡ true → (q : Placed) × Among q (slid start nodes) × (q.node ≡ p.node) × (q.usable ≡ true)
slid_has start [] p among usable = absurd among
slid_has start (r ∷ older) p (inl is) usable =
    let own : r.usable ≡ true = ap (λ (s : Placed). s.usable) (sym is) ∙ usable in
    let first : Placed = record r { place = end_of start (slid start older) } in
    (first, subst (λ (b : Bool). Among first (cond b (first ∷ slid start older) (slid start older))) (sym own) (inl refl), ap (λ (s : Placed). s.node) (sym is), own)
slid_has start (r ∷ older) p (inr more) usable = by r.usable (slid_has start older p more usable) where
  by : (b : Bool) → (q : Placed) × Among q (slid start older) × (q.node ≡ p.node) × (q.usable ≡ true) → (q : Placed) × Among q (cond b (record r { place = end_of start (slid start older) } ∷ slid start older) (slid start older)) × (q.node ≡ p.node) × (q.usable ≡ true)
  by true w = (w.0, inr w.1, w.2, w.3)
  by false w = w

entry_same : (q p : Placed) → q.node ≡ p.node → entry_of q ≡ entry_of p
entry_same q p same = ap (λ (n : Node). entry_of (record { place = 0; node = n; usable = true })) same

sits_slid : (start : ℕ) (history : List Record) (nodes : List Placed) → Sits history nodes → Sits history (slid start nodes)
sits_slid start history nodes sits = record {
  live = λ q among usable. let w = slid_from start nodes q among in subst (IsLive history) (sym (entry_same q w.0 w.2)) (sits.live w.0 w.1 (sym w.3 ∙ usable));
  found = λ e live. let w = sits.found e live in let q = slid_has start nodes w.0 w.1 w.2 in (q.0, q.1, q.3, entry_same q.0 w.0 q.2 ∙ w.3);
  numbers = λ q among. let w = slid_from start nodes q among in subst (λ (n : Node). n.number < loads history) (sym w.2) (sits.numbers w.0 w.1);
  kinds = λ q among. let w = slid_from start nodes q among in subst (λ (n : Node). type_number (kind_of n.kind) ≡ n.kind) (sym w.2) (sits.kinds w.0 w.1);
}

-- ---- the words once their nodes are set

abbrev pub filled_with : Layout → Plan → List ℕ → Plan
filled_with layout old words = record (succeeding layout old) { words = words }

pub copied_shows : (layout : Layout) (old : Plan) (words : List ℕ) → Sound old → IsEven old → Laid words layout (slid (arena_start layout) old.nodes) → ShowsAgain (filled_with layout old words)
copied_shows layout old words sound even laid = slid_by (filled_with layout old words) (slid (arena_start layout) old.nodes) laid (sits_slid (arena_start layout) old.seen old.nodes (sound.shows even).sits)

pub copied : (layout : Layout) (old : Plan) (words : List ℕ) → IsLayout layout → Sound old → old.counted ≡ true → Laid words layout (slid (arena_start layout) old.nodes) → IsSameHead (words_after layout old.words) words → IsCopied layout old (finished (filled_with layout old words))
copied layout old words sizes sound settled laid same =
    let nodes : List Placed = slid (arena_start layout) old.nodes in
    let word : ℕ = slice_index words 0 + 1 in
    let new : List ℕ = set words 0 word in
    let back : nodes_in words layout ≡ nodes = read_back words layout nodes laid in
    let table = laid.table in
    let cycle : slice_index new 0 ≡ word = get_or-set_same words 0 word 0 (omega arith) in
    let was : slice_index words 0 ≡ slice_index old.words 0 + 1 = same 0 (omega arith) (omega arith) in
    record {
      layout_is = refl;
      seen = refl;
      nodes = back;
      settled = settled;
      active = refl;
      laid = subst (Laid new layout) (sym back) (set_head words new layout nodes 0 word (omega arith) (omega arith) refl laid);
      cycle = omega arith;
      heads = λ i low high other. let apart : i ≢ 0 = omega arith in get_or-set_other words 0 i word 0 apart ∙ same i (omega arith) other ∙ head_same layout old i sizes sound low high other;
    }
