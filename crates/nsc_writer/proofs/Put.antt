-- The words and the plan once a node was written behind the others, linked, and counted.
use Rattle.std.proofs.Common.{◌≡◌, ◌≢◌, ℕ, ◌+◌, ◌-◌, ◌<◌, ◌≤◌, true, List, [], ◌∷◌, ◌++◌, length, set, slice_index, None, refl, sym, ap, ◌∙◌, arith, get_or-set_same, get_or-set_other}
use Rattle.std.proofs.lemmas.List.{length-append}
use Rattle.nsc_words.specs.declared.layout.Layout.{Layout}
use Rattle.nsc_words.specs.declared.node.Placed.{Placed}
use Rattle.nsc_words.specs.Laid.{Laid, Stands, bucket_in, end_of, words_in}
use Rattle.nsc_words.specs.Layout.{IsLayout, arena_start}
use Rattle.nsc_arena.specs.Changes.{IsNext}
use Rattle.nsc_arena.specs.Written.{IsSameBelow}
use Rattle.nsc_arena.proofs.Chains.{chained}
use Rattle.nsc_arena.proofs.Rows.{end_after, kept, set_head}
use Rattle.nsc_model.specs.declared.answer.Request.{Request}
use Rattle.nsc_model.specs.declared.kind.Kind.{Kind}
use Rattle.nsc_model.specs.declared.record.Record.{Record}
use Rattle.nsc_model.specs.Kinds.{type_number}
use Rattle.nsc_model.specs.Machine.{Kept, entry_words, last_count, live_entry}
use Rattle.nsc_rule.specs.declared.view.Plan.{Plan}
use Rattle.nsc_rule.specs.Entries.{entries_in, kept_in, request_in}
use Rattle.nsc_rule.proofs.Linked.{bucket_low}
use Rattle.nsc_shelf.specs.declared.finding.Mark.{Mark}
use Rattle.nsc_shelf.specs.Hints.{AreHints}
use Rattle.nsc_shelf.specs.Shelf.{IsHeld, Shelf, shelf_in, shelf_of}
use Rattle.nsc_shelf.proofs.Entries.{one_more}
use Rattle.nsc_shelf.proofs.States.{marked_more, new_entries, shelf_by, view_by}
use Rattle.nsc_shelf.proofs.Still.{Moved, Rests, moved, still_view}

-- the words once the node's NEXT was set, and once all is done
abbrev pub led : List ℕ → ℕ → ℕ → List ℕ
led mid at bucket = set mid (at + 7) (slice_index mid bucket)

abbrev pub put_words : List ℕ → ℕ → ℕ → ℕ → ℕ → List ℕ
put_words mid at bucket end number = set (set (set (led mid at bucket) bucket at) 3 end) 4 (number + 1)

-- what is known when the node was written: it may be linked, and the words below it are as before
pub record IsWrittenAt (plan : Plan) (layout : Layout) (mid : List ℕ) (n : Placed) (bucket end number : ℕ) : Type 0 where
  pub sizes : IsLayout layout
  pub next : IsNext mid layout plan.nodes n
  pub below : IsSameBelow plan.words mid n.place
  pub bucket_is : bucket ≡ bucket_in layout n
  pub end_is : end ≡ n.place + words_in n.node
  pub number_is : number ≡ slice_index plan.words 4
  pub numbered : n.node.number ≡ slice_index plan.words 4

-- the link's word lies before the node
pub link_low : {plan : Plan} {layout : Layout} {mid : List ℕ} {n : Placed} {bucket end number : ℕ} → IsWrittenAt plan layout mid n bucket end number → (16 ≤ bucket) × (bucket < n.place) × (n.place + 8 ≤ length mid)
link_low {plan} {layout} {mid} {n} is =
    let low = bucket_low layout n is.sizes in
    let after = end_after (arena_start layout) plan.nodes is.next.laid.row in
    let bucket = is.bucket_is in
    let place = is.next.place in
    let room = is.next.room in
    let table = is.next.laid.table in
    (omega (arith, low.0), omega (arith, low.1, after), omega arith)

-- the node stands still once its NEXT was set, which leads where its bucket does
pub led_stands : {plan : Plan} {layout : Layout} {mid : List ℕ} {n : Placed} {bucket end number : ℕ} → IsWrittenAt plan layout mid n bucket end number → Stands (led mid n.place bucket) n
led_stands {mid = mid} {n} {bucket} is = kept mid (led mid n.place bucket) n (λ i more other. get_or-set_other mid (n.place + 7) (n.place + i) (slice_index mid bucket) 0 (omega arith)) is.next.stands

pub led_next : {plan : Plan} {layout : Layout} {mid : List ℕ} {n : Placed} {bucket end number : ℕ} → IsWrittenAt plan layout mid n bucket end number → slice_index (led mid n.place bucket) (n.place + 7) ≡ slice_index (led mid n.place bucket) bucket
led_next {mid = mid} {n} {bucket} is =
    let low = link_low is in
    get_or-set_same mid (n.place + 7) (slice_index mid bucket) 0 (omega (arith, low.2)) ∙ sym (get_or-set_other mid (n.place + 7) bucket (slice_index mid bucket) 0 (omega (arith, low.1)))

pub led_head : {plan : Plan} {layout : Layout} {mid : List ℕ} {n : Placed} {bucket end number : ℕ} → IsWrittenAt plan layout mid n bucket end number → (i : ℕ) → i < 16 → slice_index (led mid n.place bucket) i ≡ slice_index plan.words i
led_head {mid = mid} {n} {bucket} is i small =
    let low = link_low is in
    get_or-set_other mid (n.place + 7) i (slice_index mid bucket) 0 (omega (arith, low.0, low.1)) ∙ is.below.below i (omega (arith, low.0, low.1))

-- what the words hold at last, and the numbers at their head
record Put (old new : List ℕ) (layout : Layout) (nodes : List Placed) : Type 0 where
  laid : Laid new layout nodes
  inserted : slice_index new 4 ≡ slice_index old 4 + 1
  other : (i : ℕ) → i < 16 → i ≢ 3 → i ≢ 4 → slice_index new i ≡ slice_index old i

put : {plan : Plan} {layout : Layout} {mid : List ℕ} {n : Placed} {bucket end number : ℕ} → IsWrittenAt plan layout mid n bucket end number → Put plan.words (put_words mid n.place bucket end number) layout (n ∷ plan.nodes)
put {plan} {layout} {mid} {n} {bucket} {end} {number} is =
    let low = link_low is in
    let one : List ℕ = led mid n.place bucket in
    let two : List ℕ = set one bucket n.place in
    let three : List ℕ = set two 3 end in
    let linked : three ≡ set (set (set mid (n.place + 7) (slice_index mid (bucket_in layout n))) (bucket_in layout n) n.place) 3 (n.place + words_in n.node) = λ i. set (set (set mid (n.place + 7) (slice_index mid (is.bucket_is i))) (is.bucket_is i) n.place) 3 (is.end_is i) in
    let laid = chained mid three layout plan.nodes n is.sizes is.next linked in
    let table = laid.table in
    record {
      laid = set_head three (set three 4 (number + 1)) layout (n ∷ plan.nodes) 4 (number + 1) (omega arith) (omega arith) refl laid;
      inserted = get_or-set_same three 4 (number + 1) 0 (omega arith) ∙ ap (λ (k : ℕ). k + 1) is.number_is;
      other = λ i small a b. get_or-set_other three 4 i (number + 1) 0 b ∙ get_or-set_other two 3 i end 0 a ∙ get_or-set_other one bucket i n.place 0 (omega (arith, low.0)) ∙ led_head is i small;
    }

-- the plan then
abbrev pub put_plan : Plan → List Record → List ℕ → Placed → Plan
put_plan plan seen words n = record { layout = plan.layout; seen = seen; words = words; nodes = n ∷ plan.nodes; counted = true; retired = plan.retired }

pub put_moved : {plan : Plan} {layout : Layout} {count : ℕ} {mark : Mark} {hints : List ℕ} {mid : List ℕ} {n : Placed} {bucket end number : ℕ} (seen : List Record) (hints' : List ℕ) (kind : Kind) (k : Kept) → Rests plan layout count mark hints → IsHeld plan layout count mark hints → IsWrittenAt plan layout mid n bucket end number → kept_in n ≡ k → n.usable ≡ true → n.node.kind ≡ type_number kind → live_entry k.entry.request (entries_in plan.nodes) ≡ None → slice_index plan.words 4 < last_count → AreHints hints' layout (n ∷ plan.nodes)
    → Moved plan (put_plan plan seen (put_words mid n.place bucket end number) n) layout (count + 1) mark hints' (λ s. record s { entries = s.entries ++ k ∷ []; used = s.used + entry_words k.entry; inserted = s.inserted + 1 })
put_moved {plan} {layout} {count} {mark} {hints} {mid} {n} {bucket} {end} {number} seen hints' kind k rests held is fresh usable kinds new below hinted =
    let words : List ℕ = put_words mid n.place bucket end number in
    let done = put is in
    let start : ℕ = arena_start layout in
    let nodes : List Placed = plan.nodes in
    let asks : k.entry.request ≡ request_in n = ap (λ (x : Kept). x.entry.request) (sym fresh) in
    let none : live_entry (request_in n) (entries_in nodes) ≡ None = ap (λ (r : Request). live_entry r (entries_in nodes)) (sym asks) ∙ new in
    let four : n.node.number ≡ slice_index plan.words 4 = is.numbered in
    let entries = new_entries nodes n (slice_index plan.words 4) kind held.entries kinds four none in
    let more : length (entries_in (n ∷ nodes)) ≡ length (entries_in nodes) + 1 = ap length (one_more n nodes usable) ∙ length-append (entries_in nodes) (kept_in n ∷ []) in
    let shelf = shelf_by words layout (n ∷ nodes) (slice_index plan.words 4 + 1) (count + 1) mark is.sizes done.laid entries done.inserted (omega arith) (omega (arith, more, held.live)) (marked_more layout nodes n mark.place mark.number held.marked) in
    let taken : entries_in (n ∷ nodes) ≡ entries_in nodes ++ k ∷ [] = one_more n nodes usable ∙ ap (λ (x : Kept). entries_in nodes ++ x ∷ []) fresh in
    let size : words_in n.node ≡ entry_words k.entry = ap (λ (x : Kept). entry_words x.entry) fresh in
    let low = end_after start nodes rests.laid.row in
    let used : end_of start (n ∷ nodes) - start ≡ (end_of start nodes - start) + entry_words k.entry = omega (arith, size, low, is.next.place) in
    let change : Shelf → Shelf = λ s. record s { entries = s.entries ++ k ∷ []; used = s.used + entry_words k.entry; inserted = s.inserted + 1 } in
    let view : shelf_of words layout ≡ change (shelf_of plan.words layout) =
    view_by words layout (n ∷ nodes) (slice_index plan.words 4 + 1) (slice_index plan.words 0) plan.words done.laid done.inserted (done.other 0 (omega arith) (omega arith) (omega arith)) (λ i above high. done.other i (omega arith) (omega arith) (omega arith))
    ∙ (λ i. record (shelf_in nodes plan.words layout) { entries = taken i; used = used i; inserted = slice_index plan.words 4 + 1 }) ∙ ap change (sym (still_view plan layout rests.back)) in
    moved hints' change rests refl refl done.laid
    (record { cycle = done.other 0 (omega arith) (omega arith) (omega arith); epoch = done.other 1 (omega arith) (omega arith) (omega arith); source = done.other 2 (omega arith) (omega arith) (omega arith); shelf = shelf; view = view })
    hinted
