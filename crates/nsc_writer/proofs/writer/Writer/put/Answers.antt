use Rattle.std.proofs.Common.{◌≡◌, ℕ, ◌+◌, ◌%◌, ◌<◌, ◌≤◌, inl, List, ◌∷◌, length, length-set, set, slice_index, true, None, refl, sym, ap, subst, ◌∙◌, arith, get_or-set_same}
use Rattle.std.proofs.lemmas.List.{with_items_is}
use Rattle.std.specs.Arc.{arc_value}
use Rattle.std.specs.Vec.{with_items}
use Rattle.nsc_words.specs.declared.layout.Layout.{Layout}
use Rattle.nsc_words.specs.declared.node.Placed.{Placed}
use Rattle.nsc_words.specs.Hash.{hash_of}
use Rattle.nsc_words.specs.Laid.{bucket_in, end_of, words_in}
use Rattle.nsc_words.specs.Layout.{arena_start, table_words}
use Rattle.nsc_arena.specs.Changes.{IsNext, IsNodeAt, node_of, usable_at}
use Rattle.nsc_arena.specs.ReadBack.{placed_in}
use Rattle.nsc_arena.specs.Written.{IsSameBelow}
use Rattle.nsc_arena.proofs.Chains.{next_at}
use Rattle.nsc_arena.proofs.ReadBack.{node_back}
use Rattle.nsc_arena.proofs.Rows.{end_after}
use Rattle.nsc_model.specs.declared.kind.Kind.{Kind}
use Rattle.nsc_model.specs.declared.record.Record.TheVariants.{Load}
use Rattle.nsc_model.specs.Answer.{Answer}
use Rattle.nsc_model.specs.History.{Legal, loads}
use Rattle.nsc_model.specs.Kinds.{type_number}
use Rattle.nsc_model.specs.Machine.{Kept}
use Rattle.nsc_laws.specs.Calls.{Tells}
use Rattle.nsc_laws.proofs.MachineLawParts.{inserted_by}
use Rattle.nsc_rule.specs.Entries.{entry_of, kept_in, kind_of}
use Rattle.nsc_rule.specs.Pen.{Pen}
use Rattle.nsc_rule.specs.Plans.{end_in}
use Rattle.nsc_rule.specs.Strokes.{IsReady, node_counted, published, stored}
use Rattle.nsc_rule.proofs.Callers.{ready_by}
use Rattle.nsc_shelf.specs.Hints.{AreHints}
use Rattle.nsc_shelf.specs.Shelf.{slide_of}
use Rattle.nsc_shelf.proofs.Entries.{few_entries}
use Rattle.nsc_shelf.proofs.Hinted.{hints_more, hints_noted}
use Rattle.nsc_shelf.proofs.Sheets.{sheet_with}
use Rattle.nsc_shelf.proofs.States.{kind_back}
use Rattle.nsc_shelf.proofs.Still.{Rests, still}
use Rattle.nsc_writer.specs.Loaded.{Loaded, kept_of}
use Rattle.nsc_writer.specs.Writer.{IsAdmitted, IsAnswered, Writer, with_entry, writer_of}
use Rattle.nsc_writer.proofs.Moved.{moved_still, moved_view}
use Rattle.nsc_writer.proofs.Put.{IsWrittenAt, led, led_head, led_next, led_stands, link_low, put_moved, put_plan, put_words}
use Rattle.nsc_writer.proofs.Told.{loaded_tells}
use Rattle.nsc_writer.proofs.writer.Writer.put.Goals as goal
use Rattle.nsc_writer.proofs.writer.Writer.put.Goals.{In-Some, After-lead-bucket, After-publish, After-note}

-- the history tells of it
told_by : (v w : Writer) (l : Loaded) → v ≡ w → Tells v.seen v.cache → IsAdmitted w l → IsAnswered w.seen l → Tells (Load (kept_of l v.cache.inserted).entry ∷ v.seen) (inserted_by (kept_of l v.cache.inserted) v.cache)
told_by v w l same told free answered =
    let here = subst (λ (x : Writer). IsAdmitted x l × IsAnswered x.seen l) (sym same) (free, answered) in
    loaded_tells v.seen v.cache l told here.0.noted here.0.new here.1

-- the new node
abbrev node : In-Some → Placed
node c = usable_at c.in-Some.at (node_of (record { number = c.args.number; kind = c.number.result; version = c.stamp.result.version; timeout = c.timeout.result; reloads = c.reloads.result; not_found = c.is_not_found.result }) c.key-key.result.now c.bytes-reply.result.now)

-- what is known of it
record Known (c : In-Some) : Type 0 where
  rests : Rests c.self.inside.sheet.plan c.self.inside.layout c.self.inside.live c.self.inside.mark c.self.inside.hints.items
  number : c.args.number ≡ slice_index c.self.inside.sheet.plan.words 4
  kind : c.number.result ≡ type_number c.args.loaded.now.request.kind
  kept : kept_in (node c) ≡ kept_of c.args.loaded.now (slice_index c.self.inside.sheet.plan.words 4)
  next : IsNext c.place_bytes.new.table.plan.words c.self.inside.layout c.self.inside.sheet.plan.nodes (node c)
  here : IsNodeAt c.place_bytes.new.table.plan.words c.in-Some.at (node c)

known : (c : In-Some) → Known c
known c =
    let w = c.self.inside in
    let l : Loaded = c.args.loaded.now in
    let none : slide_of w.sheet.plan.words ≡ None = ap (λ (v : Writer). v.slide) c.self.view_is ∙ c.requires.still in
    let rests = still none c.self.invariant.held in
    let number = c.requires.number ∙ ap (λ (v : Writer). v.cache.inserted) (sym c.self.view_is) in
    let numbered : c.number.result ≡ type_number l.request.kind = c.number.ensures ∙ ap type_number c.kind.ensures in
    let kind : kind_of c.number.result ≡ l.request.kind = ap kind_of numbered ∙ kind_back l.request.kind in
    let key : c.key-key.result.now ≡ l.request.key = c.key-key.ensures.value in
    let bytes : c.bytes-reply.result.now ≡ l.answer.bytes = c.bytes-reply.ensures.value ∙ ap (λ (a : Answer). a.bytes) c.answer-2.ensures in
    let not_found : c.is_not_found.result ≡ l.answer.not_found = c.is_not_found.ensures ∙ ap (λ (a : Answer). a.not_found) c.answer.ensures in
    let placed = c.in-Some.ensures.placed in
    let first = rests.laid.first_free in
    let next : IsNext c.place_bytes.new.table.plan.words w.layout w.sheet.plan.nodes (node c) = record {
      laid = c.place_bytes.ensures.laid w.sheet.plan.nodes rests.laid;
      place = placed.0 ∙ first;
      room = placed.1;
      usable = refl;
      stands = placed.2;
      newest = λ q among. omega (arith, c.self.invariant.held.entries.numbers q among, number);
    } in
    record {
      rests = rests;
      number = number;
      kind = numbered;
      kept = λ i. record { entry = record { number = number i; request = record { kind = kind i; key = key i }; version = (c.stamp.ensures i).version; answer = record { bytes = bytes i; not_found = not_found i }; timeout = c.timeout.ensures i }; reloads = c.reloads.ensures i };
      next = next;
      here = next_at c.place_bytes.new.table.plan.words w.layout w.sheet.plan.nodes (node c) c.in-Some.at rests.shelf.sizes next refl;
    }

pub lead-bucket-requires-clause-hash : goal.lead-bucket-requires-clause-hash
lead-bucket-requires-clause-hash c p here =
    let i = (goal.at.lead-bucket-requires-clause-hash c).In-Some in
    let own = (known i).here in
    let words : List ℕ = c.place_bytes.new.table.plan.words in
    let same : node i ≡ p = sym (node_back words (node i) own.stands) ∙ ap (placed_in words) (sym here.place) ∙ node_back words p here.stands in
    c.hash-hash.ensures ∙ ap (λ (q : Placed). hash_of q.node.kind q.node.key) same

-- it was written, and its NEXT set
written : (c : After-lead-bucket) (n : Placed) → Rests c.self.inside.sheet.plan c.self.inside.layout c.self.inside.live c.self.inside.mark c.self.inside.hints.items → IsNext c.place_bytes.new.table.plan.words c.self.inside.layout c.self.inside.sheet.plan.nodes n → IsNodeAt c.place_bytes.new.table.plan.words c.in-Some.at n → c.args.number ≡ slice_index c.self.inside.sheet.plan.words 4 → n.node.number ≡ c.args.number
    → IsWrittenAt c.self.inside.sheet.plan c.self.inside.layout c.place_bytes.new.table.plan.words n c.lead-bucket.result.0 c.lead-bucket.result.1 c.args.number
written c n rests next here number numbered =
    let gives = c.lead-bucket.ensures.gives n here in
    let place = here.place in
    record {
      sizes = rests.shelf.sizes;
      next = next;
      below = subst (IsSameBelow c.self.inside.sheet.plan.words c.place_bytes.new.table.plan.words) (sym place) c.in-Some.ensures.placed.3;
      bucket_is = ap (λ (r : ℕ × ℕ). r.0) gives;
      end_is = ap (λ (r : ℕ × ℕ). r.1) gives ∙ ap (λ (at : ℕ). at + words_in n.node) (sym place);
      number_is = number;
      numbered = numbered ∙ number;
    }

-- the pen then
led_pen : (c : After-lead-bucket) → c.lead-bucket.new.table ≡ record c.self.inside.sheet { plan = record c.self.inside.sheet.plan { words = led c.place_bytes.new.table.plan.words c.in-Some.at c.lead-bucket.result.0 } }
led_pen c =
    let placed = sheet_with c.self.inside.sheet c.place_bytes.new.table c.place_bytes.ensures.rest in
    sheet_with c.place_bytes.new.table c.lead-bucket.new.table c.lead-bucket.ensures.rest
    ∙ (λ i. record (placed i) { plan = record (placed i).plan { words = c.lead-bucket.ensures.set i } })

-- it may be linked, and is what is read of the words
linked : (pen : Pen) (layout : Layout) (mid : List ℕ) (n : Placed) (bucket end number : ℕ) (kind : Kind) (k : Kept) → pen.plan.layout ≡ layout → pen.plan.counted ≡ true → slice_index pen.plan.words 0 % 2 ≡ 0 → IsWrittenAt pen.plan layout mid n bucket end number → n.usable ≡ true → n.node.kind ≡ type_number kind → kept_in n ≡ k → Legal (Load k.entry ∷ pen.plan.seen)
    → (placed_in (led mid n.place bucket) n.place ≡ n) × IsReady (record pen.plan { words = led mid n.place bucket }) bucket n.place
linked pen layout mid n bucket end number kind k laid_out settled even is usable kinds kept legal = ready_by (record pen.plan { words = led mid n.place bucket }) bucket n (record {
  even = ap (λ (w : ℕ). w % 2) (led_head is 0 (omega arith)) ∙ even;
  counted = settled;
  place = is.next.place ∙ ap (λ (m : Layout). end_of (arena_start m) pen.plan.nodes) (sym laid_out);
  room = subst (λ (m : Layout). n.place + words_in n.node ≤ table_words m) (sym laid_out) is.next.room;
  stands = led_stands is;
  usable = usable;
  kind = subst (λ (x : ℕ). type_number (kind_of x) ≡ x) (sym kinds) (ap type_number (kind_back kind));
  bucket = is.bucket_is ∙ ap (λ (m : Layout). bucket_in m n) (sym laid_out);
  next = led_next is;
  legal = subst (λ (x : Kept). Legal (Load x.entry ∷ pen.plan.seen)) (sym kept) legal;
})

pub publish-requires : goal.publish-requires
publish-requires c =
    let at = goal.at.publish-requires c in
    let w = c.self.inside in
    let l : Loaded = c.args.loaded.now in
    let i = at.In-Some in
    let k = known i in
    let v : Writer = writer_of w.sheet w.layout (arc_value w.content) in
    let told = told_by v c.args.self.now l c.self.view_is c.self.invariant.tells c.requires.free c.requires.answered in
    let is = written at.After-lead-bucket (node i) k.rests k.next k.here k.number refl in
    subst (λ (p : Pen). IsReady p.plan c.lead-bucket.result.0 c.in-Some.at) (sym (led_pen at.After-lead-bucket))
    (linked w.sheet w.layout c.place_bytes.new.table.plan.words (node i) c.lead-bucket.result.0 c.lead-bucket.result.1 c.args.number l.request.kind (kept_of l (slice_index w.sheet.plan.words 4)) k.rests.laid_out k.rests.settled k.rests.even is refl k.kind k.kept told.legal).1

-- the pen once the node was linked, with what its nodes are then
linked_pen : (c : After-publish) → c.lead-bucket.new.table ≡ record c.self.inside.sheet { plan = record c.self.inside.sheet.plan { words = led c.place_bytes.new.table.plan.words c.in-Some.at c.lead-bucket.result.0 } }
    → c.publish.new.self ≡ record c.self.inside.sheet { plan = published c.lead-bucket.result.0 c.in-Some.at (record c.self.inside.sheet.plan { words = led c.place_bytes.new.table.plan.words c.in-Some.at c.lead-bucket.result.0 }) }
linked_pen c is = c.publish.ensures ∙ ap (λ (p : Pen). record p { plan = published c.lead-bucket.result.0 c.in-Some.at p.plan }) is

-- the place behind the node is the one behind the nodes then, and one more was inserted
record Last (pen : Pen) (end number : ℕ) : Type 0 where
  end_is : end ≡ end_in pen.plan
  long : 4 < length pen.plan.words
  all : number + 1 ≡ loads pen.plan.seen

last : (pen pen' : Pen) (layout : Layout) (mid : List ℕ) (n : Placed) (bucket end number : ℕ) → IsWrittenAt pen.plan layout mid n bucket end number → placed_in (led mid n.place bucket) n.place ≡ n → loads pen.plan.seen ≡ slice_index pen.plan.words 4
    → pen' ≡ record pen { plan = published bucket n.place (record pen.plan { words = led mid n.place bucket }) } → Last pen' end number
last pen pen' layout mid n bucket end number is back inserted same =
    let one : List ℕ = led mid n.place bucket in
    let low = link_low is in
    let size : length (set one bucket n.place) ≡ length mid = length-set one bucket n.place ∙ length-set mid (n.place + 7) (slice_index mid bucket) in
    let here : Last (record pen { plan = published bucket n.place (record pen.plan { words = one }) }) end number = record {
      end_is = is.end_is ∙ ap (λ (q : Placed). q.place + words_in q.node) (sym back);
      long = omega (arith, size, low.0, low.1, low.2);
      all = omega (arith, is.number_is, inserted);
    } in
    subst (λ (p : Pen). Last p end number) (sym same) here

-- FIRST_FREE was put right
first_is : (pen pen' : Pen) (end number : ℕ) → Last pen end number → pen' ≡ record pen { plan = stored 3 end pen.plan } → (slice_index pen'.plan.words 3 ≡ end_in pen'.plan) × (number + 1 ≡ loads pen'.plan.seen)
first_is pen pen' end number l same =
    let long = l.long in
    subst (λ (p : Pen). (slice_index p.plan.words 3 ≡ end_in p.plan) × (number + 1 ≡ loads p.plan.seen)) (sym same) (get_or-set_same pen.plan.words 3 end 0 (omega arith) ∙ l.end_is, l.all)

pub set_first_free-requires : goal.set_first_free-requires
set_first_free-requires c =
    let at = goal.at.set_first_free-requires c in
    let w = c.self.inside in
    let l : Loaded = c.args.loaded.now in
    let i = at.In-Some in
    let f = known i in
    let k : Kept = kept_of l (slice_index w.sheet.plan.words 4) in
    let v : Writer = writer_of w.sheet w.layout (arc_value w.content) in
    let told = told_by v c.args.self.now l c.self.view_is c.self.invariant.tells c.requires.free c.requires.answered in
    let is = written at.After-lead-bucket (node i) f.rests f.next f.here f.number refl in
    let back = (linked w.sheet w.layout c.place_bytes.new.table.plan.words (node i) c.lead-bucket.result.0 c.lead-bucket.result.1 c.args.number l.request.kind k f.rests.laid_out f.rests.settled f.rests.even is refl f.kind f.kept told.legal).0 in
    (last w.sheet c.publish.new.self w.layout c.place_bytes.new.table.plan.words (node i) c.lead-bucket.result.0 c.lead-bucket.result.1 c.args.number is back c.self.invariant.tells.loads_are (linked_pen at.After-publish (led_pen at.After-lead-bucket))).end_is

pub set_loads-requires : goal.set_loads-requires
set_loads-requires c =
    let at = goal.at.set_loads-requires c in
    let w = c.self.inside in
    let l : Loaded = c.args.loaded.now in
    let i = at.In-Some in
    let f = known i in
    let k : Kept = kept_of l (slice_index w.sheet.plan.words 4) in
    let v : Writer = writer_of w.sheet w.layout (arc_value w.content) in
    let told = told_by v c.args.self.now l c.self.view_is c.self.invariant.tells c.requires.free c.requires.answered in
    let is = written at.After-lead-bucket (node i) f.rests f.next f.here f.number refl in
    let back = (linked w.sheet w.layout c.place_bytes.new.table.plan.words (node i) c.lead-bucket.result.0 c.lead-bucket.result.1 c.args.number l.request.kind k f.rests.laid_out f.rests.settled f.rests.even is refl f.kind f.kept told.legal).0 in
    let is_last = last w.sheet c.publish.new.self w.layout c.place_bytes.new.table.plan.words (node i) c.lead-bucket.result.0 c.lead-bucket.result.1 c.args.number is back c.self.invariant.tells.loads_are (linked_pen at.After-publish (led_pen at.After-lead-bucket)) in
    let said = first_is c.publish.new.self c.set_first_free.new.self c.lead-bucket.result.1 c.args.number is_last c.set_first_free.ensures in
    record { behind = said.0; all = said.1 }

pub overflow_add-self : goal.overflow_add-self
overflow_add-self c =
    let w = c.self.inside in
    let r = (known (goal.at.overflow_add-self c).In-Some).rests in
    let few = few_entries (arena_start w.layout) w.sheet.plan.nodes r.laid.row in
    omega (arith, few, r.laid.room, c.self.invariant.held.live, r.shelf.sizes.buckets, r.shelf.sizes.room)

pub note-requires-clause-from : goal.note-requires-clause-from
note-requires-clause-from c =
    let w = c.self.inside in
    let k = known (goal.at.note-requires-clause-from c).In-Some in
    let low = end_after (arena_start w.layout) w.sheet.plan.nodes k.rests.laid.row in
    omega (arith, low, k.next.place)

-- the pen at last
written_pen : (c : After-note) (n : Placed) (k : Kept) → c.lead-bucket.new.table ≡ record c.self.inside.sheet { plan = record c.self.inside.sheet.plan { words = led c.place_bytes.new.table.plan.words c.in-Some.at c.lead-bucket.result.0 } } → placed_in (led c.place_bytes.new.table.plan.words c.in-Some.at c.lead-bucket.result.0) c.in-Some.at ≡ n → kept_in n ≡ k
    → c.set_loads.new.self ≡ record c.self.inside.sheet { plan = put_plan c.self.inside.sheet.plan (Load k.entry ∷ c.self.inside.sheet.plan.seen) (put_words c.place_bytes.new.table.plan.words c.in-Some.at c.lead-bucket.result.0 c.lead-bucket.result.1 c.args.number) n }
written_pen c n k led_is back kept =
    let w = c.self.inside in
    let words : List ℕ = put_words c.place_bytes.new.table.plan.words c.in-Some.at c.lead-bucket.result.0 c.lead-bucket.result.1 c.args.number in
    c.set_loads.ensures
    ∙ ap (λ (p : Pen). record p { plan = node_counted (c.args.number + 1) p.plan }) (c.set_first_free.ensures ∙ ap (λ (p : Pen). record p { plan = stored 3 c.lead-bucket.result.1 p.plan }) (c.publish.ensures ∙ ap (λ (p : Pen). record p { plan = published c.lead-bucket.result.0 c.in-Some.at p.plan }) led_is))
    ∙ (λ i. record w.sheet { plan = put_plan w.sheet.plan (Load (entry_of (back i)) ∷ w.sheet.plan.seen) words (back i) })
    ∙ (λ i. record w.sheet { plan = put_plan w.sheet.plan (Load (kept i).entry ∷ w.sheet.plan.seen) words n })

hinted : (c : After-note) (n : Placed) → Rests c.self.inside.sheet.plan c.self.inside.layout c.self.inside.live c.self.inside.mark c.self.inside.hints.items → n.place ≡ c.in-Some.at → AreHints (with_items c.self.inside.hints c.note.new.hints).items c.self.inside.layout (n ∷ c.self.inside.sheet.plan.nodes)
hinted c n r place =
    let w = c.self.inside in
    let old : AreHints c.deref_mut.result.now w.layout w.sheet.plan.nodes = subst (λ (hs : List ℕ). AreHints hs w.layout w.sheet.plan.nodes) (sym c.deref_mut.ensures.value) r.hinted in
    let size : length c.note.new.hints ≡ w.hints.len = omega (arith, c.note.ensures.count, c.deref_mut.ensures.len) in
    subst (λ (hs : List ℕ). AreHints hs w.layout (n ∷ w.sheet.plan.nodes)) (sym (with_items_is w.hints c.note.new.hints size))
    (hints_noted c.deref_mut.result.now c.note.new.hints w.layout (n ∷ w.sheet.plan.nodes) n c.in-Some.at (hints_more c.deref_mut.result.now w.sheet.plan.nodes n old) (inl refl) place c.note.ensures.count c.note.ensures.hints)

pub invariant_of-self : goal.invariant_of-self
invariant_of-self c =
    let at = goal.at.invariant_of-self c in
    let w = c.self.inside in
    let l : Loaded = c.args.loaded.now in
    let i = at.In-Some in
    let f = known i in
    let k : Kept = kept_of l (slice_index w.sheet.plan.words 4) in
    let v : Writer = writer_of w.sheet w.layout (arc_value w.content) in
    let told = told_by v c.args.self.now l c.self.view_is c.self.invariant.tells c.requires.free c.requires.answered in
    let free = subst (λ (x : Writer). IsAdmitted x l) (sym c.self.view_is) c.requires.free in
    let is = written at.After-lead-bucket (node i) f.rests f.next f.here f.number refl in
    let back = (linked w.sheet w.layout c.place_bytes.new.table.plan.words (node i) c.lead-bucket.result.0 c.lead-bucket.result.1 c.args.number l.request.kind k f.rests.laid_out f.rests.settled f.rests.even is refl f.kind f.kept told.legal).0 in
    let m = put_moved (Load k.entry ∷ w.sheet.plan.seen) (with_items w.hints c.note.new.hints).items l.request.kind k f.rests c.self.invariant.held is f.kept refl f.kind free.new free.count (hinted at.After-note (node i) f.rests refl) in
    moved_still w.sheet (Load k.entry ∷ w.sheet.plan.seen) (written_pen at.After-note (node i) k (led_pen at.After-lead-bucket) back f.kept) refl m told

pub returns-in-Some : goal.returns-in-Some
returns-in-Some c =
    let at = goal.at.returns-in-Some c in
    let w = c.self.inside in
    let l : Loaded = c.args.loaded.now in
    let i = at.In-Some in
    let f = known i in
    let k : Kept = kept_of l (slice_index w.sheet.plan.words 4) in
    let v : Writer = writer_of w.sheet w.layout (arc_value w.content) in
    let told = told_by v c.args.self.now l c.self.view_is c.self.invariant.tells c.requires.free c.requires.answered in
    let free = subst (λ (x : Writer). IsAdmitted x l) (sym c.self.view_is) c.requires.free in
    let is = written at.After-lead-bucket (node i) f.rests f.next f.here f.number refl in
    let back = (linked w.sheet w.layout c.place_bytes.new.table.plan.words (node i) c.lead-bucket.result.0 c.lead-bucket.result.1 c.args.number l.request.kind k f.rests.laid_out f.rests.settled f.rests.even is refl f.kind f.kept told.legal).0 in
    let m = put_moved (Load k.entry ∷ w.sheet.plan.seen) (with_items w.hints c.note.new.hints).items l.request.kind k f.rests c.self.invariant.held is f.kept refl f.kind free.new free.count (hinted at.After-note (node i) f.rests refl) in
    moved_view w.sheet (arc_value w.content) (Load k.entry ∷ w.sheet.plan.seen) (written_pen at.After-note (node i) k (led_pen at.After-lead-bucket) back f.kept) refl m
    ∙ ap (λ (x : Writer). with_entry (kept_of l x.cache.inserted) x) c.self.view_is
