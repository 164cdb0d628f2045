use Rattle.std.proofs.Common.{◌≡◌, ℕ, ◌%◌, List, ◌++◌, Bool, cond, eqb, length, slice_index, Option, Some, None, refl, sym, ap, subst, ◌∙◌, arith}
use Rattle.std.proofs.lemmas.List.{with_items_is}
use Rattle.std.specs.Arc.{arc_value}
use Rattle.std.specs.Vec.{with_items}
use Rattle.nsc_base.specs.Buf.{Buf}
use Rattle.nsc_words.specs.declared.layout.Layout.{Layout}
use Rattle.nsc_words.specs.declared.node.Placed.{Placed}
use Rattle.nsc_words.specs.Laid.{Among, Laid, Stands}
use Rattle.nsc_arena.specs.declared.reading.Head.{Head}
use Rattle.nsc_arena.specs.Changes.{IsNodeAt, changed_at, head_of, with_reloads}
use Rattle.nsc_arena.specs.ReadBack.{nodes_in}
use Rattle.nsc_arena.proofs.Changed.{reloads_is}
use Rattle.nsc_arena.proofs.ReadBack.{read_back}
use Rattle.nsc_model.specs.declared.answer.Request.{Request}
use Rattle.nsc_model.specs.declared.kind.Kind.{Kind}
use Rattle.nsc_model.specs.Machine.{Kept, live_entry, next_count, used_now}
use Rattle.nsc_rule.specs.declared.view.Plan.{Plan}
use Rattle.nsc_rule.specs.Entries.{kept_in}
use Rattle.nsc_rule.specs.Pen.{Pen}
use Rattle.nsc_rule.specs.Strokes.{HasNode, reloads_stored, stored}
use Rattle.nsc_shelf.specs.declared.entry.Hit.{Hit as HitOf}
use Rattle.nsc_shelf.specs.declared.finding.Mark.{Mark}
use Rattle.nsc_shelf.specs.Hints.{AreHints, IsAlone}
use Rattle.nsc_shelf.specs.Shelf.{GivesHit, Shelf, shelf_in, slide_of}
use Rattle.nsc_shelf.specs.Uses.{counted}
use Rattle.nsc_shelf.proofs.HeadWords.{hit_counted}
use Rattle.nsc_shelf.proofs.Hinted.{Answering, alone_in, answering, hints_changed_at, unanswered}
use Rattle.nsc_shelf.proofs.Sheets.{sheet_same}
use Rattle.nsc_shelf.proofs.States.{altered_then, reused}
use Rattle.nsc_shelf.proofs.Still.{Moved, Rests, moved, still, still_view}
use Rattle.nsc_writer.specs.Writer.{IsWriter, Writer, cache_of, writer_of}
use Rattle.nsc_writer.proofs.Moved.{moved_still, moved_view}
use Rattle.nsc_writer.proofs.Told.{used_tells}
use Rattle.nsc_writer.proofs.Used.{anew}
use Rattle.nsc_writer.proofs.writer.Writer.search.Goals as goal
use Rattle.nsc_writer.proofs.writer.Writer.search.Goals.{In-Some, After-find, After-head_at-head, After-read_reply, After-count_use}

rests : (c : After-find) → Rests c.self.inside.sheet.plan c.self.inside.layout c.self.inside.live c.self.inside.mark c.self.inside.hints.items
rests c = let none : slide_of c.self.inside.sheet.plan.words ≡ None = ap (λ (v : Writer). v.slide) c.self.view_is ∙ c.requires.still in still none c.self.invariant.held

-- all usable nodes that answer the request are one
alone : (c : After-find) → IsAlone c.number.result c.args.key.now (nodes_in c.self.inside.sheet.plan.words c.self.inside.layout)
alone c =
    let w = c.self.inside in
    let is = (rests c).shelf in
    subst (λ (k : ℕ). IsAlone k c.args.key.now (nodes_in w.sheet.plan.words w.layout)) (sym c.number.ensures) (alone_in (nodes_in w.sheet.plan.words w.layout) (slice_index w.sheet.plan.words 4) c.args.kind c.args.key.now is.entries is.laid.rising)

-- the node that was found
found : (c : In-Some) → Rests c.self.inside.sheet.plan c.self.inside.layout c.self.inside.live c.self.inside.mark c.self.inside.hints.items → IsAlone c.number.result c.args.key.now (nodes_in c.self.inside.sheet.plan.words c.self.inside.layout) → Answering c.self.inside.sheet.plan.words c.self.inside.layout c.args.kind c.args.key.now c.in-Some.at
found c r one = let w = c.self.inside in answering w.sheet.plan.words w.layout w.live w.mark c.args.kind c.args.key.now c.number.result c.in-Some.at r.shelf c.number.ensures (c.in-Some.ensures.newest one)

-- its head was read
read : (c : After-head_at-head) (n : Answering c.self.inside.sheet.plan.words c.self.inside.layout c.args.kind c.args.key.now c.in-Some.at) → IsNodeAt c.head_at-head.new.table.plan.words c.in-Some.at n.node × (c.head_at-head.result ≡ head_of n.node)
read c n = (
  subst (λ (ws : List ℕ). IsNodeAt ws c.in-Some.at n.node) (sym (c.head_at-head.ensures.same ∙ c.find.ensures.same)) n.here,
  c.head_at-head.ensures.head n.node (subst (λ (ws : List ℕ). Stands ws n.node) (sym c.find.ensures.same) n.here.stands) n.here.place,
)

-- and its reply
told : (c : After-read_reply) (p : Placed) → IsNodeAt c.head_at-head.new.table.plan.words c.in-Some.at p × (c.head_at-head.result ≡ head_of p) → c.read_reply.new.reply ≡ record { content = p.node.reply; limit = c.args.reply.now.limit }
told c p is = c.read_reply.ensures.reply p is.0 is.1 ∙ ap (λ (b : Buf). record b { content = b.content ++ p.node.reply }) c.clear.ensures

same : (c : After-read_reply) → c.read_reply.new.words ≡ c.self.inside.sheet
same c = sheet_same c.self.inside.sheet c.read_reply.new.words (c.read_reply.ensures.same ∙ c.head_at-head.ensures.same ∙ c.find.ensures.same) (c.read_reply.ensures.rest ∙ c.head_at-head.ensures.rest ∙ c.find.ensures.rest)

-- it was used, and that was counted
record Hit (pen pen' : Pen) (layout : Layout) (live : ℕ) (mark : Mark) (hints : List ℕ) (r : Request) (not_found : Bool) : Type 0 where
  plan : Plan
  is : pen' ≡ record pen { plan = plan }
  seen : plan.seen ≡ pen.plan.seen
  moved : Moved pen.plan plan layout live mark hints (λ s. record s { entries = used_now r s.entries; hits = counted not_found s.hits })

hit : (pen mid pen' : Pen) (layout : Layout) (live : ℕ) (mark : Mark) (old_hints hints : List ℕ) (kind : Kind) (key : List ℕ) (at : ℕ) (h : Head) (n : Answering pen.plan.words layout kind key at) → Rests pen.plan layout live mark old_hints → h ≡ head_of n.node → mid ≡ cond (eqb h.reloads 0) pen (record pen { plan = reloads_stored at 0 pen.plan })
    → pen' ≡ record mid { plan = stored (cond h.not_found 6 5) (next_count (slice_index mid.plan.words (cond h.not_found 6 5))) mid.plan } → AreHints hints layout (nodes_in pen.plan.words layout) → Hit pen pen' layout live mark hints (record { kind = kind; key = key }) h.not_found
hit pen mid pen' layout live mark old_hints hints kind key at h n r head used counts hinted =
    let nodes : List Placed = nodes_in pen.plan.words layout in
    let u = anew pen mid layout nodes n.node at h.reloads used r.shelf.sizes r.shelf.laid r.back n.among n.here.place (ap (λ (x : Head). x.reloads) head) in
    let plan' : Plan = u.0 in
    let a = u.2 in
    let place : ℕ = cond h.not_found 6 5 in
    let word : ℕ = next_count (slice_index plan'.words place) in
    let was = reused pen.plan.words plan'.words layout live mark kind key n.node at r.shelf a.laid a.head n.among n.here.place n.answers in
    let c = hit_counted plan'.words (stored place word plan').words layout live mark h.not_found refl was.shelf in
    let both = altered_then was c.altered in
    let back = read_back plan'.words layout (changed_at at (with_reloads 0) nodes) a.laid ∙ sym a.nodes_are in
    record {
      plan = stored place word plan';
      is = counts ∙ ap (λ (q : Pen). record q { plan = stored place (next_count (slice_index q.plan.words place)) q.plan }) u.1;
      seen = a.seen;
      moved = moved hints (λ (s : Shelf). record s { entries = used_now (record { kind = kind; key = key }) s.entries; hits = counted h.not_found s.hits }) r a.layout_is (a.counted_is ∙ r.settled) (subst (Laid (stored place word plan').words layout) back c.laid)
          (record { cycle = both.cycle; epoch = both.epoch; source = both.source; shelf = both.shelf; view = both.view ∙ ap (λ (s : Shelf). record s { hits = counted h.not_found s.hits }) was.view })
          (subst (AreHints hints layout) (sym a.nodes_are) (hints_changed_at at (with_reloads 0) hints nodes (reloads_is 0) hinted));
    }

hit_by : (c : After-count_use) → Rests c.self.inside.sheet.plan c.self.inside.layout c.self.inside.live c.self.inside.mark c.self.inside.hints.items → (n : Answering c.self.inside.sheet.plan.words c.self.inside.layout c.args.kind c.args.key.now c.in-Some.at) → c.head_at-head.result ≡ head_of n.node → c.read_reply.new.words ≡ c.self.inside.sheet
    → Hit c.self.inside.sheet c.count_use.new.self c.self.inside.layout c.self.inside.live c.self.inside.mark (with_items c.self.inside.hints c.find.new.hints).items (record { kind = c.args.kind; key = c.args.key.now }) c.head_at-head.result.not_found
hit_by c r n head stays =
    let w = c.self.inside in
    let size : length c.find.new.hints ≡ w.hints.len = omega (arith, c.deref_mut.ensures.len, w.hints.ok.0) in
    hit w.sheet c.count_anew.new.self c.count_use.new.self w.layout w.live w.mark w.hints.items (with_items w.hints c.find.new.hints).items c.args.kind c.args.key.now c.in-Some.at c.head_at-head.result n r head
    (c.count_anew.ensures ∙ ap (λ (q : Pen). cond (eqb c.head_at-head.result.reloads 0) q (record q { plan = reloads_stored c.in-Some.at 0 q.plan })) stays) c.count_use.ensures
    (subst (λ (hs : List ℕ). AreHints hs w.layout (nodes_in w.sheet.plan.words w.layout)) (sym (with_items_is w.hints c.find.new.hints size)) c.find.ensures.hinted)

pub find-requires-clause-laid : goal.find-requires-clause-laid
find-requires-clause-laid c = let none : slide_of c.self.inside.sheet.plan.words ≡ None = ap (λ (v : Writer). v.slide) c.self.view_is ∙ c.requires.still in (still none c.self.invariant.held).shelf.laid

pub find-requires-clause-hints : goal.find-requires-clause-hints
find-requires-clause-hints c =
    let w = c.self.inside in
    let none : slide_of w.sheet.plan.words ≡ None = ap (λ (v : Writer). v.slide) c.self.view_is ∙ c.requires.still in
    let r = still none c.self.invariant.held in
    subst (λ (hs : List ℕ). AreHints hs w.layout (nodes_in w.sheet.plan.words w.layout)) (sym c.deref_mut.ensures.value) (subst (AreHints w.hints.items w.layout) (sym r.back) r.hinted)

pub head_at-head-requires-clause-inside : goal.head_at-head-requires-clause-inside
head_at-head-requires-clause-inside c =
    let at = goal.at.head_at-head-requires-clause-inside c in
    let same : length c.find.new.words.plan.words ≡ length c.self.inside.sheet.plan.words = ap length c.find.ensures.same in
    omega (arith, (found at.In-Some (rests at.After-find) (alone at.After-find)).here.inside, same)

pub read_reply-requires-clause-node : goal.read_reply-requires-clause-node
read_reply-requires-clause-node c =
    let at = goal.at.read_reply-requires-clause-node c in
    let n = found at.In-Some (rests at.After-find) (alone at.After-find) in
    let is = read at.After-head_at-head n in
    (n.node, is.0, is.1)

pub count_anew-requires-clause-even : goal.count_anew-requires-clause-even
count_anew-requires-clause-even c =
    let at = goal.at.count_anew-requires-clause-even c in
    ap (λ (q : Pen). slice_index q.plan.words 0 % 2) (same at.After-read_reply) ∙ (rests at.After-find).even

pub count_anew-requires-clause-node : goal.count_anew-requires-clause-node
count_anew-requires-clause-node c =
    let at = goal.at.count_anew-requires-clause-node c in
    let r = rests at.After-find in
    let n = found at.In-Some r (alone at.After-find) in
    subst (λ (q : Pen). HasNode q.plan c.in-Some.at) (sym (same at.After-read_reply)) (n.node, subst (Among n.node) r.back n.among, n.here.place)

pub invariant_of-self : goal.invariant_of-self
invariant_of-self c =
    let w = c.self.inside in
    let r = rests (goal.at.invariant_of-self c).After-find in
    let held = c.self.invariant.held in
    let size : length c.find.new.hints ≡ w.hints.len = omega (arith, c.deref_mut.ensures.len, w.hints.ok.0) in
    let hints : List ℕ = (with_items w.hints c.find.new.hints).items in
    let hinted : AreHints hints w.layout w.sheet.plan.nodes = subst (λ (hs : List ℕ). AreHints hs w.layout w.sheet.plan.nodes) (sym (with_items_is w.hints c.find.new.hints size)) (subst (AreHints c.find.new.hints w.layout) r.back c.find.ensures.hinted) in
    let now : IsWriter w.sheet w.layout (arc_value w.content) w.live w.mark hints = record { held = record { laid_out = held.laid_out; settled = held.settled; sizes = held.sizes; laid = held.laid; entries = held.entries; counted = held.counted; live = held.live; marked = held.marked; hinted = hinted }; tells = c.self.invariant.tells } in
    subst (λ (q : Pen). IsWriter q w.layout (arc_value w.content) w.live w.mark hints) (sym (sheet_same w.sheet c.find.new.words c.find.ensures.same c.find.ensures.rest)) now

pub invariant_of-self-2 : goal.invariant_of-self-2
invariant_of-self-2 c =
    let at = goal.at.invariant_of-self-2 c in
    let w = c.self.inside in
    let r = rests at.After-find in
    let n = found at.In-Some r (alone at.After-find) in
    let m = hit_by at.After-count_use r n (read at.After-head_at-head n).1 (same at.After-read_reply) in
    moved_still w.sheet w.sheet.plan.seen m.is m.seen m.moved (used_tells w.sheet.plan.seen (cache_of (arc_value w.content) (slice_index w.sheet.plan.words 2) (slice_index w.sheet.plan.words 1) (shelf_in w.sheet.plan.nodes w.sheet.plan.words w.layout)) (record { kind = c.args.kind; key = c.args.key.now }) c.self.invariant.tells)

pub returns-in_default-clause-stays : goal.returns-in_default-clause-stays
returns-in_default-clause-stays c = let w = c.self.inside in ap (λ (q : Pen). writer_of q w.layout (arc_value w.content)) (sheet_same w.sheet c.find.new.words c.find.ensures.same c.find.ensures.rest) ∙ c.self.view_is

pub returns-in_default-clause-gives : goal.returns-in_default-clause-gives
returns-in_default-clause-gives c =
    let at = goal.at.returns-in_default-clause-gives c in
    let w = c.self.inside in
    let r : Request = record { kind = c.args.kind; key = c.args.key.now } in
    let is = rests at.After-find in
    let unfound = sym (unanswered w.sheet.plan.words w.layout w.live w.mark c.args.kind c.args.key.now c.number.result is.shelf c.number.ensures (c.in_default.ensures.newest (alone at.After-find)))
    ∙ ap (λ (s : Shelf). live_entry r s.entries) (still_view w.sheet.plan w.layout is.back) ∙ ap (λ (v : Writer). live_entry r v.cache.entries) c.self.view_is in
    subst (λ (o : Option Kept). GivesHit o None c.clear.new.self.content) unfound refl

pub returns-clause-gives : goal.returns-clause-gives
returns-clause-gives c =
    let at = goal.at.returns-clause-gives c in
    let w = c.self.inside in
    let q : Request = record { kind = c.args.kind; key = c.args.key.now } in
    let r = rests at.After-find in
    let n = found at.In-Some r (alone at.After-find) in
    let is = read at.After-head_at-head n in
    let said : Option HitOf = Some (record { number = c.head_at-head.result.number; version = c.head_at-head.result.version; not_found = c.head_at-head.result.not_found }) in
    let live = sym n.live ∙ ap (λ (s : Shelf). live_entry q s.entries) (still_view w.sheet.plan w.layout r.back) ∙ ap (λ (v : Writer). live_entry q v.cache.entries) c.self.view_is in
    let gives : GivesHit (Some (kept_in n.node)) said c.read_reply.new.reply.content = ((λ i. Some (record { number = (is.1 i).number; version = (is.1 i).version; not_found = (is.1 i).not_found })), ap (λ (b : Buf). b.content) (told at.After-read_reply n.node is)) in
    subst (λ (o : Option Kept). GivesHit o said c.read_reply.new.reply.content) live gives

pub returns-clause-used : goal.returns-clause-used
returns-clause-used c =
    let at = goal.at.returns-clause-used c in
    let w = c.self.inside in
    let r = rests at.After-find in
    let n = found at.In-Some r (alone at.After-find) in
    let m = hit_by at.After-count_use r n (read at.After-head_at-head n).1 (same at.After-read_reply) in
    moved_view w.sheet (arc_value w.content) w.sheet.plan.seen m.is m.seen m.moved
    ∙ ap (λ (v : Writer). record v { cache = record v.cache { entries = used_now (record { kind = c.args.kind; key = c.args.key.now }) v.cache.entries }; hits = counted c.head_at-head.result.not_found v.hits }) c.self.view_is

pub returns-clause-limit : goal.returns-clause-limit
returns-clause-limit c =
    let at = goal.at.returns-clause-limit c in
    let n = found at.In-Some (rests at.After-find) (alone at.After-find) in
    ap (λ (b : Buf). b.limit) (told at.After-read_reply n.node (read at.After-head_at-head n))
