use Rattle.std.proofs.Common.{◌≡◌, ◌+◌, ◌++◌, List, ℕ, Option, Some, None, refl, sym, ap, subst, ◌∙◌, arith}
use Rattle.nsc_base.specs.Buf.{Buf}
use Rattle.nsc_arena.specs.Changes.{IsNodeAt}
use Rattle.nsc_arena.specs.declared.reading.Head.{Head}
use Rattle.nsc_model.specs.Machine.{Kept}
use Rattle.nsc_rule.specs.Entries.{kept_in, kind_of}
use Rattle.nsc_shelf.specs.declared.entry.EntryAt.{EntryAt}
use Rattle.nsc_shelf.specs.Shelf.{IsTold, entry_from, shelf_in, slide_of}
use Rattle.nsc_shelf.proofs.Still.{Entered, entered, marked, none_entered, still}
use Rattle.std.specs.Arc.{arc_value}
use Rattle.nsc_rule.specs.Pen.{Pen}
use Rattle.nsc_writer.specs.Writer.{IsListed, Writer, writer_of}
use Rattle.nsc_shelf.proofs.Sheets.{sheet_same}
use Rattle.nsc_writer.proofs.Moved.{remarked}
use Rattle.nsc_writer.proofs.writer.Writer.entry.Goals as goal
use Rattle.nsc_writer.proofs.writer.Writer.entry.Goals.{In-Some, After-read_key, After-read_reply}

-- the node that was found, with its key and its reply
found : (c : In-Some) → Entered c.find_from.new.words.plan.words (shelf_in c.self.inside.sheet.plan.nodes c.self.inside.sheet.plan.words c.self.inside.layout) c.args.at c.in-Some.found
found c =
    let none : slide_of c.self.inside.sheet.plan.words ≡ None = ap (λ (v : Writer). v.slide) c.self.view_is ∙ c.requires.still in
    let e = entered c.args.at c.in-Some.found (still none c.self.invariant.held) c.self.invariant.held c.in-Some.ensures.found in
    record { node = e.node; here = subst (λ (ws : List ℕ). IsNodeAt ws c.in-Some.found.at e.node) (sym c.find_from.ensures.same) e.here; head = e.head; entry = e.entry; below = e.below }

key_read : (c : After-read_key) (n : Entered c.find_from.new.words.plan.words (shelf_in c.self.inside.sheet.plan.nodes c.self.inside.sheet.plan.words c.self.inside.layout) c.args.at c.in-Some.found) → c.read_key.new.key ≡ record { content = n.node.node.key; limit = c.args.key.now.limit }
key_read c n = c.read_key.ensures.key n.node n.here n.head ∙ ap (λ (b : Buf). record b { content = b.content ++ n.node.node.key }) c.clear.ensures

still_here : (c : After-read_key) (n : Entered c.find_from.new.words.plan.words (shelf_in c.self.inside.sheet.plan.nodes c.self.inside.sheet.plan.words c.self.inside.layout) c.args.at c.in-Some.found) → IsNodeAt c.read_key.new.words.plan.words c.in-Some.found.at n.node
still_here c n = subst (λ (ws : List ℕ). IsNodeAt ws c.in-Some.found.at n.node) (sym c.read_key.ensures.same) n.here

reply_read : (c : After-read_reply) (n : Entered c.find_from.new.words.plan.words (shelf_in c.self.inside.sheet.plan.nodes c.self.inside.sheet.plan.words c.self.inside.layout) c.args.at c.in-Some.found) → IsNodeAt c.read_key.new.words.plan.words c.in-Some.found.at n.node → c.read_reply.new.reply ≡ record { content = n.node.node.reply; limit = c.args.reply.now.limit }
reply_read c n here = c.read_reply.ensures.reply n.node here n.head ∙ ap (λ (b : Buf). record b { content = b.content ++ n.node.node.reply }) c.clear-2.ensures

-- what was read stays
read_same : (c : After-read_reply) → c.read_reply.new.words ≡ c.self.inside.sheet
read_same c = sheet_same c.self.inside.sheet c.read_reply.new.words (c.read_reply.ensures.same ∙ c.read_key.ensures.same ∙ c.find_from.ensures.same) (c.read_reply.ensures.rest ∙ c.read_key.ensures.rest ∙ c.find_from.ensures.rest)

pub invariant_of-self : goal.invariant_of-self
invariant_of-self c =
    let none : slide_of c.self.inside.sheet.plan.words ≡ None = ap (λ (v : Writer). v.slide) c.self.view_is ∙ c.requires.still in
    remarked c.self.inside.sheet (sheet_same c.self.inside.sheet c.find_from.new.words c.find_from.ensures.same c.find_from.ensures.rest) (marked (still none c.self.invariant.held) c.self.invariant.held c.find_from.ensures.marked) c.self.invariant

pub invariant_of-self-2 : goal.invariant_of-self-2
invariant_of-self-2 c =
    let none : slide_of c.self.inside.sheet.plan.words ≡ None = ap (λ (v : Writer). v.slide) c.self.view_is ∙ c.requires.still in
    remarked c.self.inside.sheet (read_same (goal.at.invariant_of-self-2 c).After-read_reply) (marked (still none c.self.invariant.held) c.self.invariant.held c.find_from.ensures.marked) c.self.invariant

pub read_key-requires-clause-node : goal.read_key-requires-clause-node
read_key-requires-clause-node c = let n = found (goal.at.read_key-requires-clause-node c).In-Some in (n.node, n.here, n.head)

pub read_reply-requires-clause-node : goal.read_reply-requires-clause-node
read_reply-requires-clause-node c =
    let n = found (goal.at.read_reply-requires-clause-node c).In-Some in
    (n.node, still_here (goal.at.read_reply-requires-clause-node c).After-read_key n, n.head)

pub of-requires : goal.of-requires
of-requires c =
    let n = found (goal.at.of-requires c).In-Some in
    let none : slide_of c.self.inside.sheet.plan.words ≡ None = ap (λ (v : Writer). v.slide) c.self.view_is ∙ c.requires.still in
    omega (arith, n.below, ap (λ (h : Head). h.number) n.head, (still none c.self.invariant.held).shelf.counted)

pub returns-in_default-clause-entry : goal.returns-in_default-clause-entry
returns-in_default-clause-entry c =
    let none : slide_of c.self.inside.sheet.plan.words ≡ None = ap (λ (v : Writer). v.slide) c.self.view_is ∙ c.requires.still in
    subst (λ (o : Option Kept). IsListed o None c.clear.new.self.content c.clear-2.new.self.content) (none_entered c.args.at (still none c.self.invariant.held) c.self.invariant.held c.in_default.ensures.found ∙ ap (λ (v : Writer). entry_from c.args.at v.cache.entries) c.self.view_is) refl

pub returns-clause-entry : goal.returns-clause-entry
returns-clause-entry c =
    let at = goal.at.returns-clause-entry c in
    let n = found at.In-Some in
    let h = n.head in
    let told : IsTold (Some (kept_in n.node)) (Some c.of.result) = ap (λ (e : EntryAt). Some e) (c.of.ensures ∙ (λ i. record { number = (h i).number; kind = kind_of (h i).kind; version = (h i).version; timeout = (h i).timeout; reloads = (h i).reloads; not_found = (h i).not_found; next = (h i).number + 1 })) in
    let key = ap (λ (b : Buf). b.content) (key_read at.After-read_key n) in
    let reply = ap (λ (b : Buf). b.content) (reply_read at.After-read_reply n (still_here at.After-read_key n)) in
    subst (λ (o : Option Kept). IsListed o (Some c.of.result) c.read_key.new.key.content c.read_reply.new.reply.content) (n.entry ∙ ap (λ (v : Writer). entry_from c.args.at v.cache.entries) c.self.view_is) (told, key, reply)

pub returns-clause-key : goal.returns-clause-key
returns-clause-key c =
    let at = goal.at.returns-clause-key c in
    ap (λ (b : Buf). b.limit) (key_read at.After-read_key (found at.In-Some))

pub returns-clause-reply : goal.returns-clause-reply
returns-clause-reply c =
    let at = goal.at.returns-clause-reply c in
    let n = found at.In-Some in
    ap (λ (b : Buf). b.limit) (reply_read at.After-read_reply n (still_here at.After-read_key n))

pub returns-in_default-clause-same : goal.returns-in_default-clause-same
returns-in_default-clause-same c =
    let w = c.self.inside in
    ap (λ (p : Pen). writer_of p w.layout (arc_value w.content)) (sheet_same w.sheet c.find_from.new.words c.find_from.ensures.same c.find_from.ensures.rest) ∙ c.self.view_is

pub returns-clause-same : goal.returns-clause-same
returns-clause-same c =
    let w = c.self.inside in
    ap (λ (p : Pen). writer_of p w.layout (arc_value w.content)) (read_same (goal.at.returns-clause-same c).After-read_reply) ∙ c.self.view_is
