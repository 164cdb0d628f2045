-- A writer whose pen wrote.
use Rattle.std.proofs.Common.{◌≡◌, ℕ, List, slice_index, ap, sym, subst, ◌∙◌}
use Rattle.nsc_words.specs.declared.layout.Layout.{Layout}
use Rattle.nsc_model.specs.declared.record.Record.{Record}
use Rattle.nsc_model.specs.Content.{Content}
use Rattle.nsc_laws.specs.Calls.{Tells}
use Rattle.nsc_rule.specs.declared.view.Plan.{Plan}
use Rattle.nsc_rule.specs.Pen.{Pen}
use Rattle.nsc_shelf.specs.declared.finding.Mark.{Mark}
use Rattle.nsc_shelf.specs.Shelf.{IsHeld, Shelf, shelf_in, slide_of}
use Rattle.nsc_shelf.proofs.Still.{Moved}
use Rattle.nsc_writer.specs.Writer.{IsWriter, cache_of, writer_of}

-- it is one still, where the history tells what its words tell
pub written : {pen : Pen} {layout : Layout} {content : Content} {live : ℕ} {mark : Mark} {hints : List ℕ} (seen : List Record) (version epoch : ℕ) (shelf : Shelf) → IsHeld pen.plan layout live mark hints → pen.plan.seen ≡ seen → slice_index pen.plan.words 2 ≡ version → slice_index pen.plan.words 1 ≡ epoch → shelf_in pen.plan.nodes pen.plan.words layout ≡ shelf → Tells seen (cache_of content version epoch shelf) → IsWriter pen layout content live mark hints
written {content = content} seen version epoch shelf held a b c d tells = record {
  held = held;
  tells = subst (λ (x : List Record × ℕ × ℕ × Shelf). Tells x.0 (cache_of content x.1 x.2 x.3)) (λ i. (sym a i, sym b i, sym c i, sym d i)) tells;
}

-- the same where no slide is under way, and the versions and the invalidations stay
pub moved_still : {pen' : Pen} {plan' : Plan} {layout : Layout} {content : Content} {live : ℕ} {mark : Mark} {hints : List ℕ} {change : Shelf → Shelf} (pen : Pen) (seen : List Record) → pen' ≡ record pen { plan = plan' } → plan'.seen ≡ seen → Moved pen.plan plan' layout live mark hints change → Tells seen (cache_of content (slice_index pen.plan.words 2) (slice_index pen.plan.words 1) (change (shelf_in pen.plan.nodes pen.plan.words layout))) → IsWriter pen' layout content live mark hints
moved_still {pen'} {plan'} {layout} {content} {live} {mark} {hints} {change} pen seen same history m tells =
    let w : IsWriter (record pen { plan = plan' }) layout content live mark hints = written seen (slice_index pen.plan.words 2) (slice_index pen.plan.words 1) (change (shelf_in pen.plan.nodes pen.plan.words layout)) m.held history m.source m.epoch m.view tells in
    subst (λ (p : Pen). IsWriter p layout content live mark hints) (sym same) w

pub moved_view : {pen' : Pen} {plan' : Plan} {layout : Layout} {live : ℕ} {mark : Mark} {hints : List ℕ} {change : Shelf → Shelf} (pen : Pen) (content : Content) (seen : List Record) → pen' ≡ record pen { plan = plan' } → plan'.seen ≡ seen → Moved pen.plan plan' layout live mark hints change
    → writer_of pen' layout content ≡ (let shelf = change (shelf_in pen.plan.nodes pen.plan.words layout) in record { table = pen.table; layout = layout; seen = seen; cache = cache_of content (slice_index pen.plan.words 2) (slice_index pen.plan.words 1) shelf; hits = shelf.hits; misses = shelf.misses; slide = slide_of pen.plan.words })
moved_view {layout = layout} pen content seen same history m =
    ap (λ (p : Pen). writer_of p layout content) same
    ∙ (λ i. record { table = pen.table; layout = layout; seen = history i; cache = cache_of content (m.source i) (m.epoch i) (m.view i); hits = (m.view i).hits; misses = (m.view i).misses; slide = m.going i })

-- the same pen, with another mark
pub remarked : {pen' : Pen} {layout : Layout} {content : Content} {live : ℕ} {mark mark' : Mark} {hints : List ℕ} (pen : Pen) → pen' ≡ pen → IsHeld pen.plan layout live mark' hints → IsWriter pen layout content live mark hints → IsWriter pen' layout content live mark' hints
remarked {layout = layout} {content} {live} {mark' = mark'} {hints} pen same held is = subst (λ (p : Pen). IsWriter p layout content live mark' hints) (sym same) (record { held = held; tells = is.tells })
