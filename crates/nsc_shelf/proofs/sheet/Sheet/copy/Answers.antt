use Rattle.std.proofs.Common.{◌≡◌, ℕ, List, slice_index, sym, ap, subst, ◌∙◌}
use Rattle.nsc_words.specs.Laid.{Laid, slid}
use Rattle.nsc_words.specs.Layout.{arena_start}
use Rattle.nsc_arena.specs.Written.{IsSameHead}
use Rattle.nsc_rule.specs.Map.{Map}
use Rattle.nsc_rule.specs.Pen.{Pen}
use Rattle.nsc_rule.specs.Plans.{words_after}
use Rattle.nsc_rule.specs.Strokes.{ShowsAgain, finished}
use Rattle.nsc_shelf.specs.Copied.{IsCopied}
use Rattle.nsc_shelf.proofs.Copied.{bucket_empty, copied, copied_shows, filled_with, held_by}
use Rattle.nsc_shelf.proofs.Sheets.{sheet_with}
use Rattle.nsc_shelf.proofs.sheet.Sheet.copy.Goals as goal
use Rattle.nsc_shelf.proofs.sheet.Sheet.copy.Goals.{After-copy_nodes}

pub copy_nodes-requires-clause-empty : goal.copy_nodes-requires-clause-empty
copy_nodes-requires-clause-empty c = λ i low high. ap (λ (p : Pen). slice_index p.plan.words i) (c.new-filling.ensures ∙ c.in_ok-sheet.ensures.sheet) ∙ bucket_empty c.args.layout c.args.self.now.plan.words i low high

pub copy_nodes-requires-clause-laid : goal.copy_nodes-requires-clause-laid
copy_nodes-requires-clause-laid c =
    let map : c.layout-map.result ≡ c.args.self.now.plan.layout = c.layout-map.ensures.layout ∙ ap (λ (m : Map). m.layout) c.map.ensures ∙ ap (λ (p : Pen). p.plan.layout) c.succeed.ensures.same in
    (c.args.self.now.plan.nodes, held_by c.args.self.now c.succeed.new.self c.layout-map.result c.succeed.ensures.same map c.learn.ensures c.requires.counted c.requires.even, c.requires.fit)

-- the words once their nodes are set
filled : (c : After-copy_nodes) → c.copy_nodes.new.table ≡ record { table = c.in_ok-sheet.pass.table; plan = filled_with c.args.layout c.args.self.now.plan c.copy_nodes.new.table.plan.words }
filled c = sheet_with c.new-filling.result c.copy_nodes.new.table c.copy_nodes.ensures.rest ∙ ap (λ (p : Pen). record p { plan = record p.plan { words = c.copy_nodes.new.table.plan.words } }) (c.new-filling.ensures ∙ c.in_ok-sheet.ensures.sheet)

laid : (c : After-copy_nodes) → Laid c.copy_nodes.new.table.plan.words c.args.layout (slid (arena_start c.args.layout) c.args.self.now.plan.nodes)
laid c =
    let map : c.layout-map.result ≡ c.args.self.now.plan.layout = c.layout-map.ensures.layout ∙ ap (λ (m : Map). m.layout) c.map.ensures ∙ ap (λ (p : Pen). p.plan.layout) c.succeed.ensures.same in
    c.copy_nodes.ensures.laid c.args.self.now.plan.nodes (held_by c.args.self.now c.succeed.new.self c.layout-map.result c.succeed.ensures.same map c.learn.ensures c.requires.counted c.requires.even) c.requires.fit

pub finish-requires : goal.finish-requires
finish-requires c =
    let at = (goal.at.finish-requires c).After-copy_nodes in
    subst (λ (p : Pen). ShowsAgain p.plan) (sym (filled at)) (copied_shows c.args.layout c.args.self.now.plan c.copy_nodes.new.table.plan.words c.learn.ensures c.requires.even (laid at))

pub returns-clause-sheet : goal.returns-clause-sheet
returns-clause-sheet c =
    let at = (goal.at.returns-clause-sheet c).After-copy_nodes in
    let old = c.args.self.now.plan in
    let words : List ℕ = c.copy_nodes.new.table.plan.words in
    let head : IsSameHead (words_after c.args.layout old.words) words = subst (λ (p : Pen). IsSameHead p.plan.words words) (c.new-filling.ensures ∙ c.in_ok-sheet.ensures.sheet) c.copy_nodes.ensures.head in
    let is : c.finish.result.plan ≡ finished (filled_with c.args.layout old words) = ap (λ (p : Pen). p.plan) c.finish.ensures ∙ ap (λ (p : Pen). finished p.plan) (filled at) in
    subst (IsCopied c.args.layout old) (sym is) (copied c.args.layout old words c.requires.sizes c.learn.ensures c.requires.counted (laid at) head)
