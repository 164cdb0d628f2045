use Rattle.std.proofs.Common.{◌∙◌, ℕ, ◌+◌, Option, ap, inl, refl, subst, sym}
use Rattle.nsc_words.specs.declared.layout.Layout.{Layout}
use Rattle.nsc_model.specs.declared.conf.DbConf.{DbConf}
use Rattle.nsc_model.specs.declared.store.Stats.{Stats}
use Rattle.nsc_model.specs.Growth.{IsArena}
use Rattle.nsc_rule.specs.Map.{Map}
use Rattle.nsc_growth.specs.Doubled.{IsNext}
use Rattle.nsc_growth.specs.Sized.{IsSized}
use Rattle.nsc_growth.proofs.Sized.{sized_largest, sized_next}
use Rattle.nsc_database.specs.Rests.{Desk}
use Rattle.nsc_database.proofs.Grown.{at_rest_enlarged}
use Rattle.nsc_database.proofs.Shown.{in_table}
use Rattle.nsc_database.proofs.desk.Desk.grow.Goals as goal

pub returns-in-None : goal.returns-in-None
returns-in-None g c =
    let sized = subst (λ (x : DbConf × Desk). IsSized x.0 x.1.writer.layout) (λ i. (sym c.requires.settings i, c.self.view_is i)) c.self.invariant.5 in
    let layout = c.layout-layout.ensures.layout ∙ ap (λ (m : Map). m.layout) c.map.ensures ∙ ap (λ (d : Desk). d.writer.layout) c.self.view_is in
    let used = ap (λ (s : Stats). s.used) c.stats-stats.ensures.value ∙ ap (λ (d : Desk). d.writer.cache.used) c.self.view_is in
    let none = subst (λ (x : ℕ × Layout × ℕ × Option Layout). IsNext x.0 x.1 (x.2 + c.args.need) x.3) (λ i. (c.new.ensures i, layout i, used i, c.in-None.is i)) c.next.ensures in
    let newest = subst (λ (x : DbConf × Desk). IsArena x.0 x.1.writer.table.words x.1.writer.layout.arena) (λ i. (sym c.requires.settings i, c.self.view_is i)) (in_table _ c.self.inside.writer c.self.invariant.5 c.learn.ensures.wide) in
    (refl, newest, inl (sized_largest c.args.settings.now c.args.self.now.writer.layout (c.args.self.now.writer.cache.used + c.args.need) sized c.requires.full none))

pub invariant_of-self : goal.invariant_of-self
invariant_of-self g c =
    let sized = subst (λ (s : DbConf). IsSized s c.self.inside.writer.layout) (sym c.requires.settings) c.self.invariant.5 in
    let layout = c.layout-layout.ensures.layout ∙ ap (λ (m : Map). m.layout) c.map.ensures in
    let next = subst (λ (x : ℕ × Layout × Option Layout). IsNext x.0 x.1 (c.stats-stats.result.used + c.args.need) x.2) (λ i. (c.new.ensures i, layout i, c.in-Some.is i)) c.next.ensures in
    let larger = subst (λ (s : DbConf). IsSized s c.in-Some.next) c.requires.settings (sized_next c.args.settings.now c.self.inside.writer.layout c.in-Some.next (c.stats-stats.result.used + c.args.need) sized next) in
    at_rest_enlarged c.enlarge.result c.in-Some.next c.self.inside.left c.enlarge.new.self c.self.inside.writer c.enlarge.new.writer c.enlarge.ensures.enlarged c.enlarge.ensures.stays larger c.learn.ensures.told c.self.invariant
