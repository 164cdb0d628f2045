use Rattle.std.proofs.Common.{◌∙◌, ℕ, [], None, Option, ap, subst, sym}
use Rattle.nsc_model.specs.declared.answer.Request.{Request}
use Rattle.nsc_model.specs.declared.conf.DbConf.{DbConf}
use Rattle.nsc_model.specs.declared.kind.Db.{Db}
use Rattle.nsc_writer.specs.Writer.{IsNewest}
use Rattle.nsc_database.specs.Openings.{Begun, brought_in}
use Rattle.nsc_database.specs.Rests.{IsAtRest}
use Rattle.nsc_database.proofs.Opening.{at_rest_held}
use Rattle.nsc_database.proofs.opened.Parts.base.Goals as goal

pub new-requires-2-clause-rest : goal.new-requires-2-clause-rest
new-requires-2-clause-rest g c =
    let is = c.begun.view_is in
    let settings = ap (λ (b : Begun). b.settings) is ∙ c.requires.begins.1 ∙ c.requires.conf.0 in
    let reloads = ap (λ (b : Begun). b.reloads) is ∙ c.requires.begins.2 ∙ c.requires.conf.1 in
    let db = ap (λ (b : Begun). b.db) is ∙ c.requires.begins.0 in
    let brought = ap (λ (b : Begun). brought_in b.writer.cache.entries) is ∙ c.requires.brought in
    let rest = subst (λ (x : DbConf × (Request → ℕ) × Option ℕ × Db). IsAtRest x.0 x.1 x.2 None x.3 0 [] c.begun.inside.writer) (λ i. (settings i, brought i, reloads i, db i)) c.begun.invariant in
    let newest = subst (λ (b : Begun). IsNewest c.args.self.book.newest 0 b.writer.cache) (sym is) c.requires.newest in
    at_rest_held c.args.self.book.newest c.args.self.left c.begun.inside.writer c.requires.tables.2 newest c.requires.part rest
