use Rattle.std.proofs.Common.{◌∙◌, ap}
use Rattle.std.proofs.lemmas.Result.{IfOk-weaker}
use Rattle.nsc_base.specs.Text.{fields_of, part}
use Rattle.nsc_model.specs.Answers.{sub_looked}
use Rattle.nsc_model.specs.Kinds.{database_of}
use Rattle.nsc_compat.specs.Accounts.{scan_of}
use Rattle.nsc_compat.proofs.Scans.{name_excluded, named_answers}
use Rattle.nsc_compat.proofs.entries.EntryScanLineScan.take.Goals as goal

pub returns-in_ok-add-in-Excludes : goal.returns-in_ok-add-in-Excludes
returns-in_ok-add-in-Excludes g c =
    let s = c.args.self.now in
    name_excluded (scan_of g.E.Account.accounts (g.S.SubLookup.content s.sub.now) s.asking) (part c.args.text.now c.args.line) c.in-Excludes.name.now c.args.excluded.now c.add.new.self c.in-Excludes.ensures c.in_ok-add-in-Excludes.ensures

pub returns-in_ok-found-in-Asks : goal.returns-in_ok-found-in-Asks
returns-in_ok-found-in-Asks g c =
    let s = c.args.self.now in
    let accounts = g.E.Account.accounts in
    let content = g.S.SubLookup.content s.sub.now in
    let name = c.in-Asks.name.now in
    let found =
    c.in_outcome-found.ensures
    ∙ ap accounts.entry_in (c.in_ok-found-in-Asks.ensures ∙ ap (λ kind. sub_looked content (database_of kind) kind name) c.by_name.ensures ∙ ap (λ db. sub_looked content db accounts.by_name name) g.met.E.Account.asks) in
    IfOk-weaker c.named.result _ _
    (λ outcome gives lines.
    named_answers accounts content s.asking (part c.args.text.now c.args.line) c.args.excluded.now outcome name (fields_of 58 c.in-Asks.all.now) c.in_outcome-found.result c.in-Asks.ensures found gives lines)
    c.named.ensures
