use Rattle.std.proofs.Common.{◌≡◌, ℕ, Option, rules, subst, ◌∙◌}
use Rattle.nsc_model.specs.Content.{Content}
use Rattle.nsc_daemon.specs.Ends.{IsOpeningFault, TellsFileLength}
use Rattle.nsc_daemon.proofs.opening.Openings.open.Goals as goal

pub returns-in_err-group-clause-fault : goal.returns-in_err-group-clause-fault
returns-in_err-group-clause-fault g c =
    let before : g.F.FileSet.faults c.opened.new.files ≡ g.F.FileSet.faults c.args.files.now = c.in_ok-passwd.ensures.calm in
    let fault = subst (λ (n : ℕ). IsOpeningFault c.in_err-group.field-0.0 n (g.F.FileSet.faults c.opened-2.new.files)) before c.in_err-group.ensures.fault in
    search (rules, fault, c.from_residual-in_err-group.ensures)

pub returns-in_err-group-clause-length : goal.returns-in_err-group-clause-length
returns-in_err-group-clause-length g c =
    let before : g.F.FileSet.held c.opened.new.files ≡ g.F.FileSet.held c.args.files.now = c.in_ok-passwd.ensures.stays in
    let tells = subst (λ (o : Option Content). TellsFileLength c.in_err-group.field-0.0 o) before c.in_err-group.ensures.length in
    search (rules, tells, c.from_residual-in_err-group.ensures)

pub returns-in_err-hosts-clause-fault : goal.returns-in_err-hosts-clause-fault
returns-in_err-hosts-clause-fault g c =
    let before : g.F.FileSet.faults c.opened-2.new.files ≡ g.F.FileSet.faults c.args.files.now = c.in_ok-group.ensures.calm ∙ c.in_ok-passwd.ensures.calm in
    let fault = subst (λ (n : ℕ). IsOpeningFault c.in_err-hosts.field-0.0 n (g.F.FileSet.faults c.opened-3.new.files)) before c.in_err-hosts.ensures.fault in
    search (rules, fault, c.from_residual-in_err-hosts.ensures)

pub returns-in_err-hosts-clause-length : goal.returns-in_err-hosts-clause-length
returns-in_err-hosts-clause-length g c =
    let before : g.F.FileSet.held c.opened-2.new.files ≡ g.F.FileSet.held c.args.files.now = c.in_ok-group.ensures.stays ∙ c.in_ok-passwd.ensures.stays in
    let tells = subst (λ (o : Option Content). TellsFileLength c.in_err-hosts.field-0.0 o) before c.in_err-hosts.ensures.length in
    search (rules, tells, c.from_residual-in_err-hosts.ensures)

pub returns-in_err-services-clause-fault : goal.returns-in_err-services-clause-fault
returns-in_err-services-clause-fault g c =
    let before : g.F.FileSet.faults c.opened-3.new.files ≡ g.F.FileSet.faults c.args.files.now = c.in_ok-hosts.ensures.calm ∙ c.in_ok-group.ensures.calm ∙ c.in_ok-passwd.ensures.calm in
    let fault = subst (λ (n : ℕ). IsOpeningFault c.in_err-services.field-0.0 n (g.F.FileSet.faults c.opened-4.new.files)) before c.in_err-services.ensures.fault in
    search (rules, fault, c.from_residual-in_err-services.ensures)

pub returns-in_err-services-clause-length : goal.returns-in_err-services-clause-length
returns-in_err-services-clause-length g c =
    let before : g.F.FileSet.held c.opened-3.new.files ≡ g.F.FileSet.held c.args.files.now = c.in_ok-hosts.ensures.stays ∙ c.in_ok-group.ensures.stays ∙ c.in_ok-passwd.ensures.stays in
    let tells = subst (λ (o : Option Content). TellsFileLength c.in_err-services.field-0.0 o) before c.in_err-services.ensures.length in
    search (rules, tells, c.from_residual-in_err-services.ensures)
