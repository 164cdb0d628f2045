use Rattle.std.proofs.Common.{◌∙◌, None, Some, ap, false, option_map, sym}
use Rattle.nsc_server.specs.declared.scope.Scope.TheVariants as scope
use Rattle.nsc_run.specs.Lists.{names_in}
use Rattle.nsc_run.specs.Named.{with_names}
use Rattle.nsc_run.proofs.Scoped.{made_of_both, none_of_found}
use Rattle.nsc_run.proofs.lists.scopes_of.Goals as goal

pub returns-in_err-found_only : goal.returns-in_err-found_only
returns-in_err-found_only c =
    let found = names_in (option_map (λ p. p.now) c.args.found_only) in
    let left = names_in (option_map (λ p. p.now) c.args.leave) in
    c.from_residual.ensures
    ∙ none_of_found found left (ap (λ scopes. with_names scope.FoundOnly found (record { scopes = scopes; has_netgroup = false })) (sym c.whole.ensures) ∙ sym c.with_list.ensures ∙ c.in_err-found_only.was)

pub returns-in_err-with_list : goal.returns-in_err-with_list
returns-in_err-with_list c =
    let found = names_in (option_map (λ p. p.now) c.args.found_only) in
    let left = names_in (option_map (λ p. p.now) c.args.leave) in
    c.from_residual-in_err-with_list.ensures
    ∙ made_of_both found left c.in_ok-found_only.found_only None
    (ap (λ scopes. with_names scope.FoundOnly found (record { scopes = scopes; has_netgroup = false })) (sym c.whole.ensures) ∙ sym c.with_list.ensures ∙ c.in_ok-found_only.was)
    (sym c.with_list-2.ensures ∙ c.in_err-with_list.was)

pub returns : goal.returns
returns c =
    let found = names_in (option_map (λ p. p.now) c.args.found_only) in
    let left = names_in (option_map (λ p. p.now) c.args.leave) in
    made_of_both found left c.in_ok-found_only.found_only (Some c.in_ok-with_list.field-0)
    (ap (λ scopes. with_names scope.FoundOnly found (record { scopes = scopes; has_netgroup = false })) (sym c.whole.ensures) ∙ sym c.with_list.ensures ∙ c.in_ok-found_only.was)
    (sym c.with_list-2.ensures ∙ c.in_ok-with_list.was)
