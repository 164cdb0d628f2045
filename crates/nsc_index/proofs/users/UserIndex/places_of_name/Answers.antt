use Rattle.std.proofs.Common.{ap, filter, map, ◌∙◌}
use Rattle.nsc_index.specs.declared.numbers.NumberAt.{NumberAt}
use Rattle.nsc_index.specs.Numbers.{has_number}
use Rattle.nsc_index.proofs.UserRows.{lines_of_name}
use Rattle.std.proofs.lemmas.Result.{IfOk-weaker}
use Rattle.nsc_index.proofs.users.UserIndex.places_of_name.Goals as goal

pub returns : goal.returns
returns c =
    let lines = c.deref.ensures.value ∙ c.in_ok-lines.ensures ∙ ap (λ n. map (λ (at : NumberAt). at.line) (filter (has_number n) c.args.self.now.names)) c.text_number.ensures in
    IfOk-weaker c.with_name.result _ _ (λ named is. lines_of_name c.args.text.now c.args.self.now c.requires c.args.name.now c.deref.result.now named.items lines is) c.with_name.ensures
