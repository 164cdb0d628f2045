use Rattle.std.proofs.Common.{◌↔◌, IsTrue, List, ℕ, rules, sym, ◌∙◌, ap, subst}
use Rattle.nsc_base.specs.declared.search.Case.TheVariants.{Counts}
use Rattle.nsc_base.specs.Addresses.{v4_text}
use Rattle.nsc_base.specs.Found.{Lacks}
use Rattle.nsc_nets.proofs.Finds.{finds_none, four_left}
use Rattle.nsc_nets.proofs.find.lacks_dotted.Goals as goal

pub returns : goal.returns
returns c =
    let spelled = c.dotted-start.ensures.text ∙ ap v4_text (sym (four_left c.args.octets (search rules))) in
    subst (λ (needle : List ℕ). IsTrue c.is_none.result ↔ Lacks Counts needle c.args.text.now) spelled (finds_none _ c.args.text.now c.find.result c.is_none.result c.find.ensures c.is_none.ensures)
