use Rattle.std.proofs.Common.{ℕ, List, [], sym, subst}
use Rattle.atomic_table.specs.Table.{opening}
use Rattle.nsc_rule.specs.Seats.{IsKept, opening_plan, opening_view}
use Rattle.nsc_rule.proofs.Opening.{opens}
use Rattle.nsc_rule.proofs.map.begin.Goals as goal

pub of_words-requires : goal.of_words-requires
of_words-requires c =
    let P : List ℕ → Type 0 = λ ws. IsKept c.args.layout (opening ws [] (opening_view c.args.layout c.args.origin)) in
    subst P (sym c.requires.words) (opens c.args.layout (opening_plan c.args.layout c.args.origin) c.requires.layout c.requires.sound)
