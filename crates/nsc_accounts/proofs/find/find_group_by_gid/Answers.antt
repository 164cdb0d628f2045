use Rattle.std.proofs.Common.{IfSome, length, ℕ, ◌==◌, List, rules, subst, sym, ◌∙◌}
use Rattle.nsc_base.specs.declared.search.Case.TheVariants.{Counts}
use Rattle.nsc_base.specs.Found.{Lacks}
use Rattle.nsc_base.specs.Text.{part}
use Rattle.nsc_model.specs.Groups.{group_of_line}
use Rattle.nsc_model.proofs.Firsts.{first_gives, first_has, first_is, lacking_gives}
use Rattle.nsc_accounts.specs.Group.{GivesGroup, GroupLiesIn, group_at}
use Rattle.nsc_accounts.proofs.Named.{lacks_id, group_given, group_names}
use Rattle.nsc_accounts.proofs.find.find_group_by_gid.Goals as goal

pub returns : goal.returns
returns c =
    let text = c.args.text.now in
    let digits = c.as_bytes-digits.ensures.value ∙ c.format.ensures.text in
    let first = first_gives _ text (GivesGroup text (λ at. at.gid == c.args.gid)) (lacking_gives Counts c.as_bytes-digits.result.now _ text (GivesGroup text (λ at. at.gid == c.args.gid)) (λ span r ordered ends gives. search rules) (λ span ordered ends lack. sym (lacks_id (part text span) c.args.gid _ (λ at. part text at.name) _ (group_names text span ordered ends) (subst (λ (bytes : List ℕ). Lacks Counts bytes (part text span)) digits lack)))) _ c.first_line_with.ensures in
    record {
      first = first;
      entry = first_is (GivesGroup text (λ at. at.gid == c.args.gid)) text (group_at text) group_of_line (λ g. g.gid == c.args.gid) (λ span r ordered ends gives. group_given text (λ g. g.gid == c.args.gid) span r ordered ends gives) _ first;
      inside = first_has _ text _ (lacking_gives Counts c.as_bytes-digits.result.now _ text (λ span r. IfSome r (GroupLiesIn (record { from = 0; to = length text }))) (λ span r ordered ends gives. search rules) (λ span ordered ends lack. tt)) _ c.first_line_with.ensures;
    }
