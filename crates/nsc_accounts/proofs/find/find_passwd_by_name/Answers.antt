use Rattle.std.proofs.Common.{IfSome, length, rules, sym}
use Rattle.std.specs.Str.{bytes_eq}
use Rattle.nsc_base.specs.declared.search.Case.TheVariants.{Counts}
use Rattle.nsc_base.specs.Text.{part}
use Rattle.nsc_model.specs.Users.{user_of_line}
use Rattle.nsc_model.proofs.Firsts.{first_gives, first_has, first_is, lacking_gives}
use Rattle.nsc_accounts.specs.Passwd.{GivesUser, UserLiesIn, user_at}
use Rattle.nsc_accounts.proofs.Named.{lacks_name, user_given, user_names}
use Rattle.nsc_accounts.proofs.find.find_passwd_by_name.Goals as goal

pub returns : goal.returns
returns c =
    let text = c.args.text.now in
    let name = c.args.name.now in
    let first = first_gives _ text (GivesUser text (λ at. bytes_eq (part text at.name) name)) (lacking_gives Counts name _ text (GivesUser text (λ at. bytes_eq (part text at.name) name)) (λ span r ordered ends gives. search rules) (λ span ordered ends lack. sym (lacks_name (part text span) name _ _ (λ at. at.uid) (user_names text span ordered ends) lack))) _ c.first_line_with.ensures in
    record {
      first = first;
      entry = first_is (GivesUser text (λ at. bytes_eq (part text at.name) name)) text (user_at text) user_of_line (λ p. bytes_eq p.name name) (λ span r ordered ends gives. user_given text (λ p. bytes_eq p.name name) span r ordered ends gives) _ first;
      inside = first_has _ text _ (lacking_gives Counts name _ text (λ span r. IfSome r (UserLiesIn (record { from = 0; to = length text }))) (λ span r ordered ends gives. search rules) (λ span ordered ends lack. tt)) _ c.first_line_with.ensures;
    }
