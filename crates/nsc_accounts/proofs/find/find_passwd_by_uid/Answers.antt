use Rattle.std.proofs.Common.{IfSome, length, ℕ, ◌==◌, List, rules, subst, sym, ◌∙◌}
use Rattle.nsc_base.specs.declared.search.Case.TheVariants.{Counts}
use Rattle.nsc_base.specs.Found.{Lacks}
use Rattle.nsc_base.specs.Text.{part}
use Rattle.nsc_model.specs.Users.{user_of_line}
use Rattle.nsc_model.proofs.Firsts.{first_gives, first_has, first_is, lacking_gives}
use Rattle.nsc_accounts.specs.Passwd.{GivesUser, UserLiesIn, user_at}
use Rattle.nsc_accounts.proofs.Named.{lacks_id, user_given, user_names}
use Rattle.nsc_accounts.proofs.find.find_passwd_by_uid.Goals as goal

pub returns : goal.returns
returns c =
    let text = c.args.text.now in
    let digits = c.as_bytes-digits.ensures.value ∙ c.format.ensures.text in
    let first = first_gives _ text (GivesUser text (λ at. at.uid == c.args.uid)) (lacking_gives Counts c.as_bytes-digits.result.now _ text (GivesUser text (λ at. at.uid == c.args.uid)) (λ span r ordered ends gives. search rules) (λ span ordered ends lack. sym (lacks_id (part text span) c.args.uid _ (λ at. part text at.name) _ (user_names text span ordered ends) (subst (λ (bytes : List ℕ). Lacks Counts bytes (part text span)) digits lack)))) _ c.first_line_with.ensures in
    record {
      first = first;
      entry = first_is (GivesUser text (λ at. at.uid == c.args.uid)) text (user_at text) user_of_line (λ p. p.uid == c.args.uid) (λ span r ordered ends gives. user_given text (λ p. p.uid == c.args.uid) span r ordered ends gives) _ first;
      inside = first_has _ text _ (lacking_gives Counts c.as_bytes-digits.result.now _ text (λ span r. IfSome r (UserLiesIn (record { from = 0; to = length text }))) (λ span r ordered ends gives. search rules) (λ span ordered ends lack. tt)) _ c.first_line_with.ensures;
    }
