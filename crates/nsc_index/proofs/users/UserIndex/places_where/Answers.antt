use Rattle.std.proofs.Common.{◌≡◌, ℕ, Option, None, [], refl, sym, subst, ◌∙◌}
use Rattle.nsc_model.specs.Answers.{is_id}
use Rattle.nsc_accounts.specs.Passwd.{user_places}
use Rattle.nsc_index.specs.Users.{users_named}
use Rattle.nsc_index.proofs.NumberedLines.{none_named_there}
use Rattle.nsc_index.proofs.users.UserIndex.places_where.Goals as goal

pub returns-in-None : goal.returns-in-None
returns-in-None c =
    let text = c.args.text.now in
    c.new.ensures.items ∙ subst (λ (id : Option ℕ). [] ≡ users_named text (λ at. is_id id at.uid)) (sym c.in-None.is) (sym (none_named_there (user_places text) (λ at. is_id None at.uid) text (λ at. refl)))
