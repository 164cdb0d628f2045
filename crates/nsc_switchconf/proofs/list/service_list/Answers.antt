-- The list that is read is the one that the grammar gives.
use Rattle.std.proofs.Common.{◌≡◌, Result, Ok, Err, IfOk, sym, subst}
use Rattle.nsc_model.specs.Switches.{list_of}
use Rattle.nsc_laws.specs.ServiceLists.{GivesList}
use Rattle.nsc_laws.proofs.GivenLists.{list_given}
use Rattle.nsc_switchconf.proofs.list.service_list.Goals as goal

weaker : {A E : Type 0} (P Q : A → Type 0) → ((x : A) → P x → Q x) → (r : Result A E) → IfOk r P → IfOk r Q
weaker P Q f (Ok x) p = f x p
weaker P Q f (Err e) p = tt

pub returns-clause-given : goal.returns-clause-given
returns-clause-given c =
    let text = c.args.text.now in
    let name = c.args.name in
    weaker (λ list. list.items ≡ list_of text name) (λ list. GivesList text name list.items) (λ list is. subst (GivesList text name) (sym is) (list_given text name)) c.read_list.result c.read_list.ensures.list
