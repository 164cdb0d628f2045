-- A key that is no number names no entry.
use Rattle.std.proofs.Common.{◌≡◌, ℕ, false, List, [], ◌∷◌, filter, Option, Some, None, refl, ap, ◌∙◌}
use Rattle.std.specs.List.{filter_map}
use Rattle.std.specs.Option.{option_map}
use Rattle.nsc_base.specs.Text.{lines_of}
use Rattle.nsc_base.specs.Decimal.{decimal_of}
use Rattle.nsc_model.specs.declared.row.Passwd.{Passwd}
use Rattle.nsc_model.specs.declared.row.Group.{Group}
use Rattle.nsc_model.specs.declared.row.Service.{Service}
use Rattle.nsc_model.specs.Entries.{first_of, first_named}
use Rattle.nsc_model.specs.Users.{user_of_line}
use Rattle.nsc_model.specs.Groups.{group_of_line}
use Rattle.nsc_model.specs.ServiceLines.{ServiceKey, exchanged, port_of, service_of_line}
use Rattle.nsc_model.specs.Answers.{group_numbered, is_id, is_port, key_ported, user_numbered}

none_of : {A : Type 0} (xs : List A) → first_of (filter (λ x. false) xs) ≡ None
none_of [] = refl
none_of (x ∷ xs) = none_of xs

pub no_user : (key text : List ℕ) → decimal_of key ≡ None → first_named user_of_line (user_numbered key) text ≡ None
no_user key text e = ap (λ (n : Option ℕ). first_named user_of_line (λ (p : Passwd). is_id n p.uid) text) e ∙ none_of (filter_map user_of_line (lines_of text))

pub no_group : (key text : List ℕ) → decimal_of key ≡ None → first_named group_of_line (group_numbered key) text ≡ None
no_group key text e = ap (λ (n : Option ℕ). first_named group_of_line (λ (g : Group). is_id n g.gid) text) e ∙ none_of (filter_map group_of_line (lines_of text))

no_number : (o : Option ℕ) → option_map exchanged o ≡ None → o ≡ None
no_number None h = refl
no_number (Some n) h = absurd cc

pub no_service : (key : ServiceKey) (text : List ℕ) → option_map exchanged (port_of key.asked) ≡ None → first_named service_of_line (key_ported key) text ≡ None
no_service key text e = ap (λ (n : Option ℕ). first_named service_of_line (λ (s : Service). is_port n key.proto s) text) (no_number (port_of key.asked) e) ∙ none_of (filter_map service_of_line (lines_of text))
