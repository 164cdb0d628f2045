-- The groups of a user, collected line by line.
use Rattle.std.proofs.Common.{◌≡◌, ℕ, List, [], ◌∷◌, ◌++◌, drop, map, Option, Some, None, sym, ◌∙◌, ap, append_assoc}
use Rattle.std.specs.List.{cons_option}
use Rattle.std.specs.Option.{option_map}
use Rattle.std.proofs.lemmas.List.{append-nil}
use Rattle.nsc_base.specs.declared.search.Case.TheVariants.{Counts}
use Rattle.nsc_base.specs.declared.span.Line.{Line}
use Rattle.nsc_base.specs.Found.{IsLineWith, PassesOver}
use Rattle.nsc_base.specs.Text.{line_spans, part}
use Rattle.nsc_model.specs.declared.row.Group.{Group}
use Rattle.nsc_model.specs.Entries.{if_named, named_in}
use Rattle.nsc_model.specs.Groups.{group_of_line, has_member}
use Rattle.nsc_model.proofs.Passed.{named_next, none_named}
use Rattle.nsc_accounts.proofs.Collected.{map_step}
use Rattle.nsc_accounts.proofs.Named.{lacks_member}

-- a group's name and id
abbrev pub named_id : Group → List ℕ × ℕ
named_id g = (g.name, g.gid)

-- the groups of a user in these bytes
abbrev pub pairs_left : List ℕ → List ℕ → List (List ℕ × ℕ)
pairs_left user bytes = map named_id (named_in group_of_line (has_member user) bytes)

-- one line
line_pairs : (user text : List ℕ) (from : ℕ) (line : Line) (r : Option (List ℕ × ℕ)) → IsLineWith Counts user text from line → r ≡ option_map named_id (if_named (has_member user) (group_of_line (part text line.span))) → pairs_left user (drop from text) ≡ cons_option r (pairs_left user (drop line.next text))
line_pairs user text from line r is gives =
    ap (map named_id) (named_next Counts user group_of_line (has_member user) (lacks_member user) text from line is)
    ∙ map_step named_id (if_named (has_member user) (group_of_line (part text line.span))) (named_in group_of_line (has_member user) (drop line.next text))
    ∙ ap (λ (o : Option (List ℕ × ℕ)). cons_option o (pairs_left user (drop line.next text))) (sym gives)

-- after a line that gives no group
pub none_more : (user text : List ℕ) (from : ℕ) (line : Line) (groups all : List (List ℕ × ℕ)) → IsLineWith Counts user text from line → None ≡ option_map named_id (if_named (has_member user) (group_of_line (part text line.span))) → groups ++ pairs_left user (drop from text) ≡ all → groups ++ pairs_left user (drop line.next text) ≡ all
none_more user text from line groups all is gives left = ap (λ (more : List (List ℕ × ℕ)). groups ++ more) (sym (line_pairs user text from line None is gives)) ∙ left

-- and after one that gives a group
pub one_more : (user text : List ℕ) (from : ℕ) (line : Line) (groups all : List (List ℕ × ℕ)) (pair : List ℕ × ℕ) → IsLineWith Counts user text from line → Some pair ≡ option_map named_id (if_named (has_member user) (group_of_line (part text line.span))) → groups ++ pairs_left user (drop from text) ≡ all → (groups ++ pair ∷ []) ++ pairs_left user (drop line.next text) ≡ all
one_more user text from line groups all pair is gives left =
    append_assoc groups (pair ∷ []) (pairs_left user (drop line.next text))
    ∙ (ap (λ (more : List (List ℕ × ℕ)). groups ++ more) (sym (line_pairs user text from line (Some pair) is gives)) ∙ left)

-- where no line is left in which the user's name stands, no group is left
pub all_collected : (user text : List ℕ) (from : ℕ) (groups all : List (List ℕ × ℕ)) → PassesOver Counts user text [] (line_spans text from) → groups ++ pairs_left user (drop from text) ≡ all → groups ≡ all
all_collected user text from groups all none left =
    let nothing : pairs_left user (drop from text) ≡ [] = ap (map named_id) (none_named Counts user group_of_line (has_member user) (lacks_member user) text from none) in
    sym (ap (λ (more : List (List ℕ × ℕ)). groups ++ more) nothing ∙ append-nil groups) ∙ left
