-- The ids of a user's groups, collected line by line.
use Rattle.std.proofs.Common.{◌≡◌, ℕ, Bool, true, false, not, cond, if◌then◌else◌, ◌&&◌, ◌||◌, ◌==◌, List, [], ◌∷◌, ◌++◌, drop, filter, map, Option, Some, None, refl, sym, ◌∙◌, ap, append_assoc}
use Rattle.std.specs.List.{cons_option, list_any}
use Rattle.std.specs.Option.{option_map}
use Rattle.std.proofs.lemmas.Bool.Decides.{Decides-eqb}
use Rattle.std.proofs.lemmas.List.{append-nil}
use Rattle.std.proofs.lemmas.List.Folds.{list_any-append}
use Rattle.nsc_base.specs.declared.search.Case.TheVariants.{Counts}
use Rattle.nsc_base.specs.declared.span.Line.{Line}
use Rattle.nsc_base.specs.Found.{IsLineWith, PassesOver}
use Rattle.nsc_base.specs.Text.{line_spans, part}
use Rattle.nsc_model.specs.declared.row.Group.{Group}
use Rattle.nsc_model.specs.Answers.{each_once, ids_of}
use Rattle.nsc_model.specs.Entries.{if_named, named_in}
use Rattle.nsc_model.specs.Groups.{group_of_line, has_member}
use Rattle.nsc_model.proofs.Passed.{named_next, none_named}
use Rattle.nsc_accounts.specs.Once.{all_ids, with_id}
use Rattle.nsc_accounts.proofs.Named.{lacks_member}

-- the ids of the groups that have the user as a member, with repeats
abbrev pub member_ids : List ℕ → List ℕ → List ℕ
member_ids user file = map (λ g. g.gid) (named_in group_of_line (has_member user) file)

-- whether ids lack a number
abbrev lack : List ℕ → ℕ → Bool
lack ids m = not (list_any (λ other. m == other) ids)

and_true : (b : Bool) → (b && true) ≡ b
and_true true = refl
and_true false = refl

and_false : (b : Bool) → (b && false) ≡ false
and_false true = refl
and_false false = refl

not_or : (a b : Bool) → not (a || (b || false)) ≡ (not a && not b)
not_or true b = refl
not_or false true = refl
not_or false false = refl

passed : (p r : Bool) (x : ℕ) (xs ys : List ℕ) → r ≡ (p && true) → xs ≡ ys → cond p (x ∷ xs) xs ≡ cond r (x ∷ ys) ys
passed true r x xs ys e same = rw e (ap (λ (zs : List ℕ). x ∷ zs) same)
passed false r x xs ys e same = rw e same

-- one test within another is both
filter_both : (p q r : ℕ → Bool) → ((m : ℕ) → r m ≡ (p m && q m)) → (xs : List ℕ) → filter p (filter q xs) ≡ filter r xs
filter_both p q r is [] = refl
filter_both p q r is (x ∷ xs) =
    let later = filter_both p q r is xs in
    elim (q x) as (λ v. r x ≡ (p x && v) → filter p (cond v (x ∷ filter q xs) (filter q xs)) ≡ cond (r x) (x ∷ filter r xs) (filter r xs)) [
      | true ↦ λ e. passed (p x) (r x) x (filter p (filter q xs)) (filter r xs) e later
      | false ↦ λ e. rw (e ∙ and_false (p x)) later
    ] (is x)

-- numbers that are lacking differ from one that is there
lack_there : (ids : List ℕ) (n : ℕ) → list_any (λ other. n == other) ids ≡ true → (m : ℕ) → lack ids m ≡ (lack ids m && not (m == n))
lack_there ids n there m =
    elim (m == n) as (λ v. (m == n) ≡ v → lack ids m ≡ (lack ids m && not v)) [
      | true ↦ λ e.
          let same : list_any (λ other. m == other) ids ≡ true = ap (λ k. list_any (λ other. k == other) ids) ((Decides-eqb m n).0 e) ∙ there in
          rw same refl
      | false ↦ λ e. sym (and_true (lack ids m))
    ] refl

lack_more : (ids : List ℕ) (n m : ℕ) → lack (ids ++ n ∷ []) m ≡ (lack ids m && not (m == n))
lack_more ids n m = ap not (list_any-append (λ other. m == other) ids (n ∷ [])) ∙ not_or (list_any (λ other. m == other) ids) (m == n)

-- after what is there come the others, each once
all_are : (ids more : List ℕ) → all_ids ids more ≡ ids ++ filter (lack ids) (each_once more)
all_are ids [] = sym (append-nil ids)
all_are ids (n ∷ more) =
    elim (list_any (λ other. n == other) ids) as (λ v. list_any (λ other. n == other) ids ≡ v → all_ids (if v then ids else ids ++ n ∷ []) more ≡ ids ++ cond (not v) (n ∷ filter (lack ids) (filter (λ m. not (m == n)) (each_once more))) (filter (lack ids) (filter (λ m. not (m == n)) (each_once more)))) [
      | true ↦ λ there. all_are ids more ∙ ap (λ (ns : List ℕ). ids ++ ns) (sym (filter_both (lack ids) (λ m. not (m == n)) (lack ids) (lack_there ids n there) (each_once more)))
      | false ↦ λ e.
          let lacking = filter_both (lack ids) (λ m. not (m == n)) (lack (ids ++ n ∷ [])) (lack_more ids n) (each_once more) in
          all_are (ids ++ n ∷ []) more ∙ append_assoc ids (n ∷ []) (filter (lack (ids ++ n ∷ [])) (each_once more)) ∙ ap (λ (ns : List ℕ). ids ++ n ∷ ns) (sym lacking)
    ] refl

filter_all : (xs : List ℕ) → filter (lack []) xs ≡ xs
filter_all [] = refl
filter_all (x ∷ xs) = ap (λ (ys : List ℕ). x ∷ ys) (filter_all xs)

-- from nothing on, each once
pub all_once : (more : List ℕ) → all_ids [] more ≡ each_once more
all_once more = all_are [] more ∙ filter_all (each_once more)

pub ids_start : (user text : List ℕ) → all_ids [] (member_ids user (drop 0 text)) ≡ ids_of user text
ids_start user text = all_once (member_ids user text)

-- where no line is left in which the user's name stands, no id is left
pub ids_end : (user text : List ℕ) (from : ℕ) (ids answer : List ℕ) → PassesOver Counts user text [] (line_spans text from) → all_ids ids (member_ids user (drop from text)) ≡ answer → ids ≡ answer
ids_end user text from ids answer none left =
    sym (ap (λ (groups : List Group). all_ids ids (map (λ g. g.gid) groups)) (none_named Counts user group_of_line (has_member user) (lacks_member user) text from none)) ∙ left

-- what is taken of one more
pub map_step : {A B : Type 0} (f : A → B) (o : Option A) (others : List A) → map f (cons_option o others) ≡ cons_option (option_map f o) (map f others)
map_step f None others = refl
map_step f (Some x) others = refl

-- one line
line_ids : (user text : List ℕ) (from : ℕ) (line : Line) (r : Option ℕ) → IsLineWith Counts user text from line → r ≡ option_map (λ g. g.gid) (if_named (has_member user) (group_of_line (part text line.span))) → member_ids user (drop from text) ≡ cons_option r (member_ids user (drop line.next text))
line_ids user text from line r is gives =
    ap (map (λ g. g.gid)) (named_next Counts user group_of_line (has_member user) (lacks_member user) text from line is)
    ∙ map_step (λ g. g.gid) (if_named (has_member user) (group_of_line (part text line.span))) (named_in group_of_line (has_member user) (drop line.next text))
    ∙ ap (λ (o : Option ℕ). cons_option o (member_ids user (drop line.next text))) (sym gives)

-- after a line that gives no id
pub ids_after : (user text : List ℕ) (from : ℕ) (line : Line) (ids answer : List ℕ) → IsLineWith Counts user text from line → None ≡ option_map (λ g. g.gid) (if_named (has_member user) (group_of_line (part text line.span))) → all_ids ids (member_ids user (drop from text)) ≡ answer → all_ids ids (member_ids user (drop line.next text)) ≡ answer
ids_after user text from line ids answer is gives left = ap (all_ids ids) (sym (line_ids user text from line None is gives)) ∙ left

-- and after one that gives an id
pub ids_more : (user text : List ℕ) (from : ℕ) (line : Line) (ids now : List ℕ) (n : ℕ) (answer : List ℕ) → IsLineWith Counts user text from line → Some n ≡ option_map (λ g. g.gid) (if_named (has_member user) (group_of_line (part text line.span))) → now ≡ with_id ids n → all_ids ids (member_ids user (drop from text)) ≡ answer → all_ids now (member_ids user (drop line.next text)) ≡ answer
ids_more user text from line ids now n answer is gives added left =
    ap (λ (those : List ℕ). all_ids those (member_ids user (drop line.next text))) added
    ∙ ap (all_ids ids) (sym (line_ids user text from line (Some n) is gives)) ∙ left
