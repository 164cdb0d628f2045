-- The lines of a passwd file that are named, by its index.
use Rattle.std.proofs.Common.{◌≡◌, ℕ, ◌==◌, Bool, true, false, cond, if◌then◌else◌, List, [], ◌∷◌, filter, map, Option, Some, None, option_and_then, refl, sym, ◌∙◌, ap}
use Rattle.std.specs.List.{cons_option, filter_map}
use Rattle.std.specs.Option.{is_some, option_map}
use Rattle.std.specs.Str.{bytes_eq}
use Rattle.std.proofs.lemmas.Slice.Eq.{bytes_eq-Decides}
use Rattle.std.proofs.lemmas.Bool.Decides.{Decides-eqb}
use Rattle.nsc_base.specs.Text.{part}
use Rattle.nsc_model.specs.declared.row.Passwd.{Passwd}
use Rattle.nsc_model.specs.Entries.{first_named, first_of, if_named}
use Rattle.nsc_model.specs.Users.{user_of_line}
use Rattle.nsc_model.proofs.Firsts.{first_is}
use Rattle.nsc_accounts.specs.Passwd.{GivesUser, user_at, user_places}
use Rattle.nsc_accounts.specs.declared.passwd.PasswdAt.{PasswdAt}
use Rattle.nsc_accounts.proofs.Named.{user_given, user_names}
use Rattle.nsc_index.specs.declared.numbers.NumberAt.{NumberAt}
use Rattle.nsc_index.specs.declared.users.UserIndex.{UserIndex}
use Rattle.nsc_index.specs.Fronts.{raw_id, raw_mark}
use Rattle.nsc_index.specs.Indexes.{on_line}
use Rattle.nsc_index.specs.Numbers.{has_number, text_number}
use Rattle.nsc_index.specs.Users.{IsUserIndex, users_named}
use Rattle.nsc_index.specs.Signs.{Adds}
use Rattle.nsc_index.proofs.LineFronts.{marked_front, numbered_front}
use Rattle.nsc_index.proofs.NumberedLines.{first_line, named_added, named_among, named_at}
use Rattle.nsc_index.proofs.SignRows.{some_mapped}

module _ (text : List ℕ) (index : UserIndex) (is : IsUserIndex text index) where
  -- the lines of a name, and those of an id
  pub lines_of_name : (name lines new : List ℕ) → lines ≡ map (λ (at : NumberAt). at.line) (filter (has_number (text_number name)) index.names) → new ≡ filter (named_at (user_places text) (λ at. bytes_eq (part text at.name) name) text) lines → new ≡ users_named text (λ at. bytes_eq (part text at.name) name)
  lines_of_name name lines new lines_are new_is =
      named_among (user_places text) (λ at. bytes_eq (part text at.name) name) text (λ line. raw_mark (part text line)) (text_number name)
      (λ line ordered ends named. marked_front (part text line) (user_places text line) (λ at. part text at.name) (λ at. at.uid) (λ at. bytes_eq (part text at.name) name) name (user_names text line ordered ends) (λ at same. (bytes_eq-Decides (part text at.name) name).0 same) named)
      index.names lines new is.names lines_are new_is

  pub lines_of_id : (uid : ℕ) (lines new : List ℕ) → lines ≡ map (λ (at : NumberAt). at.line) (filter (has_number uid) index.ids) → new ≡ filter (named_at (user_places text) (λ at. at.uid == uid) text) lines → new ≡ users_named text (λ at. at.uid == uid)
  lines_of_id uid lines new lines_are new_is =
      named_among (user_places text) (λ at. at.uid == uid) text (λ line. raw_id (part text line)) uid
      (λ line ordered ends named. numbered_front (part text line) (user_places text line) (λ at. part text at.name) (λ at. at.uid) (λ at. at.uid == uid) uid (user_names text line ordered ends) (λ at same. (Decides-eqb at.uid uid).0 same) named)
      index.ids lines new is.ids lines_are new_is

-- the first of the lines that are named is the first that is, of all that are tried
pub first_tried : (gives : ℕ → Option PasswdAt) (names : PasswdAt → Bool) (places : List ℕ) → first_of (filter names (filter_map gives places)) ≡ option_and_then gives (first_of (filter (λ place. is_some (if_named names (gives place))) places))
first_tried gives names [] = refl
first_tried gives names (place ∷ places) =
    let named = λ (p : ℕ). is_some (if_named names (gives p)) in
    elim (gives place) as (λ o. gives place ≡ o → first_of (filter names (cons_option o (filter_map gives places))) ≡ option_and_then gives (first_of (cond (is_some (if_named names o)) (place ∷ filter named places) (filter named places)))) [
      | None ↦ λ e. first_tried gives names places
      | Some at ↦ λ e. elim (names at) as (λ v. first_of (cond v (at ∷ filter names (filter_map gives places)) (filter names (filter_map gives places))) ≡ option_and_then gives (first_of (cond (is_some (if v then Some at else None)) (place ∷ filter named places) (filter named places)))) [
        | true ↦ sym e
        | false ↦ first_tried gives names places
      ]
    ] refl

module _ (text : List ℕ) (names : Passwd → Bool) (places : List ℕ) (are : places ≡ users_named text (λ at. names (user_at text at))) where
  -- the first of the lines that are named
  pub first_user : (found : Option PasswdAt) → found ≡ option_and_then (on_line (user_places text) text) (first_of places) → option_map (user_at text) found ≡ first_named user_of_line names text
  first_user found on =
      first_is (GivesUser text (λ at. names (user_at text at))) text (user_at text) user_of_line names (λ span r ordered ends gives. user_given text names span r ordered ends gives) found
      (first_line (user_places text) (λ at. names (user_at text at)) text found (on ∙ ap (λ (ps : List ℕ). option_and_then (on_line (user_places text) text) (first_of ps)) are))

  -- and the places of all of them
  pub places_of_users : Adds text (λ line. is_some (if_named names (user_of_line line))) [] places
  places_of_users =
      named_added (user_places text) (λ at. names (user_at text at)) text (λ line. is_some (if_named names (user_of_line line)))
      (λ line ordered ends.
      let given = if_named (λ at. names (user_at text at)) (user_places text line) in
      sym (some_mapped (user_at text) given) ∙ ap is_some (user_given text names line given ordered ends refl)) places are
