-- The lines of a passwd or group file that matter to a request.
use Rattle.std.specs.Prelude.{◌≡◌, ℕ, ◌≤◌, Bool, true, false, not, ◌||◌, All, List, [], ◌∷◌, filter, length, map, Option, Some, None}
use Rattle.std.specs.Option.{is_some}
use Rattle.std.specs.Str.{bytes_eq}
use Rattle.nsc_base.specs.declared.span.Span.{Span}
use Rattle.nsc_base.specs.Text.{is_filled, lines_of, part}
use Rattle.nsc_model.specs.declared.kind.FileId.{FileId}
use Rattle.nsc_model.specs.declared.kind.FileId.TheVariants as file
use Rattle.nsc_model.specs.Answers.{group_named, is_id, user_named}
use Rattle.nsc_model.specs.Compat.{Saying, Own, Excludes, Asks, sayings}
use Rattle.nsc_model.specs.Entries.{if_named}
use Rattle.nsc_model.specs.Groups.{group_of_line, has_member}
use Rattle.nsc_model.specs.Users.{user_of_line}
use Rattle.nsc_accounts.specs.declared.sought.Sought.{Sought}
use Rattle.nsc_accounts.specs.declared.sought.Sought.TheVariants.{User, UserId, Group, GroupId, Member}

-- the name on which a line with these sayings speaks by its sign, a plus or a minus: the empty one where it speaks of every name
abbrev pub sign_name : List Saying → Option (List ℕ)
sign_name [] = None
sign_name (Own line ∷ []) = None
sign_name (Excludes name ∷ []) = Some name
sign_name (Asks name fields ∷ []) = Some name
sign_name _ = Some []

-- whether it speaks of every name, or of one of these
abbrev pub speaks_on : (List ℕ → Bool) → Option (List ℕ) → Bool
speaks_on these None = false
speaks_on these (Some name) = not (is_filled name) || these name

-- whether a line may change the outcome of a request: its entry is named, or it speaks by a sign on one of these names
abbrev pub matters : {A : Type 0} → (List ℕ → Option A) → (A → Bool) → (List ℕ → Bool) → List ℕ → Bool
matters entry_of names these line = is_some (if_named names (entry_of line)) || speaks_on these (sign_name (sayings line))

-- by what is sought: whether the line has its entry
abbrev pub entry_matters : Sought → List ℕ → Bool
entry_matters (User name) line = is_some (if_named (user_named name.now) (user_of_line line))
entry_matters (UserId id) line = is_some (if_named (λ p. is_id id p.uid) (user_of_line line))
entry_matters (Group name) line = is_some (if_named (group_named name.now) (group_of_line line))
entry_matters (GroupId id) line = is_some (if_named (λ g. is_id id g.gid) (group_of_line line))
entry_matters (Member user) line = is_some (if_named (has_member user.now) (group_of_line line))

-- the names whose signs count: that of an entry that is sought by its name, and else all
abbrev pub names_sought : Sought → List ℕ → Bool
names_sought (User name) other = bytes_eq other name.now
names_sought (Group name) other = bytes_eq other name.now
names_sought _ other = true

abbrev pub matters_for : Sought → List ℕ → Bool
matters_for sought line = entry_matters sought line || speaks_on (names_sought sought) (sign_name (sayings line))

-- the file whose lines are meant
abbrev pub sought_file : Sought → FileId
sought_file (User name) = file.Passwd
sought_file (UserId id) = file.Passwd
sought_file _ = file.Group

-- places of lines of a text: of all that pass a test, in its order
pub record AreLines (text : List ℕ) (test : List ℕ → Bool) (lines : List Span) : Type 0 where
  pub inside : All (λ line. line.to ≤ length text) lines
  pub are : map (part text) lines ≡ filter test (lines_of text)
