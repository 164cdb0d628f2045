-- The service lists that lines spell, nsswitch.conf(5).
use Rattle.std.specs.Prelude.{◌≡◌, ℕ, ◌==◌, Bool, true, false, if◌then◌else◌, List, [], ◌∷◌, ◌++◌, codes, Option, Some, None}
use Rattle.std.specs.List.{filter_map}
use Rattle.std.specs.Option.{option_map}
use Rattle.std.specs.Str.{bytes_eq, str_to_ascii_lowercase}
use Rattle.nsc_base.specs.Text.{before_remark, is_white, lines_of, trimmed}
use Rattle.nsc_model.specs.declared.kind.Db.{Db}
use Rattle.nsc_model.specs.declared.kind.Db.TheVariants as db
use Rattle.nsc_model.specs.Content.{Content}
use Rattle.nsc_model.specs.Entries.{first_of}
use Rattle.nsc_model.specs.Users.{◌>>=◌}
use Rattle.nsc_model.specs.declared.switch.DbName.{DbName}
use Rattle.nsc_model.specs.declared.switch.DbName.TheVariants as list
use Rattle.nsc_model.specs.declared.switch.SwitchService.{SwitchService}
use Rattle.nsc_model.specs.declared.switch.SwitchService.TheVariants as service
use Rattle.nsc_model.specs.declared.switch.SwitchAction.{SwitchAction}
use Rattle.nsc_model.specs.declared.switch.SwitchAction.TheVariants.{Return, Continue, Merge}
use Rattle.nsc_model.specs.declared.switch.SwitchStep.{SwitchStep}
use Rattle.nsc_model.specs.Services.{plain_step}

-- ---- lines

-- the word that begins a line of a list
abbrev pub name_text : DbName → List ℕ
name_text list.Passwd = codes "passwd"
name_text list.Group = codes "group"
name_text list.Hosts = codes "hosts"
name_text list.Services = codes "services"
name_text list.PasswdCompat = codes "passwd_compat"
name_text list.GroupCompat = codes "group_compat"

-- what stands after a text that bytes begin with
abbrev pub after_text : List ℕ → List ℕ → Option (List ℕ)
after_text [] bytes = Some bytes
after_text (x ∷ text) [] = None
after_text (x ∷ text) (b ∷ bytes) = if x == b then after_text text bytes else None

abbrev pub after_colon : List ℕ → Option (List ℕ)
after_colon [] = None
after_colon (b ∷ bytes) = if b == 58 then Some bytes else None

-- what stands after the name and the colon of a line of this list and before its remark, white space around the name aside
abbrev pub own_part : DbName → List ℕ → Option (List ℕ)
own_part name line = after_text (name_text name) (trimmed (before_remark line)) >>= λ rest. after_colon (trimmed rest)

-- the first line of a list counts alone
abbrev pub first_line : DbName → List ℕ → Option (List ℕ)
first_line name text = first_of (filter_map (own_part name) (lines_of text))

-- ---- tokens

-- a line falls into words, longest runs of bytes that are none of the others; brackets; `!`; `=`; and white space
pub data Token : Type 0 where
  Word : (bytes : List ℕ) → Token
  Open : Token
  Close : Token
  Not : Token
  Equals : Token
  Gap : Token

abbrev pub sign_of : ℕ → Option Token
sign_of b =
    if is_white b then Some Gap else (
    if b == 91 then Some Open else (
    if b == 93 then Some Close else (
    if b == 33 then Some Not else (
    if b == 61 then Some Equals else None))))

-- a byte of a word at the front of tokens
abbrev pub onto_word : ℕ → List Token → List Token
onto_word b [] = Word (b ∷ []) ∷ []
onto_word b (Word bytes ∷ tokens) = Word (b ∷ bytes) ∷ tokens
onto_word b (Open ∷ tokens) = Word (b ∷ []) ∷ Open ∷ tokens
onto_word b (Close ∷ tokens) = Word (b ∷ []) ∷ Close ∷ tokens
onto_word b (Not ∷ tokens) = Word (b ∷ []) ∷ Not ∷ tokens
onto_word b (Equals ∷ tokens) = Word (b ∷ []) ∷ Equals ∷ tokens
onto_word b (Gap ∷ tokens) = Word (b ∷ []) ∷ Gap ∷ tokens

abbrev pub put_token : Option Token → ℕ → List Token → List Token
put_token (Some sign) b tokens = sign ∷ tokens
put_token None b tokens = onto_word b tokens

unfoldable pub tokens_of : List ℕ → List Token
tokens_of [] = []
tokens_of (b ∷ bytes) = put_token (sign_of b) b (tokens_of bytes)

-- ---- services, statuses and actions by their names

abbrev pub service_of_word : List ℕ → SwitchService
service_of_word word =
    if bytes_eq word (codes "files") then service.Files else (
    if bytes_eq word (codes "compat") then service.Compat else (
    if bytes_eq word (codes "extrausers") then service.Extrausers else service.Other))

pub data Status : Type 0 where
  OnSuccess : Status
  OnNotFound : Status
  OnUnavail : Status
  OnTryAgain : Status

-- statuses and actions are named in letters of either case
abbrev pub is_named : List ℕ → List ℕ → Bool
is_named word name = bytes_eq (str_to_ascii_lowercase word) name

abbrev pub status_named : List ℕ → Option Status
status_named word =
    if is_named word (codes "success") then Some OnSuccess else (
    if is_named word (codes "notfound") then Some OnNotFound else (
    if is_named word (codes "unavail") then Some OnUnavail else (
    if is_named word (codes "tryagain") then Some OnTryAgain else None)))

abbrev pub action_named : List ℕ → Option SwitchAction
action_named word =
    if is_named word (codes "return") then Some Return else (
    if is_named word (codes "continue") then Some Continue else (
    if is_named word (codes "merge") then Some Merge else None))

-- a rule: an action at a status, or at every other one
pub record Rule : Type 0 where
  pub negated : Bool
  pub status : Status
  pub action : SwitchAction

abbrev pub with_action : Status → SwitchAction → SwitchStep → SwitchStep
with_action OnSuccess action step = record step { success = action }
with_action OnNotFound action step = record step { notfound = action }
with_action OnUnavail action step = record step { unavail = action }
with_action OnTryAgain action step = record step { tryagain = action }

abbrev pub with_others : Status → SwitchAction → SwitchStep → SwitchStep
with_others OnSuccess action step = record step { notfound = action; unavail = action; tryagain = action }
with_others OnNotFound action step = record step { success = action; unavail = action; tryagain = action }
with_others OnUnavail action step = record step { success = action; notfound = action; tryagain = action }
with_others OnTryAgain action step = record step { success = action; notfound = action; unavail = action }

-- a rule replaces what was said of its statuses before
abbrev pub ruled : Rule → SwitchStep → SwitchStep
ruled rule step = if rule.negated then with_others rule.status rule.action step else with_action rule.status rule.action step

abbrev pub ruled_by : List Rule → SwitchStep → SwitchStep
ruled_by [] step = step
ruled_by (rule ∷ rules) step = ruled_by rules (ruled rule step)

-- ---- the grammar: what a text spells, item by item

-- a list's items: a service, and a group of rules on the service before it
pub data Item : Type 0 where
  Service : (word : List ℕ) → Item
  Group : (rules : List Rule) → Item

abbrev pub AllGaps : List Token → Type 0
AllGaps [] = Unit {0}
AllGaps (Gap ∷ tokens) = AllGaps tokens
AllGaps (Word bytes ∷ tokens) = ⊥
AllGaps (Open ∷ tokens) = ⊥
AllGaps (Close ∷ tokens) = ⊥
AllGaps (Not ∷ tokens) = ⊥
AllGaps (Equals ∷ tokens) = ⊥

abbrev pub negation : Bool → List Token
negation true = Not ∷ []
negation false = []

-- an optional `!`, a status, `=` and an action, with white space around the `=` at will
pub record WritesRule (rule : Rule) (tokens : List Token) : Type 0 where
  pub status_word : List ℕ
  pub action_word : List ℕ
  pub before : List Token
  pub after : List Token
  pub before_gaps : AllGaps before
  pub after_gaps : AllGaps after
  pub is : tokens ≡ negation rule.negated ++ Word status_word ∷ before ++ Equals ∷ after ++ Word action_word ∷ []
  pub status_is : status_named status_word ≡ Some rule.status
  pub action_is : action_named action_word ≡ Some rule.action

-- one rule or more, with white space between them
abbrev pub WritesRules : List Rule → List Token → Type 0
WritesRules [] tokens = ⊥
WritesRules (rule ∷ []) tokens = WritesRule rule tokens
WritesRules (rule ∷ next ∷ rules) tokens =
    (one : List Token) × (gaps : List Token) × (rest : List Token) × WritesRule rule one × AllGaps gaps × (tokens ≡ one ++ Gap ∷ gaps ++ rest) × WritesRules (next ∷ rules) rest

-- rules in brackets, with white space inside them at will
pub record WritesGroup (rules : List Rule) (tokens : List Token) : Type 0 where
  pub before : List Token
  pub inner : List Token
  pub after : List Token
  pub before_gaps : AllGaps before
  pub after_gaps : AllGaps after
  pub is : tokens ≡ Open ∷ before ++ inner ++ after ++ Close ∷ []
  pub rules_are : WritesRules rules inner

-- items one after the other, with white space around them at will; two words with none between them would be one
abbrev pub Writes : List Item → List Token → Type 0
Writes [] tokens = AllGaps tokens
Writes (Service word ∷ items) tokens = (gaps : List Token) × (rest : List Token) × AllGaps gaps × (tokens ≡ gaps ++ Word word ∷ rest) × Writes items rest
Writes (Group rules ∷ items) tokens =
    (gaps : List Token) × (group : List Token) × (rest : List Token) × AllGaps gaps × WritesGroup rules group × (tokens ≡ gaps ++ group ++ rest) × Writes items rest

-- the steps of a list from a service on, to which the groups after it apply
abbrev pub steps_after : SwitchStep → List Item → List SwitchStep
steps_after step [] = step ∷ []
steps_after step (Service word ∷ items) = step ∷ steps_after (plain_step (service_of_word word)) items
steps_after step (Group rules ∷ items) = steps_after (ruled_by rules step) items

-- a list has a service at least, and begins with one
abbrev pub steps_of : List Item → Option (List SwitchStep)
steps_of [] = None
steps_of (Service word ∷ items) = Some (steps_after (plain_step (service_of_word word)) items)
steps_of (Group rules ∷ items) = None

-- the text spells these steps
abbrev pub WritesSteps : List ℕ → List SwitchStep → Type 0
WritesSteps text steps = (items : List Item) × Writes items (tokens_of text) × (steps_of items ≡ Some steps)

-- ---- the same, token by token

-- where a list goes on: before its first service; after an item; in brackets before the first rule, after a `!`, after a
-- status, after its `=`, after a rule, and after white space after a rule
pub data Place : Type 0 where
  First : Place
  Between : Place
  Begin : Place
  Negated : Place
  Named : (negated : Bool) → (status : Status) → Place
  Equated : (negated : Bool) → (status : Status) → Place
  Ruled : Place
  Next : Place

-- the steps that the rest spells, from a place and a step on
abbrev pub Rest : Type 0
Rest = Place → SwitchStep → Option (List SwitchStep)

abbrev pub onto_steps : SwitchStep → Option (List SwitchStep) → Option (List SwitchStep)
onto_steps step steps = option_map (λ more. step ∷ more) steps

abbrev pub after_status : Bool → Option Status → SwitchStep → Rest → Option (List SwitchStep)
after_status negated None step rest = None
after_status negated (Some status) step rest = rest (Named negated status) step

abbrev pub after_action : Bool → Status → Option SwitchAction → SwitchStep → Rest → Option (List SwitchStep)
after_action negated status None step rest = None
after_action negated status (Some action) step rest = rest Ruled (ruled (record { negated = negated; status = status; action = action }) step)

abbrev pub at_first : Token → SwitchStep → Rest → Option (List SwitchStep)
at_first (Word bytes) step rest = rest Between (plain_step (service_of_word bytes))
at_first Gap step rest = rest First step
at_first Open step rest = None
at_first Close step rest = None
at_first Not step rest = None
at_first Equals step rest = None

abbrev pub at_between : Token → SwitchStep → Rest → Option (List SwitchStep)
at_between (Word bytes) step rest = onto_steps step (rest Between (plain_step (service_of_word bytes)))
at_between Gap step rest = rest Between step
at_between Open step rest = rest Begin step
at_between Close step rest = None
at_between Not step rest = None
at_between Equals step rest = None

abbrev pub at_begin : Token → SwitchStep → Rest → Option (List SwitchStep)
at_begin (Word bytes) step rest = after_status false (status_named bytes) step rest
at_begin Gap step rest = rest Begin step
at_begin Not step rest = rest Negated step
at_begin Open step rest = None
at_begin Close step rest = None
at_begin Equals step rest = None

abbrev pub at_negated : Token → SwitchStep → Rest → Option (List SwitchStep)
at_negated (Word bytes) step rest = after_status true (status_named bytes) step rest
at_negated Gap step rest = None
at_negated Not step rest = None
at_negated Open step rest = None
at_negated Close step rest = None
at_negated Equals step rest = None

abbrev pub at_named : Bool → Status → Token → SwitchStep → Rest → Option (List SwitchStep)
at_named negated status (Word bytes) step rest = None
at_named negated status Gap step rest = rest (Named negated status) step
at_named negated status Equals step rest = rest (Equated negated status) step
at_named negated status Not step rest = None
at_named negated status Open step rest = None
at_named negated status Close step rest = None

abbrev pub at_equated : Bool → Status → Token → SwitchStep → Rest → Option (List SwitchStep)
at_equated negated status (Word bytes) step rest = after_action negated status (action_named bytes) step rest
at_equated negated status Gap step rest = rest (Equated negated status) step
at_equated negated status Equals step rest = None
at_equated negated status Not step rest = None
at_equated negated status Open step rest = None
at_equated negated status Close step rest = None

abbrev pub at_ruled : Token → SwitchStep → Rest → Option (List SwitchStep)
at_ruled Gap step rest = rest Next step
at_ruled Close step rest = rest Between step
at_ruled (Word bytes) step rest = None
at_ruled Not step rest = None
at_ruled Open step rest = None
at_ruled Equals step rest = None

abbrev pub at_next : Token → SwitchStep → Rest → Option (List SwitchStep)
at_next Gap step rest = rest Next step
at_next Close step rest = rest Between step
at_next Not step rest = rest Negated step
at_next (Word bytes) step rest = after_status false (status_named bytes) step rest
at_next Open step rest = None
at_next Equals step rest = None

abbrev pub at_place : Place → Token → SwitchStep → Rest → Option (List SwitchStep)
at_place First token step rest = at_first token step rest
at_place Between token step rest = at_between token step rest
at_place Begin token step rest = at_begin token step rest
at_place Negated token step rest = at_negated token step rest
at_place (Named negated status) token step rest = at_named negated status token step rest
at_place (Equated negated status) token step rest = at_equated negated status token step rest
at_place Ruled token step rest = at_ruled token step rest
at_place Next token step rest = at_next token step rest

-- a list ends after an item
abbrev pub at_end : Place → SwitchStep → Option (List SwitchStep)
at_end First step = None
at_end Between step = Some (step ∷ [])
at_end Begin step = None
at_end Negated step = None
at_end (Named negated status) step = None
at_end (Equated negated status) step = None
at_end Ruled step = None
at_end Next step = None

unfoldable pub list_from : Place → SwitchStep → List Token → Option (List SwitchStep)
list_from place step [] = at_end place step
list_from place step (token ∷ tokens) = at_place place token step (λ next now. list_from next now tokens)

-- the steps that a text spells, where it spells any
abbrev pub spelled_list : List ℕ → Option (List SwitchStep)
spelled_list text = list_from First (plain_step service.Other) (tokens_of text)

-- ---- lists of a content

-- a list that no line spells: `files`, and for compat lines the service nis
abbrev pub default_list : DbName → List SwitchStep
default_list list.PasswdCompat = plain_step service.Other ∷ []
default_list list.GroupCompat = plain_step service.Other ∷ []
default_list _ = plain_step service.Files ∷ []

abbrev pub list_or : List SwitchStep → Option (List SwitchStep) → List SwitchStep
list_or other None = other
list_or other (Some steps) = steps

-- the list of a name: what its first line spells; the default one where there is no such line, or it spells nothing
abbrev pub list_of : List ℕ → DbName → List SwitchStep
list_of text name = list_or (default_list name) (first_line name text >>= spelled_list)

-- an absent file is like an empty one
abbrev pub text_of : Option (List ℕ) → List ℕ
text_of None = []
text_of (Some bytes) = bytes

abbrev pub list_name : Db → DbName
list_name db.Passwd = list.Passwd
list_name db.Group = list.Group
list_name db.Hosts = list.Hosts
list_name db.Services = list.Services

-- the service list of a database over a content
unfoldable pub service_list : Content → Db → List SwitchStep
service_list files db = list_of (text_of files.switch) (list_name db)

-- the list that compat lines ask; hosts and services have no compat, so any will do for them
abbrev pub compat_name : Db → DbName
compat_name db.Group = list.GroupCompat
compat_name _ = list.PasswdCompat

unfoldable pub compat_list : Content → Db → List SwitchStep
compat_list files db = list_of (text_of files.switch) (compat_name db)
