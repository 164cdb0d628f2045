-- What the services of a list come to can be sent, where what each of them answers can be.
use Rattle.std.proofs.Common.{ℕ, true, false, if◌then◌else◌, List, [], ◌∷◌, Option, Some, None, IfSome, arith}
use Rattle.nsc_model.specs.declared.answer.Request.{Request}
use Rattle.nsc_model.specs.declared.kind.Db.{Db}
use Rattle.nsc_model.specs.declared.kind.Db.TheVariants as db
use Rattle.nsc_model.specs.declared.kind.Kind.{Kind}
use Rattle.nsc_model.specs.declared.row.Looked.{Looked}
use Rattle.nsc_model.specs.declared.kind.Kind.TheVariants.{InitGroups}
use Rattle.nsc_model.specs.declared.row.Row.{Row}
use Rattle.nsc_model.specs.declared.row.Looked.TheVariants.{Found, NotFound, Unavail}
use Rattle.nsc_model.specs.Answers.{extra_file, joined, joined_row, merges, own_file, row_in, stepped, sub_answer, sub_looked, switched, switched_on}
use Rattle.nsc_model.specs.Content.{Content}
use Rattle.nsc_model.specs.Files.{FileFits, FilesFit}
use Rattle.nsc_model.specs.Kinds.{database_of}
use Rattle.nsc_model.specs.declared.switch.SwitchService.{SwitchService}
use Rattle.nsc_model.specs.declared.switch.SwitchService.TheVariants as service
use Rattle.nsc_model.specs.declared.switch.SwitchStep.{SwitchStep}
use Rattle.nsc_model.specs.declared.switch.SwitchAction.{SwitchAction}
use Rattle.nsc_model.specs.declared.switch.SwitchAction.TheVariants.{Return, Continue, Merge}
use Rattle.nsc_model.specs.Services.{action_at}
use Rattle.nsc_model.specs.Switches.{compat_list}
use Rattle.nsc_laws.proofs.SentAnswers.{file_sent}
use Rattle.nsc_laws.proofs.SentJoined.{FindsIdsOf, IsJoinable, all_ids, both_have, few_ids, file_finds, other_finds, rows_join}
use Rattle.nsc_laws.proofs.Sent.{IsSent, entry_limit, none_sent}

-- ---- what holds of the outcome of each service holds of that of a switch

-- a row has a property of outcomes, also where it is joined to another one that has it
abbrev pub Joins : (Looked → Type 0) → Type 0
Joins P = (h g : Row) → P (Found h) → P (Found g) → P (Found (joined_row h g))

-- the row that is held, if one is, has it
abbrev Held : (Looked → Type 0) → Option Row → Type 0
Held P held = IfSome held (λ h. P (Found h))

joined_keeps : (P : Looked → Type 0) → Joins P → (held : Option Row) (outcome : Looked) → Held P held → P outcome → P (joined held outcome)
joined_keeps P joins None outcome kept is = is
joined_keeps P joins (Some h) (Found g) kept is = joins h g kept is
joined_keeps P joins (Some h) NotFound kept is = kept
joined_keeps P joins (Some h) Unavail kept is = kept

row_held : (P : Looked → Type 0) (outcome : Looked) → P outcome → Held P (row_in outcome)
row_held P (Found found) is = is
row_held P NotFound is = tt
row_held P Unavail is = tt

stepped_keeps : (P : Looked → Type 0) (by : Kind) (action : SwitchAction) (held : Option Row) (outcome : Looked) (next : Option Row → Looked)
    → Held P held → P (joined held outcome) → ((row : Option Row) → Held P row → P (next row)) → P (stepped by action held outcome next)
stepped_keeps P by Return held outcome next kept is later = is
stepped_keeps P by Merge held outcome next kept is later =
    let row = row_in (joined held outcome) in
    elim (merges by outcome) as (λ v. P (if v then next row else joined held outcome)) [ true ↦ later row (row_held P (joined held outcome) is) | false ↦ is ]
stepped_keeps P by Continue held outcome next kept is later = later held kept

module _ (P : Looked → Type 0) (by : Kind) (look : SwitchService → Looked) (none : P Unavail) (joins : Joins P) (each : (service : SwitchService) → P (look service)) where
  switched_on_keeps : (steps : List SwitchStep) (held : Option Row) → Held P held → P (switched_on by look held steps)
  switched_on_keeps [] held kept = joined_keeps P joins held Unavail kept none
  switched_on_keeps (step ∷ []) held kept = joined_keeps P joins held (look step.service) kept (each step.service)
  switched_on_keeps (step ∷ next ∷ steps) held kept =
      let outcome = look step.service in
      stepped_keeps P by (action_at step outcome) held outcome (λ row. switched_on by look row (next ∷ steps)) kept (joined_keeps P joins held outcome kept (each step.service)) (switched_on_keeps (next ∷ steps))

  pub switched_keeps : (steps : List SwitchStep) → P (switched by look steps)
  switched_keeps steps = switched_on_keeps steps None tt

-- ---- the services that compat lines ask

own_fits : (files : Content) (d : Db) → FilesFit files → FileFits (own_file d files)
own_fits files db.Passwd fit = fit.passwd_fits
own_fits files db.Group fit = fit.group_fits
own_fits files db.Hosts fit = fit.hosts_fits
own_fits files db.Services fit = fit.services_fits

extra_fits : (files : Content) (d : Db) → FilesFit files → FileFits (extra_file d files)
extra_fits files db.Passwd fit = fit.extra_passwd_fits
extra_fits files db.Group fit = fit.extra_group_fits
extra_fits files db.Hosts fit = tt
extra_fits files db.Services fit = tt

pub sub_sent : (files : Content) (request : Request) → FilesFit files → (service : SwitchService) → IsSent entry_limit request.kind (sub_answer files request service)
sub_sent files request fit service.Files = file_sent request.kind (own_file (database_of request.kind) files) request.key (own_fits files (database_of request.kind) fit)
sub_sent files request fit service.Compat = none_sent request.kind
sub_sent files request fit service.Extrausers = file_sent request.kind (extra_file (database_of request.kind) files) request.key (extra_fits files (database_of request.kind) fit)
sub_sent files request fit service.Other = none_sent request.kind

sub_finds : (files : Content) (kind : Kind) (key : List ℕ) → FilesFit files → (service : SwitchService) → FindsIdsOf (all_ids files) (sub_answer files (record { kind = kind; key = key }) service)
sub_finds files InitGroups key fit service.Files = file_finds (all_ids files) key files.group (both_have files fit).0
sub_finds files InitGroups key fit service.Compat = tt
sub_finds files InitGroups key fit service.Extrausers = file_finds (all_ids files) key files.extra_group (both_have files fit).1
sub_finds files InitGroups key fit service.Other = tt
sub_finds files kind key fit service =
    let request : Request = record { kind = kind; key = key } in
    other_finds (all_ids files) entry_limit kind (sub_answer files request service) (λ is. cc) (sub_sent files request fit service)

pub sub_joinable : (files : Content) (request : Request) → FilesFit files → (service : SwitchService) → IsJoinable entry_limit (all_ids files) request.kind (sub_answer files request service)
sub_joinable files request fit service = (sub_sent files request fit service, sub_finds files request.kind request.key fit service)

pub sub_looked_sent : (files : Content) (d : Db) (kind : Kind) (key : List ℕ) → FilesFit files → IsSent entry_limit kind (sub_looked files d kind key)
sub_looked_sent files d kind key fit =
    let request : Request = record { kind = kind; key = key } in
    let joins = rows_join entry_limit (all_ids files) kind (omega arith) (few_ids files fit) in
    (switched_keeps (IsJoinable entry_limit (all_ids files) kind) kind (sub_answer files request) (none_sent kind, tt) joins (sub_joinable files request fit) (compat_list files d)).0
