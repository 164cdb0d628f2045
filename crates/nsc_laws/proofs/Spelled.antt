-- What a content answers spells what the switch finds.
use Rattle.std.proofs.Common.{◌≢◌, ◌↔◌, ℕ, IsTrue, List, refl, arith}
use Rattle.nsc_model.specs.declared.answer.Request.{Request}
use Rattle.nsc_model.specs.declared.kind.Kind.{Kind}
use Rattle.nsc_model.specs.declared.kind.Kind.TheVariants.{PwName, PwUid, GrName, GrGid, InitGroups}
use Rattle.nsc_model.specs.declared.kind.Db.TheVariants as db
use Rattle.nsc_model.specs.declared.row.Looked.{Looked}
use Rattle.nsc_model.specs.declared.row.Looked.TheVariants.{Found, NotFound, Unavail}
use Rattle.nsc_model.specs.declared.row.Row.{Row}
use Rattle.nsc_model.specs.Answers.{answer_of, compat_answer, compat_by, group_named, group_numbered, id_scan, gathered_file, looked_up, marked, service_answer, sub_answer, user_named, user_numbered}
use Rattle.nsc_model.specs.Content.{Content}
use Rattle.nsc_model.specs.Files.{FilesFit}
use Rattle.nsc_model.specs.Kinds.{database_of}
use Rattle.nsc_model.specs.Answer.{reply_limit}
use Rattle.nsc_model.specs.Outcomes.{reply_to}
use Rattle.nsc_model.specs.declared.switch.SwitchService.{SwitchService}
use Rattle.nsc_model.specs.declared.switch.SwitchService.TheVariants as service
use Rattle.nsc_model.specs.Switches.{service_list}
use Rattle.nsc_model.specs.Wire.{Spells}
use Rattle.nsc_laws.proofs.SentCompatEntries.{groups_sent, users_sent}
use Rattle.nsc_laws.proofs.SentCompatIds.{ids_gathered}
use Rattle.nsc_laws.proofs.Sent.{IsSent, any_sent, none_sent}
use Rattle.nsc_laws.proofs.SentJoined.{FindsIdsOf, IsJoinable, all_ids, few_ids, other_finds, rows_join}
use Rattle.nsc_laws.proofs.SentSwitches.{sub_joinable, sub_looked_sent, sub_sent, switched_keeps}

compat_sent : (by : Kind) (files : Content) (key : List ℕ) → FilesFit files → IsSent reply_limit by (compat_by by files key)
compat_sent PwName files key fit = users_sent files PwName key (user_named key) fit (sub_looked_sent files db.Passwd PwName key fit)
compat_sent PwUid files key fit = users_sent files PwUid key (user_numbered key) fit (sub_looked_sent files db.Passwd PwUid key fit)
compat_sent GrName files key fit = groups_sent files GrName key (group_named key) fit (sub_looked_sent files db.Group GrName key fit)
compat_sent GrGid files key fit = groups_sent files GrGid key (group_numbered key) fit (sub_looked_sent files db.Group GrGid key fit)
compat_sent InitGroups files key fit = any_sent InitGroups (gathered_file (id_scan files key) files.group) (ids_gathered files key fit).0
compat_sent by files key fit = any_sent by Unavail (none_sent by)

service_sent : (files : Content) (request : Request) → FilesFit files → (service : SwitchService) → IsSent reply_limit request.kind (service_answer files request service)
unfolding compat_answer
service_sent files request fit service.Files = any_sent request.kind (sub_answer files request service.Files) (sub_sent files request fit service.Files)
service_sent files request fit service.Compat = compat_sent request.kind files request.key fit
service_sent files request fit service.Extrausers = any_sent request.kind (sub_answer files request service.Extrausers) (sub_sent files request fit service.Extrausers)
service_sent files request fit service.Other = any_sent request.kind Unavail (none_sent request.kind)

-- the ids that are found are of the groups of both files, each once
compat_finds : (by : Kind) (files : Content) (key : List ℕ) → FilesFit files → FindsIdsOf (all_ids files) (compat_by by files key)
compat_finds InitGroups files key fit = (ids_gathered files key fit).1
compat_finds by files key fit = other_finds (all_ids files) reply_limit by (compat_by by files key) (λ is. cc) (compat_sent by files key fit)

service_finds : (files : Content) (request : Request) → FilesFit files → (service : SwitchService) → FindsIdsOf (all_ids files) (service_answer files request service)
unfolding compat_answer
service_finds files request fit service.Files = (sub_joinable files request fit service.Files).1
service_finds files request fit service.Compat = compat_finds request.kind files request.key fit
service_finds files request fit service.Extrausers = (sub_joinable files request fit service.Extrausers).1
service_finds files request fit service.Other = tt

outcome_sent : (files : Content) (request : Request) → FilesFit files → IsSent reply_limit request.kind (looked_up files request)
outcome_sent files request fit =
    let none : IsJoinable reply_limit (all_ids files) request.kind Unavail = (any_sent request.kind Unavail (none_sent request.kind), tt) in
    let joins = rows_join reply_limit (all_ids files) request.kind (omega arith) (few_ids files fit) in
    let each : (service : SwitchService) → IsJoinable reply_limit (all_ids files) request.kind (service_answer files request service) = λ service. (service_sent files request fit service, service_finds files request fit service) in
    (switched_keeps (IsJoinable reply_limit (all_ids files) request.kind) request.kind (service_answer files request) none joins each (service_list files (database_of request.kind))).0

-- what is sent of an outcome spells its reply
spells : (kind : Kind) (looked : Looked) → IsSent reply_limit kind looked → Spells kind (reply_to looked) (marked kind looked).bytes
spells kind (Found row) sent = record { of_kind = sent.0; spelling = refl; bound = sent.1 }
spells kind NotFound sent = record { of_kind = sent.0; spelling = refl; bound = sent.1 }
spells kind Unavail sent = record { of_kind = sent.0; spelling = refl; bound = sent.1 }

pub answer_spells : (files : Content) (request : Request) → FilesFit files → Spells request.kind (reply_to (looked_up files request)) (answer_of files request).bytes
unfolding answer_of
answer_spells files request fit = spells request.kind (looked_up files request) (outcome_sent files request fit)

-- its mark says whether nothing was found
marks : (kind : Kind) (looked : Looked) → IsTrue (marked kind looked).not_found ↔ ((row : Row) → looked ≢ Found row)
marks kind (Found row) = (λ is. absurd cc, λ other. absurd (other row refl))
marks kind NotFound = (λ is row found. absurd cc, λ other. refl)
marks kind Unavail = (λ is row found. absurd cc, λ other. refl)

pub answer_marks : (files : Content) (request : Request) → IsTrue (answer_of files request).not_found ↔ ((row : Row) → looked_up files request ≢ Found row)
unfolding answer_of
answer_marks files request = marks request.kind (looked_up files request)
