-- What a file answers to a request can be sent.
use Rattle.std.proofs.Common.{ℕ, Bool, ◌+◌, ◌*◌, ◌^◌, ◌<◌, ◌≤◌, List, filter, length, Option, Some, None, arith}
use Rattle.std.specs.List.{AllByRecursion}
use Rattle.std.proofs.lemmas.List.{length-map}
use Rattle.nsc_model.specs.declared.kind.Kind.{Kind}
use Rattle.nsc_model.specs.declared.kind.Kind.TheVariants.{PwName, PwUid, GrName, GrGid, HostName, HostName6, HostAddr, HostAddr6, Ai, InitGroups, ServName, ServPort, NetgrEnt, InNetgr}
use Rattle.nsc_model.specs.declared.row.Group.{Group}
use Rattle.nsc_model.specs.declared.row.Host.{Host}
use Rattle.nsc_model.specs.declared.row.Passwd.{Passwd}
use Rattle.nsc_model.specs.declared.row.Service.{Service}
use Rattle.nsc_model.specs.declared.row.Row.TheVariants as row
use Rattle.nsc_model.specs.declared.row.Looked.TheVariants.{Found}
use Rattle.nsc_model.specs.Answers.{addresses_of, answer_by, file_addresses, file_entry, file_ids, group_named, group_numbered, key_named, key_ported, user_named, user_numbered}
use Rattle.nsc_model.specs.Entries.{named_in}
use Rattle.nsc_model.specs.Files.{FileFits, file_limit}
use Rattle.nsc_model.specs.Groups.{group_of_line, has_member}
use Rattle.nsc_model.specs.Hosts.{host_addressed, host_has_name, host_named, host_of_line}
use Rattle.nsc_model.specs.ServiceLines.{service_key, service_of_line}
use Rattle.nsc_model.specs.Users.{user_of_line}
use Rattle.nsc_laws.proofs.SentAccounts.{IsSentGroup, IsSentUser, group_line, user_line}
use Rattle.nsc_laws.proofs.SentEntries.{entries_few, entries_in, entries_keep, file_keeps, found_keeps}
use Rattle.nsc_laws.proofs.SentIds.{IsIdOf, groups_stand, ids_in, ids_sent}
use Rattle.nsc_laws.proofs.SentLists.{all_weaker, filter_keeps, map_keeps}
use Rattle.nsc_laws.proofs.SentNets.{IsHostIn, IsSentService, addresses_sent, host_line, host_sent, service_line}
use Rattle.nsc_laws.proofs.Sent.{IsSent, entry_limit, none_sent}
use Rattle.nsc_laws.proofs.SentSizes.{filter_few}

pub users_keep : (file : Option (List ℕ)) → FileFits file → AllByRecursion (IsSentUser entry_limit) (entries_in user_of_line file)
users_keep file fits = entries_keep (IsSentUser entry_limit) user_of_line user_line file fits

pub groups_keep : (file : Option (List ℕ)) → FileFits file → AllByRecursion (IsSentGroup entry_limit) (entries_in group_of_line file)
groups_keep file fits = entries_keep (IsSentGroup entry_limit) group_of_line group_line file fits

users_sent : (names : Passwd → Bool) (file : Option (List ℕ)) → FileFits file → IsSent entry_limit PwName (file_entry row.Passwd user_of_line names file)
users_sent names file fits = file_keeps (IsSent entry_limit PwName) row.Passwd user_of_line names (none_sent PwName) (none_sent PwName) file (users_keep file fits)

groups_sent : (names : Group → Bool) (file : Option (List ℕ)) → FileFits file → IsSent entry_limit GrName (file_entry row.Group group_of_line names file)
groups_sent names file fits = file_keeps (IsSent entry_limit GrName) row.Group group_of_line names (none_sent GrName) (none_sent GrName) file (groups_keep file fits)

hosts_sent : (names : Host → Bool) (file : Option (List ℕ)) → FileFits file → IsSent entry_limit HostName (file_entry row.Host host_of_line names file)
hosts_sent names file fits =
    let hosts = all_weaker IsHostIn (λ h. IsSent entry_limit HostName (Found (row.Host h))) host_sent (entries_in host_of_line file) (entries_keep IsHostIn host_of_line host_line file fits) in
    file_keeps (IsSent entry_limit HostName) row.Host host_of_line names (none_sent HostName) (none_sent HostName) file hosts

services_sent : (names : Service → Bool) (file : Option (List ℕ)) → FileFits file → IsSent entry_limit ServName (file_entry row.Service service_of_line names file)
services_sent names file fits = file_keeps (IsSent entry_limit ServName) row.Service service_of_line names (none_sent ServName) (none_sent ServName) file (entries_keep IsSentService service_of_line service_line file fits)

-- the ids of groups are ids of theirs
pub own_ids : (groups : List Group) → AllByRecursion (IsSentGroup entry_limit) groups → AllByRecursion (λ (g : Group). IsIdOf (ids_in groups) g.gid) groups
own_ids groups sent = groups_stand (ids_in groups) groups (all_weaker (IsSentGroup entry_limit) (λ (g : Group). g.gid < 2 ^ 32) (λ g is. is.0.1.gid_fits) groups sent) (λ id h. h)

file_ids_sent : (user : List ℕ) (file : Option (List ℕ)) → FileFits file → IsSent entry_limit InitGroups (file_ids user file)
file_ids_sent user None fits = none_sent InitGroups
file_ids_sent user (Some file) fits =
    let groups = entries_in group_of_line (Some file) in
    let members = filter (has_member user) groups in
    let all = ids_in groups in
    let few : length all ≤ 2 * file_limit + 2 = omega (arith, length-map groups (λ (g : Group). g.gid), entries_few group_of_line (Some file) fits) in
    ids_sent all (ids_in members) few (map_keeps (IsIdOf all) (λ (g : Group). g.gid) members (filter_keeps (λ (g : Group). IsIdOf all g.gid) (has_member user) groups (own_ids groups (groups_keep (Some file) fits))))

addresses_sent_by : (name : List ℕ) (file : Option (List ℕ)) → FileFits file → IsSent entry_limit Ai (file_addresses name file)
addresses_sent_by name None fits = none_sent Ai
addresses_sent_by name (Some file) fits =
    let hosts = entries_in host_of_line (Some file) in
    let named = named_in host_of_line (host_has_name name) file in
    found_keeps (IsSent entry_limit Ai) row.Ai (none_sent Ai) (addresses_of name file)
    (addresses_sent named (omega (arith, filter_few (host_has_name name) hosts, entries_few host_of_line (Some file) fits)) (filter_keeps IsHostIn (host_has_name name) hosts (entries_keep IsHostIn host_of_line host_line (Some file) fits)))

pub file_sent : (kind : Kind) (file : Option (List ℕ)) (key : List ℕ) → FileFits file → IsSent entry_limit kind (answer_by kind file key)
file_sent PwName file key fits = users_sent (user_named key) file fits
file_sent PwUid file key fits = users_sent (user_numbered key) file fits
file_sent GrName file key fits = groups_sent (group_named key) file fits
file_sent GrGid file key fits = groups_sent (group_numbered key) file fits
file_sent InitGroups file key fits = file_ids_sent key file fits
file_sent HostName file key fits = hosts_sent (host_named 2 key) file fits
file_sent HostName6 file key fits = hosts_sent (host_named 10 key) file fits
file_sent HostAddr file key fits = hosts_sent (host_addressed key) file fits
file_sent HostAddr6 file key fits = hosts_sent (host_addressed key) file fits
file_sent Ai file key fits = addresses_sent_by key file fits
file_sent ServName file key fits = services_sent (key_named (service_key key)) file fits
file_sent ServPort file key fits = services_sent (key_ported (service_key key)) file fits
file_sent NetgrEnt file key fits = none_sent NetgrEnt
file_sent InNetgr file key fits = none_sent InNetgr
