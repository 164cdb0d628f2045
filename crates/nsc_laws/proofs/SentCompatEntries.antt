-- The users and groups that compat finds can be sent.
use Rattle.std.proofs.Common.{ℕ, Bool, List, IfSome}
use Rattle.nsc_model.specs.declared.kind.Db.TheVariants as db
use Rattle.nsc_model.specs.declared.kind.Kind.{Kind}
use Rattle.nsc_model.specs.declared.kind.Kind.TheVariants.{PwName, GrName}
use Rattle.nsc_model.specs.declared.row.Group.{Group}
use Rattle.nsc_model.specs.declared.row.Passwd.{Passwd}
use Rattle.nsc_model.specs.declared.row.Looked.{Looked}
use Rattle.nsc_model.specs.declared.row.Looked.TheVariants.{Found, Unavail}
use Rattle.nsc_model.specs.declared.row.Row.TheVariants as row
use Rattle.nsc_model.specs.Answers.{group_in, group_scan, sub_looked, user_in, user_scan}
use Rattle.nsc_model.specs.Compat.{scanned_file}
use Rattle.nsc_model.specs.Content.{Content}
use Rattle.nsc_model.specs.Files.{FilesFit}
use Rattle.nsc_model.specs.Answer.{reply_limit}
use Rattle.nsc_laws.proofs.SentAccounts.{IsSentGroup, IsSentUser, replaced_fits}
use Rattle.nsc_laws.proofs.SentAnswers.{groups_keep, users_keep}
use Rattle.nsc_laws.proofs.SentScans.{Scans, scan_keeps}
use Rattle.nsc_laws.proofs.Sent.{IsSent, any_sent, entry_limit, none_sent}
use Rattle.nsc_laws.proofs.SentSwitches.{sub_looked_sent}

user_found : (looked : Looked) → IsSent entry_limit PwName looked → IfSome (user_in looked) (IsSentUser entry_limit)
user_found (Found (row.Passwd p)) sent = sent
user_found _ sent = tt

group_found : (looked : Looked) → IsSent entry_limit GrName looked → IfSome (group_in looked) (IsSentGroup entry_limit)
group_found (Found (row.Group g)) sent = sent
group_found _ sent = tt

pub users_sent : (files : Content) (by : Kind) (key : List ℕ) (names : Passwd → Bool) → FilesFit files
    → IsSent entry_limit PwName (sub_looked files db.Passwd by key) → IsSent reply_limit PwName (scanned_file (user_scan files by key names) files.passwd)
users_sent files by key names fit asked =
    let scan = user_scan files by key names in
    let none = any_sent PwName Unavail (none_sent PwName) in
    let scans : Scans (IsSent reply_limit PwName) (IsSentUser entry_limit) scan = record {
      none = none;
      lacking = none;
      own = λ p kept. any_sent PwName (Found (row.Passwd p)) kept;
      replaced = replaced_fits;
      named = λ name. user_found (sub_looked files db.Passwd PwName name) (sub_looked_sent files db.Passwd PwName name fit);
      asked = user_found (sub_looked files db.Passwd by key) asked;
    } in
    scan_keeps (IsSent reply_limit PwName) (IsSentUser entry_limit) scan scans files.passwd fit.passwd_fits (users_keep files.passwd fit.passwd_fits)

pub groups_sent : (files : Content) (by : Kind) (key : List ℕ) (names : Group → Bool) → FilesFit files
    → IsSent entry_limit GrName (sub_looked files db.Group by key) → IsSent reply_limit GrName (scanned_file (group_scan files by key names) files.group)
groups_sent files by key names fit asked =
    let scan = group_scan files by key names in
    let none = any_sent GrName Unavail (none_sent GrName) in
    let scans : Scans (IsSent reply_limit GrName) (IsSentGroup entry_limit) scan = record {
      none = none;
      lacking = none;
      own = λ g kept. any_sent GrName (Found (row.Group g)) kept;
      replaced = λ fields g are kept. any_sent GrName (Found (row.Group g)) kept;
      named = λ name. group_found (sub_looked files db.Group GrName name) (sub_looked_sent files db.Group GrName name fit);
      asked = group_found (sub_looked files db.Group by key) asked;
    } in
    scan_keeps (IsSent reply_limit GrName) (IsSentGroup entry_limit) scan scans files.group fit.group_fits (groups_keep files.group fit.group_fits)
