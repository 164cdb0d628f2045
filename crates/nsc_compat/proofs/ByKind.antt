-- What compat answers, by the kind of the request.
use Rattle.std.proofs.Common.{◌≡◌, ℕ, List, Option, sym, ◌∙◌, ap}
use Rattle.nsc_base.specs.Decimal.{decimal_of}
use Rattle.nsc_model.specs.declared.kind.Kind.{Kind}
use Rattle.nsc_model.specs.declared.kind.Kind.TheVariants as kind
use Rattle.nsc_model.specs.declared.row.Passwd.{Passwd}
use Rattle.nsc_model.specs.declared.row.Group.{Group}
use Rattle.nsc_model.specs.Answers.{compat_answer, compat_by, gathered_file, group_named, group_numbered, group_scan, id_scan, is_id, user_named, user_numbered, user_scan}
use Rattle.nsc_model.specs.Compat.{scanned_file}
use Rattle.nsc_model.specs.Content.{Content}

pub user_by_name : (files : Content) (by : Kind) (key : List ℕ) → by ≡ kind.PwName → scanned_file (user_scan files by key (user_named key)) files.passwd ≡ compat_answer files (record { kind = by; key = key })
unfolding compat_answer
user_by_name files by key is = ap (λ k. scanned_file (user_scan files k key (user_named key)) files.passwd) is ∙ sym (ap (λ k. compat_by k files key) is)

pub user_by_id : (files : Content) (by : Kind) (key : List ℕ) (id : Option ℕ) → by ≡ kind.PwUid → id ≡ decimal_of key → scanned_file (user_scan files by key (λ p. is_id id p.uid)) files.passwd ≡ compat_answer files (record { kind = by; key = key })
unfolding compat_answer
user_by_id files by key id is number =
    ap (λ (n : Option ℕ). scanned_file (user_scan files by key (λ (p : Passwd). is_id n p.uid)) files.passwd) number
    ∙ ap (λ k. scanned_file (user_scan files k key (user_numbered key)) files.passwd) is ∙ sym (ap (λ k. compat_by k files key) is)

pub group_by_name : (files : Content) (by : Kind) (key : List ℕ) → by ≡ kind.GrName → scanned_file (group_scan files by key (group_named key)) files.group ≡ compat_answer files (record { kind = by; key = key })
unfolding compat_answer
group_by_name files by key is = ap (λ k. scanned_file (group_scan files k key (group_named key)) files.group) is ∙ sym (ap (λ k. compat_by k files key) is)

pub group_by_id : (files : Content) (by : Kind) (key : List ℕ) (id : Option ℕ) → by ≡ kind.GrGid → id ≡ decimal_of key → scanned_file (group_scan files by key (λ g. is_id id g.gid)) files.group ≡ compat_answer files (record { kind = by; key = key })
unfolding compat_answer
group_by_id files by key id is number =
    ap (λ (n : Option ℕ). scanned_file (group_scan files by key (λ (g : Group). is_id n g.gid)) files.group) number
    ∙ ap (λ k. scanned_file (group_scan files k key (group_numbered key)) files.group) is ∙ sym (ap (λ k. compat_by k files key) is)

pub ids_of_user : (files : Content) (by : Kind) (user : List ℕ) → by ≡ kind.InitGroups → gathered_file (id_scan files user) files.group ≡ compat_answer files (record { kind = by; key = user })
unfolding compat_answer
ids_of_user files by user is = sym (ap (λ k. compat_by k files user) is)
