-- A test on contents decides whether they are the same.
use Rattle.std.proofs.Common.{◌≡◌, Bool, true, false, ◌&&◌, ℕ, List, Option, Some, None, refl, ap, ◌∙◌}
use Rattle.std.proofs.lemmas.Slice.Eq.{bytes_eq-Decides}
use Rattle.std.specs.Str.{bytes_eq}
use Rattle.nsc_model.specs.Content.{Content}
use Rattle.nsc_model.specs.Files.{same_file, same_files}

pub both_true : (a b : Bool) → (a && b) ≡ true → (a ≡ true) × (b ≡ true)
both_true true true e = (refl, refl)
both_true true false e = absurd cc
both_true false b e = absurd cc

pub same_bytes : (a b : List ℕ) → bytes_eq a b ≡ true → a ≡ b
same_bytes a b e = (bytes_eq-Decides a b).0 e

pub true_both : (a b : Bool) → a ≡ true → b ≡ true → (a && b) ≡ true
true_both a b e f = rw (e, f) refl

pub bytes_same : (a : List ℕ) → bytes_eq a a ≡ true
bytes_same a = (bytes_eq-Decides a a).1 refl

one_file : (a b : Option (List ℕ)) → same_file a b ≡ true → a ≡ b
one_file None None e = refl
one_file None (Some b) e = absurd cc
one_file (Some a) None e = absurd cc
one_file (Some a) (Some b) e = ap (λ (x : List ℕ). Some x) (same_bytes a b e)

abbrev File : Type 0
File = Option (List ℕ)

abbrev all_of : File → File → File → File → File → File → File → File → Content
all_of f0 f1 f2 f3 f4 f5 f6 f7 = record { switch = f0; passwd = f1; group = f2; hosts = f3; services = f4; extra_passwd = f5; extra_group = f6; netgroup = f7 }

files_from : (a b : Content) → a.switch ≡ b.switch → a.passwd ≡ b.passwd → a.group ≡ b.group → a.hosts ≡ b.hosts → a.services ≡ b.services → a.extra_passwd ≡ b.extra_passwd → a.extra_group ≡ b.extra_group → a.netgroup ≡ b.netgroup → a ≡ b
files_from a b h0 h1 h2 h3 h4 h5 h6 h7 =
    ap (λ f. all_of f a.passwd a.group a.hosts a.services a.extra_passwd a.extra_group a.netgroup) h0
    ∙ (ap (λ f. all_of b.switch f a.group a.hosts a.services a.extra_passwd a.extra_group a.netgroup) h1
    ∙ (ap (λ f. all_of b.switch b.passwd f a.hosts a.services a.extra_passwd a.extra_group a.netgroup) h2
    ∙ (ap (λ f. all_of b.switch b.passwd b.group f a.services a.extra_passwd a.extra_group a.netgroup) h3
    ∙ (ap (λ f. all_of b.switch b.passwd b.group b.hosts f a.extra_passwd a.extra_group a.netgroup) h4
    ∙ (ap (λ f. all_of b.switch b.passwd b.group b.hosts b.services f a.extra_group a.netgroup) h5
    ∙ (ap (λ f. all_of b.switch b.passwd b.group b.hosts b.services b.extra_passwd f a.netgroup) h6
    ∙ ap (λ f. all_of b.switch b.passwd b.group b.hosts b.services b.extra_passwd b.extra_group f) h7))))))

-- a test that answers true found one content
pub one_content : (a b : Content) → same_files a b ≡ true → a ≡ b
one_content a b e =
    let p6 = both_true _ (same_file a.netgroup b.netgroup) e in
    let p5 = both_true _ (same_file a.extra_group b.extra_group) p6.0 in
    let p4 = both_true _ (same_file a.extra_passwd b.extra_passwd) p5.0 in
    let p3 = both_true _ (same_file a.services b.services) p4.0 in
    let p2 = both_true _ (same_file a.hosts b.hosts) p3.0 in
    let p1 = both_true _ (same_file a.group b.group) p2.0 in
    let p0 = both_true (same_file a.switch b.switch) (same_file a.passwd b.passwd) p1.0 in
    files_from a b (one_file a.switch b.switch p0.0) (one_file a.passwd b.passwd p0.1) (one_file a.group b.group p1.1) (one_file a.hosts b.hosts p2.1)
    (one_file a.services b.services p3.1) (one_file a.extra_passwd b.extra_passwd p4.1) (one_file a.extra_group b.extra_group p5.1) (one_file a.netgroup b.netgroup p6.1)

-- a content is the same as itself
file_same : (a : Option (List ℕ)) → same_file a a ≡ true
file_same None = refl
file_same (Some a) = bytes_same a

pub content_same : (a : Content) → same_files a a ≡ true
content_same a =
    let users = true_both _ _ (file_same a.switch) (file_same a.passwd) in
    let nets = true_both _ _ (true_both _ _ (true_both _ _ users (file_same a.group)) (file_same a.hosts)) (file_same a.services) in
    true_both _ _ (true_both _ _ (true_both _ _ nets (file_same a.extra_passwd)) (file_same a.extra_group)) (file_same a.netgroup)
