-- No bytes spell two users: each field and each text is read back from the bytes.
use Rattle.std.proofs.Common.{◌≡◌, ℕ, ◌+◌, ◌<◌, ◌≤◌, ◌^◌, List, [], ◌∷◌, ◌++◌, length, drop, refl, sym, ap, subst, ◌∙◌, append_assoc, arith}
use Rattle.std.proofs.lemmas.List.{length-append, append_cancel_right}
use Rattle.byteorder.specs.Endian.{little_from}
use Rattle.byteorder.specs.Numbers.{little_number-reads_back}
use Rattle.nsc_model.specs.declared.row.Passwd.{Passwd}
use Rattle.nsc_model.specs.Answer.{reply_limit}
use Rattle.nsc_model.specs.Wire.{field, text, passwd_found, IsUser}

pub tail_is : (x y : ℕ) (r s : List ℕ) → x ∷ r ≡ y ∷ s → r ≡ s
tail_is x y r s e = ap (drop 1) e

pub head_is : (x y : ℕ) (r s : List ℕ) → x ∷ r ≡ y ∷ s → x ≡ y
head_is x y r s e = cc

-- a field and what stands after it
pub same_field : (x y : ℕ) (r s : List ℕ) → x < 2 ^ 32 → y < 2 ^ 32 → field x ++ r ≡ field y ++ s → (x ≡ y) × (r ≡ s)
same_field x y r s x_fits y_fits e = (sym (little_number-reads_back 4 x r x_fits) ∙ (ap (little_from 0 4) e ∙ little_number-reads_back 4 y s y_fits), ap (drop 4) e)

-- a text and what stands after it, where the lengths are known
pub same_text : (a b r s : List ℕ) → length a + 1 ≡ length b + 1 → text a ++ r ≡ text b ++ s → (a ≡ b) × (r ≡ s)
same_text [] [] r s l e = (refl, ap (drop 1) e)
same_text [] (y ∷ b) r s l e = absurd (omega arith)
same_text (x ∷ a) [] r s l e = absurd (omega arith)
same_text (x ∷ a) (y ∷ b) r s l e =
    let h : x ≡ y = head_is x y (text a ++ r) (text b ++ s) e in
    let more = same_text a b r s (omega arith) (tail_is x y (text a ++ r) (text b ++ s) e) in
    (subst (λ z. x ∷ a ≡ z ∷ b) h (ap (λ c. x ∷ c) more.0), more.1)

pub same_last : (a b : List ℕ) → text a ≡ text b → a ≡ b
same_last a b e = append_cancel_right a b (0 ∷ []) e

-- ---- the entry of a user

-- the texts from each on
abbrev from_dir : Passwd → List ℕ
from_dir p = text p.dir ++ text p.shell

abbrev from_gecos : Passwd → List ℕ
from_gecos p = text p.gecos ++ (text p.dir ++ text p.shell)

abbrev from_passwd : Passwd → List ℕ
from_passwd p = text p.passwd ++ (text p.gecos ++ (text p.dir ++ text p.shell))

abbrev texts : Passwd → List ℕ
texts p = text p.name ++ (text p.passwd ++ (text p.gecos ++ (text p.dir ++ text p.shell)))

abbrev texts_as_sent : Passwd → List ℕ
texts_as_sent p = text p.name ++ text p.passwd ++ text p.gecos ++ text p.dir ++ text p.shell

pub to_the_right : (a b c d e : List ℕ) → a ++ b ++ c ++ d ++ e ≡ a ++ (b ++ (c ++ (d ++ e)))
to_the_right a b c d e = append_assoc (a ++ b ++ c) d e ∙ (append_assoc (a ++ b) c (d ++ e) ∙ append_assoc a b (c ++ (d ++ e)))

regrouped : (p : Passwd) → texts_as_sent p ≡ texts p
regrouped p = to_the_right (text p.name) (text p.passwd) (text p.gecos) (text p.dir) (text p.shell)

-- the lengths of the texts, with their zero bytes, fit their fields
record Fits (p : Passwd) : Type 0 where
  name_fits : length p.name + 1 < 2 ^ 32
  passwd_fits : length p.passwd + 1 < 2 ^ 32
  gecos_fits : length p.gecos + 1 < 2 ^ 32
  dir_fits : length p.dir + 1 < 2 ^ 32
  shell_fits : length p.shell + 1 < 2 ^ 32

pub length_text : (a r : List ℕ) → length (text a ++ r) ≡ length a + 1 + length r
length_text a r = omega (arith, length-append (text a) r, length-append a (0 ∷ []))

texts_within : (p : Passwd) → length (passwd_found p) ≡ 36 + length (texts p)
texts_within p = let e : length (texts_as_sent p) ≡ length (texts p) = ap (λ (l : List ℕ). length l) (regrouped p) in omega (arith, e)

abbrev all_lengths : Passwd → ℕ
all_lengths p = length p.name + 1 + (length p.passwd + 1 + (length p.gecos + 1 + (length p.dir + 1 + (length p.shell + 1))))

texts_length : (p : Passwd) → length (texts p) ≡ all_lengths p
texts_length p =
    length_text p.name (from_passwd p) ∙ ap (λ n. length p.name + 1 + n) (
    length_text p.passwd (from_gecos p) ∙ ap (λ n. length p.passwd + 1 + n) (
    length_text p.gecos (from_dir p) ∙ ap (λ n. length p.gecos + 1 + n) (
    length_text p.dir (text p.shell) ∙ ap (λ n. length p.dir + 1 + n) (length-append p.shell (0 ∷ [])))))

lengths : (p : Passwd) → length (passwd_found p) ≤ reply_limit → Fits p
lengths p bound =
    let within : 36 + all_lengths p ≤ reply_limit = subst (λ n. n ≤ reply_limit) (texts_within p ∙ ap (λ n. 36 + n) (texts_length p)) bound in
    record {
      name_fits = omega (arith, within);
      passwd_fits = omega (arith, within);
      gecos_fits = omega (arith, within);
      dir_fits = omega (arith, within);
      shell_fits = omega (arith, within);
    }

abbrev made : List ℕ → List ℕ → ℕ → ℕ → List ℕ → List ℕ → List ℕ → Passwd
made name passwd uid gid gecos dir shell = record { name = name; passwd = passwd; uid = uid; gid = gid; gecos = gecos; dir = dir; shell = shell }

user_from : (p q : Passwd) → p.name ≡ q.name → p.passwd ≡ q.passwd → p.uid ≡ q.uid → p.gid ≡ q.gid → p.gecos ≡ q.gecos → p.dir ≡ q.dir → p.shell ≡ q.shell → p ≡ q
user_from p q h0 h1 h2 h3 h4 h5 h6 =
    ap (λ x. made x p.passwd p.uid p.gid p.gecos p.dir p.shell) h0
    ∙ (ap (λ x. made q.name x p.uid p.gid p.gecos p.dir p.shell) h1
    ∙ (ap (λ x. made q.name q.passwd x p.gid p.gecos p.dir p.shell) h2
    ∙ (ap (λ x. made q.name q.passwd q.uid x p.gecos p.dir p.shell) h3
    ∙ (ap (λ x. made q.name q.passwd q.uid q.gid x p.dir p.shell) h4
    ∙ (ap (λ x. made q.name q.passwd q.uid q.gid q.gecos x p.shell) h5
    ∙ ap (λ x. made q.name q.passwd q.uid q.gid q.gecos q.dir x) h6)))))

pub same_user : (p q : Passwd) → IsUser p → IsUser q → length (passwd_found p) ≤ reply_limit → length (passwd_found q) ≤ reply_limit → passwd_found p ≡ passwd_found q → p ≡ q
same_user p q p_is q_is p_short q_short e =
    let f = lengths p p_short in
    let g = lengths q q_short in
    let version = same_field 2 2 _ _ (omega arith) (omega arith) e in
    let found = same_field 1 1 _ _ (omega arith) (omega arith) version.1 in
    let name_len = same_field (length p.name + 1) (length q.name + 1) _ _ f.name_fits g.name_fits found.1 in
    let passwd_len = same_field (length p.passwd + 1) (length q.passwd + 1) _ _ f.passwd_fits g.passwd_fits name_len.1 in
    let uid = same_field p.uid q.uid _ _ p_is.uid_fits q_is.uid_fits passwd_len.1 in
    let gid = same_field p.gid q.gid _ _ p_is.gid_fits q_is.gid_fits uid.1 in
    let gecos_len = same_field (length p.gecos + 1) (length q.gecos + 1) _ _ f.gecos_fits g.gecos_fits gid.1 in
    let dir_len = same_field (length p.dir + 1) (length q.dir + 1) _ _ f.dir_fits g.dir_fits gecos_len.1 in
    let shell_len = same_field (length p.shell + 1) (length q.shell + 1) _ _ f.shell_fits g.shell_fits dir_len.1 in
    let name = same_text p.name q.name (from_passwd p) (from_passwd q) name_len.0 (sym (regrouped p) ∙ (shell_len.1 ∙ regrouped q)) in
    let passwd = same_text p.passwd q.passwd (from_gecos p) (from_gecos q) passwd_len.0 name.1 in
    let gecos = same_text p.gecos q.gecos (from_dir p) (from_dir q) gecos_len.0 passwd.1 in
    let dir = same_text p.dir q.dir (text p.shell) (text q.shell) dir_len.0 gecos.1 in
    user_from p q name.0 passwd.0 uid.0 gid.0 gecos.0 dir.0 (same_last p.shell q.shell dir.1)
