-- The entries of passwd and group files can be sent, also with the fields of a compat line.
use Rattle.std.proofs.Common.{◌≡◌, ℕ, ◌+◌, ◌^◌, ◌<◌, ◌≤◌, Bool, true, false, nat_lt, ◌&&◌, ◌==◌, nat_le, if◌then◌else◌, List, [], ◌∷◌, flat_map, length, IfSome, refl, arith, length-append, leb-true}
use Rattle.std.specs.List.{AllByRecursion}
use Rattle.std.specs.Str.{bytes_eq}
use Rattle.std.proofs.lemmas.Bool.Decides.{Decides-ltb}
use Rattle.std.proofs.lemmas.List.Elements.{All-append}
use Rattle.nsc_base.specs.Decimal.{decimal_of, is_decimal, value_of}
use Rattle.nsc_base.specs.Text.{fields_of, is_filled, trimmed}
use Rattle.nsc_base.proofs.Options.{then_keeps, when_false, when_true}
use Rattle.nsc_model.specs.declared.kind.Kind.TheVariants.{PwName, GrName}
use Rattle.nsc_model.specs.declared.row.Group.{Group}
use Rattle.nsc_model.specs.declared.row.Looked.TheVariants.{Found}
use Rattle.nsc_model.specs.declared.row.Passwd.{Passwd}
use Rattle.nsc_model.specs.declared.row.Row.TheVariants as row
use Rattle.nsc_model.specs.Answers.{join_limit, joined_group, with_members}
use Rattle.nsc_model.specs.Compat.{own_or, replaced_user}
use Rattle.nsc_model.specs.Files.{file_limit}
use Rattle.nsc_model.specs.Groups.{group_of_fields, group_of_line, members_of}
use Rattle.nsc_model.specs.Answer.{reply_limit}
use Rattle.nsc_model.specs.Users.{has_zero, is_name, user_of_fields, user_of_line}
use Rattle.nsc_model.specs.Wire.{IsText, group_found, passwd_found, text, text_len}
use Rattle.nsc_laws.proofs.Sent.{IsSent, entry_limit}
use Rattle.nsc_laws.proofs.SentSizes.{filled_size, pieces_size, sent_lengths, sent_texts, size_of, trimmed_short}
use Rattle.nsc_laws.proofs.SentTexts.{IsClean, are_texts, clean_filled, clean_line, clean_pieces, clean_trimmed, is_text}

-- fields as a line of a file may have them
abbrev pub AreFields : List (List ℕ) → Type 0
AreFields fields = AllByRecursion IsClean fields × (size_of fields ≤ file_limit + 1)

pub line_fields : (line : List ℕ) → has_zero line ≡ false → length line ≤ file_limit → AreFields (fields_of 58 (trimmed line))
line_fields line clean short =
    (clean_pieces (λ b. b == 58) (trimmed line) (clean_trimmed line (clean_line line clean)), omega (arith, pieces_size (λ b. b == 58) (trimmed line), trimmed_short line, short))

and_true : (a b : Bool) → (a && b) ≡ true → b ≡ true
and_true true b h = h
and_true false b h = absurd cc

pub decimal_fits : (text : List ℕ) → IfSome (decimal_of text) (λ n. n < 2 ^ 32)
decimal_fits text =
    when_true (λ n. n < 2 ^ 32) (is_decimal text && nat_lt (value_of text) (2 ^ 32)) (value_of text) (λ is. (Decides-ltb (value_of text) (2 ^ 32)).0 (and_true (is_decimal text) (nat_lt (value_of text) (2 ^ 32)) is))

-- ---- users

abbrev pub IsSentUser : ℕ → Passwd → Type 0
IsSentUser limit p = IsSent limit PwName (Found (row.Passwd p))

user_size : (p : Passwd) → length (passwd_found p) ≡ 41 + length p.name + length p.passwd + length p.gecos + length p.dir + length p.shell
user_size p = simp length-append (omega arith)

user_fits : (fields : List (List ℕ)) → AreFields fields → IfSome (user_of_fields fields) (IsSentUser entry_limit)
user_fits (name ∷ passwd ∷ uid ∷ gid ∷ gecos ∷ dir ∷ shell ∷ []) ((n, (w, (u, (g, (e, (d, (s, none))))))), small) =
    then_keeps (λ id. id < 2 ^ 32) (IsSentUser entry_limit) _ (decimal_of uid) (decimal_fits uid) (λ user user_id. then_keeps (λ id. id < 2 ^ 32) (IsSentUser entry_limit) _ (decimal_of gid) (decimal_fits gid) (λ group group_id.
    let p : Passwd = record { name = name; passwd = passwd; uid = user; gid = group; gecos = gecos; dir = dir; shell = shell } in
    when_true (IsSentUser entry_limit) (is_name name) p (λ is. (
      (refl, record { name_is = is_text name n; passwd_is = is_text passwd w; uid_fits = user_id; gid_fits = group_id; gecos_is = is_text gecos e; dir_is = is_text dir d; shell_is = is_text shell s }),
      omega (arith, user_size p, small),
    ))))
user_fits _ are = tt

pub user_line : (line : List ℕ) → length line ≤ file_limit → IfSome (user_of_line line) (IsSentUser entry_limit)
user_line line short =
    when_false (IsSentUser entry_limit) (has_zero line) (user_of_fields (fields_of 58 (trimmed line))) (λ clean. user_fits (fields_of 58 (trimmed line)) (line_fields line clean short))

own_text : (P : List ℕ → Type 0) (own other : List ℕ) → P own → P other → P (own_or own other)
own_text P own other first second = elim (is_filled own) as (λ v. P (if v then own else other)) [ true ↦ first | false ↦ second ]

own_size : (own other : List ℕ) → length (own_or own other) ≤ length own + length other
own_size own other = own_text (λ text. length text ≤ length own + length other) own other (omega arith) (omega arith)

pub replaced_fits : (fields : List (List ℕ)) (p : Passwd) → AreFields fields → IsSentUser entry_limit p → IsSentUser reply_limit (replaced_user fields p)
replaced_fits (name ∷ passwd ∷ uid ∷ gid ∷ gecos ∷ dir ∷ shell ∷ []) p ((n, (w, (u, (g, (e, (d, (s, none))))))), small) sent =
    let replaced = replaced_user (name ∷ passwd ∷ uid ∷ gid ∷ gecos ∷ dir ∷ shell ∷ []) p in (
      (
        refl,
        record {
          name_is = sent.0.1.name_is;
          passwd_is = own_text IsText passwd p.passwd (is_text passwd w) sent.0.1.passwd_is;
          uid_fits = sent.0.1.uid_fits;
          gid_fits = sent.0.1.gid_fits;
          gecos_is = own_text IsText gecos p.gecos (is_text gecos e) sent.0.1.gecos_is;
          dir_is = own_text IsText dir p.dir (is_text dir d) sent.0.1.dir_is;
          shell_is = own_text IsText shell p.shell (is_text shell s) sent.0.1.shell_is;
        },
      ),
      omega (arith, user_size replaced, user_size p, sent.1, small, own_size passwd p.passwd, own_size gecos p.gecos, own_size dir p.dir, own_size shell p.shell),
    )
replaced_fits _ p are sent = (sent.0, omega (arith, sent.1))

-- ---- groups

abbrev pub IsSentGroup : ℕ → Group → Type 0
IsSentGroup limit g = IsSent limit GrName (Found (row.Group g))

group_size : (g : Group) → length (group_found g) ≡ 26 + length g.name + length g.passwd + length (flat_map text_len g.members) + length (flat_map text g.members)
group_size g = simp length-append (omega arith)

group_fits : (fields : List (List ℕ)) → AreFields fields → IfSome (group_of_fields fields) (IsSentGroup entry_limit)
group_fits (name ∷ passwd ∷ gid ∷ members ∷ []) ((n, (w, (g, (m, none)))), small) =
    then_keeps (λ id. id < 2 ^ 32) (IsSentGroup entry_limit) _ (decimal_of gid) (decimal_fits gid) (λ id group_id.
    let group : Group = record { name = name; passwd = passwd; gid = id; members = members_of members } in
    when_true (IsSentGroup entry_limit) (is_name name) group (λ is. (
      (refl, record { name_is = is_text name n; passwd_is = is_text passwd w; gid_fits = group_id; members_are = are_texts (members_of members) (clean_filled (λ b. b == 44) members m) }),
      omega (arith, group_size group, sent_lengths group.members, sent_texts group.members, filled_size (λ b. b == 44) members, small),
    )))
group_fits _ are = tt

pub group_line : (line : List ℕ) → length line ≤ file_limit → IfSome (group_of_line line) (IsSentGroup entry_limit)
group_line line short =
    when_false (IsSentGroup entry_limit) (has_zero line) (group_of_fields (fields_of 58 (trimmed line))) (λ clean. group_fits (fields_of 58 (trimmed line)) (line_fields line clean short))

-- a group that another one was joined to
pub joined_fits : (limit : ℕ) (h g : Group) → join_limit ≤ limit → IsSentGroup limit h → IsSentGroup limit g → IsSentGroup limit (joined_group h g)
joined_fits limit h g room sent other = by_test (bytes_eq h.name g.name && h.gid == g.gid && short) refl where
  short : Bool
  short = nat_le (length (group_found (with_members h g))) join_limit

  by_test : (b : Bool) → (bytes_eq h.name g.name && h.gid == g.gid && short) ≡ b → IsSentGroup limit (if b then with_members h g else h)
  by_test true is =
      let small : length (group_found (with_members h g)) ≤ join_limit = leb-true (length (group_found (with_members h g))) join_limit (and_true (bytes_eq h.name g.name && h.gid == g.gid) short is) in (
        (refl, record { name_is = sent.0.1.name_is; passwd_is = sent.0.1.passwd_is; gid_fits = sent.0.1.gid_fits; members_are = All-append IsText h.members g.members sent.0.1.members_are other.0.1.members_are }),
        omega (arith, small, room),
      )
  by_test false is = sent
