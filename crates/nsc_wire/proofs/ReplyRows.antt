-- A row that is read is the row that was written.
use Rattle.std.proofs.Common.{◌≡◌, ℕ, ◌+◌, ◌^◌, ◌<◌, cond, ltb, List, ◌++◌, length, All, Result, Ok, Err, refl, sym, subst, arith}
use Rattle.std.specs.List.{flat_map}
use Rattle.std.proofs.lemmas.Bool.{ltb-true}
use Rattle.std.proofs.lemmas.List.Elements.{All-from_recursion}
use Rattle.nsc_model.specs.declared.row.Passwd.{Passwd}
use Rattle.nsc_model.specs.declared.row.Group.{Group}
use Rattle.nsc_model.specs.declared.row.Service.{Service}
use Rattle.nsc_model.specs.ServiceLines.{exchanged}
use Rattle.nsc_model.specs.Wire.{field, text, text_len, IsText, IsUser, IsGroup, IsService}
use Rattle.nsc_wire.specs.Fields.{fields}
use Rattle.nsc_wire.specs.Replies.{◌>>=◌, number_at, numbers_at, size_at, sizes_at, text_at, texts_at, user_at, group_at, ids_at, port_at, service_at}
use Rattle.nsc_wire.proofs.ReplyFields.{IsBytes, bind_ok, guard_is, ok_is, Takes, Takes-then, number_takes, numbers_take, size_takes}
use Rattle.nsc_wire.proofs.ReplyTexts.{sized, sizes_fit, text_takes, texts_take}

-- ---- users

-- the texts of a user
abbrev pub user_texts : Passwd → List ℕ
user_texts p = text p.name ++ (text p.passwd ++ (text p.gecos ++ (text p.dir ++ text p.shell)))

-- the bytes of a user after the fields version and found
abbrev pub user_body : Passwd → List ℕ
user_body p = text_len p.name ++ (text_len p.passwd ++ (field p.uid ++ (field p.gid ++ (text_len p.gecos ++ (text_len p.dir ++ (text_len p.shell ++ user_texts p))))))

-- the texts of a user whose fields were read
unfoldable texts_after : ℕ → ℕ → ℕ → ℕ → ℕ → ℕ → ℕ → List ℕ → Result (Passwd × List ℕ) ℕ
texts_after name passwd uid gid gecos dir shell bytes =
    text_at name bytes >>= λ name. text_at passwd name.1 >>= λ passwd. text_at gecos passwd.1 >>= λ gecos. text_at dir gecos.1 >>= λ dir. text_at shell dir.1 >>= λ shell.
    Ok (record { name = name.0; passwd = passwd.0; uid = uid; gid = gid; gecos = gecos.0; dir = dir.0; shell = shell.0 }, shell.1)

record AreUserTexts (name passwd uid gid gecos dir shell : ℕ) (bytes : List ℕ) (p : Passwd) (rest : List ℕ) : Type 0 where
  texts : Takes bytes (user_texts p) rest
  name_is : IsText p.name
  passwd_is : IsText p.passwd
  gecos_is : IsText p.gecos
  dir_is : IsText p.dir
  shell_is : IsText p.shell
  name_len : length p.name + 1 ≡ name
  passwd_len : length p.passwd + 1 ≡ passwd
  uid_is : uid ≡ p.uid
  gid_is : gid ≡ p.gid
  gecos_len : length p.gecos + 1 ≡ gecos
  dir_len : length p.dir + 1 ≡ dir
  shell_len : length p.shell + 1 ≡ shell

texts_after_take : (n0 n1 uid gid n4 n5 n6 : ℕ) (bytes : List ℕ) (x : Passwd × List ℕ) → IsBytes bytes → texts_after n0 n1 uid gid n4 n5 n6 bytes ≡ Ok x → AreUserTexts n0 n1 uid gid n4 n5 n6 bytes x.0 x.1
unfolding texts_after
texts_after_take n0 n1 uid gid n4 n5 n6 bytes x fits e =
    let b0 = bind_ok (text_at n0 bytes) _ x e in
    let b1 = bind_ok (text_at n1 b0.0.1) _ x b0.2 in
    let b2 = bind_ok (text_at n4 b1.0.1) _ x b1.2 in
    let b3 = bind_ok (text_at n5 b2.0.1) _ x b2.2 in
    let b4 = bind_ok (text_at n6 b3.0.1) _ x b3.2 in
    let t0 = text_takes n0 bytes b0.0 fits b0.1 in
    let t1 = text_takes n1 b0.0.1 b1.0 t0.0.rest_fits b1.1 in
    let t2 = text_takes n4 b1.0.1 b2.0 t1.0.rest_fits b2.1 in
    let t3 = text_takes n5 b2.0.1 b3.0 t2.0.rest_fits b3.1 in
    let t4 = text_takes n6 b3.0.1 b4.0 t3.0.rest_fits b4.1 in
    let rest : List ℕ = b4.0.1 in
    let w3 = Takes-then b2.0.1 (text b3.0.0) b3.0.1 (text b4.0.0) rest t3.0 t4.0 in
    let w2 = Takes-then b1.0.1 (text b2.0.0) b2.0.1 (text b3.0.0 ++ text b4.0.0) rest t2.0 w3 in
    let w1 = Takes-then b0.0.1 (text b1.0.0) b1.0.1 (text b2.0.0 ++ (text b3.0.0 ++ text b4.0.0)) rest t1.0 w2 in
    let w0 = Takes-then bytes (text b0.0.0) b0.0.1 (text b1.0.0 ++ (text b2.0.0 ++ (text b3.0.0 ++ text b4.0.0))) rest t0.0 w1 in
    let made : Passwd × List ℕ = (record { name = b0.0.0; passwd = b1.0.0; uid = uid; gid = gid; gecos = b2.0.0; dir = b3.0.0; shell = b4.0.0 }, rest) in
    subst (λ (y : Passwd × List ℕ). AreUserTexts n0 n1 uid gid n4 n5 n6 bytes y.0 y.1) {x = made} (ok_is made x b4.2)
    (record {
      texts = w0;
      name_is = t0.1;
      passwd_is = t1.1;
      gecos_is = t2.1;
      dir_is = t3.1;
      shell_is = t4.1;
      name_len = t0.2;
      passwd_len = t1.2;
      uid_is = refl;
      gid_is = refl;
      gecos_len = t2.2;
      dir_len = t3.2;
      shell_len = t4.2;
    })

pub user_takes : (bytes : List ℕ) (x : Passwd × List ℕ) → IsBytes bytes → user_at bytes ≡ Ok x → Takes bytes (user_body x.0) x.1 × IsUser x.0
unfolding user_at texts_after
user_takes bytes x fits e =
    let p : Passwd = x.0 in
    let rest : List ℕ = x.1 in
    let a0 = bind_ok (size_at bytes) _ x e in
    let a1 = bind_ok (size_at a0.0.1) _ x a0.2 in
    let a2 = bind_ok (number_at a1.0.1) _ x a1.2 in
    let a3 = bind_ok (number_at a2.0.1) _ x a2.2 in
    let a4 = bind_ok (size_at a3.0.1) _ x a3.2 in
    let a5 = bind_ok (size_at a4.0.1) _ x a4.2 in
    let a6 = bind_ok (size_at a5.0.1) _ x a5.2 in
    let s0 = size_takes bytes a0.0 fits a0.1 in
    let s1 = size_takes a0.0.1 a1.0 s0.rest_fits a1.1 in
    let n2 = number_takes a1.0.1 a2.0 s1.rest_fits a2.1 in
    let n3 = number_takes a2.0.1 a3.0 n2.0.rest_fits a3.1 in
    let s4 = size_takes a3.0.1 a4.0 n3.0.rest_fits a4.1 in
    let s5 = size_takes a4.0.1 a5.0 s4.rest_fits a5.1 in
    let s6 = size_takes a5.0.1 a6.0 s5.rest_fits a6.1 in
    let t = texts_after_take a0.0.0 a1.0.0 a2.0.0 a3.0.0 a4.0.0 a5.0.0 a6.0.0 a6.0.1 x s6.rest_fits a6.2 in
    let v6 = Takes-then a5.0.1 (text_len p.shell) a6.0.1 (user_texts p) rest (sized a5.0.1 a6.0.0 a6.0.1 p.shell t.shell_len s6) t.texts in
    let v5 = Takes-then a4.0.1 (text_len p.dir) a5.0.1 (text_len p.shell ++ user_texts p) rest (sized a4.0.1 a5.0.0 a5.0.1 p.dir t.dir_len s5) v6 in
    let v4 = Takes-then a3.0.1 (text_len p.gecos) a4.0.1 (text_len p.dir ++ (text_len p.shell ++ user_texts p)) rest (sized a3.0.1 a4.0.0 a4.0.1 p.gecos t.gecos_len s4) v5 in
    let v3 = Takes-then a2.0.1 (field p.gid) a3.0.1 (text_len p.gecos ++ (text_len p.dir ++ (text_len p.shell ++ user_texts p))) rest (subst (λ (n : ℕ). Takes a2.0.1 (field n) a3.0.1) t.gid_is n3.0) v4 in
    let v2 = Takes-then a1.0.1 (field p.uid) a2.0.1 (field p.gid ++ (text_len p.gecos ++ (text_len p.dir ++ (text_len p.shell ++ user_texts p)))) rest (subst (λ (n : ℕ). Takes a1.0.1 (field n) a2.0.1) t.uid_is n2.0) v3 in
    let v1 = Takes-then a0.0.1 (text_len p.passwd) a1.0.1 (field p.uid ++ (field p.gid ++ (text_len p.gecos ++ (text_len p.dir ++ (text_len p.shell ++ user_texts p))))) rest (sized a0.0.1 a1.0.0 a1.0.1 p.passwd t.passwd_len s1) v2 in
    let v0 = Takes-then bytes (text_len p.name) a0.0.1 (text_len p.passwd ++ (field p.uid ++ (field p.gid ++ (text_len p.gecos ++ (text_len p.dir ++ (text_len p.shell ++ user_texts p)))))) rest (sized bytes a0.0.0 a0.0.1 p.name t.name_len s0) v1 in (
      v0,
      record {
        name_is = t.name_is;
        passwd_is = t.passwd_is;
        uid_fits = subst (λ (n : ℕ). n < 2 ^ 32) t.uid_is n2.1;
        gid_fits = subst (λ (n : ℕ). n < 2 ^ 32) t.gid_is n3.1;
        gecos_is = t.gecos_is;
        dir_is = t.dir_is;
        shell_is = t.shell_is;
      },
    )

-- ---- groups

abbrev pub group_body : Group → List ℕ
group_body g =
    text_len g.name ++ (text_len g.passwd ++ (field g.gid ++ (field (length g.members) ++ (flat_map text_len g.members ++ (text g.name ++ (text g.passwd ++ flat_map text g.members))))))

pub group_takes : (bytes : List ℕ) (x : Group × List ℕ) → IsBytes bytes → group_at bytes ≡ Ok x → Takes bytes (group_body x.0) x.1 × IsGroup x.0
unfolding group_at
group_takes bytes x fits e =
    let a0 = bind_ok (size_at bytes) _ x e in
    let a1 = bind_ok (size_at a0.0.1) _ x a0.2 in
    let a2 = bind_ok (number_at a1.0.1) _ x a1.2 in
    let a3 = bind_ok (number_at a2.0.1) _ x a2.2 in
    let a4 = bind_ok (sizes_at a3.0.0 a3.0.1) _ x a3.2 in
    let b0 = bind_ok (text_at a0.0.0 a4.0) _ x a4.2 in
    let b1 = bind_ok (text_at a1.0.0 b0.0.1) _ x b0.2 in
    let b2 = bind_ok (texts_at a3.0.0 a3.0.1 b1.0.1) _ x b1.2 in
    let s0 = size_takes bytes a0.0 fits a0.1 in
    let s1 = size_takes a0.0.1 a1.0 s0.rest_fits a1.1 in
    let n2 = number_takes a1.0.1 a2.0 s1.rest_fits a2.1 in
    let n3 = number_takes a2.0.1 a3.0 n2.0.rest_fits a3.1 in
    let l4 = sizes_fit a3.0.0 a3.0.1 a4.0 n3.0.rest_fits a4.1 in
    let t0 = text_takes a0.0.0 a4.0 b0.0 l4 b0.1 in
    let t1 = text_takes a1.0.0 b0.0.1 b1.0 t0.0.rest_fits b1.1 in
    let t2 = texts_take a3.0.0 a3.0.1 b1.0.1 a4.0 b2.0 n3.0.rest_fits t1.0.rest_fits a4.1 b2.1 in
    let rest : List ℕ = b2.0.1 in
    let w1 = Takes-then b0.0.1 (text b1.0.0) b1.0.1 (flat_map text b2.0.0) rest t1.0 t2.texts_are in
    let w0 = Takes-then a4.0 (text b0.0.0) b0.0.1 _ rest t0.0 w1 in
    let v4 = Takes-then a3.0.1 (flat_map text_len b2.0.0) a4.0 _ rest t2.sizes w0 in
    let v3 = Takes-then a2.0.1 (field (length b2.0.0)) a3.0.1 _ rest (subst (λ (n : ℕ). Takes a2.0.1 (field n) a3.0.1) (sym t2.count_is) n3.0) v4 in
    let v2 = Takes-then a1.0.1 (field a2.0.0) a2.0.1 _ rest n2.0 v3 in
    let v1 = Takes-then a0.0.1 (text_len b1.0.0) a1.0.1 _ rest (sized a0.0.1 a1.0.0 a1.0.1 b1.0.0 t1.2 s1) v2 in
    let v0 = Takes-then bytes (text_len b0.0.0) a0.0.1 _ rest (sized bytes a0.0.0 a0.0.1 b0.0.0 t0.2 s0) v1 in
    let made : Group × List ℕ = (record { name = b0.0.0; passwd = b1.0.0; gid = a2.0.0; members = b2.0.0 }, rest) in
    subst (λ (y : Group × List ℕ). Takes bytes (group_body y.0) y.1 × IsGroup y.0) {x = made} (ok_is made x b2.2)
    (v0, record { name_is = t0.1; passwd_is = t1.1; gid_fits = n2.1; members_are = All-from_recursion IsText b2.0.0 t2.each })

-- ---- the groups of a user

abbrev pub ids_body : List ℕ → List ℕ
ids_body ids = field (length ids) ++ fields ids

pub ids_take : (bytes : List ℕ) (x : List ℕ × List ℕ) → IsBytes bytes → ids_at bytes ≡ Ok x → Takes bytes (ids_body x.0) x.1 × All (λ id. id < 2 ^ 32) x.0
unfolding ids_at
ids_take bytes x fits e =
    let a = bind_ok (number_at bytes) (λ count. numbers_at count.0 count.1) x e in
    let n = number_takes bytes a.0 fits a.1 in
    let t = numbers_take a.0.0 a.0.1 x n.0.rest_fits a.2 in
    (Takes-then bytes (field (length x.0)) a.0.1 (fields x.0) x.1 (subst (λ (count : ℕ). Takes bytes (field count) a.0.1) (sym t.1) n.0) t.0, All-from_recursion (λ (id : ℕ). id < 2 ^ 32) x.0 t.2)

-- ---- services

abbrev pub service_body : Service → List ℕ
service_body s =
    text_len s.name ++ (text_len s.proto ++ (field (length s.aliases) ++ (field (exchanged s.port) ++ (text s.name ++ (text s.proto ++ (flat_map text_len s.aliases ++ flat_map text s.aliases))))))

-- two bytes that are exchanged twice stand as before
pub exchanged_twice : (port : ℕ) → port < 65536 → (exchanged (exchanged port) ≡ port) × (exchanged port < 65536)
exchanged_twice port small = (omega arith, omega arith)

port_takes : (bytes : List ℕ) (x : ℕ × List ℕ) → IsBytes bytes → port_at bytes ≡ Ok x → Takes bytes (field (exchanged x.0)) x.1 × (x.0 < 2 ^ 16)
unfolding port_at
port_takes bytes x fits e =
    let a = bind_ok (number_at bytes) (λ n. cond (ltb n.0 65536) (Ok (exchanged n.0, n.1)) (Err (length bytes))) x e in
    let g = guard_is (ltb a.0.0 65536) (length bytes) (Ok (exchanged a.0.0, a.0.1)) x a.2 in
    let n = number_takes bytes a.0 fits a.1 in
    let both = exchanged_twice a.0.0 (ltb-true _ _ g.0) in
    subst (λ (y : ℕ × List ℕ). Takes bytes (field (exchanged y.0)) y.1 × (y.0 < 2 ^ 16)) (ok_is (exchanged a.0.0, a.0.1) x g.1)
    (subst (λ (p : ℕ). Takes bytes (field p) a.0.1) (sym both.0) n.0, both.1)

pub service_takes : (bytes : List ℕ) (x : Service × List ℕ) → IsBytes bytes → service_at bytes ≡ Ok x → Takes bytes (service_body x.0) x.1 × IsService x.0
unfolding service_at
service_takes bytes x fits e =
    let a0 = bind_ok (size_at bytes) _ x e in
    let a1 = bind_ok (size_at a0.0.1) _ x a0.2 in
    let a2 = bind_ok (number_at a1.0.1) _ x a1.2 in
    let a3 = bind_ok (port_at a2.0.1) _ x a2.2 in
    let b0 = bind_ok (text_at a0.0.0 a3.0.1) _ x a3.2 in
    let b1 = bind_ok (text_at a1.0.0 b0.0.1) _ x b0.2 in
    let b2 = bind_ok (sizes_at a2.0.0 b1.0.1) _ x b1.2 in
    let b3 = bind_ok (texts_at a2.0.0 b1.0.1 b2.0) _ x b2.2 in
    let s0 = size_takes bytes a0.0 fits a0.1 in
    let s1 = size_takes a0.0.1 a1.0 s0.rest_fits a1.1 in
    let n2 = number_takes a1.0.1 a2.0 s1.rest_fits a2.1 in
    let p3 = port_takes a2.0.1 a3.0 n2.0.rest_fits a3.1 in
    let t0 = text_takes a0.0.0 a3.0.1 b0.0 p3.0.rest_fits b0.1 in
    let t1 = text_takes a1.0.0 b0.0.1 b1.0 t0.0.rest_fits b1.1 in
    let l2 = sizes_fit a2.0.0 b1.0.1 b2.0 t1.0.rest_fits b2.1 in
    let t3 = texts_take a2.0.0 b1.0.1 b2.0 b2.0 b3.0 t1.0.rest_fits l2 b2.1 b3.1 in
    let rest : List ℕ = b3.0.1 in
    let w2 = Takes-then b1.0.1 (flat_map text_len b3.0.0) b2.0 (flat_map text b3.0.0) rest t3.sizes t3.texts_are in
    let w1 = Takes-then b0.0.1 (text b1.0.0) b1.0.1 _ rest t1.0 w2 in
    let w0 = Takes-then a3.0.1 (text b0.0.0) b0.0.1 _ rest t0.0 w1 in
    let v3 = Takes-then a2.0.1 (field (exchanged a3.0.0)) a3.0.1 _ rest p3.0 w0 in
    let v2 = Takes-then a1.0.1 (field (length b3.0.0)) a2.0.1 _ rest (subst (λ (n : ℕ). Takes a1.0.1 (field n) a2.0.1) (sym t3.count_is) n2.0) v3 in
    let v1 = Takes-then a0.0.1 (text_len b1.0.0) a1.0.1 _ rest (sized a0.0.1 a1.0.0 a1.0.1 b1.0.0 t1.2 s1) v2 in
    let v0 = Takes-then bytes (text_len b0.0.0) a0.0.1 _ rest (sized bytes a0.0.0 a0.0.1 b0.0.0 t0.2 s0) v1 in
    let made : Service × List ℕ = (record { name = b0.0.0; proto = b1.0.0; aliases = b3.0.0; port = a3.0.0 }, rest) in
    subst (λ (y : Service × List ℕ). Takes bytes (service_body y.0) y.1 × IsService y.0) {x = made} (ok_is made x b3.2)
    (v0, record { name_is = t0.1; proto_is = t1.1; aliases_are = All-from_recursion IsText b3.0.0 t3.each; port_fits = p3.1 })
