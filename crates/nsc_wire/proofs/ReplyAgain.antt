-- A reply that is spelled is read again.
use Rattle.std.proofs.Common.{◌≡◌, ℕ, suc, ◌+◌, ◌*◌, ◌^◌, ◌<◌, ◌≤◌, true, false, ltb, eqb, List, [], ◌∷◌, ◌++◌, length, map, All, Ok, refl, sym, ap, ◌∙◌, append_assoc, arith, length-append}
use Rattle.std.specs.List.{flat_map, AllByRecursion}
use Rattle.std.proofs.lemmas.Bool.{le-ltb, lt-ltb}
use Rattle.std.proofs.lemmas.List.{append-nil, take_at, drop_at, length-map}
use Rattle.std.proofs.lemmas.List.Concat.{flat_map-cons}
use Rattle.std.proofs.lemmas.List.Elements.{recursion_from_All}
use Rattle.nsc_model.specs.declared.row.Passwd.{Passwd}
use Rattle.nsc_model.specs.declared.row.Group.{Group}
use Rattle.nsc_model.specs.declared.row.Host.{Host}
use Rattle.nsc_model.specs.declared.row.Service.{Service}
use Rattle.nsc_model.specs.declared.row.Found6.{Found6}
use Rattle.nsc_model.specs.declared.row.Ai.{Ai}
use Rattle.nsc_model.specs.Answer.{reply_limit}
use Rattle.nsc_model.specs.ServiceLines.{exchanged}
use Rattle.nsc_model.specs.Wire.{field, text, text_len, IsText, IsUser, IsGroup, IsHost, IsService, AreAddresses}
use Rattle.nsc_wire.specs.Fields.{fields}
use Rattle.nsc_wire.specs.Replies.{piece_at, number_at, numbers_at, all_fixed, texts_at, user_at, group_at, ids_at, address_size, family_at, host_at, found_at, founds_at, addresses_at, port_at, service_at}
use Rattle.nsc_wire.proofs.Sizes.{length-fields, length-lengths}
use Rattle.nsc_wire.proofs.ReplyFields.{bind_is, piece_again, number_again, numbers_again, fixed_again, all_fixed_again, size_again}
use Rattle.nsc_wire.proofs.ReplyTexts.{text_again, text_last, sizes_again, texts_again}
use Rattle.nsc_wire.proofs.ReplyRows.{user_body, group_body, ids_body, exchanged_twice, service_body}
use Rattle.nsc_wire.proofs.ReplyAddresses.{address_of, family_of, IsFound, size_is, size_filled, family_fits, host_body, addresses_body}

-- ---- texts that stand at the end

-- how many bytes a text takes, and what stands after it
length_text : (one rest : List ℕ) → length (text one ++ rest) ≡ length one + 1 + length rest
length_text one rest = omega (arith, length-append (text one) rest, length-append one (0 ∷ []))

-- the lengths of texts fit their fields where all of them have so few bytes
texts_fit : (texts : List (List ℕ)) → length (flat_map text texts) ≤ reply_limit → AllByRecursion (λ t. length t + 1 < 2 ^ 32) texts
texts_fit [] few = tt
texts_fit (one ∷ texts) few =
    let all : length (flat_map text (one ∷ texts)) ≡ length one + 1 + length (flat_map text texts) = ap (λ (x : List ℕ). length x) (flat_map-cons text one texts) ∙ length_text one (flat_map text texts) in
    (omega (arith, all, few), texts_fit texts (omega (arith, all, few)))

texts_last : (texts : List (List ℕ)) (after : List ℕ) → length (flat_map text texts) ≤ reply_limit → All IsText texts → texts_at (length texts) (flat_map text_len texts ++ after) (flat_map text texts) ≡ Ok (texts, [])
texts_last texts after few are =
    ap (texts_at (length texts) (flat_map text_len texts ++ after)) (sym (append-nil (flat_map text texts))) ∙ texts_again texts after [] (texts_fit texts few) (recursion_from_All IsText texts are)

-- ---- users

pub user_again : (p : Passwd) → IsUser p → length (user_body p) ≤ reply_limit → user_at (user_body p) ≡ Ok (p, [])
unfolding user_at
user_again p is few =
    let t3 : List ℕ = text p.dir ++ text p.shell in
    let t2 : List ℕ = text p.gecos ++ t3 in
    let t1 : List ℕ = text p.passwd ++ t2 in
    let t0 : List ℕ = text p.name ++ t1 in
    let r5 : List ℕ = text_len p.shell ++ t0 in
    let r4 : List ℕ = text_len p.dir ++ r5 in
    let r3 : List ℕ = text_len p.gecos ++ r4 in
    let r2 : List ℕ = field p.gid ++ r3 in
    let r1 : List ℕ = field p.uid ++ r2 in
    let r0 : List ℕ = text_len p.passwd ++ r1 in
    let all : length (user_body p) ≡ 28 + length t0 = omega arith in
    let l0 : length t0 ≡ length p.name + 1 + length t1 = length_text p.name t1 in
    let l1 : length t1 ≡ length p.passwd + 1 + length t2 = length_text p.passwd t2 in
    let l2 : length t2 ≡ length p.gecos + 1 + length t3 = length_text p.gecos t3 in
    let l3 : length t3 ≡ length p.dir + 1 + length (text p.shell) = length_text p.dir (text p.shell) in
    let l4 : length (text p.shell) ≡ length p.shell + 1 = length-append p.shell (0 ∷ []) in
    rw (
      size_again (length p.name) r0 (omega (arith, few, all, l0)),
      size_again (length p.passwd) r1 (omega (arith, few, all, l0, l1)),
      number_again p.uid r2 is.uid_fits,
      number_again p.gid r3 is.gid_fits,
      size_again (length p.gecos) r4 (omega (arith, few, all, l0, l1, l2)),
      size_again (length p.dir) r5 (omega (arith, few, all, l0, l1, l2, l3)),
      size_again (length p.shell) t0 (omega (arith, few, all, l0, l1, l2, l3, l4)),
      text_again p.name t1 is.name_is,
      text_again p.passwd t2 is.passwd_is,
      text_again p.gecos t3 is.gecos_is,
      text_again p.dir (text p.shell) is.dir_is,
      text_last p.shell is.shell_is,
    ) refl

-- ---- groups

pub group_again : (g : Group) → IsGroup g → length (group_body g) ≤ reply_limit → group_at (group_body g) ≡ Ok (g, [])
unfolding group_at
group_again g is few =
    let m : List ℕ = flat_map text g.members in
    let t1 : List ℕ = text g.passwd ++ m in
    let t0 : List ℕ = text g.name ++ t1 in
    let r3 : List ℕ = flat_map text_len g.members ++ t0 in
    let r2 : List ℕ = field (length g.members) ++ r3 in
    let r1 : List ℕ = field g.gid ++ r2 in
    let r0 : List ℕ = text_len g.passwd ++ r1 in
    let all : length (group_body g) ≡ 16 + length r3 = omega arith in
    let l3 : length r3 ≡ 4 * length g.members + length t0 = length-append (flat_map text_len g.members) t0 ∙ ap (λ (n : ℕ). n + length t0) (length-lengths g.members) in
    let l0 : length t0 ≡ length g.name + 1 + length t1 = length_text g.name t1 in
    let l1 : length t1 ≡ length g.passwd + 1 + length m = length_text g.passwd m in
    let small : length m ≤ reply_limit = omega (arith, few, all, l3, l0, l1) in
    rw (
      size_again (length g.name) r0 (omega (arith, few, all, l3, l0)),
      size_again (length g.passwd) r1 (omega (arith, few, all, l3, l0, l1)),
      number_again g.gid r2 is.gid_fits,
      number_again (length g.members) r3 (omega (arith, few, all, l3)),
      sizes_again g.members t0 (texts_fit g.members small),
      text_again g.name t1 is.name_is,
      text_again g.passwd m is.passwd_is,
      texts_last g.members t0 small is.members_are,
    ) refl

-- ---- the groups of a user

pub ids_again : (ids : List ℕ) → All (λ id. id < 2 ^ 32) ids → length (ids_body ids) ≤ reply_limit → ids_at (ids_body ids) ≡ Ok (ids, [])
unfolding ids_at
ids_again ids are few =
    let all : length (ids_body ids) ≡ 4 + 4 * length ids = omega (arith, length-fields ids) in
    let last : numbers_at (length ids) (fields ids) ≡ Ok (ids, []) = ap (numbers_at (length ids)) (sym (append-nil (fields ids))) ∙ numbers_again ids [] (recursion_from_All (λ (id : ℕ). id < 2 ^ 32) ids are) in
    rw (number_again (length ids) (fields ids) (omega (arith, few, all)), last) refl

-- ---- services

port_again : (port : ℕ) (rest : List ℕ) → port < 2 ^ 16 → port_at (field (exchanged port) ++ rest) ≡ Ok (port, rest)
unfolding port_at
port_again port rest small =
    let both = exchanged_twice port small in
    let low : ltb (exchanged port) 65536 ≡ true = lt-ltb (exchanged port) 65536 both.1 in
    bind_is (number_at (field (exchanged port) ++ rest)) _ (exchanged port, rest) (Ok (port, rest)) (number_again (exchanged port) rest (omega (arith, both.1)))
    (rw low (ap (λ (p : ℕ). Ok (p, rest)) both.0))

pub service_again : (s : Service) → IsService s → length (service_body s) ≤ reply_limit → service_at (service_body s) ≡ Ok (s, [])
unfolding service_at
service_again s is few =
    let m : List ℕ = flat_map text s.aliases in
    let t2 : List ℕ = flat_map text_len s.aliases ++ m in
    let t1 : List ℕ = text s.proto ++ t2 in
    let t0 : List ℕ = text s.name ++ t1 in
    let r2 : List ℕ = field (exchanged s.port) ++ t0 in
    let r1 : List ℕ = field (length s.aliases) ++ r2 in
    let r0 : List ℕ = text_len s.proto ++ r1 in
    let all : length (service_body s) ≡ 16 + length t0 = omega arith in
    let l0 : length t0 ≡ length s.name + 1 + length t1 = length_text s.name t1 in
    let l1 : length t1 ≡ length s.proto + 1 + length t2 = length_text s.proto t2 in
    let l2 : length t2 ≡ 4 * length s.aliases + length m = length-append (flat_map text_len s.aliases) m ∙ ap (λ (n : ℕ). n + length m) (length-lengths s.aliases) in
    let small : length m ≤ reply_limit = omega (arith, few, all, l0, l1, l2) in
    rw (
      size_again (length s.name) r0 (omega (arith, few, all, l0)),
      size_again (length s.proto) r1 (omega (arith, few, all, l0, l1)),
      number_again (length s.aliases) r2 (omega (arith, few, all, l0, l1, l2)),
      port_again s.port t0 is.port_fits,
      text_again s.name t1 is.name_is,
      text_again s.proto t2 is.proto_is,
      sizes_again s.aliases m (texts_fit s.aliases small),
      texts_last s.aliases m small is.aliases_are,
    ) refl

-- ---- hosts

-- the fields from the family on, and the address: each is as the family says
family_again : (h : Host) (rest : List ℕ) → IsHost h → family_at (field h.family ++ rest) ≡ Ok (h.family, rest)
unfolding family_at
family_again h rest is =
    bind_is (number_at (field h.family ++ rest)) _ (h.family, rest) (Ok (h.family, rest)) (number_again h.family rest (family_fits h.family h.address is.address_is))
    (rw (size_filled h.family h.address is.address_is) refl)

length_again : (h : Host) (rest : List ℕ) → IsHost h → length h.address < 2 ^ 32 → all_fixed (address_size h.family ∷ 1 ∷ 0 ∷ []) (fields (length h.address ∷ 1 ∷ 0 ∷ []) ++ rest) ≡ Ok rest
length_again h rest is few =
    let size = size_is h.family h.address is.address_is in
    ap (λ (n : ℕ). all_fixed (n ∷ 1 ∷ 0 ∷ []) (fields (length h.address ∷ 1 ∷ 0 ∷ []) ++ rest)) size ∙ all_fixed_again (length h.address ∷ 1 ∷ 0 ∷ []) rest (few, (omega arith, (omega arith, tt)))

address_again : (h : Host) (rest : List ℕ) → IsHost h → piece_at (address_size h.family) (h.address ++ rest) ≡ Ok (h.address, rest)
address_again h rest is = ap (λ (n : ℕ). piece_at n (h.address ++ rest)) (size_is h.family h.address is.address_is) ∙ piece_again h.address rest

pub host_again : (h : Host) → IsHost h → length (host_body h) ≤ reply_limit → host_at (host_body h) ≡ Ok (h, [])
unfolding host_at
host_again h is few =
    let m : List ℕ = flat_map text h.aliases in
    let t2 : List ℕ = h.address ++ m in
    let t1 : List ℕ = flat_map text_len h.aliases ++ t2 in
    let t0 : List ℕ = text h.name ++ t1 in
    let r2 : List ℕ = fields (length h.address ∷ 1 ∷ 0 ∷ []) ++ t0 in
    let r1 : List ℕ = field h.family ++ r2 in
    let r0 : List ℕ = field (length h.aliases) ++ r1 in
    let all : length (host_body h) ≡ 24 + length t0 = omega arith in
    let l0 : length t0 ≡ length h.name + 1 + length t1 = length_text h.name t1 in
    let l1 : length t1 ≡ 4 * length h.aliases + length t2 = length-append (flat_map text_len h.aliases) t2 ∙ ap (λ (n : ℕ). n + length t2) (length-lengths h.aliases) in
    let l2 : length t2 ≡ length h.address + length m = length-append h.address m in
    let small : length m ≤ reply_limit = omega (arith, few, all, l0, l1, l2) in
    rw (
      size_again (length h.name) r0 (omega (arith, few, all, l0)),
      number_again (length h.aliases) r1 (omega (arith, few, all, l0, l1)),
      family_again h r2 is,
      length_again h t0 is (omega (arith, few, all, l0, l1, l2)),
      text_again h.name t1 is.name_is,
      sizes_again h.aliases t2 (texts_fit h.aliases small),
      address_again h m is,
      texts_last h.aliases t2 small is.aliases_are,
    ) refl

-- ---- addresses

found_again : (one : Found6) (others rest : List ℕ) → IsFound one → found_at (one.address ++ others) (one.family ∷ rest) ≡ Ok (one, others, rest)
unfolding found_at
found_again one others rest is =
    let size : address_size one.family ≡ length one.address = size_is one.family one.address is in
    let some : eqb (address_size one.family) 0 ≡ false = size_filled one.family one.address is in
    let long : ltb (length (one.address ++ others)) (address_size one.family) ≡ false = le-ltb _ _ (omega (arith, size, length-append one.address others)) in
    rw (some, long, take_at one.address others (address_size one.family) (sym size), drop_at one.address others (address_size one.family) (sym size)) refl

founds_again : (list : List Found6) (others rest : List ℕ) → AllByRecursion IsFound list → founds_at (length list) (flat_map address_of list ++ others) (map family_of list ++ rest) ≡ Ok (list, others, rest)
unfolding founds_at
founds_again [] others rest are = refl
founds_again (one ∷ list) others rest are =
    let regrouped : flat_map address_of (one ∷ list) ++ others ≡ one.address ++ (flat_map address_of list ++ others) = ap (λ (x : List ℕ). x ++ others) (flat_map-cons address_of one list) ∙ append_assoc one.address (flat_map address_of list) others in
    ap (λ (a : List ℕ). founds_at (suc (length list)) a (map family_of (one ∷ list) ++ rest)) regrouped
    ∙ rw (found_again one (flat_map address_of list ++ others) (map family_of list ++ rest) are.0, founds_again list others rest are.1) refl

founds_last : (list : List Found6) (rest : List ℕ) → All IsFound list → founds_at (length list) (flat_map address_of list) (map family_of list ++ rest) ≡ Ok (list, [], rest)
founds_last list rest are =
    ap (λ (a : List ℕ). founds_at (length list) a (map family_of list ++ rest)) (sym (append-nil (flat_map address_of list))) ∙ founds_again list [] rest (recursion_from_All IsFound list are)

pub addresses_again : (a : Ai) → AreAddresses a → length (addresses_body a) ≤ reply_limit → addresses_at (addresses_body a) ≡ Ok (a, [])
unfolding addresses_at
addresses_again a is few =
    let addresses : List ℕ = flat_map address_of a.list in
    let t1 : List ℕ = map family_of a.list ++ text a.canon in
    let t0 : List ℕ = addresses ++ t1 in
    let r2 : List ℕ = field 0 ++ t0 in
    let r1 : List ℕ = text_len a.canon ++ r2 in
    let r0 : List ℕ = field (length addresses) ++ r1 in
    let all : length (addresses_body a) ≡ 16 + length t0 = omega arith in
    let l0 : length t0 ≡ length addresses + length t1 = length-append addresses t1 in
    let l1 : length t1 ≡ length a.list + (length a.canon + 1) =
    let families : length (map family_of a.list) ≡ length a.list = length-map a.list family_of in
    omega (arith, length-append (map family_of a.list) (text a.canon), families, length-append a.canon (0 ∷ [])) in
    rw (
      number_again (length a.list) r0 (omega (arith, few, all, l0, l1)),
      number_again (length addresses) r1 (omega (arith, few, all, l0)),
      size_again (length a.canon) r2 (omega (arith, few, all, l0, l1)),
      fixed_again 0 t0 (omega arith),
      piece_again addresses t1,
      founds_last a.list (text a.canon) is.addresses_are,
      text_last a.canon is.canon_is,
    ) refl
